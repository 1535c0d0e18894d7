-- A class of devices as bytes, in this profile's images of a scenario. Version 2 begins with how its devices notify.
use Rattle.std.specs.Prelude.{ℕ, ◌==◌, ◌&&◌, not, Bool, true, false, nat_lt, List, ◌++◌, length, map, drop, Option}
use Rattle.std.specs.Prelude.{is_some}
use Rattle.std.specs.List.{list_all}
use Rattle.std.specs.Int.{w8, w16}
use Rattle.std.specs.Ordering.{is_lt}
use Rattle.std.specs.FinMap as finite
use Rattle.byte_layout.specs.declared.fault.Break.TheVariants.{BadField}
use Rattle.byte_layout.specs.Layout.{Layout, number, layout_with_test, at_most, constant_layout, split, last}
use Rattle.byte_layout.specs.Layout.{list_with_count}
use Rattle.lwm2m_values.specs.declared.value.Value.{Value}
use Rattle.object_defs.specs.Base.{base}
use Rattle.object_defs.specs.Path.{path_cmp, instance_cmp}
use Rattle.object_defs.specs.declared.definition.ObjectDef.{ObjectDef}
use Rattle.object_defs.specs.declared.definition.ResourceDef.{ResourceDef}
use Rattle.object_defs.specs.declared.path.FullPath.{FullPath}
use Rattle.object_defs.specs.declared.path.InstancePath.{InstancePath}
use Rattle.scenario_layout.specs.Value.{place, path, value}
use Rattle.scenario_layout.specs.Definition.{resources}
use Rattle.device_template.specs.declared.fault.TemplateFault.{TemplateFault}
use Rattle.device_template.specs.Template.{Template, empty_class, with_catalog, with_notify, with_store}
use Rattle.device_template.specs.Template.{account_fault, object_fault, instance_fault, kind_taken, is_notify}
use Rattle.device_template.specs.Template.{most_accounts}

-- ---- what is written of a class, each in ascending order

-- the objects of the class's own: those after the base objects
abbrev pub objects_in : Template → List ObjectDef
objects_in c = drop (length base) c.catalog

abbrev pub instances_in : Template → List InstancePath
instances_in c = finite.keys c.store.instances

abbrev pub values_in : Template → List (FullPath × Value)
values_in c = finite.entries c.store.values

-- ---- a class that has these

abbrev pub with_accounts : Template → List ℕ → Template
with_accounts c accounts = record c { accounts = accounts }

abbrev pub with_objects : Template → List ObjectDef → Template
with_objects c objects = with_catalog c (base ++ objects)

abbrev pub with_instances : Template → List InstancePath → Template
with_instances c places =
    with_store c (record c.store { instances = finite.from_sorted (map (λ p. (p, tt)) places) })

abbrev pub with_values : Template → List (FullPath × Value) → Template
with_values c values = with_store c (record c.store { values = finite.from_sorted values })

-- ---- the parts

-- an addition that the class does not refuse
abbrev pub is_taken : Option TemplateFault → Bool
is_taken fault = not (is_some fault)

-- how the devices of a class notify: the first timeout of their Confirmable notifications in seconds, or 0
unfoldable pub notify : Layout ℕ
notify = layout_with_test BadField is_notify (number w8)

-- where there is no such byte, they send Non-confirmable notifications
abbrev pub notify_if : Bool → Layout ℕ
notify_if true = notify
notify_if false = constant_layout 0

-- version 1 has no such byte
unfoldable pub notify_in : ℕ → Layout ℕ
notify_in version = notify_if (not (version == 1))

-- an account above those before it, which the class takes
unfoldable pub account : List ℕ → Layout ℕ
account before =
    layout_with_test BadField (λ n. list_all (λ m. nat_lt m n) before
    && is_taken (account_fault (with_accounts empty_class before) n)) (number w16)

unfoldable pub accounts : Layout (List ℕ)
accounts = list_with_count (at_most most_accounts (number w8)) account

abbrev pub object_of_definitions : ℕ → List ResourceDef → ObjectDef
object_of_definitions id definitions = record { id = id; resources = definitions }

-- the number of an object, above those that the class has, which the class takes
unfoldable pub object_id : Template → List ObjectDef → Layout ℕ
object_id c before =
    layout_with_test BadField (λ id. list_all (λ o. nat_lt o.id id) (base ++ before)
    && is_taken (object_fault (with_objects c before) id)) (number w16)

-- an object of the class's own: its number, and the definitions of its resources
unfoldable pub object : Template → List ObjectDef → Layout ObjectDef
object c before =
    split (λ o. o.id) (object_id c before) (λ id. last (λ o. o.resources) (object_of_definitions id) resources)

unfoldable pub objects : Template → Layout (List ObjectDef)
objects c = list_with_count (at_most 11 (number w8)) (object c)

-- an instance after those before it, which the class takes
unfoldable pub instance : Template → List InstancePath → Layout InstancePath
instance c before =
    layout_with_test BadField (λ p. list_all (λ q. is_lt (instance_cmp q p)) before
    && is_taken (instance_fault (with_instances c before) p)) place

unfoldable pub instances : Template → Layout (List InstancePath)
instances c = list_with_count (number w16) (instance c)

-- the path of a value, after those before it, at which the class takes values of some kind
unfoldable pub value_path : Template → List (FullPath × Value) → Layout FullPath
value_path c before =
    layout_with_test BadField (λ p. list_all (λ e. is_lt (path_cmp e.0 p)) before
    && is_some (kind_taken (with_values c before) p)) path

-- a path, and a value of the kind that is taken there
unfoldable pub entry : Template → List (FullPath × Value) → Layout (FullPath × Value)
entry c before =
    split (λ e. e.0) (value_path c before) (λ p. last (λ e. e.1) (λ v. (p, v))
    (value (kind_taken (with_values c before) p)))

unfoldable pub values : Template → Layout (List (FullPath × Value))
values c = list_with_count (number w16) (entry c)

-- ---- the class: how it notifies, its accounts, the objects of its own, its instances, its values

unfoldable pub behind_instances : Template → Layout Template
behind_instances c = last values_in (with_values c) (values c)

unfoldable pub behind_objects : Template → Layout Template
behind_objects c = split instances_in (instances c) (λ places. behind_instances (with_instances c places))

unfoldable pub behind_accounts : Template → Layout Template
behind_accounts c = split objects_in (objects c) (λ defs. behind_objects (with_objects c defs))

unfoldable pub behind_notify : Template → Layout Template
behind_notify c = split (λ c. c.accounts) accounts (λ numbers. behind_accounts (with_accounts c numbers))

-- a class, in an image of this version
unfoldable pub class : ℕ → Layout Template
class version = split (λ c. c.notify) (notify_in version) (λ seconds. behind_notify (with_notify empty_class seconds))
