-- The layout of a class is exact.
use Rattle.std.proofs.Common.{◌≡◌, ℕ, Bool, true, false, List, [], ◌++◌, map, length, refl, sym, ap, ◌∙◌}
use Rattle.std.specs.Prelude.{nat_lt, ◌==◌, ◌&&◌, is_some, not}
use Rattle.std.specs.List.{list_all}
use Rattle.std.specs.Ordering.{is_lt}
use Rattle.std.specs.Int.{w8, w16}
use Rattle.std.specs.FinMap as finite
use Rattle.std.proofs.lemmas.Bool.{and_parts}
use Rattle.byte_layout.specs.Layout.{number, at_most, last}
use Rattle.byte_layout.specs.Exact.{IsExact}
use Rattle.byte_layout.proofs.Layouts.{fits_exact, at_most_exact, done_exact, split_exact, last_exact}
use Rattle.byte_layout.proofs.Lists.{counted_exact}
use Rattle.byte_layout.proofs.Fields.{byte_exact, short_exact}
use Rattle.lwm2m_values.specs.declared.value.Value.{Value}
use Rattle.object_defs.specs.Base.{base}
use Rattle.object_defs.specs.Path.{path_cmp, instance_cmp}
use Rattle.object_defs.specs.declared.definition.ObjectDef.{ObjectDef}
use Rattle.object_defs.specs.declared.path.FullPath.{FullPath}
use Rattle.object_defs.specs.declared.path.InstancePath.{InstancePath}
use Rattle.scenario_layout.specs.Value.{place, path, value}
use Rattle.scenario_layout.specs.Definition.{resources}
use Rattle.scenario_layout.proofs.ExactValue.{place_exact, path_exact, value_exact}
use Rattle.scenario_layout.proofs.Definitions.{resources_exact}
use Rattle.device_template.specs.Template.{Template, most_accounts, account_fault, object_fault, instance_fault}
use Rattle.device_template.specs.Template.{kind_taken, empty_class, is_notify, with_notify}
use Rattle.scenario_layout.specs.Class.{objects_in, instances_in, values_in, with_accounts, with_objects}
use Rattle.scenario_layout.specs.Class.{with_instances, with_values, is_taken, account, accounts, object_of_definitions}
use Rattle.scenario_layout.specs.Class.{object_id, object, objects, instance, instances, value_path, entry, values}
use Rattle.scenario_layout.specs.Class.{behind_instances, behind_objects, behind_accounts, behind_notify, class, notify}
use Rattle.scenario_layout.specs.Class.{notify_if, notify_in}
use Rattle.scenario_layout.proofs.Ordered.{is_true, ascends, map_same, map_units}

notify_exact : IsExact notify
unfolding notify
notify_exact = fits_exact is_notify (number w8) byte_exact

notify_if_exact : (b : Bool) → IsExact (notify_if b)
notify_if_exact true = notify_exact
notify_if_exact false = done_exact 0

notify_in_exact : (version : ℕ) → IsExact (notify_in version)
unfolding notify_in
notify_in_exact version = notify_if_exact (not (version == 1))

account_exact : (before : List ℕ) → IsExact (account before)
unfolding account
account_exact before =
    fits_exact (λ n. list_all (λ m. nat_lt m n) before && is_taken (account_fault (with_accounts empty_class before) n))
    (number w16) short_exact

accounts_exact : IsExact accounts
unfolding accounts
accounts_exact =
    counted_exact (at_most most_accounts (number w8)) account
    (at_most_exact most_accounts (number w8) byte_exact) account_exact

pub object_id_exact : (c : Template) (before : List ObjectDef) → IsExact (object_id c before)
unfolding object_id
object_id_exact c before =
    fits_exact (λ id. list_all (λ o. nat_lt o.id id) (base ++ before)
    && is_taken (object_fault (with_objects c before) id)) (number w16) short_exact

object_exact : (c : Template) (before : List ObjectDef) → IsExact (object c before)
unfolding object
object_exact c before =
    split_exact (λ o. o.id) (object_id c before) (λ id. last (λ o. o.resources) (object_of_definitions id) resources)
    (object_id_exact c before)
    (λ id good. last_exact (λ o. o.resources) (object_of_definitions id) resources resources_exact (λ ds ok. refl))
    (λ id good o h. ap (λ d. d.id) h.1)

objects_exact : (c : Template) → IsExact (objects c)
unfolding objects
objects_exact c =
    counted_exact (at_most 11 (number w8)) (object c) (at_most_exact 11 (number w8) byte_exact) (object_exact c)

instance_exact : (c : Template) (before : List InstancePath) → IsExact (instance c before)
unfolding instance
instance_exact c before =
    fits_exact (λ p. list_all (λ q. is_lt (instance_cmp q p)) before
    && is_taken (instance_fault (with_instances c before) p)) place place_exact

instances_exact : (c : Template) → IsExact (instances c)
unfolding instances
instances_exact c = counted_exact (number w16) (instance c) short_exact (instance_exact c)

pub value_path_exact : (c : Template) (before : List (FullPath × Value)) → IsExact (value_path c before)
unfolding value_path
value_path_exact c before =
    fits_exact (λ p. list_all (λ e. is_lt (path_cmp e.0 p)) before && is_some (kind_taken (with_values c before) p))
    path path_exact

entry_exact : (c : Template) (before : List (FullPath × Value)) → IsExact (entry c before)
unfolding entry
entry_exact c before =
    split_exact (λ e. e.0) (value_path c before)
    (λ p. last (λ e. e.1) (λ v. (p, v)) (value (kind_taken (with_values c before) p))) (value_path_exact c before)
    (λ p good. last_exact (λ e. e.1) (λ v. (p, v)) (value (kind_taken (with_values c before) p))
    (value_exact (kind_taken (with_values c before) p)) (λ v ok. refl))
    (λ p good e h. ap (λ x. x.0) h.1)

values_exact : (c : Template) → IsExact (values c)
unfolding values
values_exact c = counted_exact (number w16) (entry c) short_exact (entry_exact c)

-- ---- what ascends is what the class then has

instance_behind : (c : Template) (before : List InstancePath) (p : InstancePath) → (instance c before).Good p
    → list_all (λ q. is_lt (instance_cmp q p)) before ≡ true
unfolding instance
instance_behind c before p good = (and_parts (list_all (λ q. is_lt (instance_cmp q p)) before) _ good.1).0

pub instances_kept : (c : Template) (places : List InstancePath) → (instances c).Good places
    → instances_in (with_instances c places) ≡ places
unfolding instances
instances_kept c places good =
    ap (map (λ e. e.0)) (finite.entries-from_sorted instance_cmp (map (λ p. (p, tt)) places)
    (is_true _ (ascends instance_cmp (λ p. (p, tt)) (instance c) (instance_behind c)
    (length places) [] places good.1)))
    ∙ map_units places

path_behind : (c : Template) (before : List (FullPath × Value)) (e : FullPath × Value) → (entry c before).Good e
    → list_all (λ b. is_lt (path_cmp b.0 e.0)) before ≡ true
unfolding entry value_path
path_behind c before e good = (and_parts (list_all (λ b. is_lt (path_cmp b.0 e.0)) before) _ good.0.1).0

pub values_kept : (c : Template) (items : List (FullPath × Value)) → (values c).Good items
    → values_in (with_values c items) ≡ items
unfolding values
values_kept c items good =
    finite.entries-from_sorted path_cmp items
    (is_true _ (ap (finite.is_sorted path_cmp) (sym (map_same items))
    ∙ ascends path_cmp (λ e. e) (entry c) (path_behind c) (length items) [] items good.1))

-- ---- the class

behind_instances_exact : (c : Template) → IsExact (behind_instances c)
unfolding behind_instances
behind_instances_exact c = last_exact values_in (with_values c) (values c) (values_exact c) (values_kept c)

behind_objects_exact : (c : Template) → IsExact (behind_objects c)
unfolding behind_objects behind_instances
behind_objects_exact c =
    split_exact instances_in (instances c) (λ places. behind_instances (with_instances c places)) (instances_exact c)
    (λ places good. behind_instances_exact (with_instances c places))
    (λ places good a h. ap instances_in h.1 ∙ instances_kept c places good)

behind_accounts_exact : (c : Template) → IsExact (behind_accounts c)
unfolding behind_accounts behind_objects behind_instances
behind_accounts_exact c =
    split_exact objects_in (objects c) (λ defs. behind_objects (with_objects c defs)) (objects_exact c)
    (λ defs good. behind_objects_exact (with_objects c defs))
    (λ defs good a h. ap objects_in h.1.1)

behind_notify_exact : (c : Template) → IsExact (behind_notify c)
unfolding behind_notify behind_accounts behind_objects behind_instances
behind_notify_exact c =
    split_exact (λ k. k.accounts) accounts (λ numbers. behind_accounts (with_accounts c numbers)) accounts_exact
    (λ numbers good. behind_accounts_exact (with_accounts c numbers))
    (λ numbers good a h. ap (λ k. k.accounts) h.1.1.1)

pub class_exact : (version : ℕ) → IsExact (class version)
unfolding class behind_notify behind_accounts behind_objects behind_instances
class_exact version =
    split_exact (λ c. c.notify) (notify_in version) (λ seconds. behind_notify (with_notify empty_class seconds))
    (notify_in_exact version) (λ seconds good. behind_notify_exact (with_notify empty_class seconds))
    (λ seconds good a h. ap (λ c. c.notify) h.1.1.1.1)
