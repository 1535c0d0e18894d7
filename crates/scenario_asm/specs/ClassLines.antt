-- What a line adds to the open class, in the words of its builder, and why it is refused: what was not stated before
-- comes first, then what does not fit, then what is there already, then limits.
use Rattle.std.specs.Prelude.{ℕ, ◌==◌, nat_le, Bool, true, not, ◌&&◌, [], ◌∷◌, Option, None, Some, is_some}
use Rattle.std.specs.Prelude.{option_map, Result}
use Rattle.lwm2m_values.specs.declared.value.Value.{Value}
use Rattle.object_defs.specs.Catalog.{object_of}
use Rattle.object_defs.specs.Lines.{first_line}
use Rattle.object_defs.specs.Path.{full_path}
use Rattle.object_defs.specs.Vendor.{with_object, with_resource}
use Rattle.object_defs.specs.declared.definition.ResourceDef.{ResourceDef}
use Rattle.object_defs.specs.declared.path.FullPath.{FullPath}
use Rattle.object_defs.specs.declared.path.InstancePath.{InstancePath}
use Rattle.object_defs.specs.declared.path.Path.{Path}
use Rattle.object_defs.specs.declared.path.Path.TheVariants.{Object, Instance, Resource, Part}
use Rattle.instance_store.specs.Stored.{has_instance, value_at, value_count, with_instance}
use Rattle.device_template.specs.Template.{Template, account_fault, definition_fault, instance_fault, is_notify}
use Rattle.device_template.specs.Template.{object_fault, with_account, with_catalog, with_notify, with_store}
use Rattle.device_template.specs.Values.{fits_object, has_all_parts, with_value_at}
use Rattle.lwm2m_values.specs.Value.{has_good_length}
use Rattle.scenario_words.specs.declared.cause.Cause.{Cause}
use Rattle.scenario_words.specs.declared.cause.Cause.TheVariants.{Range, Duplicate, Limit}
use Rattle.scenario_asm.specs.Causes.{needs, template_cause, unless}

abbrev pub account_added : ℕ → Template → Result Template Cause
account_added server c = unless (option_map template_cause (account_fault c server)) (with_account c server)

-- how its devices notify is one of the three ways, and was not stated in its class before
abbrev pub notify_set : ℕ → Template → Result Template Cause
notify_set seconds c =
    unless (first_line ((not (is_notify seconds), Range) ∷ (not (c.notify == 0), Duplicate) ∷ []))
    (with_notify c seconds)

abbrev pub object_added : ℕ → Template → Result Template Cause
object_added id c =
    unless (option_map template_cause (object_fault c id)) (with_catalog c (with_object c.catalog id))

abbrev pub definition_added : ℕ → ResourceDef → Template → Result Template Cause
definition_added object d c =
    unless (option_map template_cause (definition_fault c object d))
    (with_catalog c (with_resource c.catalog object d))

-- the object was stated, or is one of the base
abbrev pub has_object : Template → ℕ → Bool
has_object c object = is_some (object_of c.catalog object)

-- an instance needs its object
abbrev pub instance_added : InstancePath → Template → Result Template Cause
instance_added place c =
    needs (has_object c place.object) (unless (option_map template_cause (instance_fault c place))
    (with_store c (with_instance c.store place)))

abbrev pub has_place : Template → InstancePath → Bool
has_place c place = has_object c place.object && has_instance c.store place

-- the instance that a path names was stated; a path of one number names none
abbrev pub is_stated : Template → Path → Bool
is_stated c (Object o) = true
is_stated c (Instance o i) = has_place c (record { object = o; instance = i })
is_stated c (Resource o i r) = has_place c (record { object = o; instance = i })
is_stated c (Part o i r p) = has_place c (record { object = o; instance = i })

-- a value has a path of three or four numbers, to a resource of its kind; it is new, it is not too long, and there is
-- room
abbrev pub value_cause : Template → Option FullPath → Value → Option Cause
value_cause c None value = Some Range
value_cause c (Some p) value =
    first_line (
    (not (fits_object p value (object_of c.catalog p.object)), Range)
    ∷ (is_some (value_at c.store p), Duplicate)
    ∷ (not (has_good_length value), Limit)
    ∷ (nat_le 65535 (value_count c.store), Limit)
    ∷ (has_all_parts c.store p, Limit)
    ∷ []
    )

-- a value needs its instance
abbrev pub value_added : Path → Value → Template → Result Template Cause
value_added p value c =
    needs (is_stated c p) (unless (value_cause c (full_path p) value)
    (with_store c (with_value_at c.store (full_path p) value)))
