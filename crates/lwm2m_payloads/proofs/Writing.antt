-- Values that are set one after the other: one more is set after the others.
use Rattle.std.proofs.Common.{◌≡◌, ℕ, List, [], ◌∷◌, ◌++◌, refl, if◌then◌else◌}
use Rattle.lwm2m_values.specs.declared.value.Value.{Value}
use Rattle.object_defs.specs.Path.{part_of}
use Rattle.object_defs.specs.declared.definition.ResourceDef.{ResourceDef}
use Rattle.object_defs.specs.declared.path.InstancePath.{InstancePath}
use Rattle.object_defs.specs.declared.path.ResourcePath.{ResourcePath}
use Rattle.instance_store.specs.Stored.{Stored, with_value}
use Rattle.lwm2m_payloads.specs.declared.given.Assignment.{Assignment}
use Rattle.lwm2m_payloads.specs.declared.given.Mode.{Mode}
use Rattle.lwm2m_payloads.specs.Changes.{is_kept, resource_of, with_parts, with_given, with_assignments}
use Rattle.lwm2m_payloads.specs.PartList.{PartList}

pub with_parts-push : (stored : Stored) (p : ResourcePath) (es : PartList) (e : ℕ × Value)
    → with_parts stored p (es ++ e ∷ []) ≡ with_value (with_parts stored p es) (part_of p e.0) e.1
with_parts-push stored p [] e = refl
with_parts-push stored p (d ∷ es) e = with_parts-push (with_value stored (part_of p d.0) d.1) p es e

abbrev pub assigned : Mode → List ResourceDef → Stored → InstancePath → Assignment → Stored
assigned mode resources stored place a =
    if is_kept resources a then with_given mode stored (resource_of place a.resource) a.given else stored

pub with_assignments-push : (mode : Mode) (resources : List ResourceDef) (stored : Stored) (place : InstancePath)
    (given : List Assignment) (a : Assignment)
    → with_assignments mode resources stored place (given ++ a ∷ [])
    ≡ assigned mode resources (with_assignments mode resources stored place given) place a
with_assignments-push mode resources stored place [] a = refl
with_assignments-push mode resources stored place (b ∷ given) a =
    with_assignments-push mode resources (assigned mode resources stored place b) place given a
