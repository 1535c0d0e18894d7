-- A resource that keeps its values has room for what it is given, where it would not have more parts than it may.
use Rattle.std.proofs.Common.{◌≡◌, ℕ, Bool, true, false, Option, None, Some, option_map, is_some, refl, sym, ap, ◌∙◌}
use Rattle.std.specs.Bool.{if◌then◌else◌}
use Rattle.object_defs.specs.declared.definition.ResourceDef.{ResourceDef}
use Rattle.object_defs.specs.declared.path.ResourcePath.{ResourcePath}
use Rattle.instance_store.specs.Stored.{Stored}
use Rattle.lwm2m_payloads.specs.Changes.{excess_of, is_kept_as, is_too_many}
use Rattle.lwm2m_payloads.specs.declared.counts.Excess.{Excess}
use Rattle.lwm2m_payloads.specs.declared.given.Given.{Given}
use Rattle.lwm2m_payloads.specs.declared.given.Mode.{Mode}
use Rattle.device_requests.specs.Write.{resource_excess}

is_mapped : {X Y : Type 0} (f : X → Y) (o : Option X) → is_some (option_map f o) ≡ is_some o
is_mapped f None = refl
is_mapped f (Some x) = refl

pub fits : (mode : Mode) (definition : Option ResourceDef) (stored : Stored) (p : ResourcePath) (given : Given)
    → is_kept_as definition ≡ true → is_some (resource_excess mode definition stored p given) ≡ false
    → is_too_many mode stored p given ≡ false
fits mode definition stored p given kept h =
    let count = excess_of mode stored p given in
    let excess : ℕ → Excess = λ n. record { resource = p.resource; count = n } in
    sym (ap (λ (b : Bool). is_some (if b then option_map excess count else None)) kept
    ∙ is_mapped excess count) ∙ h
