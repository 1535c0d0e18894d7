-- A wire on ports that were new.
use Rattle.std.proofs.Common.{◌≡◌, ℕ, true, Option, Some, refl, sym, subst}
use Rattle.std.proofs.Math.Logic.{∥∥₁_map}
use Rattle.fleet_link.specs.Traffic.{Carries, Traffic, no_traffic}
use Rattle.fleet_wire.specs.declared.plan.Plan.{Plan}
use Rattle.fleet_wire.specs.declared.wire.Wire.{Wire}
use Rattle.fleet_wire.specs.Over.{new_ports, IsOverWire}
use Rattle.fleet_wire.specs.Wire.{all_notes, far_end, near_end, IsWhole, IsWire}

over_of : (devices : ℕ) (wire : Wire) (carried : ℕ → Traffic)
    → IsWhole wire.plan devices new_ports (λ e. Some (carried e)) wire
    → IsOverWire wire.plan devices (all_notes wire) carried (near_end wire)
over_of devices wire carried whole =
    record { wire = wire; whole = whole; told_is = λ e. refl; notes_are = refl }

pub over_wire : (devices : ℕ) (wire : Wire) (carried : ℕ → Traffic)
    → ∥ IsWire wire.plan devices new_ports (λ e. Some (carried e)) wire ∥₁ → wire.whole ≡ true
    → ∥ IsOverWire wire.plan devices (all_notes wire) carried (near_end wire) ∥₁
over_wire devices wire carried fits whole = ∥∥₁_map fits (λ w. over_of devices wire carried (w whole))

-- the plan stays the same
pub fits_on : (devices : ℕ) (old new : Wire) (before after : ℕ → Option Traffic) → new.plan ≡ old.plan
    → (IsWire old.plan devices new_ports before old → IsWire old.plan devices new_ports after new)
    → ∥ IsWire old.plan devices new_ports before old ∥₁ → ∥ IsWire new.plan devices new_ports after new ∥₁
fits_on devices old new before after same on fits =
    ∥∥₁_map fits (λ w. subst (λ p. IsWire p devices new_ports after new) (sym same) (on w))

-- it was put on ports that are new
pub fits_new : (plan : Plan) (devices : ℕ) (wire : Wire) (before after : ℕ → Option Traffic)
    → ((e : ℕ) → before e ≡ Some no_traffic) → wire.plan ≡ plan → IsWire plan devices before after wire
    → ∥ IsWire wire.plan devices new_ports after wire ∥₁
fits_new plan devices wire before after new same fits =
    ∣ subst (λ p. IsWire p devices new_ports after wire) (sym same) (λ whole. on (fits whole)) ∣₁
  where
    on : IsWhole plan devices before after wire → IsWhole plan devices new_ports after wire
    on w = record {
      wired = record {
        plan_is = w.wired.plan_is;
        incoming = w.wired.incoming;
        outgoing = w.wired.outgoing;
        carried = λ e. subst (λ t. Carries t (after e) (far_end wire e)) (new e) (w.wired.carried e);
        noted = w.wired.noted;
      };
      sent = w.sent;
    }
