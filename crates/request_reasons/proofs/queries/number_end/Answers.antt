use Rattle.std.proofs.Common.{◌≡◌, ℕ, List, None, Some, Err, refl, ap, sym, subst, ◌∙◌}
use Rattle.notifier.specs.declared.fault.QueryFault.{QueryFault}
use Rattle.notifier.specs.declared.fault.QueryFault.TheVariants as query_fault
use Rattle.request_reasons.specs.Unfit.{IsNumberEnd}
use Rattle.request_reasons.proofs.queries.number_end.Goals as goal

other : (query : List ℕ) (fault : QueryFault) → (fault ≡ query_fault.BadNumber → ⊥) → IsNumberEnd query fault None
other query query_fault.BadNumber h = absurd (h refl)
other query query_fault.UnknownName h = refl
other query query_fault.Repeated h = refl
other query query_fault.Level h = refl
other query query_fault.Memory h = refl

pub returns-in-BadNumber : goal.returns-in-BadNumber
returns-in-BadNumber c changes level e =
    subst (λ fault. IsNumberEnd c.args.query.now fault (Some c.query_fault_at.result)) (sym c.in-BadNumber.is)
    (c.query_fault_at.result, refl, c.query_fault_at.ensures.fault changes level (e ∙ ap Err c.in-BadNumber.is))

pub returns-in_default : goal.returns-in_default
returns-in_default c changes level e = other c.args.query.now c.args.fault c.in_default.not-BadNumber
