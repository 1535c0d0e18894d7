-- Whether the trace was stopped under a pass's lowest number, after a visit.
use Rattle.std.proofs.Common.{◌≡◌, ℕ, true, sym, ap, ◌∙◌}
use Rattle.std.specs.Prelude.{◌||◌}
use Rattle.std.proofs.lemmas.Bool.{eq-eqb}
use Rattle.ticket_lock.specs.Changes.{view_inside, with_end_seen}
use Rattle.ticket_lock.specs.Names.{lowest_work}
use Rattle.shared_trace.specs.declared.claims.Claim.{Claim}
use Rattle.shared_trace.specs.declared.claims.Claim.TheVariants.{Got, Busy, Done, Stalled, Stopped}
use Rattle.shared_trace.specs.Stops.{is_among}
use Rattle.shared_trace.specs.Trace.{TraceModel, stopped_under, work_by, no_work, trace_log}
use Rattle.shared_trace.specs.Claims.{Claims}
use Rattle.worker_visits.specs.Knowing.{PassView, has_stopped}

-- a claim stops nothing
pub claim_keeps : (x y : TraceModel) (w : ℕ) (claim : Claim) → Claims x y w claim → y.stopped_by ≡ x.stopped_by
claim_keeps x y w (Got job) h = ap (λ t. t.stopped_by) h.taken.left
claim_keeps x y w Busy h = ap (λ t. t.stopped_by) h.0.same
claim_keeps x y w Done h = ap (λ t. t.stopped_by) h.0.same
claim_keeps x y w Stalled h = ap (λ t. t.stopped_by) h.0.same
claim_keeps x y w Stopped h = ap (λ t. t.stopped_by) h.1

-- after a visit that stops nothing
pub still_going : (v r inside : PassView) (t : ℕ) (x y : TraceModel) → inside ≡ view_inside trace_log v t x
    → lowest_work v no_work ≡ work_by x v.low → lowest_work r no_work ≡ work_by y inside.low
    → y.stopped_by ≡ x.stopped_by → has_stopped r ≡ has_stopped v
still_going v r inside t x y entered old new same =
    ap (λ o. o.stopped) new
    ∙ (ap (λ u. is_among u.low y.stopped_by) entered
    ∙ (ap (is_among v.low) same ∙ sym (ap (λ o. o.stopped) old)))

-- after a visit that stops the trace under the lowest number
pub now_stopped : (v r inside : PassView) (t w : ℕ) (x y : TraceModel) → inside ≡ view_inside trace_log v t x
    → lowest_work r no_work ≡ work_by y inside.low → y ≡ stopped_under x w → w ≡ v.low → has_stopped r ≡ true
now_stopped v r inside t w x y entered new is low =
    ap (λ o. o.stopped) new
    ∙ (ap (λ u. is_among u.low y.stopped_by) entered
    ∙ (ap (λ z. is_among v.low z.stopped_by) is ∙ ap (λ b. b || is_among v.low x.stopped_by) (eq-eqb w v.low low)))

-- after a take that finds no ticket
pub ended_going : (v r : PassView) → r ≡ with_end_seen v → has_stopped r ≡ has_stopped v
ended_going v r is = ap has_stopped is
