-- Which devices are out under a worker after a visit.
use Rattle.std.proofs.Common.{◌≡◌, ℕ, ◌+◌, ◌⊎◌, inl, inr, ◌++◌, set, Some, slice_get, sym, ap, subst, ◌∙◌, arith}
use Rattle.std.specs.Prelude.{Contains}
use Rattle.std.proofs.lemmas.Bool.{cases_eq}
use Rattle.lemmas.proofs.Lists.{set_elsewhere, set_gives}
use Rattle.fleet_core.specs.Run.{made_by}
use Rattle.ticket_lock.specs.Changes.{view_inside, with_end_seen}
use Rattle.ticket_lock.specs.Names.{lowest_work}
use Rattle.device_stations.specs.declared.station.Place.{Place}
use Rattle.device_stations.specs.declared.station.Place.TheVariants.{Parked, Out}
use Rattle.shared_trace.specs.declared.claims.Claim.{Claim}
use Rattle.shared_trace.specs.declared.claims.Claim.TheVariants.{Got, Busy, Done, Stalled, Stopped}
use Rattle.shared_trace.specs.declared.work.OpenWork.{OpenWork}
use Rattle.shared_trace.specs.Trace.{TraceModel, with_block, stopped_under, open_by, work_by, no_work, trace_log}
use Rattle.shared_trace.specs.Job.{Task}
use Rattle.shared_trace.specs.Claims.{Claims}
use Rattle.shared_trace.proofs.Open.{open_has, open_tells, IsOpen}
use Rattle.worker_visits.specs.Knowing.{PassView, IsOut, Gets}

-- the device is out under the worker in this trace
abbrev IsOutOf : TraceModel → ℕ → ℕ → Type 0
IsOutOf x w d = (made : ℕ) × Contains (open_by x w) (d, made)

-- in open work
abbrev HasDevice : ℕ → OpenWork → Type 0
HasDevice d o = (made : ℕ) × Contains o.out (d, made)

-- it is out at its place, so it is out
at_place : (x : TraceModel) (w d p : ℕ) → d ≡ 0 + p → slice_get x.places p ≡ Some (Out w) → IsOutOf x w d
at_place x w d p here at =
    subst (λ j. IsOutOf x w j) (sym here) (made_by (0 + p) x.entries, open_has w x.places x.entries 0 p at)

-- after another place was changed
at_other : (x : TraceModel) (w d k p : ℕ) (q : Place) → d ≡ 0 + p → (k ≡ p → ⊥)
    → slice_get (set x.places k q) p ≡ Some (Out w) → IsOutOf x w d
at_other x w d k p q here other at = at_place x w d p here (sym (set_elsewhere x.places k p q other) ∙ at)

-- after a claim no other device is out than before but the one that it got
pub claim_outs : (x y : TraceModel) (w : ℕ) (claim : Claim) (d : ℕ) → Claims x y w claim → IsOutOf y w d
    → IsOutOf x w d ⊎ Gets claim d
claim_outs x y w (Got job) d claims out =
    let got = subst (λ z. IsOutOf z w d) claims.taken.left out in
    let o : IsOpen w (set x.places job.device (Out w)) x.entries 0 d got.0 =
    open_tells w (set x.places job.device (Out w)) x.entries 0 d got.0 got.1 in
    elim (cases_eq job.device o.place) [
      | inl same ↦ inr (same ∙ omega (arith, o.device))
      | inr other ↦ inl (at_other x w d job.device o.place (Out w) o.device other o.at)
    ]
claim_outs x y w Busy d claims out = inl (subst (λ z. IsOutOf z w d) claims.0.same out)
claim_outs x y w Done d claims out = inl (subst (λ z. IsOutOf z w d) claims.0.same out)
claim_outs x y w Stalled d claims out = inl (subst (λ z. IsOutOf z w d) claims.0.same out)
claim_outs x y w Stopped d claims out = inl (subst (λ z. IsOutOf z w d) claims.1 out)

-- after a put no other device is out than before
pub put_outs : (x : TraceModel) (w : ℕ) (job : Task) (d : ℕ)
    → IsOutOf (with_block x job.device job.held job.entries) w d → IsOutOf x w d
put_outs x w job d out =
    let o : IsOpen w (set x.places job.device (Parked job.held)) (x.entries ++ job.entries) 0 d out.0 =
    open_tells w (set x.places job.device (Parked job.held)) (x.entries ++ job.entries) 0 d out.0 out.1 in
    elim (cases_eq job.device o.place) [
      | inl same ↦
          (let parked : Parked job.held ≡ Out w =
          set_gives x.places job.device (Parked job.held) (Out w)
          (subst (λ j. slice_get (set x.places job.device (Parked job.held)) j ≡ Some (Out w)) (sym same) o.at) in
          absurd cc)
      | inr other ↦ at_other x w d job.device o.place (Parked job.held) o.device other o.at
    ]

-- a put and then a claim
pub both_outs : (x y : TraceModel) (w : ℕ) (job : Task) (claim : Claim) (d : ℕ)
    → Claims (with_block x job.device job.held job.entries) y w claim → IsOutOf y w d → IsOutOf x w d ⊎ Gets claim d
both_outs x y w job claim d claims out =
    elim (claim_outs (with_block x job.device job.held job.entries) y w claim d claims out) [
      | inl before ↦ inl (put_outs x w job d before)
      | inr gets ↦ inr gets
    ]

pub stop_outs : (x y : TraceModel) (w n d : ℕ) → y ≡ stopped_under x n → IsOutOf y w d → IsOutOf x w d
stop_outs x y w n d is out = subst (λ z. IsOutOf z w d) is out

-- what the pass knows of it
pub visit_outs : (v r inside : PassView) (t : ℕ) (x y : TraceModel) (P : Type 0) (d : ℕ)
    → inside ≡ view_inside trace_log v t x
    → lowest_work v no_work ≡ work_by x v.low → lowest_work r no_work ≡ work_by y inside.low
    → (IsOutOf y v.low d → IsOutOf x v.low d ⊎ P) → IsOut r d → IsOut v d ⊎ P
visit_outs v r inside t x y P d entered old new step out =
    elim (step (subst (HasDevice d) (new ∙ ap (λ u. work_by y u.low) entered) out)) [
      | inl before ↦ inl (subst (HasDevice d) (sym old) before)
      | inr p ↦ inr p
    ]

pub visit_leaves : (v r inside : PassView) (t : ℕ) (x y : TraceModel) (d : ℕ) → inside ≡ view_inside trace_log v t x
    → lowest_work v no_work ≡ work_by x v.low → lowest_work r no_work ≡ work_by y inside.low
    → (IsOutOf y v.low d → IsOutOf x v.low d) → IsOut r d → IsOut v d
visit_leaves v r inside t x y d entered old new step out =
    subst (HasDevice d) (sym old) (step (subst (HasDevice d) (new ∙ ap (λ u. work_by y u.low) entered) out))

pub ended_outs : (v r : PassView) (d : ℕ) → r ≡ with_end_seen v → IsOut r d → IsOut v d
ended_outs v r d is out = subst (λ u. IsOut u d) is out

-- one turn of a worker after others: a device that is out was so before them, or came to the gate, or the last claim
-- got it
pub turn_outs : (came : ℕ → ℕ → Type 0) (u v w : PassView) (claim : Claim) (P : ℕ → Type 0) → v.low ≡ u.low
    → ((d : ℕ) → IsOut v d → (IsOut u d ⊎ came u.low d) ⊎ Gets claim d)
    → ((d : ℕ) → Gets claim d → came v.low d) → ((d : ℕ) → IsOut w d → IsOut v d ⊎ P d)
    → (d : ℕ) → IsOut w d → (IsOut u d ⊎ came u.low d) ⊎ P d
turn_outs came u v w claim P low before gate after d out =
    elim (after d out) [
      | inl earlier ↦
          inl (elim (before d earlier) [ inl known ↦ known | inr gets ↦ inr (subst (λ n. came n d) low (gate d gets)) ])
      | inr p ↦ inr p
    ]

pub no_more : {A : Type 0} → A ⊎ ⊥ → A
no_more (inl a) = a
no_more (inr h) = absurd h
