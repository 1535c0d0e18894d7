use Rattle.std.proofs.Common.{ℕ, ◌≤◌, IfSome, IfNone, refl, sym, subst}
use Rattle.shared_trace.specs.Trace.{TraceModel, IsReady}
use Rattle.shared_trace.proofs.Stations.{traced, lowest_from, none_from}
use Rattle.shared_trace.proofs.Ended.{ended_at}
use Rattle.shared_trace.proofs.Rostering.{candidates_at}
use Rattle.shared_trace.proofs.trace.Trace.lowest.Goals as goal
use Rattle.shared_trace.proofs.trace.Trace.lowest.Goals.{in-Some, in-None}

pub lowest_ready-requires : goal.lowest_ready-requires
lowest_ready-requires c =
    candidates_at c.self.inside.stations.items c.as_slice-2.result.now c.self.inside.posts.items
    c.as_slice-3.result.now c.self.inside.roster.candidates c.as_slice-2.ensures.value c.as_slice-3.ensures.value
    c.self.invariant.2.ready

pub invariant_of-self : goal.invariant_of-self
invariant_of-self c = (
  c.self.invariant.0,
  ended_at c.as_slice.result.now c.self.inside.stations.items c.count_ended-self-inside.result
      (sym c.as_slice.ensures.value) c.count_ended-self-inside.ensures,
  record {
    groups = c.self.invariant.2.groups;
    ready = candidates_at c.as_slice-2.result.now c.self.inside.stations.items c.as_slice-3.result.now
        c.self.inside.posts.items c.lowest_ready.new.self (sym c.as_slice-2.ensures.value)
        (sym c.as_slice-3.ensures.value) c.lowest_ready.ensures.kept;
    listed = c.self.invariant.2.listed;
  },
)

pub returns-clause-ready : goal.returns-clause-ready
returns-clause-ready c =
    let now : TraceModel = traced c.self.inside.subject.value c.self.inside.entries.held c.self.inside.stations.items
    c.self.inside.stops in
    elim c.match-lowest_ready.branch [
      | in-Some w ↦ subst (λ o. IfSome o (λ d. IsReady now d × ((i : ℕ) → IsReady now i → d ≤ i))) (sym w.result-is)
          (lowest_from now c.self.inside.subject.value c.self.inside.entries.held c.self.inside.stations.items
          c.self.inside.posts.items c.self.inside.stops w.in-Some.device
          c.as_slice-2.result.now c.as_slice-3.result.now c.as_slice-2.ensures.value c.as_slice-3.ensures.value refl
          c.self.invariant.0 w.in-Some.ensures.ready w.in-Some.ensures.lowest)
      | in-None w ↦ subst (λ o. IfSome o (λ d. IsReady now d × ((i : ℕ) → IsReady now i → d ≤ i))) (sym w.result-is) tt
    ]

pub returns-clause-none : goal.returns-clause-none
returns-clause-none c =
    let now : TraceModel = traced c.self.inside.subject.value c.self.inside.entries.held c.self.inside.stations.items
    c.self.inside.stops in
    elim c.match-lowest_ready.branch [
      | in-Some w ↦ subst (λ o. IfNone o ((i : ℕ) → IsReady now i → ⊥)) (sym w.result-is) tt
      | in-None w ↦ subst (λ o. IfNone o ((i : ℕ) → IsReady now i → ⊥)) (sym w.result-is)
          (none_from now c.self.inside.subject.value c.self.inside.entries.held c.self.inside.stations.items
          c.self.inside.posts.items c.self.inside.stops
          c.as_slice-2.result.now c.as_slice-3.result.now c.as_slice-2.ensures.value c.as_slice-3.ensures.value refl
          c.self.invariant.0 w.in-None.ensures.none)
    ]
