use Rattle.std.proofs.Common.{◌≡◌, true, Some, slice_get, slice_index, refl, sym, ap, subst, ◌∙◌, arith}
use Rattle.std.proofs.lemmas.Bool.{false≢true}
use Rattle.device_stations.specs.declared.station.Station.{Station}
use Rattle.device_stations.specs.Stations.{is_ready}
use Rattle.shared_trace.proofs.Woken.{one_fewer, kept_without}
use Rattle.shared_trace.proofs.candidates.Candidates.lowest_ready.Goals as goal
use Rattle.shared_trace.proofs.candidates.Candidates.lowest_ready.Goals.{in-Some-lowest_ready, in-None}

pub returns-then-is_ready_at-clause-ready : goal.returns-then-is_ready_at-clause-ready
returns-then-is_ready_at-clause-ready c =
    subst (λ i. (x : Station) × (slice_get c.args.stations.now i ≡ Some x)
    × (is_ready (λ g. slice_index c.args.posts.now g) x ≡ true)) (sym c.from.ensures)
    (c.if-is_ready_at.ensures.ready refl)

pub woken-smaller : goal.woken-smaller
woken-smaller c =
    one_fewer c.woken.self.woken c.drop_lowest.new.self.woken c.in-Some.device
    (c.drop_lowest.ensures.rest c.in-Some.device c.in-Some.ensures.first)

pub woken-preserved : goal.woken-preserved
woken-preserved c =
    kept_without _ c.args.stations.now c.woken.self c.drop_lowest.new.self c.in-Some.device c.woken.invariant
    c.drop_lowest.ensures.fresh (c.drop_lowest.ensures.rest c.in-Some.device c.in-Some.ensures.first)
    (c.if-is_ready_at.ensures.not refl)

pub returns-clause-kept : goal.returns-clause-kept
returns-clause-kept c = λ i x at ready less.
    elim c.match-lowest_ready.branch [
      | in-Some-lowest_ready w ↦ absurd (false≢true (sym (w.in-Some-lowest_ready.ensures.lowest i x
          (omega (arith, less, ap (λ s. s.fresh) w.self-inside-is)) at) ∙ ready))
      | in-None w ↦ absurd (false≢true (sym (w.in-None.ensures.none i x at) ∙ ready))
    ]
