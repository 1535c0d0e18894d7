use Rattle.std.proofs.Common.{◌≤◌, length, sym, ap, subst, ◌∙◌, arith}
use Rattle.fleet_core.specs.Run.{IsRun}
use Rattle.debugger.proofs.Keeping.{inside_is}
use Rattle.debugger.proofs.Stopping.{same_watching, still_start, stop_is, stop_within, watched_start}
use Rattle.debugger.proofs.session.Debugger.next_stop.Goals as goal

pub set_points-requires : goal.set_points-requires
set_points-requires c = omega (arith, ap length c.as_slice.ensures.value, c.self.invariant.slots)

pub first_stop-requires-clause-run : goal.first_stop-requires-clause-run
first_stop-requires-clause-run c =
    subst (IsRun c.self.inside.scenario.now) (sym c.as_slice-4.ensures) c.self.invariant.run

pub first_stop-requires-clause-within : goal.first_stop-requires-clause-within
first_stop-requires-clause-within c =
    subst (λ l. c.self.inside.place ≤ length l) (sym c.as_slice-4.ensures) c.self.invariant.within

pub first_stop-requires-clause-rows : goal.first_stop-requires-clause-rows
first_stop-requires-clause-rows c = ap length c.as_slice-5.ensures.value ∙ c.self.invariant.count

pub first_stop-requires-clause-watched : goal.first_stop-requires-clause-watched
first_stop-requires-clause-watched c =
    watched_start c.as_slice-4.result.now c.as_slice-2.result.now c.in_ok-watched.watched.items c.self.invariant
    c.as_slice-4.ensures c.as_slice-2.ensures.value c.in_ok-watched.ensures.copies

pub first_stop-requires-clause-own : goal.first_stop-requires-clause-own
first_stop-requires-clause-own c =
    same_watching c.in_ok-watched.watched.items c.as_slice-2.result.now c.as_slice-5.result.now
    c.as_slice-3.result.now c.as_slice-6.result.now (c.as_slice-2.ensures.value ∙ sym c.as_slice-5.ensures.value)
    (c.as_slice-3.ensures.value ∙ sym c.as_slice-6.ensures.value) c.in_ok-watched.ensures.all

pub first_stop-requires-clause-still : goal.first_stop-requires-clause-still
first_stop-requires-clause-still c =
    still_start c.as_slice-4.result.now c.as_slice-5.result.now c.as_slice-6.result.now c.self.invariant
    c.rows-known.ensures.valid c.as_slice-4.ensures c.as_slice-5.ensures.value

pub returns-clause-stop : goal.returns-clause-stop
returns-clause-stop c =
    stop_is c.as_slice-4.result.now c.as_slice.result.now c.in_ok-points.points.items c.as_slice-6.result.now
    c.in_ok-next.next.stop c.in_ok-next.next.place
    (inside_is c.args.self.now c.self.inside.replayed c.self.invariant c.self.view_is)
    c.as_slice-4.ensures c.as_slice.ensures.value c.as_slice-6.ensures.value c.in_ok-points.ensures
    c.in_ok-next.ensures

pub returns-clause-within : goal.returns-clause-within
returns-clause-within c =
    stop_within c.as_slice-4.result.now c.as_slice-6.result.now c.in_ok-next.next.stop c.in_ok-next.next.place
    (inside_is c.args.self.now c.self.inside.replayed c.self.invariant c.self.view_is)
    c.as_slice-4.ensures c.in_ok-next.ensures
