use Rattle.std.proofs.Common.{◌+◌, length, take, refl, sym, subst, arith}
use Rattle.debugger.specs.Searches.{AreWatched, AreWatching}
use Rattle.debugger.proofs.Stopping.{none_at_end, none_back, none_next, none_yet}
use Rattle.debugger.proofs.Watching.{watching_still}
use Rattle.debugger.proofs.search.first_stop.Goals as goal

pub loop-index-init : goal.loop-index-init
loop-index-init c = record {
  watched = c.requires.watched;
  own = c.requires.own;
  still = c.requires.still;
  nowhere = none_yet c.args.scenario.now c.args.entries.now c.args.points.now c.args.from;
}

pub first_holding-requires-clause-watched : goal.first_holding-requires-clause-watched
first_holding-requires-clause-watched c =
    subst (AreWatched c.args.scenario.now (take (c.loop-index.index + 1) c.args.entries.now))
    (sym c.as_slice.ensures.value) c.in_ok-step_watched.ensures.watched

pub first_holding-requires-clause-own : goal.first_holding-requires-clause-own
first_holding-requires-clause-own c =
    subst (λ l. AreWatching l (length c.args.devices.now) (length c.args.points.now) c.args.points.now)
    (sym c.as_slice.ensures.value)
    (watching_still c.loop-index.watched.items c.step_watched.new.watched.items (length c.args.devices.now)
    (length c.args.points.now) c.args.points.now c.loop-index.invariant.own c.in_ok-step_watched.ensures.others)

pub loop-index-preserved : goal.loop-index-preserved
loop-index-preserved c = record {
  watched = c.in_ok-step_watched.ensures.watched;
  own = watching_still c.loop-index.watched.items c.step_watched.new.watched.items (length c.args.devices.now)
      (length c.args.points.now) c.args.points.now c.loop-index.invariant.own c.in_ok-step_watched.ensures.others;
  still = c.in-None.ensures.still;
  nowhere = none_next c.args.scenario.now c.args.entries.now c.args.points.now c.args.from c.loop-index.index
      c.loop-index.invariant.nowhere c.in-None.ensures.none;
}

pub returns-in-Some : goal.returns-in-Some
returns-in-Some c = record {
  later = omega (arith, c.loop-index.auto.index);
  within = omega (arith, c.loop-index-test.true);
  held = c.in-Some.ensures.held;
  before = none_back c.args.scenario.now c.args.entries.now c.args.points.now c.args.from c.loop-index.index
      c.loop-index.invariant.nowhere;
}

pub returns : goal.returns
returns c = record {
  last = refl;
  before = none_at_end c.args.scenario.now c.args.entries.now c.args.points.now c.args.from c.loop-index.index
      (length c.args.entries.now) c.loop-index.invariant.nowhere
      (omega (arith, c.loop-index-test.false, c.loop-index.auto.index-end c.requires.within));
}
