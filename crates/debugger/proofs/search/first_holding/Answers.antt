use Rattle.std.proofs.Common.{◌+◌, arith}
use Rattle.std.proofs.lemmas.Bool.{iff_false}
use Rattle.std.proofs.lemmas.Option.{slice_get-get_or}
use Rattle.debugger.proofs.Stopping.{held_at, silent_end, silent_next, still_end, still_next}
use Rattle.debugger.proofs.search.first_holding.Goals as goal

pub loop-one-init : goal.loop-one-init
loop-one-init c = record {
  silent = λ k q less. absurd (omega (arith, less));
  still = λ k q less. absurd (omega (arith, less));
}

pub holds_after-requires-clause-own : goal.holds_after-requires-clause-own
holds_after-requires-clause-own c =
    c.requires.own.each c.loop-one.one-index _ c.loop-one-test.true
    (slice_get-get_or c.args.points.now c.loop-one.one-index _ c.loop-one-test.true)

pub holds_after-requires-clause-still : goal.holds_after-requires-clause-still
holds_after-requires-clause-still c =
    c.requires.still.each c.loop-one.one-index _
    (slice_get-get_or c.args.points.now c.loop-one.one-index _ c.loop-one-test.true)

pub returns-then-holds_after-clause-held : goal.returns-then-holds_after-clause-held
returns-then-holds_after-clause-held c =
    held_at c.args.scenario.now c.args.entries.now (c.args.index + 1) c.loop-one.one-index c.args.points.now _
    c.loop-one.invariant.silent c.loop-one-test.true (c.holds_after.ensures.holds.0 c.if-holds_after.true)

pub loop-one-preserved : goal.loop-one-preserved
loop-one-preserved c = record {
  silent = silent_next c.args.scenario.now c.args.entries.now (c.args.index + 1) c.loop-one.one-index
      c.args.points.now _ c.loop-one.invariant.silent c.loop-one-test.true
      (iff_false c.holds_after.ensures.holds c.if-holds_after.false);
  still = still_next c.args.scenario.now c.args.entries.now c.args.devices.now (c.args.index + 1)
      c.loop-one.one-index c.args.points.now _ c.loop-one.invariant.still c.loop-one-test.true
      (c.holds_after.ensures.still c.if-holds_after.false);
}

pub returns-clause-none : goal.returns-clause-none
returns-clause-none c =
    silent_end c.args.scenario.now c.args.entries.now (c.args.index + 1) c.loop-one.one-index c.args.points.now
    c.loop-one.invariant.silent c.loop-one-test.false

pub returns-clause-still : goal.returns-clause-still
returns-clause-still c =
    still_end c.args.scenario.now c.args.entries.now c.args.devices.now (c.args.index + 1) c.loop-one.one-index
    c.args.points.now c.loop-one.invariant.still c.loop-one-test.false
