use Rattle.std.proofs.Common.{◌≡◌, subst}
use Rattle.fleet_core.specs.Board.{Replays}
use Rattle.fleet_core.specs.Verdict.{BreaksAt}
use Rattle.fleet_core.proofs.Checked.{breaks}
use Rattle.debugger.proofs.Copying.{copied_run, copies_on, starts_copying}
use Rattle.debugger.proofs.copies.copies_of_run.Goals as goal

pub loop-at-init : goal.loop-at-init
loop-at-init c =
    starts_copying c.args.scenario.now c.args.entries.now c.in_ok-replay.replay c.in_ok-copies.copies.items
    c.in_ok-replay.ensures c.in_ok-copies.ensures

pub returns-then-not-branch-clause-not_run : goal.returns-then-not-branch-clause-not_run
returns-then-not-branch-clause-not_run c = λ at is.
    let same : c.loop-at.at ≡ at = cc in
    subst (BreaksAt c.args.scenario.now c.args.entries.now) same
    (breaks c.args.scenario.now c.args.entries.now c.loop-at.at c.loop-at.replay c.take_entry.new.replay
    c.index-entries-at.result c.loop-at.invariant.replayed c.loop-at-test.true c.index-entries-at.is
    (subst (Replays c.loop-at.replay c.take_entry.new.replay c.index-entries-at.result) c.if-not-branch.true
    c.in_ok-take_entry.ensures.replays))

pub loop-at-preserved : goal.loop-at-preserved
loop-at-preserved c =
    copies_on c.args.scenario.now c.args.entries.now c.loop-at.at c.loop-at.replay c.take_entry.new.replay
    c.index-entries-at.result c.loop-at.copies.items c.take_entry.new.copies.items c.loop-at.invariant
    c.loop-at-test.true c.index-entries-at.is
    (subst (Replays c.loop-at.replay c.take_entry.new.replay c.index-entries-at.result) c.if-not-branch.false
    c.in_ok-take_entry.ensures.replays)
    (c.in_ok-take_entry.ensures.copied c.if-not-branch.false)

pub returns-clause-run : goal.returns-clause-run
returns-clause-run c =
    (copied_run c.args.scenario.now c.args.entries.now c.loop-at.at c.loop-at.replay c.loop-at.copies.items
    c.loop-at.invariant c.loop-at-test.false).run

pub returns-clause-copied : goal.returns-clause-copied
returns-clause-copied c =
    (copied_run c.args.scenario.now c.args.entries.now c.loop-at.at c.loop-at.replay c.loop-at.copies.items
    c.loop-at.invariant c.loop-at-test.false).copied
