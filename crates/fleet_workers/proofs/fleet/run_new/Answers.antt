use Rattle.std.proofs.Common.{ap, subst, sym}
use Rattle.std.specs.Prelude.{Err}
use mathlib.Core.Logic.{inl, inr}
use Rattle.fleet_workers.specs.declared.fleet.RunFault.TheVariants as faults
use Rattle.fleet_workers.specs.Fleet.{AreByBlocks, Leaves, LeavesBlocks}
use Rattle.fleet_workers.proofs.Ending.{no_blocks, outcome_fault, outcome_run, outcome_not}
use Rattle.fleet_workers.proofs.fleet.run_new.Goals as goal

pub returns-in-Some-clause-blocks : goal.returns-in-Some-clause-blocks
returns-in-Some-clause-blocks g c =
    outcome_run (AreByBlocks (g.G.Gate.came c.args.gate.now) c.args.scenario.now c.args.workers c.args.batch)
    c.in-Some.entries c.in-Some.end c.outcome.result c.outcome.ensures.outcome
    c.in-Some.ensures.made.blocks

pub returns-in-Some-clause-left : goal.returns-in-Some-clause-left
returns-in-Some-clause-left g c =
    outcome_fault (Leaves c.args.scenario.now) c.in-Some.entries c.in-Some.end c.outcome.result
    c.outcome.ensures.outcome c.in-Some.ensures.made.left.run c.in-Some.ensures.made.left.run

pub returns-in-Some-clause-left_blocks : goal.returns-in-Some-clause-left_blocks
returns-in-Some-clause-left_blocks g c =
    outcome_fault (LeavesBlocks (g.G.Gate.came c.args.gate.now) c.args.scenario.now c.args.workers c.args.batch)
    c.in-Some.entries c.in-Some.end c.outcome.result c.outcome.ensures.outcome
    c.in-Some.ensures.made.blocks c.in-Some.ensures.made.blocks

pub returns-in-Some-clause-answer : goal.returns-in-Some-clause-answer
returns-in-Some-clause-answer g c =
    inr (c.in-Some.entries, c.in-Some.end, c.in-Some.ensures.made, c.outcome.ensures.outcome)

pub returns-in-Some-clause-workers : goal.returns-in-Some-clause-workers
returns-in-Some-clause-workers g c =
    outcome_not c.in-Some.entries c.in-Some.end c.outcome.result faults.Workers c.outcome.ensures.outcome (λ h. h)

pub returns-in-Some-clause-batch : goal.returns-in-Some-clause-batch
returns-in-Some-clause-batch g c =
    outcome_not c.in-Some.entries c.in-Some.end c.outcome.result faults.Batch c.outcome.ensures.outcome (λ h. h)

pub returns-in-None-clause-left_blocks : goal.returns-in-None-clause-left_blocks
returns-in-None-clause-left_blocks g c =
    subst (AreByBlocks (g.G.Gate.came c.args.gate.now) c.args.scenario.now c.args.workers c.args.batch)
    (sym c.new.ensures) (no_blocks (g.G.Gate.came c.args.gate.now) c.args.scenario.now c.args.workers c.args.batch)

pub returns-in-None-clause-answer : goal.returns-in-None-clause-answer
returns-in-None-clause-answer g c = inl (ap (λ l. Err (faults.Memory l)) c.new.ensures)
