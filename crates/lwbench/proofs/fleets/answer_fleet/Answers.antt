use Rattle.std.proofs.Common.{◌∙◌}
use Rattle.command_files.specs.World.{FilesKnown, known_by}
use Rattle.lwbench.proofs.Verdicts.{fleet_refused, goal_refused, judged}
use Rattle.lwbench.proofs.fleets.answer_fleet.Goals as goal

pub returns-in_err-goal : goal.returns-in_err-goal
returns-in_err-goal g c = λ words is_read.
    goal_refused _ _ _ c.args.terminal words c.args.asked _ c.from_residual.result c.in_err-goal.field-0.0
    c.from_residual.ensures.1 is_read c.in_err-goal.ensures.refused

pub returns-in_err-held : goal.returns-in_err-held
returns-in_err-held g c = λ words is_read.
    fleet_refused _ _ _ _ c.args.terminal words c.args.asked c.from_residual-in_err-held.result
    c.in_err-held.field-0.0 c.from_residual-in_err-held.ensures.1 is_read c.in_err-held.ensures.refused
    c.fleet.ensures.none_read

pub returns : goal.returns
returns g c = λ words is_read.
    let files : FilesKnown = known_by g.W.Files c.args.world.now in
    judged files _ _ _ _ c.args.terminal words c.args.asked _ _ c.in_ok-held.held c.judge.result is_read
    c.as_slice-2.ensures.value c.in_ok-goal.ensures.read c.in_ok-held.ensures.done c.judge.ensures.judged
    c.judge.ensures.unjudged (c.judge.ensures.none_read ∙ c.fleet.ensures.none_read)
