use Rattle.std.proofs.Common.{filter, ap, ◌∙◌, arith}
use Rattle.std.proofs.lemmas.List.{take_all}
use Rattle.fleet_link.specs.Playing.{is_own}
use Rattle.fleet_link.proofs.row.own_steps.Goals as goal
use Rattle.fleet_link.proofs.Played.{own_more}

pub loop-step-preserved : goal.loop-step-preserved
loop-step-preserved c =
    own_more c.args.steps.now c.loop-step.own.items c.push_own.new.own.items c.loop-step.step-index c.step-item.result
    c.loop-step.invariant c.in_ok-push_own.ensures (omega arith) c.step-item.is

pub returns : goal.returns
returns c =
    c.loop-step.invariant
    ∙ ap (filter is_own) (take_all c.loop-step.step-index c.args.steps.now (omega arith))
