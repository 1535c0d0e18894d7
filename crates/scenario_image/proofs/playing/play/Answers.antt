use Rattle.std.proofs.Common.{sym, subst}
use Rattle.std.proofs.Math.Seq.{take-length}
use Rattle.device_machine.specs.State.{Shows}
use Rattle.scenario_image.specs.Play.{start, state_after}
use Rattle.scenario_image.proofs.playing.play.Goals as goal

pub returns-clause-shows : goal.returns-clause-shows
returns-clause-shows c =
    subst (λ steps. Shows c.take_steps.new.device (state_after (start c.args.class.now) steps))
    (sym (take-length c.args.steps.now))
    (c.in_ok-all.ensures.shows (start c.args.class.now) c.in_ok-device.ensures)

pub returns-clause-stopped : goal.returns-clause-stopped
returns-clause-stopped c = c.in_ok-all.ensures.stopped (start c.args.class.now) c.in_ok-device.ensures
