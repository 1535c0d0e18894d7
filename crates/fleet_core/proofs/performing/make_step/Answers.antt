use Rattle.fleet_core.proofs.Taken.{step_taken, ok_outputs, ok_shows}
use Rattle.fleet_core.proofs.performing.make_step.Goals as goal

pub perform-requires : goal.perform-requires
perform-requires c =
    step_taken c.args.scenario.now c.args.device c.args.place c.args.step.now c.args.machine.now
    c.rows-known.ensures.valid
    c.requires.stands c.requires.shows

pub returns-clause-outputs : goal.returns-clause-outputs
returns-clause-outputs c =
    ok_outputs c.args.scenario.now c.args.device c.args.place c.args.step.now c.args.machine.now c.perform.result
    c.rows-known.ensures.valid c.requires.stands c.requires.shows c.perform.ensures.outputs

pub returns-clause-shows : goal.returns-clause-shows
returns-clause-shows c =
    ok_shows c.args.scenario.now c.args.device c.args.place c.args.step.now c.args.machine.now c.perform.new.device
    c.perform.result
    c.rows-known.ensures.valid c.requires.stands c.requires.shows c.perform.ensures.shows
