use Rattle.fleet_link.proofs.Started.{slot_served}
use Rattle.fleet_link.proofs.fleet.slot_of_row.Goals as goal

pub returns-clause-served : goal.returns-clause-served
returns-clause-served c =
    slot_served c.args.scenario.now c.args.played c.args.device c.in_ok-device.device c.new.result c.in_ok-row.row
    c.recording_of.result c.rows-rows.ensures.valid c.requires c.in_ok-device.ensures c.new.ensures.device
    c.new.ensures.second c.new.ensures.end c.new.ensures.due c.new.ensures.row c.in_ok-row.ensures.steps
    c.in_ok-row.ensures.passes c.in_ok-row.ensures.place c.in_ok-row.ensures.second c.in_ok-row.ensures.happened
    c.new.ensures.recording c.recording_of.ensures.steps c.recording_of.ensures.left c.recording_of.ensures.complete
