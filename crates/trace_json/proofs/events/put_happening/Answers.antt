use Rattle.trace_json.specs.Steps.{event_json}
use Rattle.trace_json.proofs.events.put_happening.Goals as goal

pub returns-in-Firmware-clause-adds : goal.returns-in-Firmware-clause-adds
unfolding event_json
returns-in-Firmware-clause-adds c = rw c.in-Firmware.is c.put_one.ensures.adds
