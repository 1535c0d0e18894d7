use Rattle.scenario_words.specs.Words.{words}
use Rattle.case_text.specs.Stating.{devices_of}
use Rattle.case_text.proofs.Parts.{next_device}
use Rattle.case_text.proofs.stating.devices_of.Goals as goal

pub loop-rest-preserved : goal.loop-rest-preserved
loop-rest-preserved c =
    rw c.in_ok-push.ensures.items
    (next_device (words c.loop-rest.rest.now) (words c.in_ok-device.behind.now) c.loop-rest.devices.items
    c.in_ok-device.device (devices_of (words c.args.line.now)) c.in_ok-device.ensures.read c.loop-rest.invariant)
