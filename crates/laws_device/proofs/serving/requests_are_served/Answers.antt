use Rattle.laws_device.proofs.Served.{served}
use Rattle.laws_device.proofs.serving.requests_are_served.Goals as goal

pub returns : goal.returns
returns c = served
