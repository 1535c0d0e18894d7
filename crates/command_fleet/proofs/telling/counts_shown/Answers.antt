use Rattle.std.proofs.Common.{append_assoc}
use Rattle.command_fleet.proofs.telling.counts_shown.Goals as goal

pub returns : goal.returns
returns c = simp append_assoc c.format.ensures.ok
