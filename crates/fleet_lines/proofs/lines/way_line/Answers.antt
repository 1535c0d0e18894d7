use Rattle.std.proofs.Common.{append_assoc}
use Rattle.fleet_lines.proofs.lines.way_line.Goals as goal

pub returns : goal.returns
returns c = simp append_assoc c.format.ensures.ok
