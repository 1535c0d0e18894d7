use Rattle.std.proofs.Common.{sym, ◌==◌}
use Rattle.scenario_words.proofs.Cuts.{two_parts, split_nowhere}
use Rattle.scenario_words.proofs.cutting.last.Goals as goal

pub returns-in-Some : goal.returns-in-Some
returns-in-Some c = two_parts c.args.byte c.args.bytes.now c.in-Some.field-0 (sym c.in-Some.ensures)

pub returns-in-None : goal.returns-in-None
returns-in-None c = split_nowhere (λ b. b == c.args.byte) c.args.bytes.now (sym c.in-None.ensures)
