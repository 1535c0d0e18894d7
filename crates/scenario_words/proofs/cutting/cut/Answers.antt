use Rattle.std.proofs.Common.{◌==◌, sym}
use Rattle.std.proofs.lemmas.List.{take_rest}
use Rattle.scenario_words.proofs.Cuts.{split_at_place, split_nowhere}
use Rattle.scenario_words.proofs.cutting.cut.Goals as goal

pub returns-in-Some-clause-parts : goal.returns-in-Some-clause-parts
returns-in-Some-clause-parts c =
    let bytes = c.args.bytes.now in
    rw take_rest (split_at_place (λ b. b == c.args.byte) bytes c.in-Some.place (sym c.in-Some.ensures))

pub returns-in-None-clause-parts : goal.returns-in-None-clause-parts
returns-in-None-clause-parts c = split_nowhere (λ b. b == c.args.byte) c.args.bytes.now (sym c.in-None.ensures)
