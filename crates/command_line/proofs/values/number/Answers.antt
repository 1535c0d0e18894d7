use Rattle.std.proofs.Common.{◌∙◌}
use Rattle.clap.proofs.WalkLemmas.{one_text-rows}
use Rattle.clap.specs.Words.{found_of, one_of, rows_of}
use Rattle.command_line.proofs.Numbers.{optional_number, reads}
use Rattle.command_line.proofs.values.number.Goals as goal

pub returns : goal.returns
returns c =
    let rows = one_text-rows (found_of c.args.found.now) c.args.id.now in
    optional_number 32 (reads 32) (one_of c.args.id.now (rows_of (found_of c.args.found.now))) c.get_one.result
    (λ t x g. g.0)
    (λ none. c.get_one.ensures.none (rows ∙ none)) (λ t some. c.get_one.ensures.value t (rows ∙ some))
