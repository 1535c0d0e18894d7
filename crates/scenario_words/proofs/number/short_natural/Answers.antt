use Rattle.std.proofs.Common.{sym}
use Rattle.scenario_words.proofs.Short.{short_found}
use Rattle.scenario_words.proofs.number.short_natural.Goals as goal

pub returns : goal.returns
returns c =
    short_found c.args.word.now c.digits_number.result c.if-word-gt18.false (sym c.if-not-begins_as_number.ensures)
    c.digits_number.ensures
