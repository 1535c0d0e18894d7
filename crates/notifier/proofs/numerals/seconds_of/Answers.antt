use Rattle.std.proofs.Common.{ap, arith, pos, Some, sym, ◌∙◌}
use Rattle.std.specs.Int.{w64}
use Rattle.std.specs.Option.{option_map}
use Rattle.std.proofs.lemmas.Int.{to_z_pos}
use Rattle.notifier.proofs.DecimalTexts.{seconds_read}
use Rattle.notifier.proofs.numerals.seconds_of.Goals as goal

pub returns-in-Some : goal.returns-in-Some
returns-in-Some c =
    let read =
    seconds_read c.args.text.now c.number_below.result c.number_below.ensures.found c.number_below.ensures.only in
    ap Some (to_z_pos w64 c.in-Some.seconds (omega (arith, c.in-Some.ensures.found.0)))
    ∙ ap (option_map pos) (sym c.in-Some.is ∙ read)

pub returns-in-None : goal.returns-in-None
returns-in-None c =
    let read =
    seconds_read c.args.text.now c.number_below.result c.number_below.ensures.found c.number_below.ensures.only in
    ap (option_map pos) (sym c.in-None.is ∙ read)
