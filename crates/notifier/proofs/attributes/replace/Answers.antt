use Rattle.std.proofs.Common.{FitsSigned, ◌∙◌, ap, is_some, rules, sym}
use Rattle.std.specs.Int.{w64}
use Rattle.std.specs.FinMap as map
use Rattle.std.proofs.lemmas.Int.{to_z-of_z}
use Rattle.notifier.specs.Attributes.{with_number}
use Rattle.notifier.specs.Inside.{numbers_in}
use Rattle.notifier.proofs.Answers.{at_ok, ok_where_some}
use Rattle.notifier.proofs.attributes.replace.Goals as goal

pub unwrap-requires : goal.unwrap-requires
unwrap-requires c =
    ok_where_some c.set.result _ c.set.ensures.absent (c.requires (ap is_some c.in-Some.is))

pub returns-in-Some : goal.returns-in-Some
returns-in-Some c =
    let fits : FitsSigned w64 c.in-Some.number = search rules in
    let old = numbers_in c.args.numbers.now.entries in
    at_ok c.set.result _ c.unwrap.result c.set.ensures.ok c.unwrap.ensures
    ∙ ap (map.insert old c.args.key) (to_z-of_z w64 c.in-Some.number fits)
    ∙ ap (with_number old c.args.key) (sym c.in-Some.is)

pub returns-in-None : goal.returns-in-None
returns-in-None c =
    c.unset.ensures ∙ ap (with_number (numbers_in c.args.numbers.now.entries) c.args.key) (sym c.in-None.is)
