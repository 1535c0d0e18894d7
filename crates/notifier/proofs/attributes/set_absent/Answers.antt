use Rattle.std.proofs.Common.{FitsSigned, ◌∙◌, ap, is_some, rules, sym}
use Rattle.std.specs.Int.{w64}
use Rattle.std.specs.FinMap as map
use Rattle.std.proofs.lemmas.Int.{to_z-of_z}
use Rattle.notifier.specs.Attributes.{with_number}
use Rattle.notifier.specs.Inside.{numbers_in}
use Rattle.notifier.proofs.Answers.{none_from}
use Rattle.notifier.proofs.attributes.set_absent.Goals as goal

pub returns-then-is_some-clause-present : goal.returns-then-is_some-clause-present
returns-then-is_some-clause-present c =
    λ _ _. ap is_some (sym c.number_at.ensures) ∙ sym c.is_some.ensures ∙ c.if-is_some.true

pub returns-clause-absent : goal.returns-clause-absent
returns-clause-absent c =
    λ _. sym c.number_at.ensures ∙ none_from c.number_at.result (sym c.is_some.ensures ∙ c.if-is_some.false)

pub returns-clause-made : goal.returns-clause-made
returns-clause-made c =
    let fits : FitsSigned w64 c.in-Some.number = search rules in
    let old = numbers_in c.args.numbers.now.entries in
    λ _. c.in_ok-set.ensures.ok ∙ ap (map.insert old c.args.key) (to_z-of_z w64 c.in-Some.number fits)
    ∙ ap (with_number old c.args.key) (sym c.in-Some.is)
