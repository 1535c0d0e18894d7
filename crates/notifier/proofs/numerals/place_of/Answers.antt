use Rattle.std.proofs.Common.{◌==◌}
use Rattle.notifier.proofs.DecimalTexts.{place_within}
use Rattle.notifier.proofs.numerals.place_of.Goals as goal

pub returns-clause-within : goal.returns-clause-within
returns-clause-within c =
    place_within (λ x. x == c.args.byte) c.args.text.now c.first_place.result c.first_place.ensures
