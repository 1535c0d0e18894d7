use Rattle.notifier.proofs.DecimalTexts.{digits_of-long, digits_read}
use Rattle.notifier.proofs.numerals.digits_of.Goals as goal

pub returns-then-text-most-clause-value : goal.returns-then-text-most-clause-value
returns-then-text-most-clause-value c = digits_of-long c.args.most c.args.text.now c.if-text-most.true

pub returns-clause-value : goal.returns-clause-value
returns-clause-value c =
    digits_read c.args.most c.args.text.now c.number_below.result c.if-text-most.false c.requires
    c.number_below.ensures.found c.number_below.ensures.only
