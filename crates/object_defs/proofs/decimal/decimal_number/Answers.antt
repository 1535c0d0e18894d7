use Rattle.std.proofs.Common.{sym, ◌∙◌}
use Rattle.object_defs.proofs.Digits.{decimal_number-law}
use Rattle.object_defs.proofs.decimal.decimal_number.Goals as goal

pub returns-clause-number : goal.returns-clause-number
returns-clause-number c = λ n. let law =
    decimal_number-law c.args.segment.now n in (λ h. law.0 (sym c.read.ensures ∙ h), λ h. c.read.ensures ∙ law.1 h)
