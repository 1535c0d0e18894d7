use Rattle.lwm2m_values.proofs.Digits.{IsUtf8-from_signed}
use Rattle.lwm2m_values.proofs.numerals.signed_of.Goals as goal

pub returns-in_err-text-clause-only : goal.returns-in_err-text-clause-only
returns-in_err-text-clause-only c = λ z fits h. absurd (c.in_err-text.ensures (IsUtf8-from_signed z _ h))
