use Rattle.lwm2m_values.proofs.Digits.{IsUtf8-from_decimal}
use Rattle.lwm2m_values.proofs.numerals.number_below.Goals as goal

pub returns-in_err-digits-clause-only : goal.returns-in_err-digits-clause-only
returns-in_err-digits-clause-only c = λ n small h. absurd (c.in_err-digits.ensures (IsUtf8-from_decimal n _ h))
