use Rattle.object_defs.proofs.Digits.{decimal_number-law}
use Rattle.laws_reading.proofs.laws.decimals_are_read.Goals as goal

pub returns : goal.returns
returns c = λ segment n. (
  (λ h. let p = (decimal_number-law segment n).0 h in (p.1, p.0)),
  (λ p. (decimal_number-law segment n).1 (p.1, p.0)),
)
