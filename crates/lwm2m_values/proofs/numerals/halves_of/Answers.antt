use Rattle.std.proofs.Common.{subst, sym, ◌∙◌}
use Rattle.std.specs.Str.{IsUtf8}
use Rattle.lwm2m_values.proofs.Digits.{IsUtf8-from_halves, split_at_colon}
use Rattle.lwm2m_values.proofs.numerals.halves_of.Goals as goal

pub returns-in_err-utf8_of-clause-only : goal.returns-in_err-utf8_of-clause-only
returns-in_err-utf8_of-clause-only c =
    λ a b p q e. absurd (c.in_err-utf8_of.ensures (subst IsUtf8 (sym e) (IsUtf8-from_halves a b p q)))

pub returns-clause-only : goal.returns-clause-only
returns-clause-only c =
    λ a b p q e. split_at_colon _ a b c.split_once.result c.split_once.ensures.cases p (c.in_ok-utf8_of.ensures.0 ∙ e)
