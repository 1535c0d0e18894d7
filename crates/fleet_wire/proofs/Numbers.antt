-- Decimal digits, and the number that they write.
use Rattle.std.proofs.Common.{◌≡◌, ℕ, ◌<◌, ◌^◌, ◌&&◌, true, cond, List, length, nat_lt, Option, Some, None, IfSome, ap, ◌∙◌}
use Rattle.std.proofs.Common.{rules, lt-ltb, ltb-true}
use Rattle.std.specs.List.{list_all}
use Rattle.std.specs.Char.{is_ascii_digit}
use Rattle.std.specs.Str.Parse.{digits_value}
use Rattle.std.proofs.Math.Bool.{and_assoc}
use Rattle.std.proofs.lemmas.Bool.{and_parts}
use Rattle.std.proofs.lemmas.Str.Parse.{IsNumeralModel, numerals_by_value}
use Rattle.lwm2m_values.specs.Value.{IsDecimal}
use Rattle.lwm2m_values.proofs.Below.{as_tested}
use Rattle.fleet_wire.specs.Reading.{number_of}

own : IsNumeralModel (λ ds. list_all is_ascii_digit ds ≡ true) (digits_value 10)
own = numerals_by_value _ (search rules)

pub number_read : (s : List ℕ) (r : Option ℕ) → IfSome r (λ n. (n < 2 ^ 32) × IsDecimal n s)
    → ((n : ℕ) → n < 2 ^ 32 → IsDecimal n s → r ≡ Some n) → r ≡ number_of s
number_read s r found only =
    let digits = list_all is_ascii_digit s in
    let some = nat_lt 0 (length s) in
    as_tested (2 ^ 32) s (digits && some) r
    (λ h. let tests = and_parts digits some h in (ltb-true 0 (length s) tests.1, own.to s tests.0))
    (λ h. (λ i. own.from s h.1 i && lt-ltb 0 (length s) h.0 i)) found only
    ∙ ap (λ b. cond b (Some (digits_value 10 s)) None) (and_assoc digits some (nat_lt (digits_value 10 s) (2 ^ 32)))
