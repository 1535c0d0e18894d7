-- Plain texts of numbers are ASCII, and hold no colon.
use Rattle.std.proofs.Common.{◌≡◌, ℕ, ◌<◌, List, ◌∷◌, ◌++◌, length, get_or, ℤ, ◌≢◌, inl, inr, Option, Some, None}
use Rattle.std.proofs.Common.{IsSomeAnd, Bor, subst, sym, arith}
use Rattle.std.specs.Str.{IsUtf8, IsAscii}
use Rattle.std.specs.Str.Parse.{AllDigits, digits_value}
use Rattle.std.proofs.lemmas.Fmt.{IsAscii-from_digits}
use Rattle.std.proofs.lemmas.Str.{IsUtf8-from_ascii, IsAscii-append}
use Rattle.std.proofs.lemmas.Str.Ascii.{IsAscii-cons}
use Rattle.std.proofs.lemmas.Str.Pattern.{IsSplitOnceResult, split_after}
use Rattle.std.proofs.lemmas.Str.Parse.{numerals_by_value, tells_digits, IsNumeralModel, not_in_digits}
use Rattle.lwm2m_values.specs.Value.{IsDecimal, IsSigned}

pub own : IsNumeralModel (AllDigits 10) (digits_value 10)
own = numerals_by_value _ tells_digits

IsAscii-digits : (n : ℕ) (t : List ℕ) → IsDecimal n t → IsAscii t
IsAscii-digits n t h = IsAscii-from_digits t h.0.1

pub IsUtf8-from_decimal : (n : ℕ) (t : List ℕ) → IsDecimal n t → IsUtf8 t
IsUtf8-from_decimal n t h = IsUtf8-from_ascii t (IsAscii-digits n t h)

pub IsUtf8-from_signed : (z : ℤ) (t : List ℕ) → IsSigned z t → IsUtf8 t
IsUtf8-from_signed z t (inl h) = IsUtf8-from_decimal h.0 t h.1
IsUtf8-from_signed z t (inr h) =
    subst IsUtf8 (sym h.2) (IsUtf8-from_ascii _ (IsAscii-cons 45 h.1 (omega arith) (IsAscii-digits h.0 h.1 h.3)))

-- digits, a colon and digits are text
pub IsUtf8-from_halves : (a b : List ℕ) → AllDigits 10 a → AllDigits 10 b → IsUtf8 (a ++ 58 ∷ b)
IsUtf8-from_halves a b p q =
    IsUtf8-from_ascii _ (IsAscii-append a (58 ∷ b) (IsAscii-from_digits a p)
    (IsAscii-cons 58 b (omega arith) (IsAscii-from_digits b q)))

-- decimal digits hold no colon
pub no_colon : (t : List ℕ) → AllDigits 10 t → (i : ℕ) → i < length t → get_or t i 0 ≢ 58
no_colon t h = not_in_digits own t 58 h (λ r. omega arith)

-- a text of digits, a colon and more is cut at that colon
pub split_at_colon : (t a b : List ℕ) (r : Option (Bor (List ℕ) × Bor (List ℕ))) → IsSplitOnceResult 58 t r
    → AllDigits 10 a → t ≡ a ++ 58 ∷ b → IsSomeAnd r (λ p. (p.0.now ≡ a) × (p.1.now ≡ b))
split_at_colon t a b None h p e = split_after 58 t a b None h (omega arith) e (no_colon a p)
split_at_colon t a b (Some x) h p e = split_after 58 t a b (Some x) h (omega arith) e (no_colon a p)
