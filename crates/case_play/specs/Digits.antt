-- The hex digits that a case states of bytes.
use Rattle.std.specs.Prelude.{◌≡◌, ℕ, ◌+◌, ◌*◌, ◌/◌, ◌%◌, List, length, Some, slice_get, slice_index}
use Rattle.case_text.specs.declared.digit.Digit.{Digit}
use Rattle.case_text.specs.declared.digit.Digit.TheVariants.{Any, Is}

-- this may stand where the digit is stated
abbrev pub Allows : Digit → ℕ → Type 0
Allows Any n = Unit {0}
Allows (Is digit) n = n ≡ digit

-- the digits are those of the bytes, two a byte, the high one first
pub record Matches (digits : List Digit) (bytes : List ℕ) : Type 0 where
  pub count : length digits ≡ 2 * length bytes
  pub high : (i : ℕ) (digit : Digit) → slice_get digits (2 * i) ≡ Some digit → Allows digit (slice_index bytes i / 16)
  pub low : (i : ℕ) (digit : Digit) → slice_get digits (2 * i + 1) ≡ Some digit
      → Allows digit (slice_index bytes i % 16)
