-- The digits of the first bytes, beside those that are stated.
use Rattle.std.proofs.Common.{◌≡◌, ℕ, ◌+◌, ◌*◌, ◌/◌, ◌%◌, ◌<◌, ◌≤◌, List, length, Some, slice_get, sym, subst, ◌∙◌}
use Rattle.std.proofs.Common.{arith, below_more}
use Rattle.std.specs.Prelude.{slice_index}
use Rattle.std.proofs.lemmas.Option.{same_Some, slice_get_within}
use Rattle.case_text.specs.declared.digit.Digit.{Digit}
use Rattle.case_play.specs.Digits.{Allows, Matches}

-- the digits of the first n bytes are allowed
pub record AreAllowed (digits : List Digit) (bytes : List ℕ) (n : ℕ) : Type 0 where
  pub count : length digits ≡ 2 * length bytes
  pub high : (i : ℕ) → i < n → (digit : Digit) → slice_get digits (2 * i) ≡ Some digit
      → Allows digit (slice_index bytes i / 16)
  pub low : (i : ℕ) → i < n → (digit : Digit) → slice_get digits (2 * i + 1) ≡ Some digit
      → Allows digit (slice_index bytes i % 16)

pub allowed_first : (digits : List Digit) (bytes : List ℕ) → length digits ≡ 2 * length bytes
    → AreAllowed digits bytes 0
allowed_first digits bytes count = record {
  count = count;
  high = λ i less. absurd (omega (arith, less));
  low = λ i less. absurd (omega (arith, less));
}

pub allows_it : (digits : List Digit) (place n : ℕ) (digit : Digit) → slice_get digits place ≡ Some digit
    → Allows digit n → (other : Digit) → slice_get digits place ≡ Some other → Allows other n
allows_it digits place n digit at allowed other there =
    subst (λ d. Allows d n) (same_Some digit other (sym at ∙ there)) allowed

pub allowed_next : (digits : List Digit) (bytes : List ℕ) (i : ℕ) (high low : Digit) → AreAllowed digits bytes i
    → slice_get digits (2 * i) ≡ Some high → slice_get digits (2 * i + 1) ≡ Some low
    → Allows high (slice_index bytes i / 16) → Allows low (slice_index bytes i % 16) → AreAllowed digits bytes (i + 1)
allowed_next digits bytes i high low before at_high at_low high_ok low_ok = record {
  count = before.count;
  high = below_more (λ k. (digit : Digit) → slice_get digits (2 * k) ≡ Some digit
      → Allows digit (slice_index bytes k / 16)) i before.high
      (allows_it digits (2 * i) (slice_index bytes i / 16) high at_high high_ok);
  low = below_more (λ k. (digit : Digit) → slice_get digits (2 * k + 1) ≡ Some digit
      → Allows digit (slice_index bytes k % 16)) i before.low
      (allows_it digits (2 * i + 1) (slice_index bytes i % 16) low at_low low_ok);
}

-- there is no digit but those of the bytes
pub allowed_all : (digits : List Digit) (bytes : List ℕ) (n : ℕ) → AreAllowed digits bytes n → length bytes ≤ n
    → Matches digits bytes
allowed_all digits bytes n before end = record {
  count = before.count;
  high = λ i digit at. before.high i (omega (arith, slice_get_within digits (2 * i) digit at, before.count, end)) digit
      at;
  low = λ i digit at. before.low i (omega (arith, slice_get_within digits (2 * i + 1) digit at, before.count, end))
      digit at;
}
