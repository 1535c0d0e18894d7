-- Digits, their value, and what `parse` says of it.
use Rattle.std.proofs.Common.{◌≡◌, ◌≢◌, ℕ, suc, zero, ◌<◌, ◌≤◌, ◌^◌, ◌&&◌, ℤ, pos, neg_ℤ, w64, inl, inr, true, false}
use Rattle.std.proofs.Common.{cond, ltb, List, [], ◌∷◌, length, get_or, Result, Ok, Err, ap, sym, refl, ◌∙◌, arith}
use Rattle.std.proofs.Common.{rules}
use Rattle.std.specs.Option.{MatchOption}
use Rattle.std.specs.Result.{OkIff, result_ok}
use Rattle.std.specs.List.{list_all}
use Rattle.std.specs.Char.{is_ascii_digit}
use Rattle.std.specs.Str.{IsUtf8}
use Rattle.std.specs.Str.Parse.{digits_value, ParsesUnsigned, ParsesSigned}
use Rattle.std.proofs.lemmas.Bool.{and_parts, cases_lt, cases_eq, ltb-true, lt-ltb, le-ltb, eq-eqb, ne_eqb}
use Rattle.std.proofs.lemmas.Fmt.{IsAscii-from_digits}
use Rattle.std.proofs.lemmas.Str.{IsUtf8-from_ascii}
use Rattle.std.proofs.lemmas.Str.Ascii.{IsAscii-cons}
use Rattle.std.specs.Int.{IsInRange}
use Rattle.std.proofs.lemmas.Str.Parse.{IsNumeralModel, numerals_by_value, parse_digits, parse_signed_digits}
use Rattle.std.proofs.lemmas.Str.Parse.{parse_signed_minus, digit_at}
use Rattle.scenario_words.specs.Number.{is_natural, is_number, integer_value, is_64_bits}

pub own : IsNumeralModel (λ ds. list_all is_ascii_digit ds ≡ true) (digits_value 10)
own = numerals_by_value _ (search rules)

pub natural_digits : (ds : List ℕ) → is_natural ds ≡ true → list_all is_ascii_digit ds ≡ true
natural_digits ds h = (and_parts _ _ h).0

pub natural_some : (ds : List ℕ) → is_natural ds ≡ true → 0 < length ds
natural_some ds h = ltb-true _ _ (and_parts _ _ (and_parts _ _ h).1).0

pub IsUtf8-natural : (ds : List ℕ) → is_natural ds ≡ true → IsUtf8 ds
IsUtf8-natural ds h = IsUtf8-from_ascii ds (IsAscii-from_digits ds (own.to ds (natural_digits ds h)))

parsed : {E : Type 0} (r : Result ℕ E) (len n : ℕ) → OkIff r ((0 < len) × (n < 2 ^ 64)) n → 0 < len
    → MatchOption (result_ok r) (2 ^ 64 ≤ n) (λ x. x ≡ n)
parsed (Ok x) len n h some = h.1
parsed (Err e) len n h some = elim (cases_lt n (2 ^ 64)) [ inl small ↦ absurd (h (some, small)) | inr large ↦ large ]

pub parsed_natural : {E : Type 0} (ds : List ℕ) (r : Result ℕ E) → is_natural ds ≡ true → ParsesUnsigned 64 10 ds r
    → MatchOption (result_ok r) (2 ^ 64 ≤ digits_value 10 ds) (λ x. x ≡ digits_value 10 ds)
parsed_natural ds r h p =
    parsed r (length ds) (digits_value 10 ds) (parse_digits own 64 ds r p (natural_digits ds h)) (natural_some ds h)

-- the first byte of digits is a digit
pub first_digit : (c : ℕ) (cs : List ℕ) → is_natural (c ∷ cs) ≡ true → IsInRange 48 57 c
first_digit c cs h = digit_at (c ∷ cs) 0 (own.to (c ∷ cs) (natural_digits (c ∷ cs) h)) (omega arith)

pub no_minus : (c : ℕ) (cs : List ℕ) → is_natural (c ∷ cs) ≡ true → c ≢ 45
no_minus c cs h e = let digit = first_digit c cs h in omega arith

-- what a number is, with a minus sign in front and without
pub minus_number : (c : ℕ) (cs : List ℕ) → c ≡ 45 → is_number (c ∷ cs) ≡ (is_natural cs && ltb 48 (get_or cs 0 0))
minus_number c cs e = ap (λ b. cond b (is_natural cs && ltb 48 (get_or cs 0 0)) (is_natural (c ∷ cs))) (eq-eqb c 45 e)

pub plain_number : (c : ℕ) (cs : List ℕ) → c ≢ 45 → is_number (c ∷ cs) ≡ is_natural (c ∷ cs)
plain_number c cs e = ap (λ b. cond b (is_natural cs && ltb 48 (get_or cs 0 0)) (is_natural (c ∷ cs))) (ne_eqb c 45 e)

pub minus_value : (c : ℕ) (cs : List ℕ) → c ≡ 45 → integer_value (c ∷ cs) ≡ neg_ℤ (pos (digits_value 10 cs))
minus_value c cs e =
    ap (λ b. cond b (neg_ℤ (pos (digits_value 10 cs))) (pos (digits_value 10 (c ∷ cs)))) (eq-eqb c 45 e)

pub plain_value : (c : ℕ) (cs : List ℕ) → c ≢ 45 → integer_value (c ∷ cs) ≡ pos (digits_value 10 (c ∷ cs))
plain_value c cs e =
    ap (λ b. cond b (neg_ℤ (pos (digits_value 10 cs))) (pos (digits_value 10 (c ∷ cs)))) (ne_eqb c 45 e)

pub IsUtf8-number : (w : List ℕ) → is_number w ≡ true → IsUtf8 w
IsUtf8-number [] h = cc
IsUtf8-number (c ∷ cs) h = elim (cases_eq c 45) [
  | inl minus ↦
      let digits = (and_parts _ _ (sym (minus_number c cs minus) ∙ h)).0 in
      IsUtf8-from_ascii (c ∷ cs) (IsAscii-cons c cs (omega arith)
      (IsAscii-from_digits cs (own.to cs (natural_digits cs digits))))
  | inr plain ↦ IsUtf8-natural (c ∷ cs) (sym (plain_number c cs plain) ∙ h)
]

pub negative_fits : (n : ℕ) → n ≤ 2 ^ 63 → is_64_bits (neg_ℤ (pos n)) ≡ true
negative_fits zero h = refl
negative_fits (suc n) h = lt-ltb n 9223372036854775808 (omega arith)

negative_large : (n : ℕ) → 2 ^ 63 < n → is_64_bits (neg_ℤ (pos n)) ≡ false
negative_large zero h = absurd (omega arith)
negative_large (suc n) h = le-ltb n 9223372036854775808 (omega arith)

parsed_minus : {E : Type 0} (r : Result ℤ E) (digits : Type 0) (len n : ℕ)
    → OkIff r (digits × (0 < len) × (n ≤ 2 ^ 63)) (neg_ℤ (pos n)) → digits → 0 < len
    → MatchOption (result_ok r) (is_64_bits (neg_ℤ (pos n)) ≡ false)
    (λ z. (z ≡ neg_ℤ (pos n)) × (is_64_bits (neg_ℤ (pos n)) ≡ true))
parsed_minus (Ok x) digits len n h d some = (h.1, negative_fits n h.0.2)
parsed_minus (Err e) digits len n h d some =
    elim (cases_lt (2 ^ 63) n) [ inl large ↦ negative_large n large | inr small ↦ absurd (h (d, some, small)) ]

parsed_plain : {E : Type 0} (r : Result ℤ E) (len n : ℕ) → OkIff r ((0 < len) × (n < 2 ^ 63)) (pos n) → 0 < len
    → MatchOption (result_ok r) (is_64_bits (pos n) ≡ false) (λ z. (z ≡ pos n) × (is_64_bits (pos n) ≡ true))
parsed_plain (Ok x) len n h some = (h.1, lt-ltb n 9223372036854775808 h.0.1)
parsed_plain (Err e) len n h some =
    elim (cases_lt n (2 ^ 63)) [ inl small ↦ absurd (h (some, small)) | inr large ↦ le-ltb n 9223372036854775808 large ]

pub parsed_integer : {E : Type 0} (w : List ℕ) (r : Result ℤ E) → is_number w ≡ true → ParsesSigned w64 10 w r
    → MatchOption (result_ok r) (is_64_bits (integer_value w) ≡ false)
    (λ z. (z ≡ integer_value w) × (is_64_bits (integer_value w) ≡ true))
parsed_integer [] r h p = cc
parsed_integer (c ∷ cs) r h p = elim (cases_eq c 45) [
  | inl minus ↦
      let digits = (and_parts _ _ (sym (minus_number c cs minus) ∙ h)).0 in
      rw (minus_value c cs minus) (parsed_minus r (list_all is_ascii_digit cs ≡ true) (length cs) (digits_value 10 cs)
      (parse_signed_minus own w64 (c ∷ cs) r p minus) (natural_digits cs digits) (natural_some cs digits))
  | inr plain ↦
      let digits = sym (plain_number c cs plain) ∙ h in
      rw (plain_value c cs plain) (parsed_plain r (length (c ∷ cs)) (digits_value 10 (c ∷ cs))
      (parse_signed_digits own w64 (c ∷ cs) r p (natural_digits (c ∷ cs) digits)) (natural_some (c ∷ cs) digits))
]
