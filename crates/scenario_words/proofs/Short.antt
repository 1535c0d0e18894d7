-- Short words of numbers: their digits, and what is read of them.
use Rattle.std.proofs.Common.{◌≡◌, ℕ, ◌<◌, ◌≤◌, ◌^◌, ◌&&◌, ◌⊎◌, ◌||◌, inl, pos, true, false, cond, eqb, ltb, leb, List}
use Rattle.std.proofs.Common.{Option, Some, None, Ok, Err, length, get_or, take, ap, ◌∙◌, arith, length-take}
use Rattle.std.specs.Option.{MatchOption}
use Rattle.std.specs.List.{list_all}
use Rattle.std.specs.Char.{is_ascii_digit}
use Rattle.std.specs.Int.{IsInRange}
use Rattle.std.proofs.lemmas.Bool.Decides.{nat_tests}
use Rattle.std.specs.Str.Parse.{digits_value}
use Rattle.std.proofs.lemmas.Bool.{and_from, and_left, and_right, lt-ltb}
use Rattle.std.proofs.lemmas.Str.Parse.{digits_value_short}
use Rattle.scenario_words.specs.declared.cause.Cause.TheVariants.{Token, Range}
use Rattle.scenario_words.specs.Number.{is_natural, number_of, integer_value, is_64_bits, integer_of}
use Rattle.scenario_words.proofs.Digits.{own}
use Rattle.scenario_words.proofs.NumberLaws.{is_number-natural, integer_value-natural}

pub digit_in_range : (c : ℕ) → IsInRange 48 57 c → is_ascii_digit c ≡ true
digit_in_range c h = grind (arith, nat_tests)

-- the number that the first digits make, of at most 18
pub short_number : (w : List ℕ) (i : ℕ) → list_all is_ascii_digit (take i w) ≡ true → length w ≤ 18
    → digits_value 10 (take i w) < 10 ^ 18
short_number w i digits short = digits_value_short own (take i w) 18 digits (omega (arith, length-take i w))

-- a word without a needless zero is a number's exactly where its bytes are digits
pub short_found : (w : List ℕ) (r : Option ℕ) → length w ≤ 18
    → (ltb 0 (length w) && (ltb 48 (get_or w 0 0) || eqb (length w) 1)) ≡ true
    → MatchOption r (list_all is_ascii_digit w ≡ false)
    (λ n. (list_all is_ascii_digit w ≡ true) × (n ≡ digits_value 10 w))
    → MatchOption r ((is_natural w ≡ false) ⊎ (18 < length w))
    (λ n. (is_natural w ≡ true) × (n ≡ digits_value 10 w) × (n < 10 ^ 18))
short_found w None short begins h =
    inl (and_left _ _ h)
short_found w (Some n) short begins h =
    let small : digits_value 10 w < 10 ^ 18 = digits_value_short own w 18 h.0 short in
    (and_from _ _ h.0 begins, h.1, omega (arith, h.1))

-- a word with a needless zero, or none at all
pub no_natural : (w : List ℕ) → (ltb 0 (length w) && (ltb 48 (get_or w 0 0) || eqb (length w) 1)) ≡ false
    → is_natural w ≡ false
no_natural w h = and_right _ _ h

-- the number of a word that is a natural number's
pub natural_read : (low high : ℕ) (w : List ℕ) → is_natural w ≡ true
    → number_of low high w
    ≡ cond (leb low (digits_value 10 w) && leb (digits_value 10 w) high) (Ok (digits_value 10 w)) (Err Range)
natural_read low high w h =
    let v = digits_value 10 w in
    ap (λ b. cond b (cond (is_natural w && (leb low v && leb v high)) (Ok v) (Err Range)) (Err Token))
    (is_number-natural w h)
    ∙ ap (λ b. cond (b && (leb low v && leb v high)) (Ok v) (Err Range)) h

-- its integer, where it is small
pub integer_read : (w : List ℕ) → is_natural w ≡ true → digits_value 10 w < 10 ^ 18
    → integer_of w ≡ Ok (pos (digits_value 10 w))
integer_read w h small =
    ap (λ b. cond b (cond (is_64_bits (integer_value w)) (Ok (integer_value w)) (Err Range)) (Err Token))
    (is_number-natural w h)
    ∙ ap (λ y. cond (is_64_bits y) (Ok y) (Err Range)) (integer_value-natural w h)
    ∙ ap (λ b. cond b (Ok (pos (digits_value 10 w))) (Err Range))
    (lt-ltb (digits_value 10 w) 9223372036854775808 (omega arith))
