-- Words as the crate `hex` writes them, and texts that stand in quotes as they are.
use Rattle.std.proofs.Common.{◌≡◌, ℕ, zero, suc, ◌/◌, ◌%◌, ◌<◌, Bool, true, cond, eqb, ◌&&◌, inl, inr, List, []}
use Rattle.std.proofs.Common.{◌∷◌, ◌++◌, length, get_or, refl, ap, ◌∙◌, arith}
use Rattle.std.specs.List.{flat_map, list_all}
use Rattle.std.proofs.lemmas.Bool.{and_parts, cases_lt, eqb-true}
use Rattle.hex.specs.Hex.{encode_with, encode_upper, upper_digits}
use Rattle.scenario_words.specs.HexWord.{digit_of, hex_byte, hex_word}
use Rattle.scenario_words.specs.Quoted.{is_plain, escaped_byte}

-- the digits of the crate's table are these, which computes
abbrev same_digits : ℕ → Bool
same_digits zero = true
same_digits (suc n) = eqb (get_or upper_digits n 0) (digit_of n) && same_digits n

digit_below : (n d : ℕ) → same_digits n ≡ true → d < n → get_or upper_digits d 0 ≡ digit_of d
digit_below zero d h below = absurd (omega arith)
digit_below (suc n) d h below =
    let parts = and_parts (eqb (get_or upper_digits n 0) (digit_of n)) (same_digits n) h in
    elim (cases_lt d n) [
      | inl lower ↦ digit_below n d parts.1 lower
      | inr top ↦
          let e : d ≡ n = omega arith in
          rw e (eqb-true _ _ parts.0)
    ]

upper_digit : (d : ℕ) → d < 16 → get_or upper_digits d 0 ≡ digit_of d
upper_digit d h = digit_below 16 d refl h

-- bytes as the crate writes them, two digits each
pub upper_bytes : (bs : List ℕ) → ((i : ℕ) → get_or bs i 0 < 256) → encode_upper bs ≡ flat_map hex_byte bs
unfolding encode_with
upper_bytes [] h = refl
upper_bytes (b ∷ bs) h =
    let first : b < 256 = h 0 in
    rw (upper_digit (b / 16) (omega arith), upper_digit (b % 16) (omega arith), upper_bytes bs (λ i. h (suc i))) refl

-- a text of plain bytes stands in quotes as it is
pub plain_text : (t : List ℕ) → list_all is_plain t ≡ true → flat_map escaped_byte t ≡ t
plain_text [] h = refl
plain_text (b ∷ t) h =
    let both = and_parts (is_plain b) (list_all is_plain t) h in
    ap (λ p. cond p (b ∷ []) (92 ∷ hex_byte b) ++ flat_map escaped_byte t) both.0
    ∙ ap (λ r. b ∷ r) (plain_text t both.1)

-- the same, where there is a byte
pub some_upper : (bs : List ℕ) → 0 < length bs → ((i : ℕ) → get_or bs i 0 < 256) → encode_upper bs ≡ hex_word bs
some_upper [] some h = absurd (omega arith)
some_upper (b ∷ bs) some h = upper_bytes (b ∷ bs) h
