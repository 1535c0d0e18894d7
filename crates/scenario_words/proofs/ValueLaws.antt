-- A value that is written is read again, and so are its two words.
use Rattle.std.proofs.Common.{◌≡◌, ℕ, ◌/◌, ◌%◌, ◌<◌, not, ℤ, pos, negsuc, suc, inl, inr, Bool, true, false, cond}
use Rattle.std.proofs.Common.{eqb, ltb, List, [], ◌∷◌, ◌++◌, Result, Ok, Err, refl, ap, ◌∙◌, arith}
use Rattle.std.proofs.Common.{append_assoc, length-append, FitsSigned, w64}
use Rattle.std.specs.Prelude.{IfOk}
use Rattle.std.specs.List.{list_all, onto_first, flat_map}
use Rattle.std.specs.Fmt.{decimal, signed_decimal}
use Rattle.std.proofs.lemmas.Bool.{and_parts, and_from, cases_Bool, not_from_false, not-true}
use Rattle.std.proofs.lemmas.Bool.Decides.{nat_tests}
use Rattle.std.proofs.lemmas.List.Folds.{list_all-append}
use Rattle.lwm2m_values.specs.declared.kind.ValueKind.{ValueKind}
use Rattle.lwm2m_values.specs.declared.kind.ValueKind.TheVariants as kind
use Rattle.lwm2m_values.specs.declared.value.Value.{Value}
use Rattle.lwm2m_values.specs.declared.value.Value.TheVariants as value
use Rattle.lwm2m_values.specs.Value.{kind_of}
use Rattle.scenario_words.specs.declared.cause.Cause.{Cause}
use Rattle.scenario_words.specs.Words.{plain, quoted, scan, words, IsWord}
use Rattle.scenario_words.specs.Reading.{◌>>=◌, word_by}
use Rattle.scenario_words.specs.HexWord.{digit_of, hex_byte, hex_word}
use Rattle.scenario_words.specs.Quoted.{is_plain, escaped_byte, quoted_word}
use Rattle.scenario_words.specs.PathWord.{link_word}
use Rattle.scenario_words.specs.ValueWords.{kind_word, kind_named, value_of, value_at, IsValue, value_word}
use Rattle.scenario_words.specs.ValueWords.{spelling_of_value}
use Rattle.scenario_words.proofs.NumberLaws.{integer_of-law}
use Rattle.scenario_words.proofs.Pairs.{hex_law, hex_written, quoted_law, quoted_written, plain_no_quote}
use Rattle.scenario_words.proofs.PathLaws.{link_again}
use Rattle.scenario_words.proofs.WordLaws.{words_again}
use Rattle.scenario_words.proofs.Above.{plain_word, decimal_above, decimal_word, bytes_word}

value_again : (v : Value) → IsValue v → value_of (kind_of v) (value_word v) ≡ Ok v
value_again (value.Text t) h =
    ap (λ r. r >>= (λ x. Ok (value.Text x))) ((quoted_law (quoted_word t) t).1 (quoted_written t h.0 h.1))
value_again (value.Whole z) h =
    ap (λ r. r >>= (λ x. Ok (value.Whole x))) ((integer_of-law z (signed_decimal z)).1 (refl, h))
value_again (value.Flag true) h = refl
value_again (value.Flag false) h = refl
value_again (value.Opaque b) h =
    ap (λ r. r >>= (λ x. Ok (value.Opaque x))) ((hex_law (hex_word b) b).1 (hex_written b h))
value_again (value.Moment z) h =
    ap (λ r. r >>= (λ x. Ok (value.Moment x))) ((integer_of-law z (signed_decimal z)).1 (refl, h))
value_again (value.Link o i) h = ap (λ r. r >>= (λ p. Ok (value.Link p.0 p.1))) (link_again o i h.0 h.1)

pub kind_again : (k : ValueKind) → kind_named (kind_word k) ≡ Ok k
kind_again kind.Text = refl
kind_again kind.Whole = refl
kind_again kind.Flag = refl
kind_again kind.Opaque = refl
kind_again kind.Moment = refl
kind_again kind.Link = refl

abbrev with_words : {A : Type 0} → List (List ℕ) → A → Result (A × List (List ℕ)) Cause
with_words ws x = Ok (x, ws)

pub value_at_again : (v : Value) (ws : List (List ℕ)) → IsValue v
    → value_at (kind_word (kind_of v) ∷ value_word v ∷ ws) ≡ Ok (v, ws)
value_at_again v ws h =
    ap (λ r. (r >>= with_words (value_word v ∷ ws)) >>= (λ k. word_by (value_of k.0) k.1)) (kind_again (kind_of v))
    ∙ ap (λ r. r >>= with_words ws) (value_again v h)

-- words that hold no space, no quote and no `#`

integer_word : (z : ℤ) → FitsSigned w64 z → IsWord (signed_decimal z)
integer_word (pos n) h = decimal_word n (omega (arith, h.sfits))
integer_word (negsuc n) h =
    plain_word (45 ∷ decimal (suc n)) (omega arith) (and_from _ _ refl (decimal_above (suc n) (omega (arith, h.sfits))))

links_word : (o i : ℕ) → o < 65536 → i < 65536 → IsWord (link_word o i)
links_word o i h k =
    plain_word (link_word o i) (simp (length-append) (omega arith))
    (list_all-append (λ b. ltb 35 b) (decimal o) (58 ∷ decimal i)
    ∙ and_from _ _ (decimal_above o (omega arith)) (and_from _ _ refl (decimal_above i (omega arith))))

-- quoted words

abbrev no_quote : List ℕ → Bool
no_quote w = list_all (λ b. not (eqb b 34)) w

quoted_end : (w : List ℕ) → no_quote w ≡ true → scan quoted (w ++ 34 ∷ 32 ∷ []) ≡ (w ++ 34 ∷ []) ∷ []
quoted_end [] h = refl
quoted_end (b ∷ w) h =
    let both = and_parts (not (eqb b 34)) (no_quote w) h in
    ap (λ t. onto_first b (scan (cond t plain quoted) (w ++ 34 ∷ 32 ∷ []))) (not-true (eqb b 34) both.0)
    ∙ ap (onto_first b) (quoted_end w both.1)

hex_digit_no_quote : (v : ℕ) → not (eqb (digit_of v) 34) ≡ true
hex_digit_no_quote v = grind (arith, nat_tests)

escaped_no_quote : (b : ℕ) → no_quote (escaped_byte b) ≡ true
escaped_no_quote b = elim (cases_Bool (is_plain b)) [
  | inl itself ↦ ap (λ t. no_quote (cond t (b ∷ []) (92 ∷ hex_byte b))) itself
      ∙ and_from _ _ (not_from_false (eqb b 34) (plain_no_quote b itself)) refl
  | inr other ↦
      ap (λ t. no_quote (cond t (b ∷ []) (92 ∷ hex_byte b))) other
      ∙ and_from _ _ refl (and_from _ _ (hex_digit_no_quote (b / 16)) (and_from _ _ (hex_digit_no_quote (b % 16)) refl))
]

text_no_quote : (t : List ℕ) → no_quote (flat_map escaped_byte t) ≡ true
text_no_quote [] = refl
text_no_quote (b ∷ t) =
    list_all-append (λ x. not (eqb x 34)) (escaped_byte b) (flat_map escaped_byte t)
    ∙ and_from _ _ (escaped_no_quote b) (text_no_quote t)

text_word : (t : List ℕ) → IsWord (quoted_word t)
text_word t =
    ap (λ bs. onto_first 34 (scan quoted bs)) (append_assoc (flat_map escaped_byte t) (34 ∷ []) (32 ∷ []))
    ∙ ap (onto_first 34) (quoted_end (flat_map escaped_byte t) (text_no_quote t))

kinds_word : (k : ValueKind) → IsWord (kind_word k)
kinds_word kind.Text = refl
kinds_word kind.Whole = refl
kinds_word kind.Flag = refl
kinds_word kind.Opaque = refl
kinds_word kind.Moment = refl
kinds_word kind.Link = refl

values_word : (v : Value) → IsValue v → IsWord (value_word v)
values_word (value.Text t) h = text_word t
values_word (value.Whole z) h = integer_word z h
values_word (value.Flag true) h = refl
values_word (value.Flag false) h = refl
values_word (value.Opaque b) h = bytes_word b
values_word (value.Moment z) h = integer_word z h
values_word (value.Link o i) h = links_word o i h.0 h.1

pub value_words : (v : Value) → IsValue v → words (spelling_of_value v) ≡ kind_word (kind_of v) ∷ value_word v ∷ []
value_words v h =
    words_again (kind_word (kind_of v) ∷ value_word v ∷ []) (kinds_word (kind_of v), (values_word v h, tt))

spelled_again : (v : Value) → IsValue v → value_at (words (spelling_of_value v)) ≡ Ok (v, [])
spelled_again v h = ap value_at (value_words v h) ∙ value_at_again v [] h

-- what was written, where it was, is read again
pub read_again : {S E : Type 0} (bytes : S → List ℕ) (r : Result S E) (v : Value)
    → IfOk r (λ s. bytes s ≡ spelling_of_value v)
    → IsValue v → IfOk r (λ s. value_at (words (bytes s)) ≡ Ok (v, []))
read_again bytes (Ok s) v e h = ap (λ bs. value_at (words bs)) e ∙ spelled_again v h
read_again bytes (Err f) v e h = tt
