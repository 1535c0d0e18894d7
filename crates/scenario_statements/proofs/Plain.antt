-- Words of bytes above `#`, which stand between spaces as they are; and bytes that stand in one line.
use Rattle.std.proofs.Common.{◌≡◌, ℕ, ◌/◌, ◌%◌, ◌<◌, ◌^◌, inl, inr, ◌&&◌, Bool, true, false, cond, ltb, List, []}
use Rattle.std.proofs.Common.{◌∷◌, ◌++◌, length, refl, ap, ◌∙◌, arith, pos, negsuc, suc}
use Rattle.std.specs.List.{list_all, onto_first, flat_map, join_with_byte}
use Rattle.std.specs.Fmt.{decimal}
use Rattle.std.proofs.lemmas.Bool.{and_parts, and_from, cases_Bool, ne_eqb, ltb-true, lt-ltb}
use Rattle.std.proofs.lemmas.Bool.Decides.{nat_tests}
use Rattle.std.proofs.lemmas.List.Folds.{list_all-append}
use Rattle.std.proofs.lemmas.Fmt.{decimal_nonempty}
use Rattle.object_defs.specs.declared.path.Path.{Path}
use Rattle.lwm2m_values.specs.declared.value.Value.{Value}
use Rattle.lwm2m_values.specs.declared.value.Value.TheVariants as value
use Rattle.lwm2m_values.specs.declared.kind.ValueKind.{ValueKind}
use Rattle.lwm2m_values.specs.declared.kind.ValueKind.TheVariants as kind
use Rattle.scenario_words.specs.Words.{gap, plain, quoted, scan, words, IsLine}
use Rattle.scenario_words.specs.HexWord.{digit_of, hex_byte, hex_word}
use Rattle.scenario_words.specs.Quoted.{is_plain, escaped_byte, quoted_word}
use Rattle.scenario_words.specs.PathWord.{IsPath, link_word}
use Rattle.object_defs.specs.Path.{path_text}
use Rattle.scenario_words.specs.ValueWords.{kind_word, value_word, IsValue}
use Rattle.scenario_words.proofs.WordLaws.{plain_byte, gap_byte, line_byte}
use Rattle.scenario_words.proofs.Above.{above, decimal_above, half_above, hex_digit_above, hex_above, joined_above}
use Rattle.scenario_words.proofs.Above.{path_above, path_some}

-- some bytes, each above `#`
abbrev pub is_bare : List ℕ → Bool
is_bare w = ltb 0 (length w) && above w

-- no byte below a space
abbrev pub is_shown : List ℕ → Bool
is_shown w = list_all (λ b. ltb 31 b) w

plain_then : (w rest : List ℕ) → above w ≡ true → scan plain (w ++ 32 ∷ rest) ≡ w ∷ words rest
plain_then [] rest h = refl
plain_then (b ∷ w) rest h =
    let both = and_parts (ltb 35 b) (above w) h in
    let large : 35 < b = ltb-true 35 b both.0 in
    plain_byte b (w ++ 32 ∷ rest) (λ e. omega arith) ∙ ap (onto_first b) (plain_then w rest both.1)

plain_last : (w : List ℕ) → above w ≡ true → scan plain w ≡ w ∷ []
plain_last [] h = refl
plain_last (b ∷ w) h =
    let both = and_parts (ltb 35 b) (above w) h in
    let large : 35 < b = ltb-true 35 b both.0 in
    plain_byte b w (λ e. omega arith) ∙ ap (onto_first b) (plain_last w both.1)

not_quote : (b : ℕ) (bs : List ℕ) → 35 < b → scan gap (b ∷ bs) ≡ onto_first b (scan plain bs)
not_quote b bs large =
    gap_byte b bs (λ e. omega arith) (λ e. omega arith)
    ∙ ap (λ t. onto_first b (scan (cond t quoted plain) bs)) (ne_eqb b 34 (λ e. omega arith))

-- a bare word, and what stands after the space that ends it
pub word_then : (w rest : List ℕ) → is_bare w ≡ true → words (w ++ 32 ∷ rest) ≡ w ∷ words rest
word_then [] rest h = cc
word_then (b ∷ w) rest h =
    let all = and_parts (ltb 0 (length (b ∷ w))) (above (b ∷ w)) h in
    let both = and_parts (ltb 35 b) (above w) all.1 in
    let large : 35 < b = ltb-true 35 b both.0 in
    not_quote b (w ++ 32 ∷ rest) large ∙ ap (onto_first b) (plain_then w rest both.1)

-- a bare word at the end of a line
pub word_last : (w : List ℕ) → is_bare w ≡ true → words w ≡ w ∷ []
word_last [] h = cc
word_last (b ∷ w) h =
    let all = and_parts (ltb 0 (length (b ∷ w))) (above (b ∷ w)) h in
    let both = and_parts (ltb 35 b) (above w) all.1 in
    let large : 35 < b = ltb-true 35 b both.0 in
    not_quote b w large ∙ ap (onto_first b) (plain_last w both.1)

-- bare words that are joined by spaces are found again
pub bare_words : (ws : List (List ℕ)) → list_all is_bare ws ≡ true → words (join_with_byte 32 ws) ≡ ws
bare_words [] h = refl
bare_words (w ∷ []) h = word_last w (and_parts (is_bare w) true h).0
bare_words (w ∷ v ∷ ws) h =
    let both = and_parts (is_bare w) (list_all is_bare (v ∷ ws)) h in
    word_then w (join_with_byte 32 (v ∷ ws)) both.0 ∙ ap (λ r. w ∷ r) (bare_words (v ∷ ws) both.1)

-- ---- which words are bare

bare_from : (w : List ℕ) → 0 < length w → above w ≡ true → is_bare w ≡ true
bare_from w some h = and_from _ _ (lt-ltb 0 (length w) some) h

pub decimal_bare : (n : ℕ) → n < 2 ^ 64 → is_bare (decimal n) ≡ true
decimal_bare n h = bare_from (decimal n) (decimal_nonempty n h) (decimal_above n h)

pub hex_bare : (bs : List ℕ) → is_bare (hex_word bs) ≡ true
hex_bare [] = refl
hex_bare (b ∷ bs) = bare_from (flat_map hex_byte (b ∷ bs)) (omega arith) (hex_above (b ∷ bs))

pub path_bare : (p : Path) → IsPath p → is_bare (path_text p) ≡ true
path_bare p h = bare_from (path_text p) (path_some p) (path_above p h)

-- ---- bytes of one line

pub shown_line : (bs : List ℕ) → is_shown bs ≡ true → IsLine bs
shown_line [] h = refl
shown_line (b ∷ bs) h =
    let both = and_parts (ltb 31 b) (is_shown bs) h in
    let large : 31 < b = ltb-true 31 b both.0 in
    line_byte b bs (λ e. omega arith) ∙ ap (onto_first b) (shown_line bs both.1)

above_shown_byte : (b : ℕ) → ltb 35 b ≡ true → ltb 31 b ≡ true
above_shown_byte b h = grind (arith, nat_tests)

above_shown : (w : List ℕ) → above w ≡ true → is_shown w ≡ true
above_shown [] h = refl
above_shown (b ∷ w) h = let both =
    and_parts (ltb 35 b) (above w) h in and_from _ _ (above_shown_byte b both.0) (above_shown w both.1)

pub bare_shown : (w : List ℕ) → is_bare w ≡ true → is_shown w ≡ true
bare_shown w h = above_shown w (and_parts (ltb 0 (length w)) (above w) h).1

pub spaced_shown : (v w : List ℕ) → is_shown v ≡ true → is_shown w ≡ true → is_shown (v ++ 32 ∷ w) ≡ true
spaced_shown v w h k = list_all-append (λ b. ltb 31 b) v (32 ∷ w) ∙ and_from _ _ h (and_from _ _ refl k)

pub bare_line : (ws : List (List ℕ)) → list_all is_bare ws ≡ true → is_shown (join_with_byte 32 ws) ≡ true
bare_line [] h = refl
bare_line (w ∷ []) h = bare_shown w (and_parts (is_bare w) true h).0
bare_line (w ∷ v ∷ ws) h =
    let both = and_parts (is_bare w) (list_all is_bare (v ∷ ws)) h in
    spaced_shown w (join_with_byte 32 (v ∷ ws)) (bare_shown w both.0) (bare_line (v ∷ ws) both.1)

plain_shown : (b : ℕ) → is_plain b ≡ true → ltb 31 b ≡ true
plain_shown b h = grind (arith, nat_tests)

hex_digit_shown : (v : ℕ) → ltb 31 (digit_of v) ≡ true
hex_digit_shown v = above_shown_byte (digit_of v) (hex_digit_above v)

escaped_shown : (b : ℕ) → is_shown (escaped_byte b) ≡ true
escaped_shown b = elim (cases_Bool (is_plain b)) [
  | inl itself ↦ ap (λ t. is_shown (cond t (b ∷ []) (92 ∷ hex_byte b))) itself
      ∙ and_from _ _ (plain_shown b itself) refl
  | inr other ↦
      ap (λ t. is_shown (cond t (b ∷ []) (92 ∷ hex_byte b))) other
      ∙ and_from _ _ refl (and_from _ _ (hex_digit_shown (b / 16)) (and_from _ _ (hex_digit_shown (b % 16)) refl))
]

texts_shown : (t : List ℕ) → is_shown (flat_map escaped_byte t) ≡ true
texts_shown [] = refl
texts_shown (b ∷ t) =
    list_all-append (λ x. ltb 31 x) (escaped_byte b) (flat_map escaped_byte t)
    ∙ and_from _ _ (escaped_shown b) (texts_shown t)

quoted_shown : (t : List ℕ) → is_shown (quoted_word t) ≡ true
quoted_shown t =
    and_from _ _ refl (list_all-append (λ x. ltb 31 x) (flat_map escaped_byte t) (34 ∷ [])
    ∙ and_from _ _ (texts_shown t) refl)

pub value_shown : (v : Value) → IsValue v → is_shown (value_word v) ≡ true
value_shown (value.Text t) h = quoted_shown t
value_shown (value.Whole (pos n)) h = bare_shown (decimal n) (decimal_bare n (omega (arith, h.sfits)))
value_shown (value.Whole (negsuc n)) h =
    above_shown (45 ∷ decimal (suc n)) (and_from _ _ refl (decimal_above (suc n) (omega (arith, h.sfits))))
value_shown (value.Flag true) h = refl
value_shown (value.Flag false) h = refl
value_shown (value.Opaque b) h = bare_shown (hex_word b) (hex_bare b)
value_shown (value.Moment (pos n)) h = bare_shown (decimal n) (decimal_bare n (omega (arith, h.sfits)))
value_shown (value.Moment (negsuc n)) h =
    above_shown (45 ∷ decimal (suc n)) (and_from _ _ refl (decimal_above (suc n) (omega (arith, h.sfits))))
value_shown (value.Link o i) h =
    above_shown (link_word o i) (joined_above 58 (decimal o) (decimal i) refl (half_above o h.0) (half_above i h.1))

pub kind_bare : (k : ValueKind) → is_bare (kind_word k) ≡ true
kind_bare kind.Text = refl
kind_bare kind.Whole = refl
kind_bare kind.Flag = refl
kind_bare kind.Opaque = refl
kind_bare kind.Moment = refl
kind_bare kind.Link = refl
