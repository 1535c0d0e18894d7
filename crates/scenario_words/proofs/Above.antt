-- Words of bytes above `#`: each is one word. So are numbers, bytes and paths that are written.
use Rattle.std.proofs.Common.{◌≡◌, ℕ, ◌/◌, ◌%◌, ◌<◌, ◌^◌, Bool, true, cond, ltb, List, [], ◌∷◌, ◌++◌, length, refl}
use Rattle.std.proofs.Common.{ap, ◌∙◌, arith}
use Rattle.std.specs.List.{list_all, onto_first, flat_map}
use Rattle.std.specs.Char.{is_ascii_digit}
use Rattle.std.specs.Fmt.{decimal}
use Rattle.std.proofs.lemmas.Bool.{and_parts, and_from, ne_eqb, ltb-true}
use Rattle.std.proofs.lemmas.Bool.Decides.{nat_tests}
use Rattle.std.proofs.lemmas.List.Folds.{list_all-append}
use Rattle.std.proofs.lemmas.Fmt.{decimal_nonempty}
use Rattle.object_defs.specs.Path.{path_text}
use Rattle.object_defs.specs.declared.path.Path.{Path}
use Rattle.object_defs.specs.declared.path.Path.TheVariants.{Object, Instance, Resource, Part}
use Rattle.scenario_words.specs.Words.{plain, quoted, scan, IsWord}
use Rattle.scenario_words.specs.HexWord.{digit_of, hex_byte, hex_word}
use Rattle.scenario_words.specs.PathWord.{IsPath}
use Rattle.scenario_words.proofs.Digits.{natural_digits}
use Rattle.scenario_words.proofs.NumberLaws.{is_natural-decimal}
use Rattle.scenario_words.proofs.WordLaws.{plain_byte, gap_byte}

abbrev pub above : List ℕ → Bool
above w = list_all (λ b. ltb 35 b) w

plain_end : (w : List ℕ) → above w ≡ true → scan plain (w ++ 32 ∷ []) ≡ w ∷ []
plain_end [] h = refl
plain_end (b ∷ w) h =
    let both = and_parts (ltb 35 b) (above w) h in
    let large : 35 < b = ltb-true 35 b both.0 in
    plain_byte b (w ++ 32 ∷ []) (λ e. omega arith) ∙ ap (onto_first b) (plain_end w both.1)

pub plain_word : (w : List ℕ) → 0 < length w → above w ≡ true → IsWord w
plain_word [] some h = absurd (omega arith)
plain_word (b ∷ w) some h =
    let both = and_parts (ltb 35 b) (above w) h in
    let large : 35 < b = ltb-true 35 b both.0 in
    gap_byte b (w ++ 32 ∷ []) (λ e. omega arith) (λ e. omega arith)
    ∙ ap (λ t. onto_first b (scan (cond t quoted plain) (w ++ 32 ∷ []))) (ne_eqb b 34 (λ e. omega arith))
    ∙ ap (onto_first b) (plain_end w both.1)

-- numbers

digit_above : (d : ℕ) → is_ascii_digit d ≡ true → ltb 35 d ≡ true
digit_above d h = grind (arith, nat_tests)

digits_above : (ds : List ℕ) → list_all is_ascii_digit ds ≡ true → above ds ≡ true
digits_above [] h = refl
digits_above (d ∷ ds) h =
    let both = and_parts (is_ascii_digit d) (list_all is_ascii_digit ds) h in
    and_from _ _ (digit_above d both.0) (digits_above ds both.1)

pub decimal_above : (n : ℕ) → n < 2 ^ 64 → above (decimal n) ≡ true
decimal_above n h = digits_above (decimal n) (natural_digits (decimal n) (is_natural-decimal n h))

pub decimal_word : (n : ℕ) → n < 2 ^ 64 → IsWord (decimal n)
decimal_word n h = plain_word (decimal n) (decimal_nonempty n h) (decimal_above n h)

pub half_above : (n : ℕ) → n < 65536 → above (decimal n) ≡ true
half_above n h = decimal_above n (omega arith)

-- bytes

pub hex_digit_above : (v : ℕ) → ltb 35 (digit_of v) ≡ true
hex_digit_above v = grind (arith, nat_tests)

pub hex_above : (bs : List ℕ) → above (flat_map hex_byte bs) ≡ true
hex_above [] = refl
hex_above (b ∷ bs) = and_from _ _ (hex_digit_above (b / 16)) (and_from _ _ (hex_digit_above (b % 16)) (hex_above bs))

pub bytes_word : (bs : List ℕ) → IsWord (hex_word bs)
bytes_word [] = refl
bytes_word (b ∷ bs) = plain_word (flat_map hex_byte (b ∷ bs)) (omega arith) (hex_above (b ∷ bs))

-- paths and links

pub joined_above : (c : ℕ) (v w : List ℕ) → ltb 35 c ≡ true → above v ≡ true → above w ≡ true
    → above (v ++ c ∷ w) ≡ true
joined_above c v w k h m = list_all-append (λ b. ltb 35 b) v (c ∷ w) ∙ and_from _ _ h (and_from _ _ k m)

pub path_above : (p : Path) → IsPath p → above (path_text p) ≡ true
path_above (Object o) h = and_from _ _ refl (half_above o h)
path_above (Instance o i) h =
    and_from _ _ refl (joined_above 47 (decimal o) (decimal i) refl (half_above o h.0) (half_above i h.1))
path_above (Resource o i r) h =
    and_from _ _ refl (joined_above 47 (decimal o) (decimal i ++ 47 ∷ decimal r) refl (half_above o h.0)
    (joined_above 47 (decimal i) (decimal r) refl (half_above i h.1) (half_above r h.2)))
path_above (Part o i r p) h =
    and_from _ _ refl (joined_above 47 (decimal o) (decimal i ++ 47 ∷ (decimal r ++ 47 ∷ decimal p)) refl
    (half_above o h.0)
    (joined_above 47 (decimal i) (decimal r ++ 47 ∷ decimal p) refl (half_above i h.1)
    (joined_above 47 (decimal r) (decimal p) refl (half_above r h.2) (half_above p h.3))))

pub path_some : (p : Path) → 0 < length (path_text p)
path_some (Object o) = omega arith
path_some (Instance o i) = omega arith
path_some (Resource o i r) = omega arith
path_some (Part o i r p) = omega arith
