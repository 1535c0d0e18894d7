-- Bytes cut at the first that is one byte.
use Rattle.std.proofs.Common.{◌≡◌, ℕ, ◌+◌, ◌≤◌, suc, not, Bool, true, false, cond, eqb, ltb, List, [], ◌∷◌, length}
use Rattle.std.proofs.Common.{take, drop, Option, Some, None, refl, ap, ◌∙◌, sym, arith, ltb-true}
use Rattle.std.proofs.lemmas.Bool.{ltb-false, lt-ltb, cond-true, cond-false, false_from_ne_true}
use Rattle.std.specs.List.{slice_split, onto_first, position, position_or_len}
use Rattle.scenario_words.specs.Words.{HasTwo}
use Rattle.std.proofs.lemmas.List.Splits.{slice_split_first}
use Rattle.std.proofs.lemmas.List.Sums.{position_or_len_is}
use Rattle.memchr.specs.Find.{IsFirstByte, is_byte}
use Rattle.std.proofs.lemmas.Option.{cond_some}
use Rattle.lemmas.proofs.Options.{no_choice}

-- the first place that holds the byte, as a search finds it, is the first that passes the test
pub place_found : (c : ℕ) (bs : List ℕ) (r : Option ℕ) → IsFirstByte (is_byte c) bs r
    → r ≡ position (λ b. eqb b c) bs
place_found c bs None h =
    let at = position_or_len_is (λ b. eqb b c) bs (length bs) 0 (omega arith)
    (λ k l. false_from_ne_true _ (h k (omega arith) l)) (λ l. absurd (omega (arith, l))) in
    sym (cond-false (ltb _ _) (Some (position_or_len (λ b. eqb b c) bs)) None
    (false_from_ne_true _ (λ t. absurd (omega (arith, at, ltb-true _ _ t)))))
place_found c bs (Some k) h =
    let at = position_or_len_is (λ b. eqb b c) bs k 0 (omega (arith, h.0.high))
    (λ i l. false_from_ne_true _ (h.0.before i (omega arith) l)) (λ l. h.1) in
    sym (cond-true (ltb _ _) (Some (position_or_len (λ b. eqb b c) bs)) None (lt-ltb _ _ (omega (arith, at, h.0.high)))
    ∙ ap Some at)

-- the first part ends at the first place
pub split_at_place : (p : ℕ → Bool) (bs : List ℕ) (k : ℕ) → position p bs ≡ Some k
    → slice_split p bs ≡ take k bs ∷ slice_split p (drop (k + 1) bs)
split_at_place p bs k h =
    let found = cond_some (ltb (position_or_len p bs) (length bs)) (position_or_len p bs) k h in
    slice_split_first p bs 0 (ltb-true _ _ found.0) ∙ ap (λ n. take n bs ∷ slice_split p (drop (n + 1) bs)) found.1

one_more : (b : Bool) (x : ℕ) (xs : List ℕ) (s : List (List ℕ)) (n : ℕ) → (length xs ≤ n → s ≡ xs ∷ [])
    → suc (length xs) ≤ cond (not b) (1 + n) 0 → cond b ([] ∷ s) (onto_first x s) ≡ (x ∷ xs) ∷ []
one_more true x xs s n ih h = absurd (omega arith)
one_more false x xs s n ih h = ap (onto_first x) (ih (omega arith))

one_part : (p : ℕ → Bool) (bs : List ℕ) → length bs ≤ position_or_len p bs → slice_split p bs ≡ bs ∷ []
one_part p [] h = refl
one_part p (x ∷ xs) h = one_more (p x) x xs (slice_split p xs) (position_or_len p xs) (one_part p xs) h

-- with no such place there is one part
pub split_nowhere : (p : ℕ → Bool) (bs : List ℕ) → position p bs ≡ None → slice_split p bs ≡ bs ∷ []
split_nowhere p bs h =
    one_part p bs (ltb-false _ _ (no_choice (ltb (position_or_len p bs) (length bs)) (position_or_len p bs) h))

pub first_part : (b : Bool) (x : ℕ) (ps : List (List ℕ)) → (y : List ℕ) × (ys : List (List ℕ))
    × (cond b ([] ∷ ps) (onto_first x ps) ≡ y ∷ ys)
first_part true x ps = ([], ps, refl)
first_part false x [] = (x ∷ [], [], refl)
first_part false x (p ∷ ps) = (x ∷ p, ps, refl)

some_part : (p : ℕ → Bool) (bs : List ℕ) → (y : List ℕ) × (ys : List (List ℕ)) × (slice_split p bs ≡ y ∷ ys)
some_part p [] = ([], [], refl)
some_part p (x ∷ xs) = first_part (p x) x (slice_split p xs)

-- with such a place there are two parts
pub two_parts : (c : ℕ) (bs : List ℕ) (k : ℕ) → position (λ b. eqb b c) bs ≡ Some k
    → HasTwo (slice_split (λ b. eqb b c) bs)
two_parts c bs k h =
    let behind = some_part (λ b. eqb b c) (drop (k + 1) bs) in
    record {
      first = take k bs;
      second = behind.0;
      others = behind.1;
      are =
          split_at_place (λ b. eqb b c) bs k h ∙ ap (λ ps. take k bs ∷ ps) behind.2;
    }
