-- A word of a line, byte by byte.
use Rattle.std.proofs.Common.{◌≡◌, ◌≢◌, ℕ, ◌+◌, ◌<◌, not, ◌&&◌, ◌||◌, Bool, true, false, cond, eqb, List, [], ◌∷◌, ◌++◌}
use Rattle.std.proofs.Common.{length, get_or, take, drop, refl, sym, ap, ◌∙◌, arith, append_assoc, add-one, drop-cons}
use Rattle.std.proofs.lemmas.Bool.{eq-eqb, ne_eqb, not-true}
use Rattle.std.proofs.lemmas.List.{take_more}
use Rattle.std.specs.List.{onto_first}
use Rattle.scenario_words.specs.Words.{Mode, gap, plain, quoted, scan, words}

-- a front put onto the first of some words
abbrev pub onto : List ℕ → List (List ℕ) → List (List ℕ)
onto w [] = w ∷ []
onto w (p ∷ ps) = (w ++ p) ∷ ps

-- the mode in a word, by whether its quotes are still open
abbrev pub mode_of : Bool → Mode
mode_of true = quoted
mode_of false = plain

onto_more : (w : List ℕ) (b : ℕ) (ps : List (List ℕ)) → onto w (onto_first b ps) ≡ onto (w ++ b ∷ []) ps
onto_more w b [] = refl
onto_more w b (p ∷ ps) = ap (λ x. x ∷ ps) (sym (append_assoc w (b ∷ []) p))

onto_one : (b : ℕ) (ps : List (List ℕ)) → onto (b ∷ []) ps ≡ onto_first b ps
onto_one b [] = refl
onto_one b (p ∷ ps) = refl

opened : (t : Bool) → mode_of t ≡ cond t quoted plain
opened true = refl
opened false = refl

closed : (t : Bool) → cond t plain quoted ≡ mode_of (not t)
closed true = refl
closed false = refl

-- the first byte of a word
pub first_byte : (line : List ℕ) → 0 < length line → get_or line 0 0 ≢ 32 → get_or line 0 0 ≢ 35
    → onto (take 1 line) (scan (mode_of (eqb (get_or line 0 0) 34)) (drop 1 line)) ≡ words line
first_byte [] some space comment = absurd (omega arith)
first_byte (b ∷ bs) some space comment =
    let no_space : eqb b 32 ≡ false = ne_eqb b 32 space in
    let no_comment : eqb b 35 ≡ false = ne_eqb b 35 comment in
    onto_one b (scan (mode_of (eqb b 34)) bs) ∙ ap (λ m. onto_first b (scan m bs)) (opened (eqb b 34))
    ∙ sym (ap (λ t. cond t (scan gap bs) (cond (eqb b 35) [] (onto_first b (scan (cond (eqb b 34) quoted plain) bs))))
    no_space
    ∙ ap (λ t. cond t [] (onto_first b (scan (cond (eqb b 34) quoted plain) bs))) no_comment)

-- the same of one that is no quotation mark, and of one that is
pub plain_first : (line : List ℕ) → 0 < length line → get_or line 0 0 ≢ 32 → get_or line 0 0 ≢ 35
    → get_or line 0 0 ≢ 34 → onto (take 1 line) (scan plain (drop 1 line)) ≡ words line
plain_first line some space comment quotes =
    ap (λ t. onto (take 1 line) (scan (mode_of t) (drop 1 line))) (sym (ne_eqb (get_or line 0 0) 34 quotes))
    ∙ first_byte line some space comment

pub quoted_first : (line : List ℕ) → 0 < length line → get_or line 0 0 ≡ 34
    → onto (take 1 line) (scan quoted (drop 1 line)) ≡ words line
quoted_first line some quotes =
    ap (λ t. onto (take 1 line) (scan (mode_of t) (drop 1 line))) (sym (eq-eqb (get_or line 0 0) 34 quotes))
    ∙ first_byte line some (λ e. omega arith) (λ e. omega arith)

no_space : (b : ℕ) (q : Bool) → q ≡ false → (q || not (eqb b 32)) ≡ true → eqb b 32 ≡ false
no_space b true e h = cc
no_space b false e h = not-true (eqb b 32) h

scan_more : (q : Bool) (b : ℕ) (bs : List ℕ) → (q || not (eqb b 32)) ≡ true
    → scan (mode_of q) (b ∷ bs) ≡ onto_first b (scan (mode_of (q && not (eqb b 34))) bs)
scan_more true b bs h = ap (λ m. onto_first b (scan m bs)) (closed (eqb b 34))
scan_more false b bs h = ap (λ t. cond t ([] ∷ scan gap bs) (onto_first b (scan plain bs))) (no_space b false refl h)

-- the place i of a list
pub drop_here : (line : List ℕ) (i : ℕ) → i < length line → drop i line ≡ get_or line i 0 ∷ drop (i + 1) line
drop_here line i inside = rw (add-one) (drop-cons line i 0 inside)

-- a further byte of it
pub next_byte : (line : List ℕ) (q : Bool) (i : ℕ) → i < length line → (q || not (eqb (get_or line i 0) 32)) ≡ true
    → onto (take (i + 1) line) (scan (mode_of (q && not (eqb (get_or line i 0) 34))) (drop (i + 1) line))
    ≡ onto (take i line) (scan (mode_of q) (drop i line))
next_byte line q i inside h =
    let behind = scan (mode_of (q && not (eqb (get_or line i 0) 34))) (drop (i + 1) line) in
    sym (ap (λ bs. onto (take i line) (scan (mode_of q) bs)) (drop_here line i inside)
    ∙ ap (onto (take i line)) (scan_more q (get_or line i 0) (drop (i + 1) line) h)
    ∙ onto_more (take i line) (get_or line i 0) behind
    ∙ ap (λ w. onto w behind) (sym (take_more line i 0 inside)))

-- a further byte outside quotes
pub plain_more : (line : List ℕ) (i : ℕ) → i < length line → get_or line i 0 ≢ 32
    → onto (take (i + 1) line) (scan plain (drop (i + 1) line)) ≡ onto (take i line) (scan plain (drop i line))
plain_more line i inside space = next_byte line false i inside (ap not (ne_eqb (get_or line i 0) 32 space))
