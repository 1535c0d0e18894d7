-- Words that are joined by spaces, and lines that are ended, are found again.
use Rattle.std.proofs.Common.{◌≡◌, ◌≢◌, ℕ, inl, inr, Bool, true, false, cond, eqb, List, [], ◌∷◌, ◌++◌, refl, ap, sym}
use Rattle.std.proofs.Common.{◌∙◌, append_assoc, append-nil}
use Rattle.std.specs.List.{onto_first, flat_map, join_with_byte, AllByRecursion}
use Rattle.std.proofs.lemmas.Bool.{cases_eq, eq-eqb, ne_eqb}
use Rattle.scenario_words.specs.Words.{Mode, gap, plain, quoted, scan, words, lines, ended_line, IsWord, IsLine}

pub onto_some : (b : ℕ) (ps : List (List ℕ)) → onto_first b ps ≡ [] → ⊥
onto_some b [] e = cc
onto_some b (p ∷ ps) e = cc

under : (b : ℕ) (ps : List (List ℕ)) (w : List ℕ) → (ps ≡ [] → ⊥) → onto_first b ps ≡ (b ∷ w) ∷ [] → ps ≡ w ∷ []
under b [] w some e = absurd (some refl)
under b (p ∷ ps) w some e = cc

pub chosen_some : (t : Bool) (b : ℕ) (x : List ℕ) (xs ps : List (List ℕ)) → cond t (x ∷ xs) (onto_first b ps) ≡ [] → ⊥
chosen_some true b x xs ps e = cc
chosen_some false b x xs ps e = onto_some b ps e

scan_some : (m : Mode) (bs : List ℕ) → m ≢ gap → scan m bs ≡ [] → ⊥
scan_some gap bs h e = h refl
scan_some plain [] h e = cc
scan_some plain (b ∷ bs) h e = chosen_some (eqb b 32) b [] (scan gap bs) (scan plain bs) e
scan_some quoted [] h e = cc
scan_some quoted (b ∷ bs) h e = onto_some b (scan (cond (eqb b 34) plain quoted) bs) e

pub plain_space : (b : ℕ) (bs : List ℕ) → b ≡ 32 → scan plain (b ∷ bs) ≡ [] ∷ scan gap bs
plain_space b bs e = ap (λ t. cond t ([] ∷ scan gap bs) (onto_first b (scan plain bs))) (eq-eqb b 32 e)

pub plain_byte : (b : ℕ) (bs : List ℕ) → b ≢ 32 → scan plain (b ∷ bs) ≡ onto_first b (scan plain bs)
plain_byte b bs e = ap (λ t. cond t ([] ∷ scan gap bs) (onto_first b (scan plain bs))) (ne_eqb b 32 e)

pub quoted_quote : (b : ℕ) (bs : List ℕ) → b ≡ 34 → scan quoted (b ∷ bs) ≡ onto_first b (scan plain bs)
quoted_quote b bs e = ap (λ t. onto_first b (scan (cond t plain quoted) bs)) (eq-eqb b 34 e)

pub quoted_byte : (b : ℕ) (bs : List ℕ) → b ≢ 34 → scan quoted (b ∷ bs) ≡ onto_first b (scan quoted bs)
quoted_byte b bs e = ap (λ t. onto_first b (scan (cond t plain quoted) bs)) (ne_eqb b 34 e)

-- what ends a word: tail is read as an empty rest of it, and these words
plain_then : (w tail : List ℕ) (ws : List (List ℕ)) → scan plain tail ≡ [] ∷ ws → scan plain (w ++ 32 ∷ []) ≡ w ∷ []
    → scan plain (w ++ tail) ≡ w ∷ ws
plain_then [] tail ws t e = t
plain_then (b ∷ w) tail ws t e = elim (cases_eq b 32) [
  | inl space ↦ let h : [] ∷ scan gap (w ++ 32 ∷ []) ≡ (b ∷ w) ∷ [] =
      sym (plain_space b (w ++ 32 ∷ []) space) ∙ e in cc (h)
  | inr other ↦
      let rest = under b (scan plain (w ++ 32 ∷ [])) w (scan_some plain (w ++ 32 ∷ []) (λ h. cc (h)))
      (sym (plain_byte b (w ++ 32 ∷ []) other) ∙ e) in
      plain_byte b (w ++ tail) other ∙ ap (onto_first b) (plain_then w tail ws t rest)
]

quoted_then : (w tail : List ℕ) (ws : List (List ℕ)) → scan plain tail ≡ [] ∷ ws → scan quoted (w ++ 32 ∷ []) ≡ w ∷ []
    → scan quoted (w ++ tail) ≡ w ∷ ws
quoted_then [] tail ws t e = cc
quoted_then (b ∷ w) tail ws t e = elim (cases_eq b 34) [
  | inl quote ↦
      let rest = under b (scan plain (w ++ 32 ∷ [])) w (scan_some plain (w ++ 32 ∷ []) (λ h. cc (h)))
      (sym (quoted_quote b (w ++ 32 ∷ []) quote) ∙ e) in
      quoted_quote b (w ++ tail) quote ∙ ap (onto_first b) (plain_then w tail ws t rest)
  | inr other ↦
      let rest = under b (scan quoted (w ++ 32 ∷ [])) w (scan_some quoted (w ++ 32 ∷ []) (λ h. cc (h)))
      (sym (quoted_byte b (w ++ 32 ∷ []) other) ∙ e) in
      quoted_byte b (w ++ tail) other ∙ ap (onto_first b) (quoted_then w tail ws t rest)
]

pub gap_space : (b : ℕ) (bs : List ℕ) → b ≡ 32 → scan gap (b ∷ bs) ≡ scan gap bs
gap_space b bs e =
    ap (λ t. cond t (scan gap bs) (cond (eqb b 35) [] (onto_first b (scan (cond (eqb b 34) quoted plain) bs))))
    (eq-eqb b 32 e)

pub gap_comment : (b : ℕ) (bs : List ℕ) → b ≢ 32 → b ≡ 35 → scan gap (b ∷ bs) ≡ []
gap_comment b bs s e =
    ap (λ t. cond t (scan gap bs) (cond (eqb b 35) [] (onto_first b (scan (cond (eqb b 34) quoted plain) bs))))
    (ne_eqb b 32 s)
    ∙ ap (λ t. cond t [] (onto_first b (scan (cond (eqb b 34) quoted plain) bs))) (eq-eqb b 35 e)

pub gap_byte : (b : ℕ) (bs : List ℕ) → b ≢ 32 → b ≢ 35
    → scan gap (b ∷ bs) ≡ onto_first b (scan (cond (eqb b 34) quoted plain) bs)
gap_byte b bs s e =
    ap (λ t. cond t (scan gap bs) (cond (eqb b 35) [] (onto_first b (scan (cond (eqb b 34) quoted plain) bs))))
    (ne_eqb b 32 s)
    ∙ ap (λ t. cond t [] (onto_first b (scan (cond (eqb b 34) quoted plain) bs))) (ne_eqb b 35 e)

onto_begins : (b c : ℕ) (ps : List (List ℕ)) (x : List ℕ) (xs : List (List ℕ)) → onto_first b ps ≡ (c ∷ x) ∷ xs → b ≡ c
onto_begins b c [] x xs e = cc
onto_begins b c (p ∷ ps) x xs e = cc

-- no word begins with a space
no_space_first : (bs x : List ℕ) (xs : List (List ℕ)) → scan gap bs ≡ (32 ∷ x) ∷ xs → ⊥
no_space_first [] x xs e = cc
no_space_first (b ∷ bs) x xs e = elim (cases_eq b 32) [
  | inl space ↦ no_space_first bs x xs (sym (gap_space b bs space) ∙ e)
  | inr other ↦ elim (cases_eq b 35) [
    | inl comment ↦ let h : [] ≡ (32 ∷ x) ∷ xs = sym (gap_comment b bs other comment) ∙ e in cc (h)
    | inr byte ↦ other (onto_begins b 32 (scan (cond (eqb b 34) quoted plain) bs) x xs
        (sym (gap_byte b bs other byte) ∙ e))
  ]
]

mode_then : (q : Bool) (w tail : List ℕ) (ws : List (List ℕ)) → scan plain tail ≡ [] ∷ ws
    → scan (cond q quoted plain) (w ++ 32 ∷ []) ≡ w ∷ [] → scan (cond q quoted plain) (w ++ tail) ≡ w ∷ ws
mode_then true = quoted_then
mode_then false = plain_then

pub mode_some : (q : Bool) (bs : List ℕ) → scan (cond q quoted plain) bs ≡ [] → ⊥
mode_some true bs e = scan_some quoted bs (λ h. cc (h)) e
mode_some false bs e = scan_some plain bs (λ h. cc (h)) e

word_then : (w tail : List ℕ) (ws : List (List ℕ)) → scan plain tail ≡ [] ∷ ws → IsWord w → words (w ++ tail) ≡ w ∷ ws
word_then [] tail ws t e = cc
word_then (b ∷ w) tail ws t e = elim (cases_eq b 32) [
  | inl space ↦ absurd (no_space_first (w ++ 32 ∷ []) w []
      (sym (gap_space b (w ++ 32 ∷ []) space) ∙ e ∙ ap (λ c. (c ∷ w) ∷ []) space))
  | inr other ↦ elim (cases_eq b 35) [
    | inl comment ↦ let h : [] ≡ (b ∷ w) ∷ [] = sym (gap_comment b (w ++ 32 ∷ []) other comment) ∙ e in cc (h)
    | inr byte ↦
        let rest = under b (scan (cond (eqb b 34) quoted plain) (w ++ 32 ∷ [])) w (mode_some (eqb b 34) (w ++ 32 ∷ []))
        (sym (gap_byte b (w ++ 32 ∷ []) other byte) ∙ e) in
        gap_byte b (w ++ tail) other byte ∙ ap (onto_first b) (mode_then (eqb b 34) w tail ws t rest)
  ]
]

pub words_again : (ws : List (List ℕ)) → AllByRecursion IsWord ws → words (join_with_byte 32 ws) ≡ ws
words_again [] h = refl
words_again (w ∷ []) h = ap words (sym (append-nil w)) ∙ word_then w [] [] refl h.0
words_again (w ∷ v ∷ ws) h =
    word_then w (32 ∷ join_with_byte 32 (v ∷ ws)) (words (join_with_byte 32 (v ∷ ws))) refl h.0
    ∙ ap (λ r. w ∷ r) (words_again (v ∷ ws) h.1)

-- lines

split_some : (bs : List ℕ) → lines bs ≡ [] → ⊥
split_some [] e = cc
split_some (b ∷ bs) e = chosen_some (eqb b 10) b [] (lines bs) (lines bs) e

line_end : (b : ℕ) (bs : List ℕ) → b ≡ 10 → lines (b ∷ bs) ≡ [] ∷ lines bs
line_end b bs e = ap (λ t. cond t ([] ∷ lines bs) (onto_first b (lines bs))) (eq-eqb b 10 e)

pub line_byte : (b : ℕ) (bs : List ℕ) → b ≢ 10 → lines (b ∷ bs) ≡ onto_first b (lines bs)
line_byte b bs e = ap (λ t. cond t ([] ∷ lines bs) (onto_first b (lines bs))) (ne_eqb b 10 e)

line_then : (l rest : List ℕ) → IsLine l → lines (l ++ 10 ∷ rest) ≡ l ∷ lines rest
line_then [] rest e = refl
line_then (b ∷ l) rest e = elim (cases_eq b 10) [
  | inl lf ↦ let h : [] ∷ lines l ≡ (b ∷ l) ∷ [] = sym (line_end b l lf) ∙ e in cc (h)
  | inr other ↦
      let behind = under b (lines l) l (split_some l) (sym (line_byte b l other) ∙ e) in
      line_byte b (l ++ 10 ∷ rest) other ∙ ap (onto_first b) (line_then l rest behind)
]

pub lines_again : (ls : List (List ℕ)) → AllByRecursion IsLine ls → lines (flat_map ended_line ls) ≡ ls ++ [] ∷ []
lines_again [] h = refl
lines_again (l ∷ ls) h =
    ap lines (append_assoc l (10 ∷ []) (flat_map ended_line ls)) ∙ line_then l (flat_map ended_line ls) h.0
    ∙ ap (λ r. l ∷ r) (lines_again ls h.1)
