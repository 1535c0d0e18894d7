-- A word of a line, by itself and before others.
use Rattle.std.proofs.Common.{◌≡◌, ◌≢◌, ℕ, inl, inr, Bool, true, false, cond, eqb, List, [], ◌∷◌, ◌++◌, refl, ap, sym}
use Rattle.std.proofs.Common.{◌∙◌, subst}
use Rattle.std.specs.List.{onto_first}
use Rattle.std.proofs.lemmas.Bool.{cases_eq}
use Rattle.scenario_words.specs.Words.{Mode, gap, plain, quoted, scan, words}
use Rattle.scenario_words.proofs.WordLaws.{gap_byte, gap_comment, gap_space, plain_byte, plain_space, quoted_byte}
use Rattle.scenario_words.proofs.WordLaws.{quoted_quote, mode_some, onto_some, chosen_some}

-- what is left of a word is there, if it is empty
plain_some : (bs : List ℕ) → scan plain bs ≡ [] → ⊥
plain_some [] e = cc
plain_some (b ∷ bs) e = chosen_some (eqb b 32) b [] (scan gap bs) (scan plain bs) e

quoted_some : (bs : List ℕ) → scan quoted bs ≡ [] → ⊥
quoted_some [] e = cc
quoted_some (b ∷ bs) e = onto_some b (scan (cond (eqb b 34) plain quoted) bs) e

-- the first word without its first byte
under : (b : ℕ) (ps : List (List ℕ)) (w : List ℕ) (ws : List (List ℕ)) → (ps ≡ [] → ⊥) → onto_first b ps ≡ w ∷ ws
    → (p : List ℕ) × (w ≡ b ∷ p) × (ps ≡ p ∷ ws)
under b [] w ws some e = absurd (some refl)
under b (p ∷ ps) w ws some e = let h : (b ∷ p) ∷ ps ≡ w ∷ ws = e in (p, cc, cc)

-- ---- a word by itself is this word

plain_alone : (bs w : List ℕ) (ws : List (List ℕ)) → scan plain bs ≡ w ∷ ws → scan plain w ≡ w ∷ []
plain_alone [] w ws e = let none : [] ≡ w = cc in subst (λ v. scan plain v ≡ v ∷ []) none refl
plain_alone (b ∷ bs) w ws e = elim (cases_eq b 32) [
  | inl space ↦
      let h : [] ∷ scan gap bs ≡ w ∷ ws = sym (plain_space b bs space) ∙ e in
      let none : [] ≡ w = cc in subst (λ v. scan plain v ≡ v ∷ []) none refl
  | inr other ↦
      let u = under b (scan plain bs) w ws (plain_some bs) (sym (plain_byte b bs other) ∙ e) in
      subst (λ v. scan plain v ≡ v ∷ []) (sym u.1)
      (plain_byte b u.0 other ∙ ap (onto_first b) (plain_alone bs u.0 ws u.2))
]

quoted_alone : (bs w : List ℕ) (ws : List (List ℕ)) → scan quoted bs ≡ w ∷ ws → scan quoted w ≡ w ∷ []
quoted_alone [] w ws e = let none : [] ≡ w = cc in subst (λ v. scan quoted v ≡ v ∷ []) none refl
quoted_alone (b ∷ bs) w ws e = elim (cases_eq b 34) [
  | inl quote ↦
      let u = under b (scan plain bs) w ws (plain_some bs) (sym (quoted_quote b bs quote) ∙ e) in
      subst (λ v. scan quoted v ≡ v ∷ []) (sym u.1)
      (quoted_quote b u.0 quote ∙ ap (onto_first b) (plain_alone bs u.0 ws u.2))
  | inr other ↦
      let u = under b (scan quoted bs) w ws (quoted_some bs) (sym (quoted_byte b bs other) ∙ e) in
      subst (λ v. scan quoted v ≡ v ∷ []) (sym u.1)
      (quoted_byte b u.0 other ∙ ap (onto_first b) (quoted_alone bs u.0 ws u.2))
]

mode_alone : (q : Bool) (bs w : List ℕ) (ws : List (List ℕ)) → scan (cond q quoted plain) bs ≡ w ∷ ws
    → scan (cond q quoted plain) w ≡ w ∷ []
mode_alone true = quoted_alone
mode_alone false = plain_alone

pub word_alone : (line w : List ℕ) (ws : List (List ℕ)) → words line ≡ w ∷ ws → words w ≡ w ∷ []
word_alone [] w ws e = cc
word_alone (b ∷ bs) w ws e = elim (cases_eq b 32) [
  | inl space ↦ word_alone bs w ws (sym (gap_space b bs space) ∙ e)
  | inr other ↦ elim (cases_eq b 35) [
    | inl comment ↦ let h : [] ≡ w ∷ ws = sym (gap_comment b bs other comment) ∙ e in cc
    | inr byte ↦
        let rest = scan (cond (eqb b 34) quoted plain) bs in
        let u = under b rest w ws (mode_some (eqb b 34) bs) (sym (gap_byte b bs other byte) ∙ e) in
        subst (λ v. words v ≡ v ∷ []) (sym u.1)
        (gap_byte b u.0 other byte ∙ ap (onto_first b) (mode_alone (eqb b 34) bs u.0 ws u.2))
  ]
]

-- ---- a word that another follows ended at a space, as it does before any other words

plain_before : (bs w v : List ℕ) (ws : List (List ℕ)) (x : List ℕ) → scan plain bs ≡ w ∷ v ∷ ws
    → scan plain (w ++ 32 ∷ x) ≡ w ∷ scan gap x
plain_before [] w v ws x e = cc
plain_before (b ∷ bs) w v ws x e = elim (cases_eq b 32) [
  | inl space ↦
      let h : [] ∷ scan gap bs ≡ w ∷ v ∷ ws = sym (plain_space b bs space) ∙ e in
      let none : [] ≡ w = cc in subst (λ u. scan plain (u ++ 32 ∷ x) ≡ u ∷ scan gap x) none refl
  | inr other ↦
      let u = under b (scan plain bs) w (v ∷ ws) (plain_some bs) (sym (plain_byte b bs other) ∙ e) in
      subst (λ y. scan plain (y ++ 32 ∷ x) ≡ y ∷ scan gap x) (sym u.1)
      (plain_byte b (u.0 ++ 32 ∷ x) other ∙ ap (onto_first b) (plain_before bs u.0 v ws x u.2))
]

quoted_before : (bs w v : List ℕ) (ws : List (List ℕ)) (x : List ℕ) → scan quoted bs ≡ w ∷ v ∷ ws
    → scan quoted (w ++ 32 ∷ x) ≡ w ∷ scan gap x
quoted_before [] w v ws x e = cc
quoted_before (b ∷ bs) w v ws x e = elim (cases_eq b 34) [
  | inl quote ↦
      let u = under b (scan plain bs) w (v ∷ ws) (plain_some bs) (sym (quoted_quote b bs quote) ∙ e) in
      subst (λ y. scan quoted (y ++ 32 ∷ x) ≡ y ∷ scan gap x) (sym u.1)
      (quoted_quote b (u.0 ++ 32 ∷ x) quote ∙ ap (onto_first b) (plain_before bs u.0 v ws x u.2))
  | inr other ↦
      let u = under b (scan quoted bs) w (v ∷ ws) (quoted_some bs) (sym (quoted_byte b bs other) ∙ e) in
      subst (λ y. scan quoted (y ++ 32 ∷ x) ≡ y ∷ scan gap x) (sym u.1)
      (quoted_byte b (u.0 ++ 32 ∷ x) other ∙ ap (onto_first b) (quoted_before bs u.0 v ws x u.2))
]

mode_before : (q : Bool) (bs w v : List ℕ) (ws : List (List ℕ)) (x : List ℕ)
    → scan (cond q quoted plain) bs ≡ w ∷ v ∷ ws → scan (cond q quoted plain) (w ++ 32 ∷ x) ≡ w ∷ scan gap x
mode_before true = quoted_before
mode_before false = plain_before

pub word_before : (line w v : List ℕ) (ws : List (List ℕ)) (x : List ℕ) → words line ≡ w ∷ v ∷ ws
    → words (w ++ 32 ∷ x) ≡ w ∷ words x
word_before [] w v ws x e = cc
word_before (b ∷ bs) w v ws x e = elim (cases_eq b 32) [
  | inl space ↦ word_before bs w v ws x (sym (gap_space b bs space) ∙ e)
  | inr other ↦ elim (cases_eq b 35) [
    | inl comment ↦ let h : [] ≡ w ∷ v ∷ ws = sym (gap_comment b bs other comment) ∙ e in cc
    | inr byte ↦
        let rest = scan (cond (eqb b 34) quoted plain) bs in
        let u = under b rest w (v ∷ ws) (mode_some (eqb b 34) bs) (sym (gap_byte b bs other byte) ∙ e) in
        subst (λ y. words (y ++ 32 ∷ x) ≡ y ∷ words x) (sym u.1)
        (gap_byte b (u.0 ++ 32 ∷ x) other byte ∙ ap (onto_first b) (mode_before (eqb b 34) bs u.0 v ws x u.2))
  ]
]
