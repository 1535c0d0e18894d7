-- A line is cut into the words that it has.
use Rattle.std.proofs.Common.{◌≡◌, ◌≢◌, ◌⊎◌, ℕ, cond, List, [], ◌∷◌, ◌++◌, refl, sym}
use Rattle.std.proofs.Common.{ap, subst, ◌∙◌}
use Rattle.std.proofs.Common.{append_assoc, append-nil, inl, inr}
use Rattle.std.specs.List.{onto_first}
use Rattle.std.proofs.lemmas.Bool.{cases_eq, eq-eqb, ne_eqb}
use Rattle.scenario_words.specs.Words.{gap, plain, quoted, scan, words}
use Rattle.scenario_words.proofs.WordLaws.{plain_byte, gap_byte, plain_space, quoted_quote, quoted_byte, gap_space}
use Rattle.scenario_words.proofs.WordLaws.{gap_comment}
use Rattle.laws_reading.specs.Line.{AreSpaces, IsWithout, IsComment, IsBare, IsInQuotes, IsUnclosed, AreWords}
use Rattle.laws_reading.specs.Line.{LinesHaveWords}

-- a byte at a time

gap_quote : (b : ℕ) (bs : List ℕ) → b ≢ 32 → b ≢ 35 → b ≡ 34 → scan gap (b ∷ bs) ≡ onto_first b (scan quoted bs)
gap_quote b bs s c q = gap_byte b bs s c ∙ ap (λ t. onto_first b (scan (cond t quoted plain) bs)) (eq-eqb b 34 q)

gap_plain : (b : ℕ) (bs : List ℕ) → b ≢ 32 → b ≢ 35 → b ≢ 34 → scan gap (b ∷ bs) ≡ onto_first b (scan plain bs)
gap_plain b bs s c q = gap_byte b bs s c ∙ ap (λ t. onto_first b (scan (cond t quoted plain) bs)) (ne_eqb b 34 q)

-- what stands after a word, and the words there

abbrev Ends : List ℕ → List (List ℕ) → Type 0
Ends behind ws = ((behind ≡ []) × (ws ≡ [])) ⊎ ((rest : List ℕ) × (behind ≡ 32 ∷ rest) × AreWords rest ws)

-- from the words of a line to what is read

skip : (g x : List ℕ) → AreSpaces g → scan gap (g ++ x) ≡ scan gap x
skip [] x h = refl
skip (b ∷ g) x h = gap_space b (g ++ x) h.0 ∙ skip g x h.1

plain_run : (r tail : List ℕ) (ws : List (List ℕ)) → IsWithout 32 r → scan plain tail ≡ [] ∷ ws
    → scan plain (r ++ tail) ≡ r ∷ ws
plain_run [] tail ws h e = e
plain_run (b ∷ r) tail ws h e = plain_byte b (r ++ tail) h.0 ∙ ap (onto_first b) (plain_run r tail ws h.1 e)

quoted_run : (t tail u : List ℕ) (ws : List (List ℕ)) → IsWithout 34 t → scan quoted tail ≡ u ∷ ws
    → scan quoted (t ++ tail) ≡ (t ++ u) ∷ ws
quoted_run [] tail u ws h e = e
quoted_run (b ∷ t) tail u ws h e = quoted_byte b (t ++ tail) h.0 ∙ ap (onto_first b) (quoted_run t tail u ws h.1 e)

comment_read : (c : List ℕ) → IsComment c → scan gap c ≡ []
comment_read [] h = refl
comment_read (b ∷ bs) h = ap (λ x. scan gap (x ∷ bs)) h

bare_read : (w behind : List ℕ) (ws : List (List ℕ)) → IsBare w → scan plain behind ≡ [] ∷ ws
    → scan gap (w ++ behind) ≡ w ∷ ws
bare_read [] behind ws h e = absurd h
bare_read (b ∷ bs) behind ws h e =
    gap_plain b (bs ++ behind) h.2.0 h.1 h.0 ∙ ap (onto_first b) (plain_run bs behind ws h.2.1 e)

quotes_read : (w behind : List ℕ) (ws : List (List ℕ)) → IsInQuotes w → scan plain behind ≡ [] ∷ ws
    → scan gap (w ++ behind) ≡ w ∷ ws
quotes_read w behind ws h e =
    let text : List ℕ = h.0 in
    let rest : List ℕ = h.1 in
    let closing : scan quoted (34 ∷ rest ++ behind) ≡ (34 ∷ rest) ∷ ws =
    quoted_quote 34 (rest ++ behind) refl ∙ ap (onto_first 34) (plain_run rest behind ws h.4 e) in
    ap (λ x. scan gap (x ++ behind)) h.2
    ∙ ap (λ x. scan gap (34 ∷ x)) (append_assoc text (34 ∷ rest) behind)
    ∙ ap (onto_first 34) (quoted_run text (34 ∷ rest ++ behind) (34 ∷ rest) ws h.3 closing)
    ∙ ap (λ x. x ∷ ws) (sym h.2)

unclosed_read : (w : List ℕ) → IsUnclosed w → scan gap w ≡ w ∷ []
unclosed_read w h =
    ap (scan gap) h.1
    ∙ ap (onto_first 34) (ap (scan quoted) (sym (append-nil h.0)) ∙ quoted_run h.0 [] [] [] h.2 refl
    ∙ ap (λ x. x ∷ []) (append-nil h.0))
    ∙ ap (λ x. x ∷ []) (sym h.1)

word_read : (w behind : List ℕ) (ws : List (List ℕ)) → IsBare w ⊎ IsInQuotes w → scan plain behind ≡ [] ∷ ws
    → scan gap (w ++ behind) ≡ w ∷ ws
word_read w behind ws (inl h) e = bare_read w behind ws h e
word_read w behind ws (inr h) e = quotes_read w behind ws h e

behind_read : (behind : List ℕ) (ws : List (List ℕ)) → ((rest : List ℕ) → AreWords rest ws → words rest ≡ ws)
    → Ends behind ws → scan plain behind ≡ [] ∷ ws
behind_read behind ws later (inl p) = ap (scan plain) p.0 ∙ ap (λ x. [] ∷ x) (sym p.1)
behind_read behind ws later (inr p) = ap (scan plain) p.1 ∙ ap (λ x. [] ∷ x) (later p.0 p.2)

first_read : (w behind : List ℕ) (ws : List (List ℕ)) → ((rest : List ℕ) → AreWords rest ws → words rest ≡ ws)
    → ((IsBare w ⊎ IsInQuotes w) × Ends behind ws) ⊎ (IsUnclosed w × (behind ≡ []) × (ws ≡ []))
    → scan gap (w ++ behind) ≡ w ∷ ws
first_read w behind ws later (inl p) = word_read w behind ws p.0 (behind_read behind ws later p.1)
first_read w behind ws later (inr p) =
    ap (λ x. scan gap (w ++ x)) p.1 ∙ ap (scan gap) (append-nil w) ∙ unclosed_read w p.0
    ∙ ap (λ x. w ∷ x) (sym p.2)

are_read : (ws : List (List ℕ)) (line : List ℕ) → AreWords line ws → words line ≡ ws
are_read [] line h = ap (scan gap) h.2 ∙ skip h.0 h.1 h.3 ∙ comment_read h.1 h.4
are_read (w ∷ ws) line h =
    ap (scan gap) h.2 ∙ skip h.0 (w ++ h.1) h.3 ∙ first_read w h.1 ws (are_read ws) h.4

-- and back

abbrev InGap : List ℕ → Type 0
InGap bs = AreWords bs (scan gap bs)

abbrev InPlain : List ℕ → Type 0
InPlain bs =
    (r : List ℕ) × (behind : List ℕ) × (ws : List (List ℕ)) × (bs ≡ r ++ behind) × IsWithout 32 r
    × (scan plain bs ≡ r ∷ ws) × Ends behind ws

abbrev InQuotes : List ℕ → Type 0
InQuotes bs =
    ((t : List ℕ) × (r : List ℕ) × (behind : List ℕ) × (ws : List (List ℕ)) × (bs ≡ t ++ 34 ∷ r ++ behind)
    × IsWithout 34 t × IsWithout 32 r × (scan quoted bs ≡ (t ++ 34 ∷ r) ∷ ws) × Ends behind ws)
    ⊎ (IsWithout 34 bs × (scan quoted bs ≡ bs ∷ []))

more_gap : (b : ℕ) (bs : List ℕ) (ws : List (List ℕ)) → b ≡ 32 → AreWords bs ws → AreWords (b ∷ bs) ws
more_gap b bs [] e h = (b ∷ h.0, h.1, ap (λ x. b ∷ x) h.2, (e, h.3), h.4)
more_gap b bs (w ∷ ws) e h = (b ∷ h.0, h.1, ap (λ x. b ∷ x) h.2, (e, h.3), h.4)

plain_step : (b : ℕ) (bs : List ℕ) → InGap bs → InPlain bs → InPlain (b ∷ bs)
plain_step b bs g p = elim (cases_eq b 32) [
  | inl e ↦ ([], b ∷ bs, scan gap bs, refl, tt, plain_space b bs e, inr (bs, ap (λ x. x ∷ bs) e, g))
  | inr n ↦ (b ∷ p.0, p.1, p.2, ap (λ x. b ∷ x) p.3, (n, p.4), plain_byte b bs n ∙ ap (onto_first b) p.5, p.6)
]

quotes_more : (b : ℕ) (bs : List ℕ) → b ≢ 34 → InQuotes bs → InQuotes (b ∷ bs)
quotes_more b bs n (inl p) =
    inl (
      b ∷ p.0,
      p.1,
      p.2,
      p.3,
      ap (λ x. b ∷ x) p.4,
      (n, p.5),
      p.6,
      quoted_byte b bs n ∙ ap (onto_first b) p.7,
      p.8,
    )
quotes_more b bs n (inr p) = inr ((n, p.0), quoted_byte b bs n ∙ ap (onto_first b) p.1)

quotes_step : (b : ℕ) (bs : List ℕ) → InPlain bs → InQuotes bs → InQuotes (b ∷ bs)
quotes_step b bs p q = elim (cases_eq b 34) [
  | inl e ↦ inl (
    [],
    p.0,
    p.1,
    p.2,
    ap (λ x. x ∷ bs) e ∙ ap (λ x. 34 ∷ x) p.3,
    tt,
    p.4,
    quoted_quote b bs e ∙ ap (onto_first b) p.5 ∙ ap (λ x. (x ∷ p.0) ∷ p.2) e,
    p.6,
  )
  | inr n ↦ quotes_more b bs n q
]

begun_quotes : (b : ℕ) (bs : List ℕ) → b ≢ 32 → b ≢ 35 → b ≡ 34 → InQuotes bs → InGap (b ∷ bs)
begun_quotes b bs s c q (inl p) =
    let word : List ℕ = 34 ∷ p.0 ++ 34 ∷ p.1 in
    let read : scan gap (b ∷ bs) ≡ word ∷ p.3 =
    gap_quote b bs s c q ∙ ap (onto_first b) p.7 ∙ ap (λ x. (x ∷ p.0 ++ 34 ∷ p.1) ∷ p.3) q in
    let whole : b ∷ bs ≡ word ++ p.2 = ap (λ x. x ∷ bs) q ∙ ap (λ x. 34 ∷ x) p.4 in
    subst (AreWords (b ∷ bs)) (sym read)
    ([], p.2, whole, tt, inl (inr (p.0, p.1, refl, p.5, p.6), p.8))
begun_quotes b bs s c q (inr p) =
    let read : scan gap (b ∷ bs) ≡ (34 ∷ bs) ∷ [] =
    gap_quote b bs s c q ∙ ap (onto_first b) p.1 ∙ ap (λ x. (x ∷ bs) ∷ []) q in
    subst (AreWords (b ∷ bs)) (sym read)
    ([], [], ap (λ x. x ∷ bs) q ∙ ap (λ x. 34 ∷ x) (sym (append-nil bs)), tt, inr ((bs, refl, p.0), refl, refl))

begun_plain : (b : ℕ) (bs : List ℕ) → b ≢ 32 → b ≢ 35 → b ≢ 34 → InPlain bs → InGap (b ∷ bs)
begun_plain b bs s c q p =
    let read : scan gap (b ∷ bs) ≡ (b ∷ p.0) ∷ p.2 = gap_plain b bs s c q ∙ ap (onto_first b) p.5 in
    subst (AreWords (b ∷ bs)) (sym read) ([], p.1, ap (λ x. b ∷ x) p.3, tt, inl (inl (q, c, (s, p.4)), p.6))

gap_step : (b : ℕ) (bs : List ℕ) → InGap bs → InPlain bs → InQuotes bs → InGap (b ∷ bs)
gap_step b bs g p q = elim (cases_eq b 32) [
  | inl e ↦ subst (AreWords (b ∷ bs)) (sym (gap_space b bs e)) (more_gap b bs (scan gap bs) e g)
  | inr s ↦ elim (cases_eq b 35) [
    | inl e ↦ subst (AreWords (b ∷ bs)) (sym (gap_comment b bs s e)) ([], b ∷ bs, refl, tt, e)
    | inr c ↦ elim (cases_eq b 34) [
      | inl e ↦ begun_quotes b bs s c e q
      | inr n ↦ begun_plain b bs s c n p
    ]
  ]
]

walk : (bs : List ℕ) → InGap bs × InPlain bs × InQuotes bs
walk [] = (([], [], refl, tt, tt), ([], [], [], refl, tt, refl, inl (refl, refl)), inr (tt, refl))
walk (b ∷ bs) =
    let w = walk bs in (gap_step b bs w.0 w.1 w.2, plain_step b bs w.0 w.1, quotes_step b bs w.1 w.2)

pub lines_have_words : LinesHaveWords
lines_have_words line ws = ((λ h. subst (AreWords line) h (walk line).0), are_read ws line)
