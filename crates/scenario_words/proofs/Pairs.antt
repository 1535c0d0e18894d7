-- What a hex word and a quoted word are read as, and that what is written is read again.
use Rattle.std.proofs.Common.{◌≡◌, ℕ, ◌+◌, ◌*◌, ◌/◌, ◌%◌, ◌<◌, ◌⊎◌, ◌↔◌, inl, inr, Bool, true, false, cond, eqb, List}
use Rattle.std.proofs.Common.{[], ◌∷◌, ◌++◌, Option, Some, None, Ok, Err, refl, ap, sym, subst, ◌∙◌, arith}
use Rattle.std.proofs.Common.{append_assoc}
use Rattle.std.specs.Prelude.{codes}
use Rattle.std.specs.List.{flat_map}
use Rattle.std.specs.Str.{IsUtf8, is_utf8, bytes_eq}
use Rattle.std.specs.Int.Digits.{AllBelowBase}
use Rattle.std.proofs.lemmas.Bool.{cases_eq, cases_Bool, eq-eqb, ne_eqb, eqb-true, false_from_ne_true, and_parts}
use Rattle.std.proofs.lemmas.Bool.{not-true}
use Rattle.std.proofs.lemmas.Bool.Decides.{nat_tests}
use Rattle.std.proofs.lemmas.Slice.Eq.{bytes_eq-Decides}
use Rattle.std.proofs.lemmas.Str.{IsUtf8-from_is_utf8, is_utf8-from_IsUtf8}
use Rattle.hex.specs.Hex.{hex_digit_value}
use Rattle.scenario_words.specs.declared.cause.Cause.TheVariants.{Token}
use Rattle.scenario_words.specs.HexWord.{with_first_byte, pair_before, pairs, or_token, bytes_of, IsByte, ArePairs}
use Rattle.scenario_words.specs.HexWord.{IsHex, digit_of, hex_byte, hex_word}
use Rattle.scenario_words.specs.Quoted.{is_plain, unquoted_bytes, utf8_or_token, text_of, Spells, IsQuoted}
use Rattle.scenario_words.specs.Quoted.{escaped_byte, quoted_word}

pub digit_small : (c v : ℕ) → hex_digit_value c ≡ Some v → v < 16
digit_small c v h = grind (arith)

-- two digits that were read before others
record PairRead (x y : Option ℕ) (o : Option (List ℕ)) (bs : List ℕ) : Type 0 where
  high : ℕ
  low : ℕ
  rest : List ℕ
  is_high : x ≡ Some high
  is_low : y ≡ Some low
  is_rest : o ≡ Some rest
  all : (high * 16 + low) ∷ rest ≡ bs

pair_read : (x y : Option ℕ) (o : Option (List ℕ)) (bs : List ℕ) → pair_before x y o ≡ Some bs → PairRead x y o bs
pair_read None y o bs e = cc
pair_read (Some h) None o bs e = cc
pair_read (Some h) (Some l) None bs e = cc
pair_read (Some h) (Some l) (Some rest) bs e =
    record { high = h; low = l; rest = rest; is_high = refl; is_low = refl; is_rest = refl; all = cc }

pair_from : (x y : Option ℕ) (o : Option (List ℕ)) (h l : ℕ) (rest : List ℕ) → x ≡ Some h → y ≡ Some l → o ≡ Some rest
    → pair_before x y o ≡ Some ((h * 16 + l) ∷ rest)
pair_from x y o h l rest e f g = rw (e, f, g) refl

byte_read : (b a c : ℕ) (h l : ℕ) → hex_digit_value a ≡ Some h → hex_digit_value c ≡ Some l → h * 16 + l ≡ b
    → IsByte b a c
byte_read b a c h l e f whole =
    let high = digit_small a h e in
    let low = digit_small c l f in
    let upper : h ≡ b / 16 = omega arith in
    let lower : l ≡ b % 16 = omega arith in
    (omega arith, e ∙ ap Some upper, f ∙ ap Some lower)

byte_from : (b a c : ℕ) (o : Option (List ℕ)) (rest : List ℕ) → IsByte b a c → o ≡ Some rest
    → pair_before (hex_digit_value a) (hex_digit_value c) o ≡ Some (b ∷ rest)
byte_from b a c o rest is e =
    let whole : b / 16 * 16 + b % 16 ≡ b = omega arith in
    pair_from (hex_digit_value a) (hex_digit_value c) o (b / 16) (b % 16) rest is.1 is.2 e
    ∙ ap (λ n. Some (n ∷ rest)) whole

-- hex

pairs_read : (w bs : List ℕ) → pairs w ≡ Some bs → ArePairs w bs
pairs_read [] [] e = tt
pairs_read [] (b ∷ bs) e = cc
pairs_read (h ∷ []) bs e = cc
pairs_read (h ∷ l ∷ w) [] e = let p = pair_read (hex_digit_value h) (hex_digit_value l) (pairs w) [] e in cc (p.all)
pairs_read (h ∷ l ∷ w) (b ∷ bs) e =
    let p = pair_read (hex_digit_value h) (hex_digit_value l) (pairs w) (b ∷ bs) e in
    let byte : p.high * 16 + p.low ≡ b = cc (p.all) in
    let rest : p.rest ≡ bs = cc (p.all) in
    (byte_read b h l p.high p.low p.is_high p.is_low byte, pairs_read w bs (p.is_rest ∙ ap Some rest))

pairs_from : (w bs : List ℕ) → ArePairs w bs → pairs w ≡ Some bs
pairs_from [] [] h = refl
pairs_from [] (b ∷ bs) h = absurd h
pairs_from (x ∷ []) bs h = absurd h
pairs_from (x ∷ y ∷ w) [] h = absurd h
pairs_from (x ∷ y ∷ w) (b ∷ bs) h = byte_from b x y (pairs w) bs h.0 (pairs_from w bs h.1)

or_token_ok : (o : Option (List ℕ)) (bs : List ℕ) → or_token o ≡ Ok bs → o ≡ Some bs
or_token_ok None bs e = cc
or_token_ok (Some cs) bs e = cc

dash_or_pairs : (t : Bool) (o : Option (List ℕ)) (bs : List ℕ) → cond t (Ok []) (or_token o) ≡ Ok bs
    → ((t ≡ true) × (bs ≡ [])) ⊎ (o ≡ Some bs)
dash_or_pairs true o bs e = inl (refl, cc)
dash_or_pairs false o bs e = inr (or_token_ok o bs e)

hex_read : (w bs : List ℕ) → bytes_of w ≡ Ok bs → IsHex w bs
hex_read w bs e = elim (dash_or_pairs (bytes_eq w (codes "-")) (pairs w) bs e) [
  | inl dash ↦ inl ((bytes_eq-Decides w (codes "-")).0 dash.0, dash.1)
  | inr digits ↦ inr (pairs_read w bs digits)
]

pairs_no_dash : (w bs : List ℕ) → ArePairs w bs → bytes_eq w (codes "-") ≡ true → ⊥
pairs_no_dash w bs h e = subst (λ v. ArePairs v bs) ((bytes_eq-Decides w (codes "-")).0 e) h

hex_again : (w bs : List ℕ) → IsHex w bs → bytes_of w ≡ Ok bs
hex_again w bs (inl dash) = ap bytes_of dash.0 ∙ ap Ok (sym dash.1)
hex_again w bs (inr digits) =
    ap (λ t. cond t (Ok []) (or_token (pairs w)))
    (false_from_ne_true (bytes_eq w (codes "-")) (pairs_no_dash w bs digits))
    ∙ ap or_token (pairs_from w bs digits)

pub hex_law : (w bs : List ℕ) → (bytes_of w ≡ Ok bs) ↔ IsHex w bs
hex_law w bs = (hex_read w bs, hex_again w bs)

digit_again : (v : ℕ) → v < 16 → hex_digit_value (digit_of v) ≡ Some v
digit_again v h = grind (arith, nat_tests)

byte_again : (b : ℕ) → b < 256 → IsByte b (digit_of (b / 16)) (digit_of (b % 16))
byte_again b h = (h, digit_again (b / 16) (omega arith), digit_again (b % 16) (omega arith))

pairs_again : (bs : List ℕ) → AllBelowBase 256 bs → ArePairs (flat_map hex_byte bs) bs
pairs_again [] h = tt
pairs_again (b ∷ bs) h = (byte_again b h.0, pairs_again bs h.1)

pub hex_written : (bs : List ℕ) → AllBelowBase 256 bs → IsHex (hex_word bs) bs
hex_written [] h = inl (refl, refl)
hex_written (b ∷ bs) h = inr (pairs_again (b ∷ bs) h)

-- quotes

closing : (b : ℕ) (t : List ℕ) → cond (eqb b 34) (Some []) None ≡ Some t → (b ≡ 34) × (t ≡ [])
closing b t e = elim (cases_eq b 34) [
  | inl quote ↦ let h : Some [] ≡ Some t = sym (ap (λ x. cond x (Some []) None) (eq-eqb b 34 quote)) ∙ e in (quote, cc)
  | inr other ↦ let h : None ≡ Some t = sym (ap (λ x. cond x (Some []) None) (ne_eqb b 34 other)) ∙ e in cc
]

before_read : (b : ℕ) (o : Option (List ℕ)) (t : List ℕ) → with_first_byte b o ≡ Some t → (u : List ℕ) × (t ≡ b ∷ u)
    × (o ≡ Some u)
before_read b None t e = cc
before_read b (Some u) t e = (u, cc, refl)

plain_here : (b : ℕ) (bs t : List ℕ) → is_plain b ≡ true → with_first_byte b (unquoted_bytes bs) ≡ Some t
    → ((u : List ℕ) → unquoted_bytes bs ≡ Some u → Spells u bs) → Spells t (b ∷ bs)
plain_here b bs t plain e rest =
    let p = before_read b (unquoted_bytes bs) t e in
    subst (λ u. Spells u (b ∷ bs)) (sym p.1) (inl (bs, refl, plain, rest p.0 p.2))

escape_here : (b h l : ℕ) (bs t : List ℕ) → b ≡ 92
    → pair_before (hex_digit_value h) (hex_digit_value l) (unquoted_bytes bs) ≡ Some t
    → ((u : List ℕ) → unquoted_bytes bs ≡ Some u → Spells u bs) → Spells t (b ∷ h ∷ l ∷ bs)
escape_here b h l bs t slash e rest =
    let p = pair_read (hex_digit_value h) (hex_digit_value l) (unquoted_bytes bs) t e in
    let byte = byte_read (p.high * 16 + p.low) h l p.high p.low p.is_high p.is_low refl in
    subst (λ u. Spells u (b ∷ h ∷ l ∷ bs)) p.all
    (inr (h, l, bs, ap (λ c. c ∷ h ∷ l ∷ bs) slash, byte, rest p.rest p.is_rest))

plain_or : (x y : Bool) (p q : Option (List ℕ)) (t : List ℕ) → cond x p (cond y q None) ≡ Some t
    → ((x ≡ true) × (p ≡ Some t)) ⊎ ((y ≡ true) × (q ≡ Some t))
plain_or true y p q t e = inl (refl, e)
plain_or false true p q t e = inr (refl, e)
plain_or false false p q t e = cc

plain_only : (x : Bool) (p : Option (List ℕ)) (t : List ℕ) → cond x p None ≡ Some t → (x ≡ true) × (p ≡ Some t)
plain_only true p t e = (refl, e)
plain_only false p t e = cc

spells_read : (bs t : List ℕ) → unquoted_bytes bs ≡ Some t → Spells t bs
spells_read [] t e = cc
spells_read (b ∷ []) t e =
    let p = closing b t e in
    subst (λ u. Spells u (b ∷ [])) (sym p.1) (ap (λ c. c ∷ []) p.0)
spells_read (b ∷ h ∷ []) t e =
    let p = plain_only (is_plain b) (with_first_byte b (unquoted_bytes (h ∷ []))) t e in
    plain_here b (h ∷ []) t p.0 p.1 (λ u f. spells_read (h ∷ []) u f)
spells_read (b ∷ h ∷ l ∷ bs) t e =
    elim (plain_or (is_plain b) (eqb b 92) (with_first_byte b (unquoted_bytes (h ∷ l ∷ bs)))
    (pair_before (hex_digit_value h) (hex_digit_value l) (unquoted_bytes bs)) t e) [
      | inl p ↦ plain_here b (h ∷ l ∷ bs) t p.0 p.1 (λ u f. spells_read (h ∷ l ∷ bs) u f)
      | inr p ↦ escape_here b h l bs t (eqb-true b 92 p.0) p.1 (λ u f. spells_read bs u f)
    ]

pub plain_no_quote : (b : ℕ) → is_plain b ≡ true → eqb b 34 ≡ false
plain_no_quote b h = not-true (eqb b 34) (and_parts _ _ (and_parts _ _ h).1).0

plain_step : (b : ℕ) (bs : List ℕ) → is_plain b ≡ true → unquoted_bytes (b ∷ bs) ≡ with_first_byte b (unquoted_bytes bs)
plain_step b [] h = ap (λ x. cond x (Some []) None) (plain_no_quote b h)
plain_step b (x ∷ []) h = ap (λ p. cond p (with_first_byte b (unquoted_bytes (x ∷ []))) None) h
plain_step b (x ∷ y ∷ bs) h =
    ap (λ p. cond p (with_first_byte b (unquoted_bytes (x ∷ y ∷ bs)))
    (cond (eqb b 92) (pair_before (hex_digit_value x) (hex_digit_value y) (unquoted_bytes bs)) None)) h

spells_again : (t bs : List ℕ) → Spells t bs → unquoted_bytes bs ≡ Some t
spells_again [] bs e = ap unquoted_bytes e
spells_again (b ∷ t) bs (inl p) =
    ap unquoted_bytes p.1 ∙ plain_step b p.0 p.2 ∙ ap (with_first_byte b) (spells_again t p.0 p.3)
spells_again (b ∷ t) bs (inr p) =
    ap unquoted_bytes p.3 ∙ byte_from b p.0 p.1 (unquoted_bytes p.2) t p.4 (spells_again t p.2 p.5)

utf8_ok : (o : Option (List ℕ)) (t : List ℕ) → utf8_or_token o ≡ Ok t → (o ≡ Some t) × IsUtf8 t
utf8_ok None t e = cc
utf8_ok (Some u) t e = elim (cases_Bool (is_utf8 u)) [
  | inl passes ↦
      let h : Ok u ≡ Ok t = sym (ap (λ x. cond x (Ok u) (Err Token)) passes) ∙ e in
      let same : u ≡ t = cc (h) in
      (ap Some same, subst IsUtf8 same (IsUtf8-from_is_utf8 u passes))
  | inr fails ↦ let h : Err Token ≡ Ok t = sym (ap (λ x. cond x (Ok u) (Err Token)) fails) ∙ e in cc (h)
]

quoted_read : (w t : List ℕ) → text_of w ≡ Ok t → IsQuoted w t
quoted_read [] t e = cc
quoted_read (b ∷ bs) t e = elim (cases_eq b 34) [
  | inl quote ↦
      let p = utf8_ok (unquoted_bytes bs) t (sym (ap (λ x. cond x (utf8_or_token (unquoted_bytes bs)) (Err Token))
      (eq-eqb b 34 quote)) ∙ e) in
      (bs, ap (λ c. c ∷ bs) quote, spells_read bs t p.0, p.1)
  | inr other ↦ let h : Err Token ≡ Ok t =
      sym (ap (λ x. cond x (utf8_or_token (unquoted_bytes bs)) (Err Token)) (ne_eqb b 34 other)) ∙ e in cc (h)
]

quoted_again : (w t : List ℕ) → IsQuoted w t → text_of w ≡ Ok t
quoted_again w t p =
    ap text_of p.1 ∙ ap utf8_or_token (spells_again t p.0 p.2)
    ∙ ap (λ x. cond x (Ok t) (Err Token)) (is_utf8-from_IsUtf8 t p.3)

pub quoted_law : (w t : List ℕ) → (text_of w ≡ Ok t) ↔ IsQuoted w t
quoted_law w t = (quoted_read w t, quoted_again w t)

escaped_again : (b : ℕ) (t bs : List ℕ) → b < 256 → Spells t bs → Spells (b ∷ t) (escaped_byte b ++ bs)
escaped_again b t bs small h = elim (cases_Bool (is_plain b)) [
  | inl plain ↦ inl (bs, ap (λ x. cond x (b ∷ []) (92 ∷ hex_byte b) ++ bs) plain, plain, h)
  | inr other ↦ inr (
    digit_of (b / 16),
    digit_of (b % 16),
    bs,
    ap (λ x. cond x (b ∷ []) (92 ∷ hex_byte b) ++ bs) other,
    byte_again b small,
    h,
  )
]

spells_written : (t : List ℕ) → AllBelowBase 256 t → Spells t (flat_map escaped_byte t ++ 34 ∷ [])
spells_written [] h = refl
spells_written (b ∷ t) h =
    subst (Spells (b ∷ t)) (sym (append_assoc (escaped_byte b) (flat_map escaped_byte t) (34 ∷ [])))
    (escaped_again b t (flat_map escaped_byte t ++ 34 ∷ []) h.0 (spells_written t h.1))

pub quoted_written : (t : List ℕ) → IsUtf8 t → AllBelowBase 256 t → IsQuoted (quoted_word t) t
quoted_written t utf8 small = (flat_map escaped_byte t ++ 34 ∷ [], refl, spells_written t small, utf8)
