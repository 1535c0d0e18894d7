-- A word, and those after it, that are refused in their places.
use Rattle.std.proofs.Common.{◌≡◌, ◌↔◌, ◌⊎◌, ℕ, ◌<◌, ◌^◌, true, false, List, [], ◌∷◌}
use Rattle.std.proofs.Common.{Result, Ok, Err, inl, inr, refl, sym, ap, subst, ◌∙◌, arith, ◌==◌, ℤ, w64, lit<}
use Rattle.std.proofs.Common.{FitsSigned}
use Rattle.std.specs.Fmt.{decimal, signed_decimal}
use Rattle.std.proofs.lemmas.Fmt.{decimal_digit}
use Rattle.std.specs.Prelude.{codes}
use Rattle.lwm2m_values.specs.Value.{kind_of}
use Rattle.lwm2m_values.specs.declared.kind.ValueKind.{ValueKind}
use Rattle.lwm2m_values.specs.declared.kind.ValueKind.TheVariants as kind
use Rattle.lwm2m_values.specs.declared.value.Value.{Value}
use Rattle.lwm2m_values.specs.declared.value.Value.TheVariants as is
use Rattle.scenario_words.specs.declared.cause.Cause.{Cause}
use Rattle.scenario_words.specs.declared.cause.Cause.TheVariants.{Missing, Range, Token}
use Rattle.scenario_words.specs.HexWord.{IsHex, bytes_of}
use Rattle.scenario_words.specs.Number.{integer_of, number_of}
use Rattle.scenario_words.specs.PathWord.{link_of, link_word, path_of}
use Rattle.scenario_words.specs.Quoted.{text_of}
use Rattle.scenario_words.specs.Reading.{◌>>=◌, check_of_end, word_by}
use Rattle.scenario_words.specs.ValueWords.{kind_named, value_of}
use Rattle.scenario_words.proofs.PathLaws.{path_law}
use Rattle.scenario_words.proofs.Pairs.{hex_law}
use Rattle.scenario_words.proofs.ValueLaws.{kind_again}
use Rattle.scenario_statements.specs.Grammar.{check_of_name, one_of, ops_named}
use Rattle.scenario_statements.specs.Spelling.{IsWithin}
use Rattle.scenario_statements.proofs.Again.{number_again, ops_again}
use Rattle.laws_reading.specs.Statements.{IsValueWord}
use Rattle.laws_reading.specs.WrongStatements.{AreWrong}
use Rattle.laws_reading.specs.WrongStatements.{HasValueForm, IsTooMany}
use Rattle.laws_reading.specs.WrongStatements.{IsRight, IsWrongAt, Place}
use Rattle.laws_reading.specs.WrongStatements.{refusal_at}
use Rattle.laws_reading.specs.WrongStatements.Place.{number, con_name, operations, multiple, mandatory, kind_name}
use Rattle.laws_reading.specs.WrongStatements.Place.{path, bytes, value}
use Rattle.laws_reading.specs.WrongWords.{IsWrong}
use Rattle.laws_reading.proofs.Refused.{refused, same_cause}
use Rattle.laws_reading.proofs.ReadWords.{con_read, flag_read, kind_read, mandatory_again}
use Rattle.laws_reading.proofs.ReadWords.{mandatory_read, multiple_again, multiple_read, number_read}
use Rattle.laws_reading.proofs.ReadWords.{ops_read, value_again, value_read}
use Rattle.laws_reading.proofs.WrongNames.{con_named, kinds_named, mandatory_named, multiple_named}
use Rattle.laws_reading.proofs.WrongNames.{operations_named}
use Rattle.laws_reading.proofs.WrongNumbers.{bytes_hex, integers_fit, links_paired, numbers_within, paths_slashed}
use Rattle.laws_reading.proofs.WrongNumbers.{texts_quoted}

-- ---- one word, and those after it

-- a reader of a word takes just the words that are right in a place, and refuses the others for what is wrong there
pub record Fills {A : Type 0} (read : List ℕ → Result A Cause) (place : Place) : Type 0 where
  pub wrong : (w : List ℕ) (cause : Cause) → (read w ≡ Err cause) ↔ IsWrongAt place w cause
  pub right : (w : List ℕ) (x : A) → read w ≡ Ok x → IsRight place w
  pub again : (w : List ℕ) → IsRight place w → (x : A) × (read w ≡ Ok x)

-- a reader of words refuses them so
abbrev pub Refuses : {A : Type 0} → (List (List ℕ) → Result A Cause) → (List (List ℕ) → Cause → Type 0) → Type 0
Refuses read W = (ws : List (List ℕ)) (cause : Cause) → (read ws ≡ Err cause) ↔ W ws cause

abbrev pub taken : {A : Type 0} → A → Result A Cause
taken x = Ok x

abbrev pub read_then : {A B : Type 0} → Result A Cause → List (List ℕ) → (A × List (List ℕ) → Result B Cause)
    → Result B Cause
read_then r ws f = (r >>= (λ x. Ok (x, ws))) >>= f

-- a word is wrong, or it is right and those after it are refused
pub here_or_later : {A B : Type 0} (r : Result A Cause) (ws : List (List ℕ)) (f : A × List (List ℕ) → Result B Cause)
    (cause : Cause) (bad : Type 0) (good : A → Type 0) → ((r ≡ Err cause) ↔ bad)
    → ((x : A) → (f (x, ws) ≡ Err cause) ↔ good x) → (later : Type 0)
    → (((x : A) × (r ≡ Ok x) × good x) ↔ later)
    → (read_then r ws f ≡ Err cause) ↔ (bad ⊎ later)
here_or_later {A} {B} (Ok x) ws f cause bad good wrong next later so = (
  (λ h. inr (so.0 (x, refl, (next x).0 h))),
  back,
)
  where
    here : (y : A) → taken x ≡ Ok y → x ≡ y
    here y e = cc

    back : bad ⊎ later → f (x, ws) ≡ Err cause
    back (inl b) = let no : taken x ≡ refused cause = wrong.1 b in cc no
    back (inr l) = let g = so.1 l in (next x).1 (subst good (sym (here g.0 g.1)) g.2)
here_or_later {A} {B} (Err e) ws f cause bad good wrong next later so = (
  (λ h. inl (wrong.0 (ap (λ c. refused {A = A} c) (same_cause {A = B} e cause h)))),
  back,
)
  where
    back : bad ⊎ later → refused {A = B} e ≡ Err cause
    back (inl b) = ap (λ c. refused {A = B} c) (same_cause {A = A} e cause (wrong.1 b))
    back (inr l) = let g = so.1 l in let no : refused e ≡ taken g.0 = g.1 in cc no

pub none_missing : {B : Type 0} (cause : Cause) → (refused {A = B} Missing ≡ Err cause) ↔ (cause ≡ Missing)
none_missing {B} cause = (
  (λ h. sym (same_cause {A = B} Missing cause h)),
  (λ h. ap (λ c. refused {A = B} c) (sym h)),
)

-- the places of a reader: the first, and those of what reads on, whatever was read
pub placed : {A B : Type 0} (read : List ℕ → Result A Cause) (p : Place) (ps : List Place)
    (after : List (List ℕ) → Cause → Type 0) (f : A × List (List ℕ) → Result B Cause) → Fills read p
    → ((x : A) → Refuses (λ ws. f (x, ws)) (AreWrong ps after))
    → Refuses (λ ws. word_by read ws >>= f) (AreWrong (p ∷ ps) after)
placed {A} {B} read p ps after f fills next [] cause = none_missing {B = B} cause
placed {A} {B} read p ps after f fills next (w ∷ ws) cause =
    here_or_later (read w) ws f cause (IsWrongAt p w cause) (λ x. AreWrong ps after ws cause) (fills.wrong w cause)
    (λ x. next x ws cause) (IsRight p w × AreWrong ps after ws cause) (
      (λ t. (fills.right w t.0 t.1, t.2)),
      (λ t. let a = fills.again w t.0 in (a.0, a.1, t.1)),
    )

-- no place is left
pub all_placed : {B : Type 0} (y : B) → Refuses (λ ws. check_of_end ws >>= (λ e. Ok y)) IsTooMany
all_placed {B} y [] cause = ((λ h. cc h), (λ h. absurd h))
all_placed {B} y (w ∷ ws) cause = (
  (λ h. sym (same_cause {A = B} Token cause h)),
  (λ h. ap (λ c. refused {A = B} c) (sym h)),
)

-- what is made of a reading changes no refusal
pub made_of : {A B : Type 0} (r : Result A Cause) (g : A → B) (cause : Cause) (bad : Type 0) → ((r ≡ Err cause) ↔ bad)
    → ((r >>= (λ x. Ok (g x))) ≡ Err cause) ↔ bad
made_of {A} {B} (Ok x) g cause bad so = (
  (λ h. let no : taken (g x) ≡ refused cause = h in cc no),
  (λ b. let no : taken x ≡ refused cause = so.1 b in cc no),
)
made_of {A} {B} (Err e) g cause bad so = (
  (λ h. so.0 (ap (λ c. refused {A = A} c) (same_cause {A = B} e cause h))),
  (λ b. ap (λ c. refused {A = B} c) (same_cause {A = A} e cause (so.1 b))),
)

-- ---- the readers of words

pub number_fills : (low high : ℕ) → high < 2 ^ 64 → Fills (number_of low high) (number low high)
number_fills low high small =
    record {
      wrong = λ w cause. numbers_within low high w cause small;
      right = λ w n h. let r = number_read low high n w small h in (n, r.1, r.0);
      again = λ w h. (h.0, ap (number_of low high) h.2 ∙ number_again low high h.0 small h.1);
    }

pub con_fills : Fills (check_of_name (codes "con")) con_name
con_fills =
    record {
      wrong = con_named;
      right = λ w u h. con_read w u h;
      again = λ w h. (tt, ap (check_of_name (codes "con")) h);
    }

pub operations_fill : Fills ops_named operations
operations_fill =
    record {
      wrong = operations_named;
      right = λ w o h. (o, ops_read w o h);
      again = λ w h. (h.0, ap ops_named h.1 ∙ ops_again h.0);
    }

pub multiple_fills : Fills (one_of (codes "multiple") (codes "single")) multiple
multiple_fills =
    record {
      wrong = multiple_named;
      right = λ w b h. (b, multiple_read w b h);
      again = λ w h. (h.0, ap (one_of (codes "multiple") (codes "single")) h.1 ∙ multiple_again h.0);
    }

pub mandatory_fills : Fills (one_of (codes "mandatory") (codes "optional")) mandatory
mandatory_fills =
    record {
      wrong = mandatory_named;
      right = λ w b h. (b, mandatory_read w b h);
      again = λ w h. (h.0, ap (one_of (codes "mandatory") (codes "optional")) h.1 ∙ mandatory_again h.0);
    }

pub kind_fills : Fills kind_named kind_name
kind_fills =
    record {
      wrong = kinds_named;
      right = λ w k h. (k, kind_read w k h);
      again = λ w h. (h.0, ap kind_named h.1 ∙ kind_again h.0);
    }

pub path_fills : Fills path_of path
path_fills =
    record {
      wrong = paths_slashed;
      right = λ w p h. let l = (path_law w p).0 h in (p, l.1, l.0);
      again = λ w h. (h.0, (path_law w h.0).1 (h.2, h.1));
    }

-- where the form is all that is asked
pub form_enough : (form allowed : Type 0) (other cause : Cause) → (form → allowed)
    → ((form → ⊥) × (cause ≡ Token)) ↔ IsWrong form allowed other cause
form_enough form allowed other cause f = ((λ h. inl h), back)
  where
    back : IsWrong form allowed other cause → (form → ⊥) × (cause ≡ Token)
    back (inl h) = h
    back (inr h) = absurd (h.1 (f h.0))

-- where the same words are allowed
pub other_words : (form a b : Type 0) (other cause : Cause) → (a ↔ b)
    → IsWrong form a other cause ↔ IsWrong form b other cause
other_words form a b other cause same = (there, back)
  where
    there : IsWrong form a other cause → IsWrong form b other cause
    there (inl h) = inl h
    there (inr h) = inr (h.0, (λ y. h.1 (same.1 y)), h.2)

    back : IsWrong form b other cause → IsWrong form a other cause
    back (inl h) = inl h
    back (inr h) = inr (h.0, (λ x. h.1 (same.0 x)), h.2)

pub chained : {P Q R : Type 0} → (P ↔ Q) → (Q ↔ R) → (P ↔ R)
chained h k = ((λ p. k.0 (h.0 p)), (λ r. h.1 (k.1 r)))

pub bytes_fill : Fills bytes_of bytes
bytes_fill =
    record {
      wrong = λ w cause. chained (bytes_hex w cause)
          (form_enough ((bs : List ℕ) × IsHex w bs) ((bs : List ℕ) × IsHex w bs) (refusal_at bytes) cause (λ h. h));
      right = λ w b h. (b, (hex_law w b).0 h);
      again = λ w h. (h.0, (hex_law w h.0).1 h.1);
    }

-- ---- values

abbrev pub IsValueOf : ValueKind → List ℕ → Type 0
IsValueOf k w = (v : Value) × (kind_of v ≡ k) × IsValueWord v w

pub integer_in : (w : List ℕ) (v : Value) → kind_of v ≡ kind.Whole → IsValueWord v w
    → (z : ℤ) × FitsSigned w64 z × (w ≡ signed_decimal z)
integer_in w (is.Text t) k h = cc k
integer_in w (is.Whole z) k h = (z, h.1, h.0)
integer_in w (is.Flag b) k h = cc k
integer_in w (is.Opaque b) k h = cc k
integer_in w (is.Moment z) k h = cc k
integer_in w (is.Link o i) k h = cc k

pub moment_in : (w : List ℕ) (v : Value) → kind_of v ≡ kind.Moment → IsValueWord v w
    → (z : ℤ) × FitsSigned w64 z × (w ≡ signed_decimal z)
moment_in w (is.Text t) k h = cc k
moment_in w (is.Whole z) k h = cc k
moment_in w (is.Flag b) k h = cc k
moment_in w (is.Opaque b) k h = cc k
moment_in w (is.Moment z) k h = (z, h.1, h.0)
moment_in w (is.Link o i) k h = cc k

pub flag_in : (w : List ℕ) (v : Value) → kind_of v ≡ kind.Flag → IsValueWord v w
    → (n : ℕ) × IsWithin 0 1 n × (w ≡ decimal n)
flag_in w (is.Text t) k h = cc k
flag_in w (is.Whole z) k h = cc k
flag_in w (is.Flag true) k h = (1, (omega arith, omega arith), h ∙ sym (decimal_digit 1 (lit< tt)))
flag_in w (is.Flag false) k h = (0, (omega arith, omega arith), h ∙ sym (decimal_digit 0 (lit< tt)))
flag_in w (is.Opaque b) k h = cc k
flag_in w (is.Moment z) k h = cc k
flag_in w (is.Link o i) k h = cc k

pub link_in : (w : List ℕ) (v : Value) → kind_of v ≡ kind.Link → IsValueWord v w
    → (o : ℕ) × (i : ℕ) × (o < 65536) × (i < 65536) × (w ≡ link_word o i)
link_in w (is.Text t) k h = cc k
link_in w (is.Whole z) k h = cc k
link_in w (is.Flag b) k h = cc k
link_in w (is.Opaque b) k h = cc k
link_in w (is.Moment z) k h = cc k
link_in w (is.Link o i) k h = (o, i, h.1, h.2, h.0)

pub value_wrong : (k : ValueKind) (w : List ℕ) (cause : Cause)
    → (value_of k w ≡ Err cause) ↔ IsWrongAt (value k) w cause
value_wrong kind.Text w cause =
    made_of (text_of w) (λ t. is.Text t) cause (IsWrongAt (value kind.Text) w cause)
    (chained (texts_quoted w cause)
    (form_enough (HasValueForm kind.Text w) (IsValueOf kind.Text w) Range cause (λ h. (is.Text h.0, refl, h.1))))
value_wrong kind.Whole w cause =
    made_of (integer_of w) (λ z. is.Whole z) cause (IsWrongAt (value kind.Whole) w cause)
    (chained (integers_fit w cause)
    (other_words (HasValueForm kind.Whole w) ((z : ℤ) × FitsSigned w64 z × (w ≡ signed_decimal z))
    (IsValueOf kind.Whole w) Range cause
    ((λ h. (is.Whole h.0, refl, (h.2, h.1))), (λ h. integer_in w h.0 h.1 h.2))))
value_wrong kind.Flag w cause =
    made_of (number_of 0 1 w) (λ n. is.Flag (n == 1)) cause (IsWrongAt (value kind.Flag) w cause)
    (chained (numbers_within 0 1 w cause (omega arith))
    (other_words (HasValueForm kind.Flag w) ((n : ℕ) × IsWithin 0 1 n × (w ≡ decimal n))
    (IsValueOf kind.Flag w) Range cause
    ((λ h. (is.Flag (h.0 == 1), refl, flag_read h.0 w h.2 h.1.1)), (λ h. flag_in w h.0 h.1 h.2))))
value_wrong kind.Opaque w cause =
    made_of (bytes_of w) (λ b. is.Opaque b) cause (IsWrongAt (value kind.Opaque) w cause)
    (chained (bytes_hex w cause)
    (form_enough (HasValueForm kind.Opaque w) (IsValueOf kind.Opaque w) Range cause (λ h. (is.Opaque h.0, refl, h.1))))
value_wrong kind.Moment w cause =
    made_of (integer_of w) (λ z. is.Moment z) cause (IsWrongAt (value kind.Moment) w cause)
    (chained (integers_fit w cause)
    (other_words (HasValueForm kind.Moment w) ((z : ℤ) × FitsSigned w64 z × (w ≡ signed_decimal z))
    (IsValueOf kind.Moment w) Range cause
    ((λ h. (is.Moment h.0, refl, (h.2, h.1))), (λ h. moment_in w h.0 h.1 h.2))))
value_wrong kind.Link w cause =
    made_of (link_of w) (λ p. is.Link p.0 p.1) cause (IsWrongAt (value kind.Link) w cause)
    (chained (links_paired w cause)
    (other_words (HasValueForm kind.Link w)
    ((o : ℕ) × (i : ℕ) × (o < 65536) × (i < 65536) × (w ≡ link_word o i)) (IsValueOf kind.Link w) Range cause
    ((λ h. (is.Link h.0 h.1, refl, (h.4, h.2, h.3))), (λ h. link_in w h.0 h.1 h.2))))

pub value_fills : (k : ValueKind) → Fills (value_of k) (value k)
value_fills k =
    record {
      wrong = value_wrong k;
      right = λ w v h. let r = value_read k w v h in (v, r.0, r.1);
      again = λ w h. (h.0, ap (λ j. value_of j w) (sym h.1) ∙ value_again h.0 w h.2);
    }
