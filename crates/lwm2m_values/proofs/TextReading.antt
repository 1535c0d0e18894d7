-- The value that is read of a plain text is the good one that the text spells.
use Rattle.std.proofs.Common.{◌≡◌, ◌≢◌, ℕ, ◌+◌, ◌<◌, ◌≤◌, nat_lt, List, [], ◌∷◌, ◌++◌, length, get_or, take, drop, ℤ}
use Rattle.std.proofs.Common.{pos, neg_ℤ, Bool, true, false, if◌then◌else◌, ◌==◌, Option, Some, None, Result, Ok, Err}
use Rattle.std.proofs.Common.{option_map, inl, inr, refl, sym, ap, subst, ◌∙◌, ◌↔◌, arith, ltb-true, lt-ltb, eqb-true}
use Rattle.std.proofs.Common.{ne_eqb, length-drop}
use Rattle.std.proofs.Math.Seq.{take-append_seam, drop-append-add}
use Rattle.std.proofs.lemmas.List.Sums.{split_at_first, passes_at_first}
use Rattle.std.proofs.lemmas.Str.Parse.{digit_from_value}
use Rattle.std.specs.List.{list_all, position_or_len, before_first, after_first}
use Rattle.std.specs.Result.{result_ok}
use Rattle.std.specs.Char.{digit_value}
use Rattle.std.specs.Str.{IsUtf8}
use Rattle.std.specs.Str.Parse.{AllDigits, digits_value}
use Rattle.base64.specs.GeneralPurpose.{encode_of, decode_of, IsBytes}
use Rattle.base64.specs.Engines.{standard}
use Rattle.base64.proofs.EngineFacts.{decode_of-encode_of, decode_of_strict, IsAscii-encode_of}
use Rattle.std.specs.Result.{IfOk, IfErr, MatchResult}
use Rattle.std.proofs.lemmas.Bool.{and_parts, and_from}
use Rattle.lemmas.proofs.Options.{option_map_parts}
use Rattle.lwm2m_values.specs.declared.fault.ValueFault.{ValueFault}
use Rattle.lwm2m_values.specs.declared.fault.ValueFault.TheVariants.{BadValue, Memory}
use Rattle.lwm2m_values.specs.declared.value.Value.{Value}
use Rattle.lwm2m_values.specs.declared.value.Value.TheVariants as value
use Rattle.lwm2m_values.specs.declared.value.Value.TheVariants.{Text, Whole, Flag, Opaque, Moment, Link}
use Rattle.lwm2m_values.specs.declared.kind.ValueKind.{ValueKind}
use Rattle.lwm2m_values.specs.declared.kind.ValueKind.TheVariants as kind
use Rattle.lwm2m_values.specs.Value.{kind_of, holds_bytes, IsGood, IsDecimal, IsSigned, IsPair, IsText, flag_text}
use Rattle.lwm2m_values.specs.Value.{text_of}
use Rattle.lwm2m_values.specs.Reading.{are_bytes, number_of_text, signed_of_text, flag_by, pair_of_text, opaque_of_text}
use Rattle.lwm2m_values.specs.Reading.{spelled_by_text, value_of_text}
use Rattle.lwm2m_values.proofs.Choices.{chosen, kept_if, zipped}
use Rattle.lwm2m_values.proofs.GoodValue.{bytes_from, bytes_to, good_kept, good_back}
use Rattle.lwm2m_values.proofs.OneText.{text_written}

-- digits

abbrev are_digits : List ℕ → Bool
are_digits t = list_all (λ d. nat_lt (digit_value d) 10) t

digits_from : (t : List ℕ) → are_digits t ≡ true → AllDigits 10 t
digits_from [] e = tt
digits_from (c ∷ cs) e = let h = and_parts _ _ e in (ltb-true (digit_value c) 10 h.0, digits_from cs h.1)

digits_to : (t : List ℕ) → AllDigits 10 t → are_digits t ≡ true
digits_to [] h = refl
digits_to (c ∷ cs) h = and_from _ _ (lt-ltb (digit_value c) 10 h.0) (digits_to cs h.1)

number_from : (t : List ℕ) (n : ℕ) → number_of_text t ≡ Some n → IsDecimal n t
number_from [] n e = cc e
number_from (c ∷ cs) n e =
    let h = chosen (are_digits (c ∷ cs)) (digits_value 10 (c ∷ cs)) n e in
    ((omega arith, digits_from (c ∷ cs) h.0), h.1)

number_to : (t : List ℕ) (n : ℕ) → IsDecimal n t → number_of_text t ≡ Some n
number_to [] n p = absurd (omega (arith, p.0.0))
number_to (c ∷ cs) n p =
    ap (λ b. if b then Some (digits_value 10 (c ∷ cs)) else None) (digits_to (c ∷ cs) p.0.1) ∙ ap Some p.1

-- a sign

signed_case : (c : ℕ) (cs : List ℕ) (z : ℤ) (b : Bool) → (c == 45) ≡ b
    → (if b then option_map (λ n. neg_ℤ (pos n)) (number_of_text cs) else option_map pos (number_of_text (c ∷ cs)))
    ≡ Some z → IsSigned z (c ∷ cs)
signed_case c cs z true q e =
    let h = option_map_parts (λ n. neg_ℤ (pos n)) (number_of_text cs) z e in
    inr (h.0, cs, ap (λ x. x ∷ cs) (eqb-true c 45 q), number_from cs h.0 h.1, sym h.2)
signed_case c cs z false q e =
    let h = option_map_parts pos (number_of_text (c ∷ cs)) z e in
    inl (h.0, number_from (c ∷ cs) h.0 h.1, sym h.2)

signed_from : (t : List ℕ) (z : ℤ) → signed_of_text t ≡ Some z → IsSigned z t
signed_from [] z e = cc e
signed_from (c ∷ cs) z e = signed_case c cs z (c == 45) refl e

digit_is_no_minus : (c : ℕ) → digit_value c < 10 → (c == 45) ≡ false
digit_is_no_minus c d = let r = digit_from_value c d in ne_eqb c 45 (omega arith)

signed_to : (t : List ℕ) (z : ℤ) → IsSigned z t → signed_of_text t ≡ Some z
signed_to [] z (inl p) = absurd (omega (arith, p.1.0.0))
signed_to (c ∷ cs) z (inl p) =
    ap (λ b. if b then option_map (λ n. neg_ℤ (pos n)) (number_of_text cs)
    else option_map pos (number_of_text (c ∷ cs))) (digit_is_no_minus c p.1.0.1.0)
    ∙ ap (option_map pos) (number_to (c ∷ cs) p.0 p.1) ∙ ap Some (sym p.2)
signed_to t z (inr p) =
    ap signed_of_text p.2 ∙ ap (option_map (λ n. neg_ℤ (pos n))) (number_to p.1 p.0 p.3) ∙ ap Some (sym p.4)

-- a colon

abbrev is_colon : ℕ → Bool
is_colon c = c == 58

pair_from : (t : List ℕ) (o i : ℕ) → pair_of_text t ≡ Some (o, i) → IsPair o i t
pair_from t o i e =
    let at : ℕ = position_or_len is_colon t in
    let halves = zipped (number_of_text (before_first is_colon t)) (number_of_text (after_first is_colon t)) o i e in
    let front = number_from (before_first is_colon t) o halves.0 in
    let back = number_from (after_first is_colon t) i halves.1 in
    let here : at < length t = omega (arith, back.0.0, length-drop (at + 1) t) in
    let colon : get_or t at 0 ≡ 58 = eqb-true _ 58 (passes_at_first is_colon t 0 here) in
    let whole = split_at_first is_colon t 0 here in (
      before_first is_colon t,
      after_first is_colon t,
      whole ∙ ap (λ x. before_first is_colon t ++ x ∷ after_first is_colon t) colon,
      front,
      back,
    )

digit_is_no_colon : (c : ℕ) → digit_value c < 10 → is_colon c ≡ false
digit_is_no_colon c d = let r = digit_from_value c d in ne_eqb c 58 (omega arith)

colon_at : (a b : List ℕ) → AllDigits 10 a → position_or_len is_colon (a ++ 58 ∷ b) ≡ length a
colon_at [] b h = refl
colon_at (c ∷ a) b h = rw (digit_is_no_colon c h.0, colon_at a b h.1) (omega arith)

pair_to : (t : List ℕ) (o i : ℕ) → IsPair o i t → pair_of_text t ≡ Some (o, i)
pair_to t o i p =
    let a = p.0 in
    let b = p.1 in
    let at = colon_at a b p.3.0.1 in
    let front : before_first is_colon (a ++ 58 ∷ b) ≡ a =
    ap (λ n. take n (a ++ 58 ∷ b)) at ∙ take-append_seam a (58 ∷ b) in
    let back : after_first is_colon (a ++ 58 ∷ b) ≡ b =
    ap (λ n. drop (n + 1) (a ++ 58 ∷ b)) at ∙ drop-append-add a (58 ∷ b) 1 in
    ap pair_of_text p.2 ∙ rw (front, back, number_to a o p.3, number_to b i p.4) refl

-- a flag

flag_case : (x : ℕ) (f : Bool) (a b : Bool) → (x == 48) ≡ a → (x == 49) ≡ b
    → (if a then Some false else (if b then Some true else None)) ≡ Some f → x ∷ [] ≡ flag_text f
flag_case x true true b p q e = cc e
flag_case x false true b p q e = ap (λ y. y ∷ []) (eqb-true x 48 p)
flag_case x true false true p q e = ap (λ y. y ∷ []) (eqb-true x 49 q)
flag_case x false false true p q e = cc e
flag_case x f false false p q e = cc e

flag_from : (t : List ℕ) (f : Bool) → flag_by 48 49 t ≡ Some f → t ≡ flag_text f
flag_from [] f e = cc e
flag_from (x ∷ []) f e = flag_case x f (x == 48) (x == 49) refl refl e
flag_from (x ∷ y ∷ t) f e = cc e

flag_to : (t : List ℕ) (f : Bool) → t ≡ flag_text f → flag_by 48 49 t ≡ Some f
flag_to t true e = ap (flag_by 48 49) e
flag_to t false e = ap (flag_by 48 49) e

-- base64

ok_from : {E : Type 0} (r : Result (List ℕ) E) (b : List ℕ) → result_ok r ≡ Some b → r ≡ Ok b
ok_from (Ok x) b e = cc
ok_from (Err f) b e = cc e

opaque_from : (t b : List ℕ) → opaque_of_text t ≡ Some b → t ≡ encode_of standard b
opaque_from t b e =
    let h = kept_if (are_bytes t) (result_ok (decode_of standard t)) b e in
    decode_of_strict standard t b (refl, refl) (bytes_from t h.0) (ok_from (decode_of standard t) b h.1)

opaque_to : (t b : List ℕ) → IsBytes b → t ≡ encode_of standard b → opaque_of_text t ≡ Some b
opaque_to t b h e =
    let ascii = IsAscii-encode_of standard b in
    let bytes : are_bytes (encode_of standard b) ≡ true =
    bytes_to (encode_of standard b) (λ i. let small = ascii i in omega arith) in
    ap opaque_of_text e ∙ ap (λ x. if x then result_ok (decode_of standard (encode_of standard b)) else None) bytes
    ∙ ap result_ok (decode_of-encode_of standard b refl h)

-- all kinds

spelled_from : (k : ValueKind) (v : Value) (t : List ℕ) → spelled_by_text k t ≡ Some v → (kind_of v ≡ k) × IsText v t
spelled_from kind.Text v t e =
    let same : value.Text t ≡ v = cc e in
    subst (λ (x : Value). (kind_of x ≡ kind.Text) × IsText x t) same (refl, refl)
spelled_from kind.Whole v t e =
    let h = option_map_parts value.Whole (signed_of_text t) v e in
    subst (λ (x : Value). (kind_of x ≡ kind.Whole) × IsText x t) h.2 (refl, signed_from t h.0 h.1)
spelled_from kind.Flag v t e =
    let h = option_map_parts value.Flag (flag_by 48 49 t) v e in
    subst (λ (x : Value). (kind_of x ≡ kind.Flag) × IsText x t) h.2 (refl, flag_from t h.0 h.1)
spelled_from kind.Opaque v t e =
    let h = option_map_parts value.Opaque (opaque_of_text t) v e in
    subst (λ (x : Value). (kind_of x ≡ kind.Opaque) × IsText x t) h.2 (refl, opaque_from t h.0 h.1)
spelled_from kind.Moment v t e =
    let h = option_map_parts value.Moment (signed_of_text t) v e in
    subst (λ (x : Value). (kind_of x ≡ kind.Moment) × IsText x t) h.2 (refl, signed_from t h.0 h.1)
spelled_from kind.Link v t e =
    let h = option_map_parts (λ p. value.Link p.0 p.1) (pair_of_text t) v e in
    subst (λ (x : Value). (kind_of x ≡ kind.Link) × IsText x t) h.2 (refl, pair_from t h.0.0 h.0.1 h.1)

spelled_to : (v : Value) (t : List ℕ) → IsGood v → IsText v t → spelled_by_text (kind_of v) t ≡ Some v
spelled_to (Text a) t g p = ap (λ x. Some (value.Text x)) p
spelled_to (Whole z) t g p = ap (option_map value.Whole) (signed_to t z p)
spelled_to (Flag b) t g p = ap (option_map value.Flag) (flag_to t b p)
spelled_to (Opaque b) t g p = ap (option_map value.Opaque) (opaque_to t b g.0 p)
spelled_to (Moment z) t g p = ap (option_map value.Moment) (signed_to t z p)
spelled_to (Link o i) t g p = ap (option_map (λ x. value.Link x.0 x.1)) (pair_to t o i p)

value_from : (k : ValueKind) (v : Value) (t : List ℕ) → value_of_text k t ≡ Some v → IsGood v × (kind_of v ≡ k)
    × IsText v t
unfolding value_of_text
value_from k v t e =
    let h = good_kept (spelled_by_text k t) v e in
    let s = spelled_from k v t h.0 in
    (h.1, s.0, s.1)

value_to : (k : ValueKind) (v : Value) (t : List ℕ) → IsGood v × (kind_of v ≡ k) × IsText v t
    → value_of_text k t ≡ Some v
unfolding value_of_text
value_to k v t p =
    let here : value_of_text (kind_of v) t ≡ Some v =
    good_back (spelled_by_text (kind_of v) t) v (spelled_to v t p.0 p.2) p.0 in
    ap (λ x. value_of_text x t) (sym p.1) ∙ here

pub value_of_text_exact : (k : ValueKind) (v : Value) (t : List ℕ) → (value_of_text k t ≡ Some v)
    ↔ (IsGood v × (kind_of v ≡ k) × IsText v t)
value_of_text_exact k v t = (value_from k v t, value_to k v t)

pub value_of_text_written : (v : Value) → IsGood v → value_of_text (kind_of v) (text_of v) ≡ Some v
value_of_text_written v g = value_to (kind_of v) v (text_of v) (g, refl, text_written v g)

-- what a reader owes

none_case : (k : ValueKind) (t : List ℕ) (o : Option Value) → value_of_text k t ≡ o
    → ((v : Value) → IsGood v → kind_of v ≡ k → ¬ (IsText v t)) → value_of_text k t ≡ None
none_case k t None q h = q
none_case k t (Some v) q h = let p = value_from k v t q in absurd (h v p.0 p.1 p.2)

pub is_reading : (k : ValueKind) (t : List ℕ) (r : Result Value ValueFault)
    → IfOk r (λ v. IsGood v × (kind_of v ≡ k) × IsText v t)
    → IfErr r (λ f. f ≢ Memory → (v : Value) → IsGood v → kind_of v ≡ k → ¬ (IsText v t))
    → MatchResult r (λ v. value_of_text k t ≡ Some v) (λ f. f ≢ Memory → value_of_text k t ≡ None)
is_reading k t (Ok v) p q = value_to k v t p
is_reading k t (Err f) p q = λ other. none_case k t (value_of_text k t) refl (q other)

-- what is not a value is no reason to run out of memory
pub is_bad : (k : ValueKind) (t : List ℕ) (r : Result Value ValueFault)
    → IfOk r (λ v. IsGood v × (kind_of v ≡ k) × IsText v t) → (holds_bytes k ≡ false → IfErr r (λ f. f ≡ BadValue))
    → (k ≡ kind.Text → IfErr r (λ f. f ≡ Memory → IsUtf8 t × (length t ≤ 255))) → k ≢ kind.Opaque
    → value_of_text k t ≡ None → r ≡ Err BadValue
is_bad k t (Ok v) found fixed text other none = let e = value_to k v t found in absurd (cc (e, none))
is_bad k t (Err BadValue) found fixed text other none = refl
is_bad kind.Text t (Err Memory) found fixed text other none = let e =
    value_to kind.Text (value.Text t) t (text refl refl, refl, refl) in absurd (cc (e, none))
is_bad kind.Whole t (Err Memory) found fixed text other none = ap (λ f. Err f) (fixed refl)
is_bad kind.Flag t (Err Memory) found fixed text other none = ap (λ f. Err f) (fixed refl)
is_bad kind.Opaque t (Err Memory) found fixed text other none = absurd (other refl)
is_bad kind.Moment t (Err Memory) found fixed text other none = ap (λ f. Err f) (fixed refl)
is_bad kind.Link t (Err Memory) found fixed text other none = ap (λ f. Err f) (fixed refl)
