-- A plain text has one valid value of each kind, and the shortest text of a value is a text of it.
use Rattle.std.proofs.Common.{◌≡◌, ℕ, ◌<◌, ◌^◌, List, [], ◌∷◌, ◌++◌, get_or, ℤ, pos, negsuc, neg_ℤ, inl, inr, Bool}
use Rattle.std.proofs.Common.{true, false, refl, sym, ap, subst, ◌∙◌, Option, Some, None, unwrap_or, suc, FitsSigned}
use Rattle.std.proofs.Common.{w64, arith, ◌≤◌, length, length-append, zero}
use Rattle.std.specs.Fmt.{decimal, signed_decimal}
use Rattle.std.specs.Str.Parse.{AllDigits}
use Rattle.std.proofs.lemmas.Str.Parse.{digit_from_value}
use Rattle.std.proofs.lemmas.Fmt.{decimal_is_IsNumeral, length-decimal-le}
use Rattle.std.proofs.lemmas.Int.Digits.{digits_value-lt}
use Rattle.base64.specs.GeneralPurpose.{encode_of, decode_of, IsBytes}
use Rattle.base64.specs.Engines.{standard}
use Rattle.base64.proofs.EngineFacts.{decode_of-encode_of}
use Rattle.lwm2m_values.specs.declared.value.Value.{Value}
use Rattle.lwm2m_values.specs.declared.value.Value.TheVariants as value
use Rattle.lwm2m_values.specs.declared.value.Value.TheVariants.{Text, Whole, Flag, Opaque, Moment, Link}
use Rattle.lwm2m_values.specs.declared.kind.ValueKind.TheVariants as kind
use Rattle.lwm2m_values.specs.Value.{kind_of, IsGood, IsDecimal, IsSigned, IsPair, IsText, flag_text, text_of}

-- what `decimal` writes

decimal_written : (n : ℕ) → n < 2 ^ 64 → IsDecimal n (decimal n)
decimal_written n small = decimal_is_IsNumeral n small

signed_written : (z : ℤ) → FitsSigned w64 z → IsSigned z (signed_decimal z)
signed_written (pos n) fits = inl (n, decimal_written n (omega (arith, fits.sfits)), refl)
signed_written (negsuc n) fits =
    inr (suc n, decimal (suc n), refl, decimal_written (suc n) (omega (arith, fits.sfits)), refl)

pub text_written : (v : Value) → IsGood v → IsText v (text_of v)
text_written (Text t) good = refl
text_written (Whole z) good = signed_written z good
text_written (Flag b) good = refl
text_written (Opaque b) good = refl
text_written (Moment z) good = signed_written z good
text_written (Link o i) good =
    (decimal o, decimal i, refl, decimal_written o (omega (arith, good.0)), decimal_written i (omega (arith, good.1)))

-- none shorter

no_shorter_decimal : (n : ℕ) (t : List ℕ) → n < 2 ^ 64 → IsDecimal n t → length (decimal n) ≤ length t
no_shorter_decimal n t small h =
    length-decimal-le (length t) n h.0.0 (omega (arith, h.1, digits_value-lt 10 t h.0.1)) small

zero_from_negated : (n m : ℕ) → pos n ≡ neg_ℤ (pos m) → n ≡ 0
zero_from_negated n zero e = cc e
zero_from_negated n (suc m) e = absurd (cc e)

from_negated : (n m : ℕ) → negsuc n ≡ neg_ℤ (pos m) → m ≡ suc n
from_negated n zero e = absurd (cc e)
from_negated n (suc m) e = ap suc (cc e)

no_shorter_signed : (z : ℤ) (t : List ℕ) → FitsSigned w64 z → IsSigned z t → length (signed_decimal z) ≤ length t
no_shorter_signed (pos n) t fits (inl h) =
    let same : n ≡ h.0 = cc (h.2) in
    no_shorter_decimal n t (omega (arith, fits.sfits)) (subst (λ m. IsDecimal m t) (sym same) h.1)
no_shorter_signed (negsuc n) t fits (inl h) = absurd (cc (h.2))
no_shorter_signed (pos n) t fits (inr h) =
    let none : n ≡ 0 = zero_from_negated n h.0 h.4 in
    omega (arith, length-decimal-le 1 n (omega arith) (omega arith) (omega arith), ap length h.2)
no_shorter_signed (negsuc n) t fits (inr h) =
    let same : h.0 ≡ suc n = from_negated n h.0 h.4 in
    let fewer = no_shorter_decimal (suc n) h.1 (omega (arith, fits.sfits)) (subst (λ m. IsDecimal m h.1) same h.3) in
    omega (arith, fewer, ap length h.2)

pub no_shorter_text : (v : Value) (t : List ℕ) → IsGood v → IsText v t → length (text_of v) ≤ length t
no_shorter_text (Text b) t good is = omega (arith, ap length is)
no_shorter_text (Whole z) t good is = no_shorter_signed z t good is
no_shorter_text (Flag b) t good is = omega (arith, ap length is)
no_shorter_text (Opaque b) t good is = omega (arith, ap length is)
no_shorter_text (Moment z) t good is = no_shorter_signed z t good is
no_shorter_text (Link o i) t good is =
    let first = no_shorter_decimal o is.0 (omega (arith, good.0)) is.3 in
    let second = no_shorter_decimal i is.1 (omega (arith, good.1)) is.4 in
    omega (arith, ap length is.2, length-append is.0 (58 ∷ is.1), length-append (decimal o) (58 ∷ decimal i))

-- one value for a text

one_decimal : (m n : ℕ) (t : List ℕ) → IsDecimal m t → IsDecimal n t → m ≡ n
one_decimal m n t p q = sym p.1 ∙ q.1

no_minus : (n : ℕ) (t ds : List ℕ) → IsDecimal n t → t ≡ 45 ∷ ds → ⊥
no_minus n [] ds p e = cc
no_minus n (c ∷ cs) ds p e = let r = digit_from_value c p.0.1.0 in let same : c ≡ 45 = cc in omega arith

one_signed : (y z : ℤ) (t : List ℕ) → IsSigned y t → IsSigned z t → y ≡ z
one_signed y z t (inl p) (inl q) = p.2 ∙ ap pos (one_decimal _ _ t p.1 q.1) ∙ sym q.2
one_signed y z t (inl p) (inr q) = absurd (no_minus p.0 t q.1 p.1 q.2)
one_signed y z t (inr p) (inl q) = absurd (no_minus q.0 t p.1 q.1 p.2)
one_signed y z t (inr p) (inr q) =
    let same : p.1 ≡ q.1 = cc in
    p.4 ∙ ap (λ n. neg_ℤ (pos n)) (one_decimal p.0 q.0 q.1 (subst (IsDecimal p.0) same p.3) q.3) ∙ sym q.4

no_colon_first : (c : ℕ) (cs : List ℕ) → AllDigits 10 (c ∷ cs) → c ≡ 58 → ⊥
no_colon_first c cs h e = let r = digit_from_value c h.0 in omega arith

-- digits end at the first colon
one_colon : (a b c d : List ℕ) → AllDigits 10 a → AllDigits 10 c → a ++ 58 ∷ b ≡ c ++ 58 ∷ d → (a ≡ c) × (b ≡ d)
one_colon [] b [] d p q e = (refl, cc)
one_colon [] b (y ∷ c) d p q e = absurd (no_colon_first y c q cc)
one_colon (x ∷ a) b [] d p q e = absurd (no_colon_first x a p cc)
one_colon (x ∷ a) b (y ∷ c) d p q e =
    let same : x ≡ y = cc in
    let rest = one_colon a b c d p.1 q.1 cc in
    (cc, rest.1)

one_pair : (o i p j : ℕ) (t : List ℕ) → IsPair o i t → IsPair p j t → (o ≡ p) × (i ≡ j)
one_pair o i p j t h k =
    let same = one_colon h.0 h.1 k.0 k.1 h.3.0.1 k.3.0.1 (sym h.2 ∙ k.2) in
    (one_decimal o p k.0 (subst (IsDecimal o) same.0 h.3) k.3, one_decimal i j k.1 (subst (IsDecimal i) same.1 h.4) k.4)

one_opaque : (b c : List ℕ) → IsBytes b → IsBytes c → encode_of standard b ≡ encode_of standard c → b ≡ c
one_opaque b c p q e =
    let to = decode_of-encode_of standard b refl p in
    let back = decode_of-encode_of standard c refl q in
    cc (ap (decode_of standard) e)

flags_differ : flag_text false ≡ flag_text true → ⊥
flags_differ e = let byte : 48 ≡ 49 = ap (λ t. get_or t 0 0) e in absurd (omega (arith, byte))

one_flag : (a b : Bool) → flag_text a ≡ flag_text b → a ≡ b
one_flag true true e = refl
one_flag true false e = absurd (flags_differ (sym e))
one_flag false true e = absurd (flags_differ e)
one_flag false false e = refl

pub one_value : (v w : Value) (t : List ℕ) → IsGood v → IsGood w → kind_of v ≡ kind_of w → IsText v t → IsText w t
    → v ≡ w
one_value (Text a) (Text b) t g h k p q = ap value.Text (sym p ∙ q)
one_value (Whole a) (Whole b) t g h k p q = ap value.Whole (one_signed a b t p q)
one_value (Flag a) (Flag b) t g h k p q = ap value.Flag (one_flag a b (sym p ∙ q))
one_value (Opaque a) (Opaque b) t g h k p q = ap value.Opaque (one_opaque a b g.0 h.0 (sym p ∙ q))
one_value (Moment a) (Moment b) t g h k p q = ap value.Moment (one_signed a b t p q)
one_value (Link o i) (Link m j) t g h k p q =
    let same = one_pair o i m j t p q in
    ap (λ x. value.Link x i) same.0 ∙ ap (value.Link m) same.1
one_value v w t g h k p q = cc

-- no value of the kind Link has a text that writes no pair, and one that writes a pair is its value's
pub no_link : (t : List ℕ) (r : Option (ℕ × ℕ)) → r ≡ None
    → ((o i : ℕ) → o < 65536 → i < 65536 → IsPair o i t → r ≡ Some (o, i)) → (v : Value) → IsGood v
    → kind_of v ≡ kind.Link → IsText v t → ⊥
no_link t r none only (Link o i) good is h = let e = only o i good.0 good.1 h in cc
no_link t r none only v good is h = cc

pub same_link : (t : List ℕ) (p q : ℕ) (r : Option (ℕ × ℕ)) → r ≡ Some (p, q)
    → ((o i : ℕ) → o < 65536 → i < 65536 → IsPair o i t → r ≡ Some (o, i)) → (v : Value) → IsGood v
    → kind_of v ≡ kind.Link → IsText v t → value.Link p q ≡ v
same_link t p q r some only (Link o i) good is h =
    let found : Option (ℕ × ℕ) = Some (p, q) in
    let wanted : Option (ℕ × ℕ) = Some (o, i) in
    let same : found ≡ wanted = sym some ∙ only o i good.0 good.1 h in
    let pick : Option (ℕ × ℕ) → ℕ × ℕ = λ x. unwrap_or x (p, q) in
    ap (λ x. value.Link (pick x).0 (pick x).1) same
same_link t p q r some only v good is h = cc
