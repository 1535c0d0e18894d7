-- The value that is read of bytes is the good one whose bytes they are.
use Rattle.std.proofs.Common.{◌≡◌, ℕ, zero, suc, ◌^◌, ◌<◌, ◌≤◌, List, [], ◌∷◌, ◌++◌, length, get_or, take, drop, ℤ}
use Rattle.std.proofs.Common.{Bool, true, false, ◌&&◌, if◌then◌else◌, ◌==◌, Option, Some, None, Result, Ok, Err, ◌≢◌}
use Rattle.std.proofs.Common.{option_map, inl, inr, refl, sym, ap, subst, ◌∙◌, ◌↔◌, arith, lt-ltb, eqb-true, FitsSigned}
use mir.Val.{bits}
use Rattle.std.specs.Int.{Width, w8, w16, w32, w64, to_be_bytes, from_be_bytes, cast_unsigned, cast_signed, byte_at}
use Rattle.std.specs.Int.{bytes_high_first}
use Rattle.std.proofs.lemmas.Int.{to_z-of_z, of_z-to_z}
use Rattle.std.proofs.Math.Facts.{sfits_to_z}
use Rattle.std.proofs.lemmas.Nat.{be_bytes_2, be_bytes_4, be_bytes_8, from_be_bytes-to_be_bytes_2}
use Rattle.std.proofs.lemmas.Nat.{from_be_bytes-to_be_bytes_4, from_be_bytes-to_be_bytes_8}
use Rattle.std.specs.Str.{IsUtf8}
use Rattle.base64.specs.GeneralPurpose.{IsBytes}
use Rattle.std.specs.Result.{IfOk, IfErr, MatchResult}
use Rattle.std.proofs.lemmas.Bool.{and_parts, and_from}
use Rattle.lemmas.proofs.Numbers.{small_byte}
use Rattle.lemmas.proofs.Options.{option_map_parts}
use Rattle.lwm2m_values.specs.declared.fault.ValueFault.{ValueFault}
use Rattle.lwm2m_values.specs.declared.fault.ValueFault.TheVariants.{BadValue, Memory}
use Rattle.lwm2m_values.specs.declared.value.Value.{Value}
use Rattle.lwm2m_values.specs.declared.value.Value.TheVariants as value
use Rattle.lwm2m_values.specs.declared.value.Value.TheVariants.{Text, Whole, Flag, Opaque, Moment, Link}
use Rattle.lwm2m_values.specs.declared.kind.ValueKind.{ValueKind}
use Rattle.lwm2m_values.specs.declared.kind.ValueKind.TheVariants as kind
use Rattle.lwm2m_values.specs.Value.{kind_of, holds_bytes, IsGood, IsIntegerOf, IsInteger, IsBytesOf, bytes_of}
use Rattle.lwm2m_values.specs.Reading.{are_bytes, flag_by, width_of, integer_of_bytes, pair_of_bytes, spelled_by_bytes}
use Rattle.lwm2m_values.specs.Reading.{value_of_bytes}
use Rattle.lwm2m_values.proofs.Choices.{chosen, kept_if}
use Rattle.lwm2m_values.proofs.GoodValue.{bytes_from, good_kept, good_back}
use Rattle.lwm2m_values.proofs.OneBytes.{bits_8, bits_16, bits_32, bits_64, bytes_written}

-- an Integer

integer_made : (w : Width) (bytes : List ℕ) (n : ℕ) (z : ℤ) → n < 2 ^ bits w → to_be_bytes w n ≡ bytes
    → cast_signed w n ≡ z → IsIntegerOf w z bytes
integer_made w bytes n z small e z_is =
    let fits : FitsSigned w (cast_signed w n) = sfits_to_z (record { fits = small }) in
    let made : IsIntegerOf w (cast_signed w n) bytes = (fits, sym (ap (to_be_bytes w) (of_z-to_z w n small) ∙ e)) in
    subst (λ (x : ℤ). IsIntegerOf w x bytes) z_is made

integer_1 : (bytes : List ℕ) (z : ℤ) → length bytes ≡ 1 → IsBytes bytes → cast_signed w8 (from_be_bytes w8 bytes) ≡ z
    → IsInteger z bytes
integer_1 [] z n h e = absurd (omega arith)
integer_1 (a ∷ []) z n h e =
    inl (integer_made w8 (a ∷ []) a z (omega (arith, h 0)) (ap (λ x. x ∷ []) (small_byte a (h 0))) e)
integer_1 (a ∷ b ∷ bytes) z n h e = absurd (omega arith)

integer_2 : (bytes : List ℕ) (z : ℤ) → length bytes ≡ 2 → IsBytes bytes → cast_signed w16 (from_be_bytes w16 bytes) ≡ z
    → IsInteger z bytes
integer_2 bytes z n h e =
    inr (inl (integer_made w16 bytes (from_be_bytes w16 bytes) z (omega (arith, h 0, h 1))
    (be_bytes_2 bytes (from_be_bytes w16 bytes) n h refl) e))

integer_4 : (bytes : List ℕ) (z : ℤ) → length bytes ≡ 4 → IsBytes bytes → cast_signed w32 (from_be_bytes w32 bytes) ≡ z
    → IsInteger z bytes
integer_4 bytes z n h e =
    inr (inr (inl (integer_made w32 bytes (from_be_bytes w32 bytes) z (omega (arith, h 0, h 1, h 2, h 3))
    (be_bytes_4 bytes (from_be_bytes w32 bytes) n h refl) e)))

integer_8 : (bytes : List ℕ) (z : ℤ) → length bytes ≡ 8 → IsBytes bytes → cast_signed w64 (from_be_bytes w64 bytes) ≡ z
    → IsInteger z bytes
integer_8 bytes z n h e =
    inr (inr (inr (integer_made w64 bytes (from_be_bytes w64 bytes) z
    (omega (arith, h 0, h 1, h 2, h 3, h 4, h 5, h 6, h 7))
    (be_bytes_8 bytes (from_be_bytes w64 bytes) n h refl) e)))

integer_by_width : (bytes : List ℕ) (z : ℤ) (a b c d : Bool) → (length bytes == 1) ≡ a → (length bytes == 2) ≡ b
    → (length bytes == 4) ≡ c → (length bytes == 8) ≡ d → IsBytes bytes
    → option_map (λ w. cast_signed w (from_be_bytes w bytes))
    (if a then Some w8 else (if b then Some w16 else (if c then Some w32 else (if d then Some w64 else None))))
    ≡ Some z → IsInteger z bytes
integer_by_width bytes z true b c d p q r s h e = integer_1 bytes z (eqb-true (length bytes) 1 p) h cc
integer_by_width bytes z false true c d p q r s h e = integer_2 bytes z (eqb-true (length bytes) 2 q) h cc
integer_by_width bytes z false false true d p q r s h e = integer_4 bytes z (eqb-true (length bytes) 4 r) h cc
integer_by_width bytes z false false false true p q r s h e = integer_8 bytes z (eqb-true (length bytes) 8 s) h cc
integer_by_width bytes z false false false false p q r s h e = cc e

integer_from : (bytes : List ℕ) (z : ℤ) → integer_of_bytes bytes ≡ Some z → IsInteger z bytes
integer_from bytes z e =
    let h = kept_if (are_bytes bytes) (option_map (λ w. cast_signed w (from_be_bytes w bytes))
    (width_of (length bytes))) z e in
    integer_by_width bytes z _ _ _ _ refl refl refl refl (bytes_from bytes h.0) h.1

-- what is written of a number is bytes
byte_small : (i n : ℕ) → byte_at i n < 256
byte_small zero n = omega arith
byte_small (suc i) n = omega arith

bytes_high : (k n : ℕ) → are_bytes (bytes_high_first k n) ≡ true
bytes_high zero n = refl
bytes_high (suc k) n = and_from _ _ (lt-ltb (byte_at k n) 256 (byte_small k n)) (bytes_high k n)

integer_read : (w : Width) (k : ℕ) (n : ℕ) (z : ℤ) (bytes : List ℕ) → bytes ≡ bytes_high_first k n
    → width_of (length (bytes_high_first k n)) ≡ Some w → from_be_bytes w (bytes_high_first k n) ≡ n
    → cast_signed w n ≡ z → integer_of_bytes bytes ≡ Some z
integer_read w k n z bytes e width back z_is =
    let digits : List ℕ = bytes_high_first k n in
    let read : Option Width → Option ℤ = option_map (λ x. cast_signed x (from_be_bytes x digits)) in
    ap integer_of_bytes e ∙ ap (λ b. if b then read (width_of (length digits)) else None) (bytes_high k n)
    ∙ ap read width ∙ ap (λ m. Some (cast_signed w m)) back ∙ ap Some z_is

one_byte : (n : ℕ) → n < 256 → from_be_bytes w8 (to_be_bytes w8 n) ≡ n
one_byte n h = small_byte n h

integer_to : (bytes : List ℕ) (z : ℤ) → IsInteger z bytes → integer_of_bytes bytes ≡ Some z
integer_to bytes z (inl p) =
    integer_read w8 1 (cast_unsigned w8 z) z bytes p.1 refl (one_byte (cast_unsigned w8 z) (bits_8 z p.0))
    (to_z-of_z w8 z p.0)
integer_to bytes z (inr (inl p)) =
    integer_read w16 2 (cast_unsigned w16 z) z bytes p.1 refl
    (from_be_bytes-to_be_bytes_2 (cast_unsigned w16 z) (bits_16 z p.0)) (to_z-of_z w16 z p.0)
integer_to bytes z (inr (inr (inl p))) =
    integer_read w32 4 (cast_unsigned w32 z) z bytes p.1 refl
    (from_be_bytes-to_be_bytes_4 (cast_unsigned w32 z) (bits_32 z p.0)) (to_z-of_z w32 z p.0)
integer_to bytes z (inr (inr (inr p))) =
    integer_read w64 8 (cast_unsigned w64 z) z bytes p.1 refl
    (from_be_bytes-to_be_bytes_8 (cast_unsigned w64 z) (bits_64 z p.0)) (to_z-of_z w64 z p.0)

-- an Objlnk

two_small : (a b : ℕ) → a < 256 → b < 256 → (i : ℕ) → get_or (a ∷ b ∷ []) i 0 < 256
two_small a b p q zero = p
two_small a b p q (suc zero) = q
two_small a b p q (suc (suc i)) = omega arith

half_from : (a b n : ℕ) → a < 256 → b < 256 → from_be_bytes w16 (a ∷ b ∷ []) ≡ n → a ∷ b ∷ [] ≡ to_be_bytes w16 n
half_from a b n p q e = sym (be_bytes_2 (a ∷ b ∷ []) n refl (two_small a b p q) (sym e))

four_from : (bytes : List ℕ) (o i : ℕ) → length bytes ≡ 4 → IsBytes bytes → from_be_bytes w16 (take 2 bytes) ≡ o
    → from_be_bytes w16 (drop 2 bytes) ≡ i → bytes ≡ to_be_bytes w16 o ++ to_be_bytes w16 i
four_from (a ∷ b ∷ c ∷ d ∷ []) o i n h p q =
    ap (λ x. x ++ c ∷ d ∷ []) (half_from a b o (h 0) (h 1) p)
    ∙ ap (λ x. to_be_bytes w16 o ++ x) (half_from c d i (h 2) (h 3) q)
four_from bytes o i n h p q = absurd (omega arith)

pair_from : (bytes : List ℕ) (o i : ℕ) → pair_of_bytes bytes ≡ Some (o, i)
    → bytes ≡ to_be_bytes w16 o ++ to_be_bytes w16 i
pair_from bytes o i e =
    let h = chosen (are_bytes bytes && (length bytes == 4))
    (from_be_bytes w16 (take 2 bytes), from_be_bytes w16 (drop 2 bytes)) (o, i) e in
    let tests = and_parts (are_bytes bytes) (length bytes == 4) h.0 in
    four_from bytes o i (eqb-true (length bytes) 4 tests.1) (bytes_from bytes tests.0) (ap (λ p. p.0) h.1)
    (ap (λ p. p.1) h.1)

pair_to : (bytes : List ℕ) (o i : ℕ) → o < 65536 → i < 65536 → bytes ≡ to_be_bytes w16 o ++ to_be_bytes w16 i
    → pair_of_bytes bytes ≡ Some (o, i)
pair_to bytes o i p q e =
    let are : are_bytes (to_be_bytes w16 o ++ to_be_bytes w16 i) ≡ true =
    and_from _ _ (lt-ltb (byte_at 1 o) 256 (byte_small 1 o))
    (and_from _ _ (lt-ltb (byte_at 0 o) 256 (byte_small 0 o)) (bytes_high 2 i)) in
    let first : from_be_bytes w16 (to_be_bytes w16 o) ≡ o = from_be_bytes-to_be_bytes_2 o (omega arith) in
    let second : from_be_bytes w16 (to_be_bytes w16 i) ≡ i = from_be_bytes-to_be_bytes_2 i (omega arith) in
    let here : ℕ × ℕ = (from_be_bytes w16 (to_be_bytes w16 o), from_be_bytes w16 (to_be_bytes w16 i)) in
    ap pair_of_bytes e ∙ ap (λ b. if b && true then Some here else None) are
    ∙ ap (λ x. Some (x, from_be_bytes w16 (to_be_bytes w16 i))) first ∙ ap (λ x. Some (o, x)) second

-- a Boolean

flag_case : (x : ℕ) (f : Bool) (a b : Bool) → (x == 0) ≡ a → (x == 1) ≡ b
    → (if a then Some false else (if b then Some true else None)) ≡ Some f → x ∷ [] ≡ (if f then 1 else 0) ∷ []
flag_case x true true b p q e = cc e
flag_case x false true b p q e = ap (λ y. y ∷ []) (eqb-true x 0 p)
flag_case x true false true p q e = ap (λ y. y ∷ []) (eqb-true x 1 q)
flag_case x false false true p q e = cc e
flag_case x f false false p q e = cc e

flag_from : (t : List ℕ) (f : Bool) → flag_by 0 1 t ≡ Some f → t ≡ (if f then 1 else 0) ∷ []
flag_from [] f e = cc e
flag_from (x ∷ []) f e = flag_case x f (x == 0) (x == 1) refl refl e
flag_from (x ∷ y ∷ t) f e = cc e

flag_to : (t : List ℕ) (f : Bool) → t ≡ (if f then 1 else 0) ∷ [] → flag_by 0 1 t ≡ Some f
flag_to t true e = ap (flag_by 0 1) e
flag_to t false e = ap (flag_by 0 1) e

-- all kinds

spelled_from : (k : ValueKind) (v : Value) (t : List ℕ) → spelled_by_bytes k t ≡ Some v → (kind_of v ≡ k)
    × IsBytesOf v t
spelled_from kind.Text v t e =
    let same : value.Text t ≡ v = cc e in
    subst (λ (x : Value). (kind_of x ≡ kind.Text) × IsBytesOf x t) same (refl, refl)
spelled_from kind.Whole v t e =
    let h = option_map_parts value.Whole (integer_of_bytes t) v e in
    subst (λ (x : Value). (kind_of x ≡ kind.Whole) × IsBytesOf x t) h.2 (refl, integer_from t h.0 h.1)
spelled_from kind.Flag v t e =
    let h = option_map_parts value.Flag (flag_by 0 1 t) v e in
    subst (λ (x : Value). (kind_of x ≡ kind.Flag) × IsBytesOf x t) h.2 (refl, flag_from t h.0 h.1)
spelled_from kind.Opaque v t e =
    let same : value.Opaque t ≡ v = cc e in
    subst (λ (x : Value). (kind_of x ≡ kind.Opaque) × IsBytesOf x t) same (refl, refl)
spelled_from kind.Moment v t e =
    let h = option_map_parts value.Moment (integer_of_bytes t) v e in
    subst (λ (x : Value). (kind_of x ≡ kind.Moment) × IsBytesOf x t) h.2 (refl, integer_from t h.0 h.1)
spelled_from kind.Link v t e =
    let h = option_map_parts (λ p. value.Link p.0 p.1) (pair_of_bytes t) v e in
    subst (λ (x : Value). (kind_of x ≡ kind.Link) × IsBytesOf x t) h.2 (refl, pair_from t h.0.0 h.0.1 h.1)

spelled_to : (v : Value) (t : List ℕ) → IsGood v → IsBytesOf v t → spelled_by_bytes (kind_of v) t ≡ Some v
spelled_to (Text a) t g p = ap (λ x. Some (value.Text x)) p
spelled_to (Whole z) t g p = ap (option_map value.Whole) (integer_to t z p)
spelled_to (Flag b) t g p = ap (option_map value.Flag) (flag_to t b p)
spelled_to (Opaque b) t g p = ap (λ x. Some (value.Opaque x)) p
spelled_to (Moment z) t g p = ap (option_map value.Moment) (integer_to t z p)
spelled_to (Link o i) t g p = ap (option_map (λ x. value.Link x.0 x.1)) (pair_to t o i g.0 g.1 p)

value_from : (k : ValueKind) (v : Value) (t : List ℕ) → value_of_bytes k t ≡ Some v → IsGood v × (kind_of v ≡ k)
    × IsBytesOf v t
unfolding value_of_bytes
value_from k v t e =
    let h = good_kept (spelled_by_bytes k t) v e in
    let s = spelled_from k v t h.0 in
    (h.1, s.0, s.1)

value_to : (k : ValueKind) (v : Value) (t : List ℕ) → IsGood v × (kind_of v ≡ k) × IsBytesOf v t
    → value_of_bytes k t ≡ Some v
unfolding value_of_bytes
value_to k v t p =
    let here : value_of_bytes (kind_of v) t ≡ Some v =
    good_back (spelled_by_bytes (kind_of v) t) v (spelled_to v t p.0 p.2) p.0 in
    ap (λ x. value_of_bytes x t) (sym p.1) ∙ here

pub value_of_bytes_exact : (k : ValueKind) (v : Value) (t : List ℕ) → (value_of_bytes k t ≡ Some v)
    ↔ (IsGood v × (kind_of v ≡ k) × IsBytesOf v t)
value_of_bytes_exact k v t = (value_from k v t, value_to k v t)

pub value_of_bytes_written : (v : Value) → IsGood v → value_of_bytes (kind_of v) (bytes_of v) ≡ Some v
value_of_bytes_written v g = value_to (kind_of v) v (bytes_of v) (g, refl, bytes_written v g)

-- what a reader owes

none_case : (k : ValueKind) (t : List ℕ) (o : Option Value) → value_of_bytes k t ≡ o
    → ((v : Value) → IsGood v → kind_of v ≡ k → ¬ (IsBytesOf v t)) → value_of_bytes k t ≡ None
none_case k t None q h = q
none_case k t (Some v) q h = let p = value_from k v t q in absurd (h v p.0 p.1 p.2)

pub is_reading : (k : ValueKind) (t : List ℕ) (r : Result Value ValueFault)
    → IfOk r (λ v. IsGood v × (kind_of v ≡ k) × IsBytesOf v t)
    → IfErr r (λ f. f ≢ Memory → (v : Value) → IsGood v → kind_of v ≡ k → ¬ (IsBytesOf v t))
    → MatchResult r (λ v. value_of_bytes k t ≡ Some v) (λ f. f ≢ Memory → value_of_bytes k t ≡ None)
is_reading k t (Ok v) p q = value_to k v t p
is_reading k t (Err f) p q = λ other. none_case k t (value_of_bytes k t) refl (q other)

-- what is not a value is no reason to run out of memory
pub is_bad : (k : ValueKind) (t : List ℕ) (r : Result Value ValueFault) → IsBytes t
    → IfOk r (λ v. IsGood v × (kind_of v ≡ k) × IsBytesOf v t) → (holds_bytes k ≡ false → IfErr r (λ f. f ≡ BadValue))
    → (k ≡ kind.Text → IfErr r (λ f. f ≡ Memory → IsUtf8 t × (length t ≤ 255)))
    → (k ≡ kind.Opaque → IfErr r (λ f. f ≡ Memory → length t ≤ 1024)) → value_of_bytes k t ≡ None
    → r ≡ Err BadValue
is_bad k t (Ok v) fits found fixed text opaque none = let e = value_to k v t found in absurd (cc (e, none))
is_bad k t (Err BadValue) fits found fixed text opaque none = refl
is_bad kind.Text t (Err Memory) fits found fixed text opaque none = let e =
    value_to kind.Text (value.Text t) t (text refl refl, refl, refl) in absurd (cc (e, none))
is_bad kind.Whole t (Err Memory) fits found fixed text opaque none = ap (λ f. Err f) (fixed refl)
is_bad kind.Flag t (Err Memory) fits found fixed text opaque none = ap (λ f. Err f) (fixed refl)
is_bad kind.Opaque t (Err Memory) fits found fixed text opaque none = let e =
    value_to kind.Opaque (value.Opaque t) t ((fits, opaque refl refl), refl, refl) in absurd (cc (e, none))
is_bad kind.Moment t (Err Memory) fits found fixed text opaque none = ap (λ f. Err f) (fixed refl)
is_bad kind.Link t (Err Memory) fits found fixed text opaque none = ap (λ f. Err f) (fixed refl)
