-- Bytes are those of one valid value of each kind, and the shortest bytes of a value are bytes of it; none are shorter.
use Rattle.std.proofs.Common.{◌≡◌, ℕ, ◌<◌, ◌≤◌, ◌^◌, List, [], ◌∷◌, ◌++◌, length, take, drop, get_or, ℤ, pos}
use Rattle.std.proofs.Common.{negsuc, cond, eqb, ltb-true, inl, inr, Bool, true, false, refl, sym, ap, ◌∙◌, FitsSigned}
use Rattle.std.proofs.Common.{arith}
use Rattle.std.specs.Int.{w8, w16, w32, w64, to_be_bytes, from_be_bytes, cast_unsigned, cast_signed}
use Rattle.std.proofs.lemmas.Int.{to_z-of_z}
use Rattle.std.proofs.lemmas.Bool.Decides.{nat_tests}
use Rattle.std.proofs.lemmas.Nat.{from_be_bytes-to_be_bytes_2, from_be_bytes-to_be_bytes_4, from_be_bytes-to_be_bytes_8}
use Rattle.lemmas.proofs.Numbers.{small_byte}
use Rattle.lwm2m_values.specs.declared.value.Value.{Value}
use Rattle.lwm2m_values.specs.declared.value.Value.TheVariants as value
use Rattle.lwm2m_values.specs.declared.value.Value.TheVariants.{Text, Whole, Flag, Opaque, Moment, Link}
use Rattle.lwm2m_values.specs.Value.{kind_of, IsGood, IsInteger, IsBytesOf, is_within, shortest_integer, bytes_of}

-- the bits of a number that fits a width

pub bits_8 : (z : ℤ) → FitsSigned w8 z → cast_unsigned w8 z < 256
bits_8 (pos n) fits = omega (arith, fits.sfits)
bits_8 (negsuc n) fits = omega (arith, fits.sfits)

pub bits_16 : (z : ℤ) → FitsSigned w16 z → cast_unsigned w16 z < 2 ^ 16
bits_16 (pos n) fits = omega (arith, fits.sfits)
bits_16 (negsuc n) fits = omega (arith, fits.sfits)

pub bits_32 : (z : ℤ) → FitsSigned w32 z → cast_unsigned w32 z < 2 ^ 32
bits_32 (pos n) fits = omega (arith, fits.sfits)
bits_32 (negsuc n) fits = omega (arith, fits.sfits)

pub bits_64 : (z : ℤ) → FitsSigned w64 z → cast_unsigned w64 z < 2 ^ 64
bits_64 (pos n) fits = omega (arith, fits.sfits)
bits_64 (negsuc n) fits = omega (arith, fits.sfits)

decoded : List ℕ → ℤ
decoded bytes =
    cond (eqb (length bytes) 1) (cast_signed w8 (get_or bytes 0 0))
    (cond (eqb (length bytes) 2) (cast_signed w16 (from_be_bytes w16 bytes))
    (cond (eqb (length bytes) 4) (cast_signed w32 (from_be_bytes w32 bytes))
    (cast_signed w64 (from_be_bytes w64 bytes))))

decoded_is : (z : ℤ) (bytes : List ℕ) → IsInteger z bytes → decoded bytes ≡ z
unfolding decoded
decoded_is z bytes (inl p) =
    ap decoded p.1 ∙ ap (cast_signed w8) (small_byte (cast_unsigned w8 z) (bits_8 z p.0)) ∙ to_z-of_z w8 z p.0
decoded_is z bytes (inr (inl p)) =
    ap decoded p.1 ∙ ap (cast_signed w16) (from_be_bytes-to_be_bytes_2 (cast_unsigned w16 z) (bits_16 z p.0))
    ∙ to_z-of_z w16 z p.0
decoded_is z bytes (inr (inr (inl p))) =
    ap decoded p.1 ∙ ap (cast_signed w32) (from_be_bytes-to_be_bytes_4 (cast_unsigned w32 z) (bits_32 z p.0))
    ∙ to_z-of_z w32 z p.0
decoded_is z bytes (inr (inr (inr p))) =
    ap decoded p.1 ∙ ap (cast_signed w64) (from_be_bytes-to_be_bytes_8 (cast_unsigned w64 z) (bits_64 z p.0))
    ∙ to_z-of_z w64 z p.0

one_integer : (y z : ℤ) (bytes : List ℕ) → IsInteger y bytes → IsInteger z bytes → y ≡ z
one_integer y z bytes p q = sym (decoded_is y bytes p) ∙ decoded_is z bytes q

-- what is written

fits_8 : (z : ℤ) → is_within 128 z ≡ true → FitsSigned w8 z
fits_8 (pos n) e = record { sfits = omega (arith, ltb-true, e) }
fits_8 (negsuc n) e = record { sfits = omega (arith, ltb-true, e) }

fits_16 : (z : ℤ) → is_within 32768 z ≡ true → FitsSigned w16 z
fits_16 (pos n) e = record { sfits = omega (arith, ltb-true, e) }
fits_16 (negsuc n) e = record { sfits = omega (arith, ltb-true, e) }

fits_32 : (z : ℤ) → is_within 2147483648 z ≡ true → FitsSigned w32 z
fits_32 (pos n) e = record { sfits = omega (arith, ltb-true, e) }
fits_32 (negsuc n) e = record { sfits = omega (arith, ltb-true, e) }

chosen : (z : ℤ) (a b c : Bool) → is_within 128 z ≡ a → is_within 32768 z ≡ b → is_within 2147483648 z ≡ c
    → FitsSigned w64 z
    → IsInteger z (cond a (to_be_bytes w8 (cast_unsigned w8 z))
    (cond b (to_be_bytes w16 (cast_unsigned w16 z))
    (cond c (to_be_bytes w32 (cast_unsigned w32 z)) (to_be_bytes w64 (cast_unsigned w64 z)))))
chosen z true b c p q r fits = inl (fits_8 z p, refl)
chosen z false true c p q r fits = inr (inl (fits_16 z q, refl))
chosen z false false true p q r fits = inr (inr (inl (fits_32 z r, refl)))
chosen z false false false p q r fits = inr (inr (inr (fits, refl)))

integer_written : (z : ℤ) → FitsSigned w64 z → IsInteger z (shortest_integer z)
integer_written z fits = chosen z _ _ _ refl refl refl fits

pub bytes_written : (v : Value) → IsGood v → IsBytesOf v (bytes_of v)
bytes_written (Text t) good = refl
bytes_written (Whole z) good = integer_written z good
bytes_written (Flag b) good = refl
bytes_written (Opaque b) good = refl
bytes_written (Moment z) good = integer_written z good
bytes_written (Link o i) good = refl

-- one value for bytes

abbrev flag_byte : Bool → List ℕ
flag_byte b = cond b 1 0 ∷ []

one_flag_byte : (a b : Bool) → flag_byte a ≡ flag_byte b → a ≡ b
one_flag_byte true true e = refl
one_flag_byte true false e = let byte : 1 ≡ 0 = ap (λ t. get_or t 0 0) e in absurd (omega (arith, byte))
one_flag_byte false true e = let byte : 0 ≡ 1 = ap (λ t. get_or t 0 0) e in absurd (omega (arith, byte))
one_flag_byte false false e = refl

-- the first number of four bytes, and the second
first_half : List ℕ → ℕ
first_half bytes = from_be_bytes w16 (take 2 bytes)

second_half : List ℕ → ℕ
second_half bytes = from_be_bytes w16 (drop 2 bytes)

halves_are : (o i : ℕ) (bytes : List ℕ) → o < 65536 → i < 65536 → bytes ≡ to_be_bytes w16 o ++ to_be_bytes w16 i
    → (first_half bytes ≡ o) × (second_half bytes ≡ i)
unfolding first_half second_half
halves_are o i bytes p q e = (
  ap first_half e ∙ from_be_bytes-to_be_bytes_2 o (omega arith),
  ap second_half e ∙ from_be_bytes-to_be_bytes_2 i (omega arith),
)

pub one_value_of_bytes : (v w : Value) (b : List ℕ) → IsGood v → IsGood w → kind_of v ≡ kind_of w → IsBytesOf v b
    → IsBytesOf w b → v ≡ w
one_value_of_bytes (Text a) (Text b) t g h k p q = ap value.Text (sym p ∙ q)
one_value_of_bytes (Whole a) (Whole b) t g h k p q = ap value.Whole (one_integer a b t p q)
one_value_of_bytes (Flag a) (Flag b) t g h k p q = ap value.Flag (one_flag_byte a b (sym p ∙ q))
one_value_of_bytes (Opaque a) (Opaque b) t g h k p q = ap value.Opaque (sym p ∙ q)
one_value_of_bytes (Moment a) (Moment b) t g h k p q = ap value.Moment (one_integer a b t p q)
one_value_of_bytes (Link o i) (Link m j) t g h k p q =
    let one = halves_are o i t g.0 g.1 p in
    let other = halves_are m j t h.0 h.1 q in
    ap (λ x. value.Link x i) (sym one.0 ∙ other.0) ∙ ap (value.Link m) (sym one.1 ∙ other.1)
one_value_of_bytes v w t g h k p q = cc

-- none shorter

within_8 : (z : ℤ) → FitsSigned w8 z → is_within 128 z ≡ true
within_8 (pos n) fits = let small : n < 128 = omega (arith, fits.sfits) in grind (arith, nat_tests)
within_8 (negsuc n) fits = let small : n < 128 = omega (arith, fits.sfits) in grind (arith, nat_tests)

within_16 : (z : ℤ) → FitsSigned w16 z → is_within 32768 z ≡ true
within_16 (pos n) fits = let small : n < 32768 = omega (arith, fits.sfits) in grind (arith, nat_tests)
within_16 (negsuc n) fits = let small : n < 32768 = omega (arith, fits.sfits) in grind (arith, nat_tests)

within_32 : (z : ℤ) → FitsSigned w32 z → is_within 2147483648 z ≡ true
within_32 (pos n) fits = let small : n < 2147483648 = omega (arith, fits.sfits) in grind (arith, nat_tests)
within_32 (negsuc n) fits = let small : n < 2147483648 = omega (arith, fits.sfits) in grind (arith, nat_tests)

-- the length of what is written, by the tests
length_chosen : (a b c : Bool) (p q r s : List ℕ) → length p ≡ 1 → length q ≡ 2 → length r ≡ 4 → length s ≡ 8
    → length (cond a p (cond b q (cond c r s))) ≡ cond a 1 (cond b 2 (cond c 4 8))
length_chosen true b c p q r s e f g h = e
length_chosen false true c p q r s e f g h = f
length_chosen false false true p q r s e f g h = g
length_chosen false false false p q r s e f g h = h

at_most_2 : (a b c : Bool) → b ≡ true → cond a 1 (cond b 2 (cond c 4 8)) ≤ 2
at_most_2 true b c e = omega arith
at_most_2 false true c e = omega arith
at_most_2 false false c e = cc

at_most_4 : (a b c : Bool) → c ≡ true → cond a 1 (cond b 2 (cond c 4 8)) ≤ 4
at_most_4 true b c e = omega arith
at_most_4 false true c e = omega arith
at_most_4 false false true e = omega arith
at_most_4 false false false e = cc

at_most_8 : (a b c : Bool) → cond a 1 (cond b 2 (cond c 4 8)) ≤ 8
at_most_8 true b c = omega arith
at_most_8 false true c = omega arith
at_most_8 false false true = omega arith
at_most_8 false false false = omega arith

length_integer : (z : ℤ)
    → length (shortest_integer z) ≡ cond (is_within 128 z) 1
    (cond (is_within 32768 z) 2 (cond (is_within 2147483648 z) 4 8))
length_integer z =
    length_chosen (is_within 128 z) (is_within 32768 z) (is_within 2147483648 z) _ _ _ _ refl refl refl refl

no_shorter_integer : (z : ℤ) (b : List ℕ) → IsInteger z b → length (shortest_integer z) ≤ length b
no_shorter_integer z b (inl p) =
    let short : length (shortest_integer z) ≡ 1 =
    length_integer z ∙ ap (λ x. cond x 1 (cond (is_within 32768 z) 2 (cond (is_within 2147483648 z) 4 8)))
    (within_8 z p.0) in
    omega (arith, ap length p.1)
no_shorter_integer z b (inr (inl p)) =
    omega (
      arith,
      length_integer z,
      at_most_2 (is_within 128 z) (is_within 32768 z) (is_within 2147483648 z) (within_16 z p.0),
      ap length p.1,
    )
no_shorter_integer z b (inr (inr (inl p))) =
    omega (
      arith,
      length_integer z,
      at_most_4 (is_within 128 z) (is_within 32768 z) (is_within 2147483648 z) (within_32 z p.0),
      ap length p.1,
    )
no_shorter_integer z b (inr (inr (inr p))) =
    omega (
      arith,
      length_integer z,
      at_most_8 (is_within 128 z) (is_within 32768 z) (is_within 2147483648 z),
      ap length p.1,
    )

pub no_shorter_bytes : (v : Value) (b : List ℕ) → IsBytesOf v b → length (bytes_of v) ≤ length b
no_shorter_bytes (Text t) b p = omega (arith, ap length p)
no_shorter_bytes (Whole z) b p = no_shorter_integer z b p
no_shorter_bytes (Flag x) b p = omega (arith, ap length p)
no_shorter_bytes (Opaque t) b p = omega (arith, ap length p)
no_shorter_bytes (Moment z) b p = no_shorter_integer z b p
no_shorter_bytes (Link o i) b p = omega (arith, ap length p)
