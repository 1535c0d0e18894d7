-- The letters of an entry are the bits of its number.
use Rattle.std.proofs.Common.{◌≡◌, ◌≢◌, ℕ, ◌*◌, ◌-◌, ◌/◌, ◌%◌, ◌<◌, ℤ, pos, negsuc, ◌==◌, not, true}
use Rattle.std.proofs.Common.{ap, arith, ◌↔◌, ne_eqb}
use Rattle.std.proofs.lemmas.Bool.{eqb-false, not-true}
use Rattle.std.specs.Prelude.{◌+ℤ◌, ◌*ℤ◌, FitsSigned, bit_and}
use Rattle.std.specs.Int.{w64, cast_unsigned}
use Rattle.std.proofs.lemmas.Int.{ints}
use Rattle.std.proofs.lemmas.Nat.Bits.{and_pow}
use Rattle.access_control.specs.Rights.{has_bit, letters_of}
use Rattle.laws_tables.specs.Rights.{HasBit, GrantsByBits}

-- a test of a number that is not 0
some : (n : ℕ) → not (n == 0) ≡ true → n ≢ 0
some n h = eqb-false n 0 (not-true (n == 0) h)

tested : (n : ℕ) → n ≢ 0 → not (n == 0) ≡ true
tested n h = ap not (ne_eqb n 0 h)

-- ---- the bit of weight 1

up1 : (z : ℤ) → FitsSigned w64 z → cast_unsigned w64 z / 1 % 2 ≡ 1 → HasBit 1 z
up1 (pos n) f h = (pos (n / 2), n % 1, omega arith, omega (arith, ints, h))
up1 (negsuc n) f h = (negsuc (n / 2), 0 - n % 1, omega arith, omega (arith, ints, h, f))

down1 : (z half : ℤ) (rest : ℕ) → FitsSigned w64 z → rest < 1
    → z ≡ ((half *ℤ pos 2) +ℤ pos 1) *ℤ pos 1 +ℤ pos rest → cast_unsigned w64 z / 1 % 2 ≡ 1
down1 (pos n) half rest f k h = omega (arith, ints, h, f)
down1 (negsuc n) half rest f k h = omega (arith, ints, h, f)

seen1 : (n : ℕ) → has_bit n 1 ≡ true → n / 1 % 2 ≡ 1
seen1 n h =
    let e : bit_and n 1 ≡ (n / 1 % 2) * 1 = and_pow n 0 in
    let s = some (bit_and n 1) h in omega (arith, e, s)

set1 : (n : ℕ) → n / 1 % 2 ≡ 1 → has_bit n 1 ≡ true
set1 n h =
    let e : bit_and n 1 ≡ (n / 1 % 2) * 1 = and_pow n 0 in
    tested (bit_and n 1) (λ none. omega (arith, e, h, none))

bit1 : (z : ℤ) → FitsSigned w64 z → (has_bit (cast_unsigned w64 z) 1 ≡ true) ↔ HasBit 1 z
bit1 z f = (
  (λ h. up1 z f (seen1 (cast_unsigned w64 z) h)),
  (λ p. set1 (cast_unsigned w64 z) (down1 z p.0 p.1 f p.2 p.3)),
)

-- ---- the bit of weight 2

up2 : (z : ℤ) → FitsSigned w64 z → cast_unsigned w64 z / 2 % 2 ≡ 1 → HasBit 2 z
up2 (pos n) f h = (pos (n / 4), n % 2, omega arith, omega (arith, ints, h))
up2 (negsuc n) f h = (negsuc (n / 4), 1 - n % 2, omega arith, omega (arith, ints, h, f))

down2 : (z half : ℤ) (rest : ℕ) → FitsSigned w64 z → rest < 2
    → z ≡ ((half *ℤ pos 2) +ℤ pos 1) *ℤ pos 2 +ℤ pos rest → cast_unsigned w64 z / 2 % 2 ≡ 1
down2 (pos n) half rest f k h = omega (arith, ints, h, f)
down2 (negsuc n) half rest f k h = omega (arith, ints, h, f)

seen2 : (n : ℕ) → has_bit n 2 ≡ true → n / 2 % 2 ≡ 1
seen2 n h =
    let e : bit_and n 2 ≡ (n / 2 % 2) * 2 = and_pow n 1 in
    let s = some (bit_and n 2) h in omega (arith, e, s)

set2 : (n : ℕ) → n / 2 % 2 ≡ 1 → has_bit n 2 ≡ true
set2 n h =
    let e : bit_and n 2 ≡ (n / 2 % 2) * 2 = and_pow n 1 in
    tested (bit_and n 2) (λ none. omega (arith, e, h, none))

bit2 : (z : ℤ) → FitsSigned w64 z → (has_bit (cast_unsigned w64 z) 2 ≡ true) ↔ HasBit 2 z
bit2 z f = (
  (λ h. up2 z f (seen2 (cast_unsigned w64 z) h)),
  (λ p. set2 (cast_unsigned w64 z) (down2 z p.0 p.1 f p.2 p.3)),
)

-- ---- the bit of weight 4

up4 : (z : ℤ) → FitsSigned w64 z → cast_unsigned w64 z / 4 % 2 ≡ 1 → HasBit 4 z
up4 (pos n) f h = (pos (n / 8), n % 4, omega arith, omega (arith, ints, h))
up4 (negsuc n) f h = (negsuc (n / 8), 3 - n % 4, omega arith, omega (arith, ints, h, f))

down4 : (z half : ℤ) (rest : ℕ) → FitsSigned w64 z → rest < 4
    → z ≡ ((half *ℤ pos 2) +ℤ pos 1) *ℤ pos 4 +ℤ pos rest → cast_unsigned w64 z / 4 % 2 ≡ 1
down4 (pos n) half rest f k h = omega (arith, ints, h, f)
down4 (negsuc n) half rest f k h = omega (arith, ints, h, f)

seen4 : (n : ℕ) → has_bit n 4 ≡ true → n / 4 % 2 ≡ 1
seen4 n h =
    let e : bit_and n 4 ≡ (n / 4 % 2) * 4 = and_pow n 2 in
    let s = some (bit_and n 4) h in omega (arith, e, s)

set4 : (n : ℕ) → n / 4 % 2 ≡ 1 → has_bit n 4 ≡ true
set4 n h =
    let e : bit_and n 4 ≡ (n / 4 % 2) * 4 = and_pow n 2 in
    tested (bit_and n 4) (λ none. omega (arith, e, h, none))

bit4 : (z : ℤ) → FitsSigned w64 z → (has_bit (cast_unsigned w64 z) 4 ≡ true) ↔ HasBit 4 z
bit4 z f = (
  (λ h. up4 z f (seen4 (cast_unsigned w64 z) h)),
  (λ p. set4 (cast_unsigned w64 z) (down4 z p.0 p.1 f p.2 p.3)),
)

-- ---- the bit of weight 8

up8 : (z : ℤ) → FitsSigned w64 z → cast_unsigned w64 z / 8 % 2 ≡ 1 → HasBit 8 z
up8 (pos n) f h = (pos (n / 16), n % 8, omega arith, omega (arith, ints, h))
up8 (negsuc n) f h = (negsuc (n / 16), 7 - n % 8, omega arith, omega (arith, ints, h, f))

down8 : (z half : ℤ) (rest : ℕ) → FitsSigned w64 z → rest < 8
    → z ≡ ((half *ℤ pos 2) +ℤ pos 1) *ℤ pos 8 +ℤ pos rest → cast_unsigned w64 z / 8 % 2 ≡ 1
down8 (pos n) half rest f k h = omega (arith, ints, h, f)
down8 (negsuc n) half rest f k h = omega (arith, ints, h, f)

seen8 : (n : ℕ) → has_bit n 8 ≡ true → n / 8 % 2 ≡ 1
seen8 n h =
    let e : bit_and n 8 ≡ (n / 8 % 2) * 8 = and_pow n 3 in
    let s = some (bit_and n 8) h in omega (arith, e, s)

set8 : (n : ℕ) → n / 8 % 2 ≡ 1 → has_bit n 8 ≡ true
set8 n h =
    let e : bit_and n 8 ≡ (n / 8 % 2) * 8 = and_pow n 3 in
    tested (bit_and n 8) (λ none. omega (arith, e, h, none))

bit8 : (z : ℤ) → FitsSigned w64 z → (has_bit (cast_unsigned w64 z) 8 ≡ true) ↔ HasBit 8 z
bit8 z f = (
  (λ h. up8 z f (seen8 (cast_unsigned w64 z) h)),
  (λ p. set8 (cast_unsigned w64 z) (down8 z p.0 p.1 f p.2 p.3)),
)

-- ---- the bit of weight 16

up16 : (z : ℤ) → FitsSigned w64 z → cast_unsigned w64 z / 16 % 2 ≡ 1 → HasBit 16 z
up16 (pos n) f h = (pos (n / 32), n % 16, omega arith, omega (arith, ints, h))
up16 (negsuc n) f h = (negsuc (n / 32), 15 - n % 16, omega arith, omega (arith, ints, h, f))

down16 : (z half : ℤ) (rest : ℕ) → FitsSigned w64 z → rest < 16
    → z ≡ ((half *ℤ pos 2) +ℤ pos 1) *ℤ pos 16 +ℤ pos rest → cast_unsigned w64 z / 16 % 2 ≡ 1
down16 (pos n) half rest f k h = omega (arith, ints, h, f)
down16 (negsuc n) half rest f k h = omega (arith, ints, h, f)

seen16 : (n : ℕ) → has_bit n 16 ≡ true → n / 16 % 2 ≡ 1
seen16 n h =
    let e : bit_and n 16 ≡ (n / 16 % 2) * 16 = and_pow n 4 in
    let s = some (bit_and n 16) h in omega (arith, e, s)

set16 : (n : ℕ) → n / 16 % 2 ≡ 1 → has_bit n 16 ≡ true
set16 n h =
    let e : bit_and n 16 ≡ (n / 16 % 2) * 16 = and_pow n 4 in
    tested (bit_and n 16) (λ none. omega (arith, e, h, none))

bit16 : (z : ℤ) → FitsSigned w64 z → (has_bit (cast_unsigned w64 z) 16 ≡ true) ↔ HasBit 16 z
bit16 z f = (
  (λ h. up16 z f (seen16 (cast_unsigned w64 z) h)),
  (λ p. set16 (cast_unsigned w64 z) (down16 z p.0 p.1 f p.2 p.3)),
)

-- ---- the letters

pub letters_bits : (z : ℤ) → FitsSigned w64 z → GrantsByBits z (letters_of z)
letters_bits z f =
    record { read = bit1 z f; write = bit2 z f; execute = bit4 z f; delete = bit8 z f; create = bit16 z f }
