-- What tests and comparisons of two numbers say.
use Rattle.std.proofs.Common.{◌≡◌, ℕ, ◌<◌, ◌%◌, true, false, ltb, arith}
use Rattle.std.proofs.Math.Dec.{eqb}
use Rattle.std.specs.Prelude.{◌==◌}
use Rattle.std.specs.Ordering.{nat_cmp, is_lt, eq_by_cmp}
use Rattle.std.specs.Bool.{nat_le}
use Rattle.std.proofs.lemmas.Bool.Decides.{nat_tests}

pub eqb_itself : (n : ℕ) → (n == n) ≡ true
eqb_itself n = grind (arith, nat_tests)

pub eqb_turned : (a b : ℕ) → (a == b) ≡ (b == a)
eqb_turned a b = grind (arith, nat_tests)

pub eqb_below : (k n : ℕ) → k < n → eqb k n ≡ false
eqb_below k n h = grind (arith, nat_tests)

pub above_from_tests : (x y : ℕ) → ltb x y ≡ false → eqb y x ≡ false → y < x
above_from_tests x y h k = grind (arith, nat_tests)

pub nat_le_above : (n m : ℕ) → m < n → nat_le n m ≡ false
nat_le_above n m h = grind (arith, nat_tests)

pub nat_le_below : (n m : ℕ) → n < m → nat_le m n ≡ false
nat_le_below n m h = grind (arith, nat_tests)

pub same_from_tie : (m n : ℕ) → eq_by_cmp nat_cmp m n ≡ true → m ≡ n
same_from_tie m n h = grind (arith, nat_tests)

pub no_tie_below : (m n : ℕ) → m < n → eq_by_cmp nat_cmp m n ≡ false
no_tie_below m n h = grind (arith, nat_tests)

pub tie_itself : (n : ℕ) → eq_by_cmp nat_cmp n n ≡ true
tie_itself n = grind (arith, nat_tests)

pub below_from_lt : (n k : ℕ) → is_lt (nat_cmp n k) ≡ true → n < k
below_from_lt n k h = grind (arith, nat_tests)

pub small_byte : (n : ℕ) → n < 256 → n % 256 ≡ n
small_byte n h = omega arith
