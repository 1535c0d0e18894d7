-- One's complement sums, and plain sums.
use Rattle.std.proofs.Common.{◌≡◌, ℕ, ◌+◌, ◌-◌, ◌*◌, ◌/◌, ◌%◌, ◌<◌, ◌≤◌, List, [], ◌∷◌, sym, subst, inl, inr, arith}
use Rattle.std.specs.Prelude.{sum}
use Rattle.std.specs.List.{AllByRecursion}
use Rattle.std.proofs.lemmas.Bool.{cases_lt}
use Rattle.std.proofs.lemmas.List.Sums.{sum_by-cons}
use Rattle.udp_capture.specs.Checksum.{ones_plus, ones_sum}

-- carries moved from the plain sum to its low end give the other, and 0 only from 0
pub record Carries (plain ones : ℕ) : Type 0 where
  pub carried : ℕ
  pub same : plain ≡ 65535 * carried + ones
  pub within : ones ≤ 65535
  pub some : 0 < plain → 0 < ones

-- they give one number
pub carries_one : (plain a b : ℕ) → Carries plain a → Carries plain b → a ≡ b
carries_one plain a b p q =
    elim (cases_lt 0 plain) [
      | inl lt ↦ omega (arith, p.same, p.within, p.some lt, q.same, q.within, q.some lt)
      | inr le ↦ omega (arith, p.same, q.same)
    ]

some_more : (plain ones word : ℕ) → (0 < plain → 0 < ones) → 0 < word + plain → 0 < ones_plus word ones
some_more plain ones word some h =
    elim (cases_lt 0 plain) [
      | inl lt ↦ omega (arith, some lt)
      | inr le ↦ omega arith
    ]

-- with one word more
more : (plain ones word : ℕ) → word < 65536 → Carries plain ones → Carries (word + plain) (ones_plus word ones)
more plain ones word fits c = record {
  carried = c.carried + (word + ones) / 65536;
  same = omega (arith, c.same);
  within = omega (arith, c.within);
  some = λ h. some_more plain ones word c.some h;
}

pub sum_cons : (x : ℕ) (xs : List ℕ) → sum (x ∷ xs) ≡ x + sum xs
sum_cons x xs = sum_by-cons (λ n. n) x xs

-- 16-bit words
abbrev pub AreWords : List ℕ → Type 0
AreWords words = AllByRecursion (λ w. w < 65536) words

pub sums : (words : List ℕ) → AreWords words → Carries (sum words) (ones_sum words)
sums [] fit = record { carried = 0; same = omega arith; within = omega arith; some = λ h. h }
sums (w ∷ words) fit =
    subst (λ n. Carries n (ones_sum (w ∷ words))) (sym (sum_cons w words))
    (more (sum words) (ones_sum words) w fit.0 (sums words fit.1))

-- the carries of a sum of 32 bits are all moved in two steps
pub twice : (total : ℕ) → total < 4294967296
    → Carries total ((total % 65536 + total / 65536) % 65536 + (total % 65536 + total / 65536) / 65536)
twice total fits = record {
  carried = total / 65536 + (total % 65536 + total / 65536) / 65536;
  same = omega arith;
  within = omega arith;
  some = λ h. omega arith;
}

-- with the complement of the one's complement sum the sum is all ones, also where 0 is replaced by all ones
pub all_ones : (plain ones check result : ℕ) → Carries plain ones → Carries (plain + check) result
    → check ≡ 65535 - ones → result ≡ 65535
all_ones plain ones check result c d is =
    let some : 0 < plain + check → 0 < result = d.some in
    elim (cases_lt 0 (plain + check)) [
      | inl lt ↦ omega (arith, c.same, c.within, d.same, d.within, some lt)
      | inr le ↦ omega (arith, c.same, c.within)
    ]

pub all_ones_sent : (plain result : ℕ) → Carries plain 65535 → Carries (plain + 65535) result → result ≡ 65535
all_ones_sent plain result c d =
    let here : 0 < plain + 65535 = omega arith in omega (arith, c.same, d.same, d.within, d.some here)
