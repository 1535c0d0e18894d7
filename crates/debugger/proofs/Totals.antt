-- Sums over the numbers below a limit.
use Rattle.std.proofs.Common.{◌≡◌, ℕ, zero, suc, ◌+◌, ◌*◌, ◌<◌, ◌≤◌, ◌⊎◌, inl, inr, refl, sym, ap, subst}
use Rattle.std.proofs.Common.{◌∙◌, arith}
use Rattle.std.specs.List.{range_with_len, sum_by}
use Rattle.std.proofs.lemmas.Bool.{cases_eq}
use Rattle.std.proofs.lemmas.List.Sums.{sum_by_push}
use Rattle.lemmas.proofs.Lists.{range_next}

-- the sum of a function at the numbers below n
abbrev pub total : (ℕ → ℕ) → ℕ → ℕ
total f n = sum_by f (range_with_len 0 n)

-- with one number more
pub total_suc : (f : ℕ → ℕ) (n : ℕ) → total f (suc n) ≡ total f n + f n
total_suc f n =
    let z : 0 + n ≡ n = omega arith in
    ap (sum_by f) (range_next 0 n)
    ∙ (sum_by_push f (range_with_len 0 n) (0 + n) ∙ ap (λ k. total f n + f k) z)

-- functions that agree below n have the same sum
pub total_same : (f g : ℕ → ℕ) (n : ℕ) → ((d : ℕ) → d < n → f d ≡ g d) → total f n ≡ total g n
total_same f g zero same = refl
total_same f g (suc n) same =
    total_suc f n
    ∙ (ap (λ k. k + f n) (total_same f g n (λ d less. same d (omega (arith, less))))
    ∙ (ap (λ k. total g n + k) (same n (omega arith)) ∙ sym (total_suc g n)))

pub total_none : (f : ℕ → ℕ) (n : ℕ) → ((d : ℕ) → d < n → f d ≡ 0) → total f n ≡ 0
total_none f zero none = refl
total_none f (suc n) none =
    let before : total f n ≡ 0 = total_none f n (λ d less. none d (omega (arith, less))) in
    total_suc f n ∙ (ap (λ k. k + f n) before ∙ (ap (λ k. 0 + k) (none n (omega arith)) ∙ omega arith))

plus_next : (a b x y p q r : ℕ) → p ≡ a + x → q ≡ b + y → a + b ≡ r → p + q ≡ r + (x + y)
plus_next a b x y p q r e f g = omega arith

-- the sums of two functions are that of what they add up to
pub total_plus : (f g h : ℕ → ℕ) (n : ℕ) → ((d : ℕ) → d < n → f d + g d ≡ h d) → total f n + total g n ≡ total h n
total_plus f g h zero adds = refl
total_plus f g h (suc n) adds =
    plus_next (total f n) (total g n) (f n) (g n) (total f (suc n)) (total g (suc n)) (total h n) (total_suc f n)
    (total_suc g n) (total_plus f g h n (λ d less. adds d (omega (arith, less))))
    ∙ (ap (λ k. total h n + k) (adds n (omega arith)) ∙ sym (total_suc h n))

within_next : (a b x y p q : ℕ) → p ≡ a + x → q ≡ b + y → a ≤ 63 * b → x ≤ 63 * y → p ≤ 63 * q
within_next a b x y p q e f g h = omega arith

pub total_within : (f g : ℕ → ℕ) (n : ℕ) → ((d : ℕ) → d < n → f d ≤ 63 * g d) → total f n ≤ 63 * total g n
total_within f g zero within = omega arith
total_within f g (suc n) within =
    within_next (total f n) (total g n) (f n) (g n) (total f (suc n)) (total g (suc n)) (total_suc f n) (total_suc g n)
    (total_within f g n (λ d less. within d (omega (arith, less)))) (within n (omega arith))

few_next : (a x p n : ℕ) → p ≡ a + x → a ≤ 4096 * n → x ≤ 4096 → p ≤ 4096 * suc n
few_next a x p n e f g = omega arith

next_last : (a x w p q : ℕ) → p ≡ a + x → q ≡ a + (x + w) → q ≡ p + w
next_last a x w p q e f = omega arith

next_before : (a x w p q : ℕ) → p ≡ a + x → q ≡ a + w + x → q ≡ p + w
next_before a x w p q e f = omega arith

next_by : (f g : ℕ → ℕ) (w n k : ℕ) → ((k : ℕ) → k < n → g k ≡ f k + w → ((d : ℕ) → (k ≡ d → ⊥) → g d ≡ f d)
    → total g n ≡ total f n + w) → k < suc n → g k ≡ f k + w → ((d : ℕ) → (k ≡ d → ⊥) → g d ≡ f d)
    → (k ≡ n) ⊎ (k ≡ n → ⊥) → total g (suc n) ≡ total f (suc n) + w
next_by f g w n k before less here others (inl last) =
    let same : total g n ≡ total f n = total_same g f n (λ d low. others d (λ e. omega (arith, e, last, low))) in
    next_last (total f n) (f n) w (total f (suc n)) (total g (suc n)) (total_suc f n)
    (total_suc g n ∙ (ap (λ a. a + g n) same ∙ ap (λ x. total f n + x) (subst (λ j. g j ≡ f j + w) last here)))
next_by f g w n k before less here others (inr other) =
    next_before (total f n) (f n) w (total f (suc n)) (total g (suc n)) (total_suc f n)
    (total_suc g n ∙ (ap (λ a. a + g n) (before k (omega (arith, less, other)) here others)
    ∙ ap (λ x. total f n + w + x) (others n other)))

-- where one number below n counts w more, the sum is w more
pub total_adds : (f g : ℕ → ℕ) (w n k : ℕ) → k < n → g k ≡ f k + w → ((d : ℕ) → (k ≡ d → ⊥) → g d ≡ f d)
    → total g n ≡ total f n + w
total_adds f g w zero k less here others = absurd (omega (arith, less))
total_adds f g w (suc n) k less here others = next_by f g w n k (total_adds f g w n) less here others (cases_eq k n)

-- each at most 4,096
pub total_few : (f : ℕ → ℕ) (n : ℕ) → ((d : ℕ) → d < n → f d ≤ 4096) → total f n ≤ 4096 * n
total_few f zero few = omega arith
total_few f (suc n) few =
    few_next (total f n) (f n) (total f (suc n)) n (total_suc f n)
    (total_few f n (λ d less. few d (omega (arith, less)))) (few n (omega arith))
