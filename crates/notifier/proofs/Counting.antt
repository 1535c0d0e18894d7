-- Counts of first digits, as they are counted byte by byte.
use Rattle.std.proofs.Common.{◌≡◌, ℕ, zero, suc, ◌+◌, ◌-◌, ◌*◌, ◌<◌, ◌≤◌, Bool, cond, ◌&&◌, List, [], length}
use Rattle.std.proofs.Common.{get_or, drop, drop-cons, add-one, nat_lt, refl, sym, ap, ◌∙◌, arith, lt-ltb, le-ltb}
use Rattle.std.proofs.Math.Bool.{and-false}
use Rattle.std.proofs.lemmas.List.{drop_all}
use Rattle.std.specs.Char.{digit_value}
use Rattle.std.specs.Int.{IsInRange}
use Rattle.object_defs.proofs.Digits.{digit_value-digit}
use Rattle.notifier.specs.NumberEnd.{digits_in, seconds_in}
use Rattle.notifier.specs.Query.{is_digit}
use Rattle.notifier.proofs.DecimalTexts.{digit, stray}

-- ---- a number of digits

none_of : (m : ℕ) → digits_in m [] ≡ 0
none_of zero = refl
none_of (suc m) = refl

pub digits_past : (m : ℕ) (t : List ℕ) (i : ℕ) → length t ≤ i → digits_in m (drop i t) ≡ 0
digits_past m t i past = ap (digits_in m) (drop_all i t past) ∙ none_of m

pub digits_stray : (m : ℕ) (t : List ℕ) (i : ℕ) → i < length t → (IsInRange 48 57 (get_or t i 0) → ⊥)
    → digits_in m (drop i t) ≡ 0
digits_stray zero t i inside h = refl
digits_stray (suc m) t i inside h =
    ap (digits_in (suc m)) (drop-cons t i 0 inside)
    ∙ ap (λ b. cond b (1 + digits_in m (drop (suc i) t)) 0) (stray (get_or t i 0) h)

pub digits_more : (m k : ℕ) (t : List ℕ) (i : ℕ) → m ≡ k + 1 → i < length t → IsInRange 48 57 (get_or t i 0)
    → digits_in m (drop i t) ≡ 1 + digits_in k (drop (i + 1) t)
digits_more m k t i is inside h =
    let next : suc i ≡ i + 1 = sym (add-one i) in
    ap (λ n. digits_in n (drop i t)) (is ∙ add-one k) ∙ ap (digits_in (suc k)) (drop-cons t i 0 inside)
    ∙ ap (λ b. cond b (1 + digits_in k (drop (suc i) t)) 0) (digit (get_or t i 0) h)
    ∙ ap (λ n. 1 + digits_in k (drop n t)) next

-- ---- seconds

pub seconds_past : (n : ℕ) (t : List ℕ) (i : ℕ) → length t ≤ i → seconds_in n (drop i t) ≡ 0
seconds_past n t i past = ap (seconds_in n) (drop_all i t past)

abbrev after : ℕ → ℕ → ℕ
after n c = n * 10 + digit_value c

abbrev counted : ℕ → ℕ → List ℕ → Bool → Bool → ℕ
counted n c cs a b = cond (a && b) (1 + seconds_in (after n c) cs) 0

pub seconds_stray : (n : ℕ) (t : List ℕ) (i : ℕ) → i < length t → (IsInRange 48 57 (get_or t i 0) → ⊥)
    → seconds_in n (drop i t) ≡ 0
seconds_stray n t i inside h =
    let c = get_or t i 0 in
    ap (seconds_in n) (drop-cons t i 0 inside)
    ∙ ap (λ a. counted n c (drop (suc i) t) a (nat_lt (after n c) 2147483648)) (stray c h)

pub seconds_over : (n m : ℕ) (t : List ℕ) (i : ℕ) → i < length t → IsInRange 48 57 (get_or t i 0)
    → m ≡ n * 10 + (get_or t i 0 - 48) → 2147483648 ≤ m → seconds_in n (drop i t) ≡ 0
seconds_over n m t i inside h is over =
    let c = get_or t i 0 in
    let same : after n c ≡ m = ap (λ v. n * 10 + v) (digit_value-digit c h) ∙ sym is in
    ap (seconds_in n) (drop-cons t i 0 inside)
    ∙ ap (λ b. counted n c (drop (suc i) t) (is_digit c) b) (le-ltb (after n c) 2147483648 (omega (arith, same, over)))
    ∙ ap (λ a. cond a (1 + seconds_in (after n c) (drop (suc i) t)) 0) (and-false (is_digit c))

pub seconds_more : (n m : ℕ) (t : List ℕ) (i : ℕ) → i < length t → IsInRange 48 57 (get_or t i 0)
    → m ≡ n * 10 + (get_or t i 0 - 48) → m < 2147483648
    → seconds_in n (drop i t) ≡ 1 + seconds_in m (drop (i + 1) t)
seconds_more n m t i inside h is small =
    let c = get_or t i 0 in
    let same : after n c ≡ m = ap (λ v. n * 10 + v) (digit_value-digit c h) ∙ sym is in
    let next : suc i ≡ i + 1 = sym (add-one i) in
    ap (seconds_in n) (drop-cons t i 0 inside)
    ∙ ap (λ a. counted n c (drop (suc i) t) a (nat_lt (after n c) 2147483648)) (digit c h)
    ∙ ap (λ b. cond b (1 + seconds_in (after n c) (drop (suc i) t)) 0)
    (lt-ltb (after n c) 2147483648 (omega (arith, same, small)))
    ∙ (λ j. 1 + seconds_in (same j) (drop (next j) t))
