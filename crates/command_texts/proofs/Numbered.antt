-- The line of a number, found one line after another.
use Rattle.std.proofs.Common.{◌≡◌, ℕ, suc, ◌-◌, ◌<◌, ◌≤◌, List, [], ◌∷◌, Option, None, slice_get, refl, ap, sym, ◌∙◌}
use Rattle.std.proofs.Common.{arith, subst, unwrap_or}
use Rattle.scenario_words.specs.Words.{lines}

-- the list without its first, at the place before
behind_first : {X : Type 0} → (x : X) (xs : List X) (n : ℕ) → 1 < n
    → slice_get (x ∷ xs) (n - 1) ≡ slice_get xs (n - 1 - 1)
behind_first x xs n more =
    let at : n - 1 ≡ suc (n - 1 - 1) = omega arith in ap (λ i. slice_get (x ∷ xs) i) at

pub next_is : (text first : List ℕ) (more : List (List ℕ)) (n : ℕ) (line : List ℕ) → lines text ≡ first ∷ more → 1 < n
    → unwrap_or (slice_get (lines text) (n - 1)) [] ≡ line → unwrap_or (slice_get more (n - 1 - 1)) [] ≡ line
next_is text first more n line cut later is =
    sym (ap (λ ls. unwrap_or (slice_get ls (n - 1)) []) cut
    ∙ ap (λ o. unwrap_or o []) (behind_first first more n later)) ∙ is

pub none_behind : (text first : List ℕ) (n : ℕ) (line : List ℕ) → lines text ≡ first ∷ [] → 1 < n
    → unwrap_or (slice_get (lines text) (n - 1)) [] ≡ line → [] ≡ line
none_behind text first n line cut later is = next_is text first [] n line cut later is

pub first_is : (text first : List ℕ) (more : List (List ℕ)) (n : ℕ) (line : List ℕ) → lines text ≡ first ∷ more
    → n ≤ 1 → unwrap_or (slice_get (lines text) (n - 1)) [] ≡ line → first ≡ line
first_is text first more n line cut none is =
    let at : n - 1 ≡ 0 = omega arith in
    sym (ap (λ ls. unwrap_or (slice_get ls (n - 1)) []) cut
    ∙ ap (λ i. unwrap_or (slice_get (first ∷ more) i) []) at) ∙ is
