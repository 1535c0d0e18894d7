-- Tests of a datagram with those after it, over a list that is gone through from its head.
use Rattle.std.proofs.Common.{◌≡◌, ℕ, zero, suc, ◌-◌, ◌≤◌, Bool, true, false, ◌||◌, inl, inr, List, []}
use Rattle.std.proofs.Common.{◌∷◌, ◌++◌, length, get_or, take, drop, refl, sym, ap, subst, ◌∙◌, arith}
use Rattle.std.proofs.lemmas.Bool.{or_cases}
use Rattle.server_lint.specs.History.{Transmission}
use Rattle.server_lint.specs.Inside.{any_then}
use Rattle.server_lint.specs.Observing.{AnyThen}

or_first : (a b : Bool) → a ≡ true → (a || b) ≡ true
or_first true b h = refl
or_first false b h = cc

or_second : (a b : Bool) → b ≡ true → (a || b) ≡ true
or_second true b h = refl
or_second false b h = h

or_past : (a b : Bool) → a ≡ false → (a || b) ≡ b
or_past true b h = cc
or_past false b h = refl

whole : (xs : List Transmission) (n : ℕ) → n ≡ length xs → take n xs ≡ xs
whole [] zero e = refl
whole [] (suc n) e = absurd (omega arith)
whole (x ∷ xs) zero e = absurd (omega arith)
whole (x ∷ xs) (suc n) e = ap (λ l. x ∷ l) (whole xs n (omega arith))

-- it passes at the first of the rest
pub any_here : (test : Transmission → List Transmission → Bool) (rest : List Transmission) (t : Transmission) (b : Bool)
    → 1 ≤ length rest → t ≡ get_or rest 0 t → b ≡ test t (take (length rest - 1) (drop 1 rest)) → b ≡ true
    → any_then test rest ≡ true
any_here test [] t b some first is passes = absurd (omega arith)
any_here test (x ∷ xs) t b some first is passes =
    let all : take (length (x ∷ xs) - 1) xs ≡ xs = whole xs (length (x ∷ xs) - 1) (omega arith) in
    or_first (test x xs) (any_then test xs)
    (sym (is ∙ ap (λ y. test y (take (length (x ∷ xs) - 1) xs)) first ∙ ap (λ l. test x l) all) ∙ passes)

-- it does not, so it is left to the others
pub any_later : (test : Transmission → List Transmission → Bool) (rest : List Transmission) (t : Transmission)
    (b : Bool) → 1 ≤ length rest → t ≡ get_or rest 0 t → b ≡ test t (take (length rest - 1) (drop 1 rest)) → b ≡ false
    → any_then test (take (length rest - 1) (drop 1 rest)) ≡ any_then test rest
any_later test [] t b some first is fails = absurd (omega arith)
any_later test (x ∷ xs) t b some first is fails =
    let all : take (length (x ∷ xs) - 1) xs ≡ xs = whole xs (length (x ∷ xs) - 1) (omega arith) in
    ap (any_then test) all
    ∙ sym (or_past (test x xs) (any_then test xs)
    (sym (is ∙ ap (λ y. test y (take (length (x ∷ xs) - 1) xs)) first ∙ ap (λ l. test x l) all) ∙ fails))

-- ---- what the test means

past_more : (P : Transmission → List Transmission → Type 0) (x : Transmission) (xs : List Transmission) → AnyThen P xs
    → AnyThen P (x ∷ xs)
past_more P x xs h =
    record {
      past = x ∷ h.past;
      this = h.this;
      rest = h.rest;
      stands = ap (λ l. x ∷ l) h.stands;
      holds = h.holds;
    }

-- where the test passes, what it tests holds
pub then_holds : (P : Transmission → List Transmission → Type 0) (test : Transmission → List Transmission → Bool)
    → ((t : Transmission) (rest : List Transmission) → test t rest ≡ true → P t rest) → (all : List Transmission)
    → any_then test all ≡ true → AnyThen P all
then_holds P test means [] h = cc
then_holds P test means (x ∷ xs) h =
    elim (or_cases (test x xs) (any_then test xs) h) [
      | inl here ↦ record { past = []; this = x; rest = xs; stands = refl; holds = means x xs here }
      | inr later ↦ past_more P x xs (then_holds P test means xs later)
    ]

then_at : (test : Transmission → List Transmission → Bool) (past : List Transmission) (t : Transmission)
    (rest : List Transmission) → test t rest ≡ true → any_then test (past ++ t ∷ rest) ≡ true
then_at test [] t rest h = or_first (test t rest) (any_then test rest) h
then_at test (x ∷ xs) t rest h =
    or_second (test x (xs ++ t ∷ rest)) (any_then test (xs ++ t ∷ rest)) (then_at test xs t rest h)

-- where it holds, the test passes
pub then_passes : (P : Transmission → List Transmission → Type 0) (test : Transmission → List Transmission → Bool)
    → ((t : Transmission) (rest : List Transmission) → P t rest → test t rest ≡ true) → (all : List Transmission)
    → AnyThen P all → any_then test all ≡ true
then_passes P test means all h =
    subst (λ l. any_then test l ≡ true) (sym h.stands)
    (then_at test h.past h.this h.rest (means h.this h.rest h.holds))
