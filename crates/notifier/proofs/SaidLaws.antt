-- What was said of observations stays beside those that stay.
use Rattle.std.proofs.Common.{◌≡◌, ℕ, zero, suc, ◌<◌, Bool, true, false, cond, not, ◌||◌, List, [], ◌∷◌}
use Rattle.std.proofs.Common.{if◌then◌else◌, None, filter, length, position, remove, slice_set}
use Rattle.std.proofs.Common.{refl, sym, ap, ◌∙◌, ◌++◌, arith}
use Rattle.std.specs.List.{list_any}
use Rattle.std.specs.Option.{is_some}
use Rattle.notifier.specs.Observed.{is_named}
use Rattle.notifier.specs.Said.{initial_outlook, said_with, said_without}
use Rattle.notifier.specs.declared.observation.Observation.{Observation}
use Rattle.notifier.specs.declared.pending.Outlook.{Outlook}
use Rattle.notifier.proofs.Places.{IsFirst, any_place}

-- ---- the first of those that go is taken out

pub inside : {X : Type 0} (p : X → Bool) (xs : List X) (i : ℕ) → IsFirst p xs i → i < length xs
inside p [] i h = absurd h
inside p (x ∷ xs) zero h = omega arith
inside p (x ∷ xs) (suc i) h = omega (arith, inside p xs i h.1)

pub filter_removed : {X : Type 0} (p : X → Bool) (xs : List X) (i : ℕ) → IsFirst p xs i
    → filter (λ x. not (p x)) (remove xs i) ≡ filter (λ x. not (p x)) xs
filter_removed p [] i h = absurd h
filter_removed p (x ∷ xs) zero h =
    sym (ap (λ b. cond (not b) (x ∷ filter (λ y. not (p y)) xs) (filter (λ y. not (p y)) xs)) h)
filter_removed p (x ∷ xs) (suc i) h = ap (λ t. cond (not (p x)) (x ∷ t) t) (filter_removed p xs i h.1)

none_said : (p : Observation → Bool) (os : List Observation) → said_without p os [] ≡ []
none_said p [] = refl
none_said p (o ∷ os) = refl

pub said_removed : (p : Observation → Bool) (os : List Observation) (ss : List Outlook) (i : ℕ) → IsFirst p os i
    → said_without p (remove os i) (remove ss i) ≡ said_without p os ss
said_removed p [] ss i h = absurd h
said_removed p (o ∷ os) [] zero h = none_said p os
said_removed p (o ∷ os) [] (suc i) h = refl
said_removed p (o ∷ os) (s ∷ ss) zero h =
    sym (ap (λ b. if b then said_without p os ss else s ∷ said_without p os ss) h)
said_removed p (o ∷ os) (s ∷ ss) (suc i) h = ap (λ t. if p o then t else s ∷ t) (said_removed p os ss i h.1)

-- ---- where none goes

pub none_first : {X : Type 0} (p : X → Bool) (xs : List X) → position p xs ≡ None → list_any p xs ≡ false
none_first p xs h = any_place p xs ∙ ap is_some h

pub filter_none : {X : Type 0} (p : X → Bool) (xs : List X) → list_any p xs ≡ false → filter (λ x. not (p x)) xs ≡ xs
filter_none p [] h = refl
filter_none p (x ∷ xs) h =
    elim (p x) as (λ b. (b || list_any p xs) ≡ false
    → cond (not b) (x ∷ filter (λ y. not (p y)) xs) (filter (λ y. not (p y)) xs) ≡ x ∷ xs) [
      | true ↦ λ k. cc
      | false ↦ λ k. ap (λ t. x ∷ t) (filter_none p xs k)
    ] h

pub said_none : (p : Observation → Bool) (os : List Observation) (ss : List Outlook) → list_any p os ≡ false
    → said_without p os ss ≡ ss
said_none p [] ss h = refl
said_none p (o ∷ os) [] h = refl
said_none p (o ∷ os) (s ∷ ss) h =
    elim (p o) as (λ b. (b || list_any p os) ≡ false
    → (if b then said_without p os ss else s ∷ said_without p os ss) ≡ s ∷ ss) [
      | true ↦ λ k. cc
      | false ↦ λ k. ap (λ t. s ∷ t) (said_none p os ss k)
    ] h

-- ---- a registration

pub said_first : (server : ℕ) (token : List ℕ) (os : List Observation) (ss : List Outlook) (i : ℕ)
    → length ss ≡ length os → IsFirst (is_named server token) os i
    → said_with server token os ss ≡ slice_set ss i initial_outlook
said_first server token [] ss i len h = absurd h
said_first server token (o ∷ os) [] i len h = absurd (let none : 0 ≡ suc (length os) = len in cc)
said_first server token (o ∷ os) (s ∷ ss) zero len h =
    ap (λ b. if b then initial_outlook ∷ ss else s ∷ said_with server token os ss) h
said_first server token (o ∷ os) (s ∷ ss) (suc i) len h =
    let shorter : length ss ≡ length os = omega (arith, len) in
    ap (λ b. if b then initial_outlook ∷ ss else s ∷ said_with server token os ss) h.0
    ∙ ap (λ t. s ∷ t) (said_first server token os ss i shorter h.1)

pub said_last : (server : ℕ) (token : List ℕ) (os : List Observation) (ss : List Outlook)
    → length ss ≡ length os → list_any (is_named server token) os ≡ false
    → said_with server token os ss ≡ ss ++ initial_outlook ∷ []
said_last server token [] [] len none = refl
said_last server token [] (s ∷ ss) len none = absurd (let some : suc (length ss) ≡ 0 = len in cc)
said_last server token (o ∷ os) [] len none = absurd (let none_said : 0 ≡ suc (length os) = len in cc)
said_last server token (o ∷ os) (s ∷ ss) len none =
    let shorter : length ss ≡ length os = omega (arith, len) in
    elim (is_named server token o) as (λ b. (b || list_any (is_named server token) os) ≡ false
    → (if b then initial_outlook ∷ ss else s ∷ said_with server token os ss) ≡ s ∷ (ss ++ initial_outlook ∷ [])) [
      | true ↦ λ k. cc
      | false ↦ λ k. ap (λ t. s ∷ t) (said_last server token os ss shorter k)
    ] none
