-- Lists of whose elements each, or each two, are so.
use Rattle.std.proofs.Common.{Bool, true, false, cond, List, [], ◌∷◌, ◌++◌, map, arith}
use Rattle.std.specs.List.{AllByRecursion, AllPairs, filter, flat_map}
use Rattle.std.proofs.lemmas.List.Elements.{All-from_recursion}
use Rattle.std.proofs.lemmas.List.Kept.{AllPairs-cons}
use Rattle.lemmas.proofs.Lists.{each_weaker, each_appended, each_filtered}

-- what holds of each element of a list that is made of others

pub all_each : {X : Type 0} (P : X → Type 0) → ((x : X) → P x) → (xs : List X) → AllByRecursion P xs
all_each P each [] = tt
all_each P each (x ∷ xs) = (each x, all_each P each xs)

pub all_mapped : {W X : Type 0} (P : X → Type 0) (f : W → X) (ws : List W) → AllByRecursion (λ w. P (f w)) ws
    → AllByRecursion P (map f ws)
all_mapped P f [] h = tt
all_mapped P f (w ∷ ws) h = (h.0, all_mapped P f ws h.1)

all_unmapped : {W X : Type 0} (P : X → Type 0) (f : W → X) (ws : List W) → AllByRecursion P (map f ws)
    → AllByRecursion (λ w. P (f w)) ws
all_unmapped P f [] h = tt
all_unmapped P f (w ∷ ws) h = (h.0, all_unmapped P f ws h.1)

pub all_flat : {W X : Type 0} (P : X → Type 0) (f : W → List X) (ws : List W) → ((w : W) → AllByRecursion P (f w))
    → AllByRecursion P (flat_map f ws)
all_flat P f [] each = tt
all_flat P f (w ∷ ws) each = each_appended P (f w) (flat_map f ws) (each w) (all_flat P f ws each)

-- lists in which each element is so related to all later ones

abbrev pub Ordered : {X : Type 0} → (X → X → Type 0) → List X → Type 0
Ordered R [] = Unit {0}
Ordered R (x ∷ xs) = AllByRecursion (R x) xs × Ordered R xs

pub pairs : {X : Type 0} (R : X → X → Type 0) (xs : List X) → Ordered R xs → AllPairs R xs
pairs R [] h = λ i j d l short. absurd (omega arith)
pairs R (x ∷ xs) h = AllPairs-cons R x xs (All-from_recursion (R x) xs h.0) (pairs R xs h.1)

pub ordered_weaker : {X : Type 0} (R S : X → X → Type 0) → ((x y : X) → R x y → S x y) → (xs : List X) → Ordered R xs
    → Ordered S xs
ordered_weaker R S weaker [] h = tt
ordered_weaker R S weaker (x ∷ xs) h =
    (each_weaker (R x) (S x) (weaker x) xs h.0, ordered_weaker R S weaker xs h.1)

pub ordered_mapped : {W X : Type 0} (R : X → X → Type 0) (f : W → X) (ws : List W) → Ordered (λ v w. R (f v) (f w)) ws
    → Ordered R (map f ws)
ordered_mapped R f [] h = tt
ordered_mapped R f (w ∷ ws) h = (all_mapped (R (f w)) f ws h.0, ordered_mapped R f ws h.1)

pub ordered_unmapped : {W X : Type 0} (R : X → X → Type 0) (f : W → X) (ws : List W) → Ordered R (map f ws)
    → Ordered (λ v w. R (f v) (f w)) ws
ordered_unmapped R f [] h = tt
ordered_unmapped R f (w ∷ ws) h = (all_unmapped (R (f w)) f ws h.0, ordered_unmapped R f ws h.1)

pub ordered_filtered : {X : Type 0} (R : X → X → Type 0) (test : X → Bool) (xs : List X) → Ordered R xs
    → Ordered R (filter test xs)
ordered_filtered R test [] h = tt
ordered_filtered R test (x ∷ xs) h =
    elim (test x) as (λ b. Ordered R (cond b (x ∷ filter test xs) (filter test xs))) [
      | true ↦ (each_filtered (R x) test xs h.0, ordered_filtered R test xs h.1)
      | false ↦ ordered_filtered R test xs h.1
    ]

ordered_joined : {X : Type 0} (R : X → X → Type 0) (xs ys : List X) → Ordered R xs → Ordered R ys
    → AllByRecursion (λ x. AllByRecursion (R x) ys) xs → Ordered R (xs ++ ys)
ordered_joined R [] ys h k across = k
ordered_joined R (x ∷ xs) ys h k across =
    (each_appended (R x) xs ys h.0 across.0, ordered_joined R xs ys h.1 k across.1)

-- lists one after another, where those of related elements are related
pub ordered_flat : {W X : Type 0} (S : W → W → Type 0) (R : X → X → Type 0) (P : W → X → Type 0) (f : W → List X)
    → ((w : W) → Ordered R (f w)) → ((w : W) → AllByRecursion (P w) (f w))
    → ((v w : W) (x y : X) → S v w → P v x → P w y → R x y) → (ws : List W) → Ordered S ws
    → Ordered R (flat_map f ws)
ordered_flat S R P f each inside step [] h = tt
ordered_flat {W} {X} S R P f each inside step (v ∷ ws) h =
    ordered_joined R (f v) (flat_map f ws) (each v) (ordered_flat S R P f each inside step ws h.1)
    (each_weaker (P v) (λ x. AllByRecursion (R x) (flat_map f ws)) (λ x p. later x p ws h.0) (f v) (inside v))
  where
    later : (x : X) → P v x → (us : List W) → AllByRecursion (S v) us → AllByRecursion (R x) (flat_map f us)
    later x p [] s = tt
    later x p (u ∷ us) s =
        each_appended (R x) (f u) (flat_map f us)
        (each_weaker (P u) (R x) (λ y q. step v u x y s.0 p q) (f u) (inside u)) (later x p us s.1)
