-- What is among the elements of a list.
use Rattle.std.proofs.Common.{◌≡◌, Bool, true, false, cond, ◌||◌, ◌⊎◌, inl, inr, List, [], ◌∷◌, ◌++◌, map, Some, refl}
use Rattle.std.proofs.Common.{ap}
use Rattle.std.specs.List.{filter, find, flat_map, list_any}
use Rattle.device_requests.specs.Laws.{IsAmong}

pub among-left : {X : Type 0} (x : X) (xs ys : List X) → IsAmong x xs → IsAmong x (xs ++ ys)
among-left x [] ys h = absurd h
among-left x (z ∷ xs) ys (inl e) = inl e
among-left x (z ∷ xs) ys (inr h) = inr (among-left x xs ys h)

pub among-right : {X : Type 0} (x : X) (xs ys : List X) → IsAmong x ys → IsAmong x (xs ++ ys)
among-right x [] ys h = h
among-right x (z ∷ xs) ys h = inr (among-right x xs ys h)

pub among-either : {X : Type 0} (x : X) (xs ys : List X) → IsAmong x (xs ++ ys) → IsAmong x xs ⊎ IsAmong x ys
among-either x [] ys h = inr h
among-either x (z ∷ xs) ys (inl e) = inl (inl e)
among-either x (z ∷ xs) ys (inr h) = elim (among-either x xs ys h) [ inl k ↦ inl (inr k) | inr k ↦ inr k ]

pub among-map : {W X : Type 0} (f : W → X) (w : W) (ws : List W) → IsAmong w ws → IsAmong (f w) (map f ws)
among-map f w [] h = absurd h
among-map f w (v ∷ ws) (inl e) = inl (ap f e)
among-map f w (v ∷ ws) (inr h) = inr (among-map f w ws h)

pub mapped : {W X : Type 0} (f : W → X) (x : X) (ws : List W) → IsAmong x (map f ws) → (w : W) × IsAmong w ws
    × (f w ≡ x)
mapped f x [] h = absurd h
mapped f x (v ∷ ws) (inl e) = (v, inl refl, e)
mapped f x (v ∷ ws) (inr h) = let k = mapped f x ws h in (k.0, inr k.1, k.2)

pub among-filter : {X : Type 0} (p : X → Bool) (x : X) (xs : List X) → p x ≡ true → IsAmong x xs
    → IsAmong x (filter p xs)
among-filter p x [] k h = absurd h
among-filter p x (z ∷ xs) k (inl e) =
    let q : p z ≡ true = rw e k in
    rw q (inl e)
among-filter p x (z ∷ xs) k (inr h) =
    elim (p z) as (λ b. IsAmong x (cond b (z ∷ filter p xs) (filter p xs))) [
      | true ↦ inr (among-filter p x xs k h)
      | false ↦ among-filter p x xs k h
    ]

pub filtered : {X : Type 0} (p : X → Bool) (x : X) (xs : List X) → IsAmong x (filter p xs) → IsAmong x xs × (p x ≡ true)
filtered p x [] h = absurd h
filtered p x (z ∷ xs) h =
    elim (p z) as (λ b. p z ≡ b → IsAmong x (cond b (z ∷ filter p xs) (filter p xs)) → IsAmong x (z ∷ xs)
    × (p x ≡ true)) [
      | true ↦ λ e k. elim k [
        | inl i ↦ (inl i, rw (← i) e)
        | inr j ↦ let r = filtered p x xs j in (inr r.0, r.1)
      ]
      | false ↦ λ e k. let r = filtered p x xs k in (inr r.0, r.1)
    ] refl h

pub among-flat : {W X : Type 0} (f : W → List X) (w : W) (x : X) (ws : List W) → IsAmong w ws → IsAmong x (f w)
    → IsAmong x (flat_map f ws)
among-flat f w x [] h k = absurd h
among-flat f w x (v ∷ ws) (inl e) k =
    let l : IsAmong x (f v) = rw e k in
    among-left x (f v) (flat_map f ws) l
among-flat f w x (v ∷ ws) (inr h) k = among-right x (f v) (flat_map f ws) (among-flat f w x ws h k)

pub flattened : {W X : Type 0} (f : W → List X) (x : X) (ws : List W) → IsAmong x (flat_map f ws) → (w : W)
    × IsAmong w ws × IsAmong x (f w)
flattened f x [] h = absurd h
flattened f x (v ∷ ws) h =
    elim (among-either x (f v) (flat_map f ws) h) [
      | inl k ↦ (v, inl refl, k)
      | inr k ↦ let r = flattened f x ws k in (r.0, inr r.1, r.2)
    ]

pub found : {X : Type 0} (p : X → Bool) (x : X) (xs : List X) → find p xs ≡ Some x → IsAmong x xs × (p x ≡ true)
found p x [] h = cc
found p x (z ∷ xs) h =
    elim (p z) as (λ b. p z ≡ b → cond b (Some z) (find p xs) ≡ Some x → IsAmong x (z ∷ xs) × (p x ≡ true)) [
      | true ↦ λ e k. let i : z ≡ x = cc in (inl i, rw (← i) e)
      | false ↦ λ e k. let r = found p x xs k in (inr r.0, r.1)
    ] refl h

pub any_found : {X : Type 0} (p : X → Bool) (xs : List X) → list_any p xs ≡ true → (x : X) × IsAmong x xs × (p x ≡ true)
any_found {X} p [] h = cc
any_found {X} p (z ∷ xs) h =
    elim (p z) as (λ b. p z ≡ b → (b || list_any p xs) ≡ true → (x : X) × IsAmong x (z ∷ xs) × (p x ≡ true)) [
      | true ↦ λ e k. (z, inl refl, e)
      | false ↦ λ e k. let r = any_found p xs k in (r.0, inr r.1, r.2)
    ] refl h

pub among-any : {X : Type 0} (p : X → Bool) (x : X) (xs : List X) → IsAmong x xs → p x ≡ true → list_any p xs ≡ true
among-any p x [] h k = absurd h
among-any p x (z ∷ xs) (inl e) k = let q : p z ≡ true = rw e k in rw q refl
among-any p x (z ∷ xs) (inr h) k =
    elim (p z) as (λ b. (b || list_any p xs) ≡ true) [ true ↦ refl | false ↦ among-any p x xs h k ]
