-- Links of paths one after another.
use Rattle.std.proofs.Common.{◌≡◌, ℕ, ◌+◌, ◌<◌, Bool, List, [], ◌∷◌, ◌++◌, map, length, drop, get_or, ap, sym, ◌∙◌}
use Rattle.std.proofs.Common.{append_assoc}
use Rattle.std.specs.List.{filter, flat_map}
use Rattle.std.proofs.lemmas.List.{drop_more}
use Rattle.std.proofs.lemmas.List.Concat.{flat_map-append}
use Rattle.std.proofs.lemmas.List.Elements.{filter-append}

-- what a first one and those after it add
filtered_next : {X A : Type 0} (text : List A) (f : X → List A) (p : X → Bool) (x : X) (xs : List X)
    → (text ++ flat_map f (filter p (x ∷ []))) ++ flat_map f (filter p xs) ≡ text ++ flat_map f (filter p (x ∷ xs))
filtered_next text f p x xs =
    append_assoc text _ _ ∙ ap (λ t. text ++ t)
    (sym (flat_map-append f (filter p (x ∷ [])) (filter p xs)) ∙ ap (flat_map f) (sym (filter-append p (x ∷ []) xs)))

-- what the one at an index and those after it add
pub filtered_at : {W X A : Type 0} (text : List A) (f : X → List A) (p : X → Bool) (h : W → X) (ws : List W) (i : ℕ)
    (w : W) → i < length ws
    → (text ++ flat_map f (filter p (h (get_or ws i w) ∷ []))) ++ flat_map f (filter p (map h (drop (i + 1) ws)))
    ≡ text ++ flat_map f (filter p (map h (drop i ws)))
filtered_at text f p h ws i w l =
    filtered_next text f p (h (get_or ws i w)) (map h (drop (i + 1) ws))
    ∙ ap (λ t. text ++ flat_map f (filter p (map h t))) (sym (drop_more ws i w l))

-- the same where there are several for each
pub flattened_at : {W X A : Type 0} (text : List A) (f : X → List A) (h : W → List X) (ws : List W) (i : ℕ) (w : W)
    → i < length ws
    → (text ++ flat_map f (h (get_or ws i w))) ++ flat_map f (flat_map h (drop (i + 1) ws))
    ≡ text ++ flat_map f (flat_map h (drop i ws))
flattened_at text f h ws i w l =
    append_assoc text _ _ ∙ ap (λ t. text ++ t)
    (sym (flat_map-append f (h (get_or ws i w)) (flat_map h (drop (i + 1) ws)))
    ∙ ap (λ t. flat_map f (flat_map h t)) (sym (drop_more ws i w l)))
