-- The lines of observations, one after the other.
use Rattle.std.proofs.Common.{◌≡◌, ℕ, zero, suc, ◌+◌, ◌≤◌, List, [], ◌∷◌, ◌++◌, length, take, slice_get, refl, sym}
use Rattle.std.proofs.Common.{ap, ◌∙◌, add-one, append_assoc}
use Rattle.std.proofs.lemmas.List.{take_all}
use Rattle.std.specs.List.{flat_map}
use Rattle.std.specs.Option.{option_to_list}

-- the pieces of the first elements and one more
flat_map-take_suc : {X A : Type 0} (f : X → List A) (xs : List X) (k : ℕ)
    → flat_map f (take (suc k) xs) ≡ flat_map f (take k xs) ++ flat_map f (option_to_list (slice_get xs k))
flat_map-take_suc f [] zero = refl
flat_map-take_suc f [] (suc k) = refl
flat_map-take_suc f (x ∷ xs) zero = refl
flat_map-take_suc f (x ∷ xs) (suc k) =
    ap (λ r. f x ++ r) (flat_map-take_suc f xs k)
    ∙ sym (append_assoc (f x) (flat_map f (take k xs)) (flat_map f (option_to_list (slice_get xs k))))

pub next_line : {X A : Type 0} (f : X → List A) (xs : List X) (k : ℕ) (before : List A)
    → (before ++ flat_map f (take k xs)) ++ flat_map f (option_to_list (slice_get xs k))
    ≡ before ++ flat_map f (take (k + 1) xs)
next_line f xs k before =
    append_assoc before (flat_map f (take k xs)) (flat_map f (option_to_list (slice_get xs k)))
    ∙ ap (λ r. before ++ r) (sym (flat_map-take_suc f xs k) ∙ ap (λ n. flat_map f (take n xs)) (sym (add-one k)))

pub every_line : {X A : Type 0} (f : X → List A) (xs : List X) (k : ℕ) → length xs ≤ k
    → flat_map f (take k xs) ≡ flat_map f xs
every_line f xs k all = ap (flat_map f) (take_all k xs all)
