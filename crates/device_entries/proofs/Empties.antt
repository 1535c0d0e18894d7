-- Empty lists, one for each row.
use Rattle.std.proofs.Common.{◌≡◌, ℕ, ◌+◌, ◌<◌, List, [], ◌∷◌, ◌++◌, length, map, replicate, Some, slice_get, sym, ap, ◌∙◌}
use Rattle.std.proofs.Common.{arith, get_or}
use Rattle.std.proofs.lemmas.List.{get_or-replicate, length-map, length-replicate, map-append}
use Rattle.std.proofs.lemmas.List.{replicate-append-replicate}
use Rattle.std.proofs.lemmas.Option.{get_or_from_slice_get, slice_get_within}
use Rattle.lemmas.proofs.Lists.{item_mapped}

pub empty_count : {X Y : Type 0} (f : X → List Y) (n : ℕ) (xs : List X) → map f xs ≡ replicate n [] → length xs ≡ n
empty_count f n xs are = sym (length-map xs f) ∙ ap length are ∙ length-replicate n []

-- each is empty
pub empty_at : {X Y : Type 0} (f : X → List Y) (n : ℕ) (xs : List X) (d : ℕ) (x : X) → map f xs ≡ replicate n []
    → slice_get xs d ≡ Some x → f x ≡ []
empty_at f n xs d x are at =
    let within : d < n = omega (arith, slice_get_within xs d x at, empty_count f n xs are) in
    sym (get_or_from_slice_get (map f xs) d (f x) [] (item_mapped f xs d x at))
    ∙ ap (λ l. get_or l d []) are ∙ get_or-replicate n d [] [] within

-- with one more
pub empty_more : {X Y : Type 0} (f : X → List Y) (n : ℕ) (xs more : List X) (y : X) → map f xs ≡ replicate n []
    → f y ≡ [] → more ≡ xs ++ y ∷ [] → map f more ≡ replicate (n + 1) []
empty_more f n xs more y are none added =
    ap (map f) added ∙ map-append f xs (y ∷ []) ∙ ap (λ l. l ++ f y ∷ []) are
    ∙ ap (λ l. replicate n [] ++ l ∷ []) none ∙ replicate-append-replicate n 1 []
