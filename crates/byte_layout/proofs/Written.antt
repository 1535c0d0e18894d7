-- Items written one after another, as a loop does.
use Rattle.std.proofs.Common.{◌≡◌, ℕ, zero, suc, ◌+◌, ◌<◌, ◌≤◌, List, [], ◌∷◌, ◌++◌, length, get_or, take, Some, sym}
use Rattle.std.proofs.Common.{ap, ◌∙◌, append_assoc}
use Rattle.std.proofs.lemmas.Option.{slice_get-get_or}
use Rattle.std.proofs.lemmas.List.{append-nil, take_more, take_all}
use Rattle.byte_layout.proofs.Lists.{each_at}
use Rattle.byte_layout.specs.Layout.{Layout, each}

-- the bytes of items, each knowing those before it
abbrev pub spelled : {A : Type 0} → (List A → Layout A) → List A → List A → List ℕ
spelled part before [] = []
spelled part before (x ∷ xs) = (part before).spell x ++ spelled part (before ++ x ∷ []) xs

pub spelled_push : {A : Type 0} (part : List A → Layout A) (before xs : List A) (x : A)
    → spelled part before (xs ++ x ∷ []) ≡ spelled part before xs ++ (part (before ++ xs)).spell x
spelled_push part before [] x =
    append-nil ((part before).spell x) ∙ ap (λ ys. (part ys).spell x) (sym (append-nil before))
spelled_push part before (y ∷ xs) x =
    ap (λ t. (part before).spell y ++ t) (spelled_push part (before ++ y ∷ []) xs x
    ∙ ap (λ ys. spelled part (before ++ y ∷ []) xs ++ (part ys).spell x) (append_assoc before (y ∷ []) xs))
    ∙ sym (append_assoc ((part before).spell y) (spelled part (before ++ y ∷ []) xs)
    ((part (before ++ y ∷ xs)).spell x))

pub each_spells : {A : Type 0} (part : List A → Layout A) (n : ℕ) (before xs : List A) → (each part n before).Good xs
    → (each part n before).spell xs ≡ spelled part before xs
unfolding each
each_spells part zero before xs good = sym (ap (spelled part before) good)
each_spells part (suc n) before [] good = absurd good
each_spells part (suc n) before (x ∷ xs) good =
    ap (λ t. (part before).spell x ++ t) (each_spells part n (before ++ x ∷ []) xs good.1)

-- the item at i may be written after those before it
pub may_write : {A : Type 0} (part : List A → Layout A) (list : List A) (i : ℕ) (x : A)
    → (each part (length list) []).Good list → i < length list → x ≡ get_or list i x → (part (take i list)).Good x
may_write part list i x good lt item =
    each_at part (length list) [] list good i x (slice_get-get_or list i x lt ∙ ap (λ y. Some y) (sym item))

-- it was written
pub writes_on : {A : Type 0} (part : List A → Layout A) (list : List A) (i : ℕ) (x : A) (start out new : List ℕ)
    → i < length list → x ≡ get_or list i x
    → new ≡ out ++ (part (take i list)).spell x → out ≡ start ++ spelled part [] (take i list)
    → new ≡ start ++ spelled part [] (take (i + 1) list)
writes_on part list i x start out new lt item step so_far =
    let front = take i list in
    let more : take (i + 1) list ≡ front ++ x ∷ [] = take_more list i x lt ∙ ap (λ y. front ++ y ∷ []) (sym item) in
    step
    ∙ ap (λ t. t ++ (part front).spell x) so_far
    ∙ append_assoc start (spelled part [] front) ((part front).spell x)
    ∙ ap (λ t. start ++ t) (sym (spelled_push part [] front x) ∙ ap (spelled part []) (sym more))

-- all were written
pub all_written : {A : Type 0} (part : List A → Layout A) (list : List A) (i : ℕ) (start out : List ℕ)
    → (each part (length list) []).Good list → length list ≤ i
    → out ≡ start ++ spelled part [] (take i list) → out ≡ start ++ (each part (length list) []).spell list
all_written part list i start out good le so_far =
    so_far ∙ ap (λ xs. start ++ spelled part [] xs) (take_all i list le)
    ∙ ap (λ t. start ++ t) (sym (each_spells part (length list) [] list good))
