-- Values after their paths, written one after another, as a loop does over pairs of a path and a borrowed value.
use Rattle.std.proofs.Common.{◌≡◌, ℕ, ◌+◌, ◌<◌, ◌≤◌, List, [], ◌∷◌, ◌++◌, All, Bor, length, take, get_or, sym, ap}
use Rattle.std.proofs.Common.{subst, ◌∙◌, append_assoc, take_all}
use Rattle.std.proofs.Math.ListN.{get_or-map}
use Rattle.std.proofs.lemmas.List.{length-map, map-append, take_more}
use Rattle.std.proofs.lemmas.List.Elements.{All-get_or}
use Rattle.byte_layout.proofs.Written.{spelled, spelled_push, each_spells}
use Rattle.byte_layout.specs.Layout.{Layout, each}
use Rattle.lwm2m_values.specs.declared.value.Value.{Value}
use Rattle.lwm2m_values.specs.Value.{IsGood}
use Rattle.object_defs.specs.declared.path.FullPath.{FullPath}
use Rattle.instance_store.specs.Listing.{shown_pairs}

abbrev Pair : Type 0
Pair = FullPath × Bor Value

abbrev shown : Pair → FullPath × Value
shown p = (p.0, p.1.now)

pub shown_good : (list : List Pair) (i : ℕ) (x : Pair) → All (λ (e : FullPath × Value). IsGood e.1) (shown_pairs list)
    → i < length list → x ≡ get_or list i x → IsGood x.1.now
shown_good list i x good lt item =
    subst (λ (e : FullPath × Value). IsGood e.1) (get_or-map shown list i x ∙ ap shown (sym item))
    (All-get_or (λ e. IsGood e.1) (shown_pairs list) i (shown x)
    (subst (λ n. i < n) (sym (length-map list shown)) lt) good)

pub shown_on : (part : List (FullPath × Value) → Layout (FullPath × Value)) (list : List Pair) (i : ℕ) (x : Pair)
    (start out new : List ℕ) → i < length list → x ≡ get_or list i x
    → new ≡ out ++ (part (shown_pairs (take i list))).spell (shown x)
    → out ≡ start ++ spelled part [] (shown_pairs (take i list))
    → new ≡ start ++ spelled part [] (shown_pairs (take (i + 1) list))
shown_on part list i x start out new lt item step so_far =
    let front = shown_pairs (take i list) in
    let more : shown_pairs (take (i + 1) list) ≡ front ++ shown x ∷ [] =
    ap shown_pairs (take_more list i x lt ∙ ap (λ y. take i list ++ y ∷ []) (sym item))
    ∙ map-append shown (take i list) (x ∷ []) in
    step
    ∙ ap (λ t. t ++ (part front).spell (shown x)) so_far
    ∙ append_assoc start (spelled part [] front) ((part front).spell (shown x))
    ∙ ap (λ t. start ++ t) (sym (spelled_push part [] front (shown x)) ∙ ap (spelled part []) (sym more))

pub shown_all : (part : List (FullPath × Value) → Layout (FullPath × Value)) (list : List Pair) (i : ℕ)
    (start out : List ℕ) → (each part (length list) []).Good (shown_pairs list) → length list ≤ i
    → out ≡ start ++ spelled part [] (shown_pairs (take i list))
    → out ≡ start ++ (each part (length list) []).spell (shown_pairs list)
shown_all part list i start out good le so_far =
    so_far ∙ ap (λ xs. start ++ spelled part [] (shown_pairs xs)) (take_all i list le)
    ∙ ap (λ t. start ++ t) (sym (each_spells part (length list) [] (shown_pairs list) good))
