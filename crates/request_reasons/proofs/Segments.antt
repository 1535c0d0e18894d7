-- The segments of a Uri-Path, as the options that they are.
use Rattle.std.proofs.Common.{◌≡◌, ℕ, ◌+◌, ◌<◌, Bool, true, false, cond, List, [], ◌∷◌, length, map, filter}
use Rattle.std.proofs.Common.{None, Some, refl, sym, ap, ◌∙◌, find, option_map}
use Rattle.std.specs.Prelude.{◌==◌, count_by, position}
use Rattle.std.specs.List.{position_from}
use Rattle.std.proofs.lemmas.Iterator.Adapters.{position_from-zero}
use Rattle.std.proofs.lemmas.List.Quantifiers.{position-Some}
use Rattle.std.proofs.lemmas.List.Sums.{length-filter}
use Rattle.std.proofs.lemmas.List.{length-map}
use Rattle.coap_codec.specs.declared.option.Opt.{Opt}
use Rattle.device_requests.specs.Options.{segments_of}
use Rattle.request_reasons.specs.Segments.{IsNoPath, is_no_number}
use Rattle.request_reasons.specs.declared.uri_path.PathFault.TheVariants.{Segment}

-- the options that are segments
abbrev pub uri_paths : List Opt → List Opt
uri_paths os = filter (λ o. o.number == 11) os

pub counted : (os : List Opt) → length (segments_of os) ≡ count_by (λ o. o.number == 11) os
counted os =
    length-map (uri_paths os) (λ (o : Opt). o.value) ∙ length-filter (λ (o : Opt). o.number == 11) os

find_mapped : (p : List ℕ → Bool) (os : List Opt)
    → option_map (λ (o : Opt). o.value) (find (λ o. p o.value) os) ≡ find p (map (λ (o : Opt). o.value) os)
find_mapped p [] = refl
find_mapped p (o ∷ os) =
    elim (p o.value) as (λ b. option_map (λ (x : Opt). x.value) (cond b (Some o) (find (λ x. p x.value) os))
    ≡ cond b (Some o.value) (find p (map (λ (x : Opt). x.value) os))) [
      | true ↦ refl
      | false ↦ find_mapped p os
    ]

position_mapped : (p : List ℕ → Bool) (i : ℕ) (os : List Opt)
    → position_from (λ (o : Opt). p o.value) i os ≡ position_from p i (map (λ (o : Opt). o.value) os)
position_mapped p i [] = refl
position_mapped p i (o ∷ os) =
    ap (cond (p o.value) (Some i)) (position_mapped p (i + 1) os)

not_placed : {X : Type 0} (p : X → Bool) (i : ℕ) (xs : List X) → find p xs ≡ None → position_from p i xs ≡ None
not_placed p i [] h = refl
not_placed p i (x ∷ xs) h =
    elim (p x) as (λ b. cond b (Some x) (find p xs) ≡ None → cond b (Some i) (position_from p (i + 1) xs) ≡ None) [
      | true ↦ λ e. cc
      | false ↦ λ e. not_placed p (i + 1) xs e
    ] h

not_found : {X : Type 0} (p : X → Bool) (i : ℕ) (xs : List X) → position_from p i xs ≡ None → find p xs ≡ None
not_found p i [] h = refl
not_found p i (x ∷ xs) h =
    elim (p x) as (λ b. cond b (Some i) (position_from p (i + 1) xs) ≡ None → cond b (Some x) (find p xs) ≡ None) [
      | true ↦ λ e. cc
      | false ↦ λ e. not_found p (i + 1) xs e
    ] h

-- the place among the segments is that among the options
placed : (os : List Opt) → position (λ (o : Opt). is_no_number o.value) (uri_paths os)
    ≡ position is_no_number (segments_of os)
placed os =
    position_from-zero (λ (o : Opt). is_no_number o.value) (uri_paths os)
    ∙ position_mapped is_no_number 0 (uri_paths os) ∙ sym (position_from-zero is_no_number (segments_of os))

-- each segment is a number where none is found that is not
pub all_numbers : (os : List Opt) → find (λ (o : Opt). is_no_number o.value) (uri_paths os) ≡ None
    → position is_no_number (segments_of os) ≡ None
all_numbers os h =
    sym (placed os) ∙ position_from-zero (λ (o : Opt). is_no_number o.value) (uri_paths os)
    ∙ not_placed (λ (o : Opt). is_no_number o.value) 0 (uri_paths os) h

-- the first that is not has a place
pub has_place : (os : List Opt) (o : Opt) → find (λ (x : Opt). is_no_number x.value) (uri_paths os) ≡ Some o
    → position (λ (x : Opt). is_no_number x.value) (uri_paths os) ≡ None → ⊥
has_place os o h e =
    let none =
    not_found (λ (x : Opt). is_no_number x.value) 0 (uri_paths os)
    (sym (position_from-zero (λ (x : Opt). is_no_number x.value) (uri_paths os)) ∙ e) in
    cc

-- which is below the count
pub place_below : (os : List Opt) (k : ℕ) → position (λ (x : Opt). is_no_number x.value) (uri_paths os) ≡ Some k
    → k < count_by (λ (o : Opt). o.number == 11) os
place_below os k e =
    let unused : Opt = record { number = 0; value = [] } in
    let below = (position-Some (λ (x : Opt). is_no_number x.value) (uri_paths os) k unused e).0 in
    rw length-filter at below

-- the first segment that is not a number, with its place
pub bad_segment : (os : List Opt) (o : Opt) (k : ℕ) (bytes : List ℕ)
    → find (λ (x : Opt). is_no_number x.value) (uri_paths os) ≡ Some o
    → position (λ (x : Opt). is_no_number x.value) (uri_paths os) ≡ Some k → bytes ≡ o.value
    → IsNoPath (segments_of os) (Segment (k + 1) bytes)
bad_segment os o k bytes h e same = (
  k,
  sym (placed os) ∙ e,
  refl,
  sym (find_mapped is_no_number (uri_paths os)) ∙ ap (option_map (λ (x : Opt). x.value)) h ∙ ap Some (sym same),
)
