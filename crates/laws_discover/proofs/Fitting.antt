-- The paths of requests and of links have numbers of 16 bits, and their parts can be counted.
use Rattle.std.proofs.Common.{◌≡◌, ℕ, ◌<◌, ◌^◌, Bool, true, false, List, [], ◌∷◌, Option, None, Some}
use Rattle.std.proofs.Common.{inl, inr, length, option_map, refl, sym, subst, eqb-true, arith}
use Rattle.std.specs.Bool.{if◌then◌else◌}
use Rattle.std.specs.List.{AllByRecursion}
use Rattle.std.specs.Option.{is_some, option_and_then}
use Rattle.std.proofs.lemmas.Bool.{and_parts}
use Rattle.object_defs.specs.declared.definition.ResourceDef.{ResourceDef}
use Rattle.object_defs.specs.declared.path.Path.{Path}
use Rattle.object_defs.specs.declared.path.Path.TheVariants.{Instance, Object, Part, Resource}
use Rattle.object_defs.specs.declared.path.ResourcePath.{ResourcePath}
use Rattle.object_defs.specs.Catalog.{definition_of, object_of}
use Rattle.object_defs.specs.Decimal.{decimal_number}
use Rattle.object_defs.proofs.Digits.{decimal_number-law}
use Rattle.instance_store.specs.Existence.{exists_as}
use Rattle.instance_store.specs.Stored.{has_instance, parts_of, Stored}
use Rattle.scenario_words.specs.PathWord.{IsPath}
use Rattle.device_requests.specs.Client.{Client}
use Rattle.device_requests.specs.Discover.{dimension, linked_paths}
use Rattle.device_requests.specs.Laws.{IsAmong, lies_at, LinksWhatExists}
use Rattle.device_requests.specs.Options.{numbers_of, path_from, path_of}
use Rattle.device_requests.specs.Targets.{exists, is_multiple, place_of, resource_place}
use Rattle.laws_discover.specs.Links.{IsWithinTypes}

-- the path of a request

AreShort : List ℕ → Type 0
AreShort ns = AllByRecursion (λ n. n < 65536) ns

numbers_fit : (segments : List (List ℕ)) (ns : List ℕ) → numbers_of segments ≡ Some ns → AreShort ns
unfolding AreShort
numbers_fit [] ns h = let none : [] ≡ ns = cc h in subst AreShort none tt
numbers_fit (s ∷ ss) ns h = by (decimal_number s) refl (numbers_of ss) (numbers_fit ss) h
  where
    by : (d : Option ℕ) → decimal_number s ≡ d → (o : Option (List ℕ)) → ((ms : List ℕ) → o ≡ Some ms → AreShort ms)
        → option_and_then (λ n. option_map (λ ms. n ∷ ms) o) d ≡ Some ns → AreShort ns
    by None is o later e = cc e
    by (Some n) is None later e = cc e
    by (Some n) is (Some ms) later e =
        let same : n ∷ ms ≡ ns = cc e in
        subst AreShort same (((decimal_number-law s n).0 is).0, later ms refl)

path_from_fits : (ns : List ℕ) (path : Path) → path_from ns ≡ Some path → AreShort ns → IsPath path
unfolding AreShort
path_from_fits [] path e h = cc e
path_from_fits (o ∷ []) path e h = let same : Object o ≡ path = cc e in subst IsPath same h.0
path_from_fits (o ∷ i ∷ []) path e h = let same : Instance o i ≡ path = cc e in subst IsPath same (h.0, h.1.0)
path_from_fits (o ∷ i ∷ r ∷ []) path e h =
    let same : Resource o i r ≡ path = cc e in subst IsPath same (h.0, h.1.0, h.1.1.0)
path_from_fits (o ∷ i ∷ r ∷ p ∷ []) path e h =
    let same : Part o i r p ≡ path = cc e in subst IsPath same (h.0, h.1.0, h.1.1.0, h.1.1.1.0)
path_from_fits (o ∷ i ∷ r ∷ p ∷ n ∷ ns) path e h = cc e

pub path_of_fits : (segments : List (List ℕ)) (path : Path) → path_of segments ≡ Some path → IsPath path
path_of_fits segments path h = by (numbers_of segments) refl h
  where
    by : (o : Option (List ℕ)) → numbers_of segments ≡ o → option_and_then path_from o ≡ Some path → IsPath path
    by None is e = cc e
    by (Some ns) is e = path_from_fits ns path e (numbers_fit segments ns is)

-- the paths of links

among_all : {X : Type 0} (P : X → Type 0) (xs : List X) → ((x : X) → IsAmong x xs → P x) → AllByRecursion P xs
among_all P [] each = tt
among_all P (x ∷ xs) each = (each x (inl refl), among_all P xs (λ y h. each y (inr h)))

defined_as : (stored : Stored) (p : ResourcePath) (d : Option ResourceDef) → exists_as stored p d ≡ true
    → (e : ResourceDef) × (d ≡ Some e)
defined_as stored p None h = cc h
defined_as stored p (Some e) h = (e, refl)

object_fits : (path : Path) (p : ℕ) → IsPath path → lies_at path (Object p) ≡ true → p < 65536
object_fits (Object o) p is lies = subst (λ n. n < 65536) (sym (eqb-true p o lies)) is
object_fits (Instance o i) p is lies = cc lies
object_fits (Resource o i r) p is lies = cc lies
object_fits (Part o i r n) p is lies = cc lies

no_part : (path : Path) (o i r n : ℕ) → lies_at path (Part o i r n) ≡ true → ⊥
no_part (Object p) o i r n lies = cc lies
no_part (Instance p j) o i r n lies = cc lies
no_part (Resource p j s) o i r n lies = cc lies
no_part (Part p j s m) o i r n lies = cc lies

path_fits : (client : Client) → IsWithinTypes client → (path : Path) → IsPath path → (q : Path)
    → lies_at path q ≡ true → exists client.catalog client.store q ≡ true → IsPath q
path_fits client within path is (Object o) lies there = object_fits path o is lies
path_fits client within path is (Instance o i) lies there =
    within.instances (place_of o i)
    (and_parts (is_some (object_of client.catalog o)) (has_instance client.store (place_of o i)) there).1
path_fits client within path is (Resource o i r) lies there =
    let definition = definition_of client.catalog o r in
    let parts =
    and_parts (has_instance client.store (place_of o i))
    (exists_as client.store (resource_place o i r) definition) there in
    let numbers = within.instances (place_of o i) parts.0 in
    let found = defined_as client.store (resource_place o i r) definition parts.1 in
    (numbers.0, numbers.1, within.resources o r found.0 found.1)
path_fits client within path is (Part o i r n) lies there = absurd (no_part path o i r n lies)

pub paths_fit : LinksWhatExists → (client : Client) → IsWithinTypes client → (path : Path) → IsPath path
    → exists client.catalog client.store path ≡ true
    → AllByRecursion IsPath (linked_paths client.catalog client.store path)
paths_fit law client within (Part o i r n) is there = (is, tt)
paths_fit law client within (Object o) is there =
    among_all IsPath (linked_paths client.catalog client.store (Object o)) (λ q h.
    let k = (law client.catalog client.store (Object o) q there refl).0 h in
    path_fits client within (Object o) is q k.0 k.1)
paths_fit law client within (Instance o i) is there =
    among_all IsPath (linked_paths client.catalog client.store (Instance o i)) (λ q h.
    let k = (law client.catalog client.store (Instance o i) q there refl).0 h in
    path_fits client within (Instance o i) is q k.0 k.1)
paths_fit law client within (Resource o i r) is there = (is, tt)

counted : (b : Bool) (n : ℕ) → n < 2 ^ 64 → (if b then n else 0) < 2 ^ 64
counted true n h = h
counted false n h = omega arith

count_fits : (client : Client) → IsWithinTypes client → (path : Path)
    → dimension client.catalog client.store path < 2 ^ 64
count_fits client within (Object o) = omega arith
count_fits client within (Instance o i) = omega arith
count_fits client within (Resource o i r) =
    counted (is_multiple (definition_of client.catalog o r)) (length (parts_of client.store (resource_place o i r)))
    (within.parts (resource_place o i r))
count_fits client within (Part o i r n) = omega arith

pub counts_fit : (client : Client) → IsWithinTypes client → (ps : List Path)
    → AllByRecursion (λ p. dimension client.catalog client.store p < 2 ^ 64) ps
counts_fit client within [] = tt
counts_fit client within (p ∷ ps) = (count_fits client within p, counts_fit client within ps)
