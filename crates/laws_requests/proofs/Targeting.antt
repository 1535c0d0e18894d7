-- Which paths exist.
use Rattle.std.proofs.Common.{◌≡◌, ◌⊎◌, inl, inr, ℕ, ◌==◌, Bool, true, false, cond, not, ◌&&◌, ◌||◌, List, [], ◌∷◌}
use Rattle.std.proofs.Common.{find, length, nat_lt, Option, None, Some, refl, sym, ap, subst, ◌∙◌, arith}
use Rattle.std.specs.List as lists
use Rattle.std.specs.Option.{is_some, option_and_then}
use Rattle.std.specs.Set.{is_member}
use Rattle.std.proofs.lemmas.Bool.Decides.{nat_tests}
use Rattle.std.proofs.lemmas.Bool.{eqb-true, and_parts, and_from, or_right, not-false}
use Rattle.lemmas.proofs.Numbers.{eqb_itself}
use Rattle.lemmas.proofs.Options.{some_from_test}
use Rattle.lwm2m_values.specs.declared.value.Value.{Value}
use Rattle.object_defs.specs.Catalog.{definition_of, object_of, resource_in}
use Rattle.object_defs.specs.Operations.{can_read}
use Rattle.object_defs.specs.Path.{part_of, single_of}
use Rattle.object_defs.specs.declared.definition.ObjectDef.{ObjectDef}
use Rattle.object_defs.specs.declared.definition.Ops.{Ops}
use Rattle.object_defs.specs.declared.definition.Ops.TheVariants.{R, W, RW, E}
use Rattle.object_defs.specs.declared.definition.ResourceDef.{ResourceDef}
use Rattle.object_defs.specs.declared.path.Path.{Path}
use Rattle.object_defs.specs.declared.path.Path.TheVariants.{Object, Instance, Resource, Part}
use Rattle.object_defs.specs.declared.path.ResourcePath.{ResourcePath}
use Rattle.instance_store.specs.Existence.{exists_as, is_held}
use Rattle.instance_store.specs.Stored.{Stored, has_instance, parts_of, value_at}
use Rattle.lwm2m_payloads.proofs.Held.{held_at}
use Rattle.device_requests.specs.Laws.{IsAmong}
use Rattle.device_requests.specs.Refusals.{is_target}
use Rattle.device_requests.specs.Targets.{exists, is_multiple, place_of, resource_place}
use Rattle.laws_requests.specs.Existing.{Exists, ExistsWithin, IsHeld, IsKnown, IsToWrite, WhatExists, WhatIsToWrite}
use Rattle.laws_requests.specs.Existing.{a_part, a_resource, an_instance, an_object, by_part, by_value, path_around}
use Rattle.laws_requests.specs.Existing.{write_instance, write_part, write_resource}
use Rattle.laws_requests.proofs.Among.{found}

finds : {X : Type 0} (p : X → Bool) (x : X) (xs : List X) → IsAmong x xs → p x ≡ true → is_some (lists.find p xs) ≡ true
finds p x [] h k = absurd h
finds p x (z ∷ xs) (inl is) k =
    ap (λ (b : Bool). is_some (cond b (Some z) (lists.find p xs))) (ap p is ∙ k)
finds p x (z ∷ xs) (inr h) k =
    elim (p z) as (λ b. is_some (cond b (Some z) (lists.find p xs)) ≡ true) [ true ↦ refl | false ↦ finds p x xs h k ]

-- ---- objects

known : (catalog : List ObjectDef) (o : ℕ) → is_some (object_of catalog o) ≡ true → IsKnown catalog o
known catalog o h =
    let d = some_from_test (object_of catalog o) h in
    let f = found (λ (c : ObjectDef). c.id == o) d.0 catalog d.1 in
    (d.0, f.0, eqb-true d.0.id o f.1)

has_object : (catalog : List ObjectDef) (o : ℕ) → IsKnown catalog o → is_some (object_of catalog o) ≡ true
has_object catalog o k =
    finds (λ (c : ObjectDef). c.id == o) k.0 catalog k.1 (ap (λ (n : ℕ). n == o) k.2 ∙ eqb_itself o)

defined_object : (catalog : List ObjectDef) (o r : ℕ) (d : ResourceDef) → definition_of catalog o r ≡ Some d
    → is_some (object_of catalog o) ≡ true
defined_object catalog o r d h =
    elim (object_of catalog o) as (λ x. option_and_then (λ (c : ObjectDef). resource_in c.resources r) x ≡ Some d
    → is_some x ≡ true) [ None ↦ λ k. cc | Some c ↦ λ k. refl ] h

-- ---- what is held

one_there : (n : ℕ) (ns : List ℕ) → nat_lt 0 (length (n ∷ ns)) ≡ true
one_there n ns = grind (arith, nat_tests)

none_there : nat_lt 0 (length {A = ℕ} []) ≡ true → ⊥
none_there h = cc

held_part : (stored : Stored) (p : ResourcePath) → nat_lt 0 (length (parts_of stored p)) ≡ true
    → (n : ℕ) × (v : Value) × (value_at stored (part_of p n) ≡ Some v)
held_part stored p h =
    elim (parts_of stored p) as (λ ns. parts_of stored p ≡ ns → nat_lt 0 (length ns) ≡ true
    → (n : ℕ) × (v : Value) × (value_at stored (part_of p n) ≡ Some v)) [
      | [] ↦ λ is k. absurd (none_there k)
      | n ∷ ns ↦ λ is k.
          let first : is_member ◌==◌ (n ∷ ns) n ≡ true =
          ap (λ (b : Bool). b || is_member ◌==◌ ns n) (eqb_itself n) in
          let v = some_from_test (value_at stored (part_of p n))
          (sym (held_at stored p n) ∙ ap (λ (ms : List ℕ). is_member ◌==◌ ms n) is ∙ first) in
          (n, v.0, v.1)
    ] refl h

part_held : (stored : Stored) (p : ResourcePath) (n : ℕ) (v : Value) → value_at stored (part_of p n) ≡ Some v
    → nat_lt 0 (length (parts_of stored p)) ≡ true
part_held stored p n v h =
    elim (parts_of stored p) as (λ ns. parts_of stored p ≡ ns → nat_lt 0 (length ns) ≡ true) [
      | [] ↦ λ is.
          let l : false ≡ true =
          sym (ap (λ (ms : List ℕ). is_member ◌==◌ ms n) is) ∙ (held_at stored p n ∙ ap is_some h) in cc
      | m ∷ ns ↦ λ is. one_there m ns
    ] refl

held_by : (stored : Stored) (p : ResourcePath) (d : ResourceDef) (b : Bool) → d.multiple ≡ b
    → is_held stored p b ≡ true → IsHeld stored p d
held_by stored p d true many h = let k = held_part stored p h in by_part k.0 k.1 many k.2
held_by stored p d false one h = let v = some_from_test (value_at stored (single_of p)) h in by_value v.0 one v.1

by_held : (stored : Stored) (p : ResourcePath) (d : ResourceDef) → IsHeld stored p d
    → is_held stored p d.multiple ≡ true
by_held stored p d (by_value v one is) = ap (is_held stored p) one ∙ ap is_some is
by_held stored p d (by_part n v many is) = ap (is_held stored p) many ∙ part_held stored p n v is

abbrev CountsAs : Stored → ResourcePath → ResourceDef → Type 0
CountsAs stored p d = (d.ops ≡ E) ⊎ ((d.ops ≡ W) ⊎ IsHeld stored p d)

counts_by : (stored : Stored) (p : ResourcePath) (d : ResourceDef) (ops : Ops) → d.ops ≡ ops
    → (not (can_read ops) || is_held stored p d.multiple) ≡ true → CountsAs stored p d
counts_by stored p d R is h = inr (inr (held_by stored p d d.multiple refl h))
counts_by stored p d RW is h = inr (inr (held_by stored p d d.multiple refl h))
counts_by stored p d W is h = inr (inl is)
counts_by stored p d E is h = inl is

by_count : (stored : Stored) (p : ResourcePath) (d : ResourceDef) → CountsAs stored p d
    → (not (can_read d.ops) || is_held stored p d.multiple) ≡ true
by_count stored p d (inl is) = ap (λ (ops : Ops). not (can_read ops) || is_held stored p d.multiple) is
by_count stored p d (inr (inl is)) = ap (λ (ops : Ops). not (can_read ops) || is_held stored p d.multiple) is
by_count stored p d (inr (inr held)) =
    or_right (not (can_read d.ops)) (is_held stored p d.multiple) (by_held stored p d held)

-- ---- what exists

resource_there : (stored : Stored) (p : ResourcePath) (definition : Option ResourceDef)
    → exists_as stored p definition ≡ true → (d : ResourceDef) × (definition ≡ Some d) × CountsAs stored p d
resource_there stored p None h = cc
resource_there stored p (Some d) h = (d, refl, counts_by stored p d d.ops refl h)

multiple_there : (definition : Option ResourceDef) → is_multiple definition ≡ true
    → (d : ResourceDef) × (definition ≡ Some d) × (d.multiple ≡ true)
multiple_there None h = cc
multiple_there (Some d) h = (d, refl, h)

exists_so : (catalog : List ObjectDef) (stored : Stored) (path : Path) → exists catalog stored path ≡ true
    → Exists catalog stored path
exists_so catalog stored (Object o) h = an_object o (known catalog o h)
exists_so catalog stored (Instance o i) h =
    let k = and_parts (is_some (object_of catalog o)) (has_instance stored (place_of o i)) h in
    an_instance o i (known catalog o k.0) k.1
exists_so catalog stored (Resource o i r) h =
    let p = resource_place o i r in
    let k = and_parts (has_instance stored (place_of o i)) (exists_as stored p (definition_of catalog o r)) h in
    let d = resource_there stored p (definition_of catalog o r) k.1 in
    a_resource o i r d.0 k.0 d.1 d.2
exists_so catalog stored (Part o i r n) h =
    let q = part_of (resource_place o i r) n in
    let k = and_parts (has_instance stored (place_of o i))
    (is_multiple (definition_of catalog o r) && is_some (value_at stored q)) h in
    let m = and_parts (is_multiple (definition_of catalog o r)) (is_some (value_at stored q)) k.1 in
    let d = multiple_there (definition_of catalog o r) m.0 in
    let v = some_from_test (value_at stored q) m.1 in
    a_part o i r n d.0 v.0 k.0 d.1 d.2 v.1

so_exists : (catalog : List ObjectDef) (stored : Stored) (path : Path) → Exists catalog stored path
    → exists catalog stored path ≡ true
so_exists catalog stored path (an_object o k) = has_object catalog o k
so_exists catalog stored path (an_instance o i k h) =
    and_from (is_some (object_of catalog o)) (has_instance stored (place_of o i)) (has_object catalog o k) h
so_exists catalog stored path (a_resource o i r d h is counts) =
    let p = resource_place o i r in
    and_from (has_instance stored (place_of o i)) (exists_as stored p (definition_of catalog o r)) h
    (ap (exists_as stored p) is ∙ by_count stored p d counts)
so_exists catalog stored path (a_part o i r n d v h is many held) =
    let q = part_of (resource_place o i r) n in
    and_from (has_instance stored (place_of o i))
    (is_multiple (definition_of catalog o r) && is_some (value_at stored q)) h
    (and_from (is_multiple (definition_of catalog o r)) (is_some (value_at stored q)) (ap is_multiple is ∙ many)
    (ap is_some held))

pub what_exists : WhatExists
what_exists catalog stored path = (exists_so catalog stored path, so_exists catalog stored path)

-- ---- what a Write may go to

write_so : (catalog : List ObjectDef) (stored : Stored) (path : Path) → is_target catalog stored path ≡ true
    → IsToWrite catalog stored path
write_so catalog stored (Object o) h = cc
write_so catalog stored (Instance o i) h =
    let k = and_parts (is_some (object_of catalog o)) (has_instance stored (place_of o i)) h in
    write_instance o i (known catalog o k.0) k.1
write_so catalog stored (Resource o i r) h =
    let k = and_parts (is_some (definition_of catalog o r)) (has_instance stored (place_of o i)) h in
    let d = some_from_test (definition_of catalog o r) k.0 in
    write_resource o i r d.0 k.1 d.1
write_so catalog stored (Part o i r n) h =
    let k = and_parts (is_multiple (definition_of catalog o r)) (has_instance stored (place_of o i)) h in
    let d = multiple_there (definition_of catalog o r) k.0 in
    write_part o i r n d.0 k.1 d.1 d.2

so_write : (catalog : List ObjectDef) (stored : Stored) (path : Path) → IsToWrite catalog stored path
    → is_target catalog stored path ≡ true
so_write catalog stored path (write_instance o i k h) =
    and_from (is_some (object_of catalog o)) (has_instance stored (place_of o i)) (has_object catalog o k) h
so_write catalog stored path (write_resource o i r d h is) =
    and_from (is_some (definition_of catalog o r)) (has_instance stored (place_of o i)) (ap is_some is) h
so_write catalog stored path (write_part o i r n d h is many) =
    and_from (is_multiple (definition_of catalog o r)) (has_instance stored (place_of o i))
    (ap is_multiple is ∙ many) h

pub what_is_to_write : WhatIsToWrite
what_is_to_write client path mode format payload = (
  λ h. write_so client.catalog client.store path (not-false (is_target client.catalog client.store path) h),
  λ h. ap not (so_write client.catalog client.store path h),
)

-- ---- what exists lies in what exists

outer_there : (catalog : List ObjectDef) (stored : Stored) (path outer : Path) → Exists catalog stored path
    → path_around path ≡ Some outer → Exists catalog stored outer
outer_there catalog stored path outer (an_object o k) is = cc
outer_there catalog stored path outer (an_instance o i k h) is =
    let same : Object o ≡ outer = cc in subst (Exists catalog stored) same (an_object o k)
outer_there catalog stored path outer (a_resource o i r d h defined_as counts) is =
    let same : Instance o i ≡ outer = cc in
    subst (Exists catalog stored) same
    (an_instance o i (known catalog o (defined_object catalog o r d defined_as)) h)
outer_there catalog stored path outer (a_part o i r n d v h defined_as many held) is =
    let same : Resource o i r ≡ outer = cc in
    subst (Exists catalog stored) same (a_resource o i r d h defined_as (inr (inr (by_part n v many held))))

pub exists_within : ExistsWithin
exists_within catalog stored path outer h is =
    so_exists catalog stored outer (outer_there catalog stored path outer (exists_so catalog stored path h) is)
