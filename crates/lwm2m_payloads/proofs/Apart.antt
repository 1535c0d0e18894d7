-- What is given to one resource leaves the values of the others, so that each has the room, and the values to replace,
-- that it had.
use Rattle.std.proofs.Common.{◌≡◌, ℕ, ◌+◌, ◌==◌, Bool, true, false, not, ◌&&◌, ◌||◌, List, [], ◌∷◌, ◌++◌, length}
use Rattle.std.proofs.Common.{Option, None, Some, refl, sym, ap, ◌∙◌, arith, true≢false, cond, append_assoc}
use Rattle.std.proofs.Common.{if◌then◌else◌}
use Rattle.std.specs.Option.{is_some}
use Rattle.std.specs.List.{filter, list_any, AllByRecursion, IsDistinct}
use Rattle.std.specs.FinMap as map
use Rattle.std.specs.Set.{is_member}
use Rattle.std.proofs.lemmas.Bool.Decides.{nat_tests}
use Rattle.std.proofs.lemmas.Cmp.{nat_eq_equiv}
use Rattle.std.proofs.lemmas.List.Folds.{list_any-append}
use Rattle.std.proofs.lemmas.Map.Made.{length-from_same_keys}
use Rattle.std.proofs.lemmas.Bool.{or_parts}
use Rattle.lemmas.proofs.Numbers.{eqb_turned}
use Rattle.object_defs.specs.Path.{part_of}
use Rattle.object_defs.specs.Operations.{can_write}
use Rattle.object_defs.specs.declared.definition.ResourceDef.{ResourceDef}
use Rattle.object_defs.specs.declared.path.FullPath.{FullPath}
use Rattle.object_defs.specs.declared.path.InstancePath.{InstancePath}
use Rattle.object_defs.specs.declared.path.ResourcePath.{ResourcePath}
use Rattle.instance_store.specs.Stored.{Stored, value_at, with_value, without_values, resource_path, lies_in, is_part}
use Rattle.instance_store.specs.Stored.{parts_of, has_instance, instance_path}
use Rattle.lwm2m_payloads.specs.declared.given.Assignment.{Assignment}
use Rattle.lwm2m_payloads.specs.declared.given.Given.{Given}
use Rattle.lwm2m_payloads.specs.declared.given.Given.TheVariants.{Single, Parts}
use Rattle.lwm2m_payloads.specs.declared.given.Mode.{Mode}
use Rattle.lwm2m_payloads.specs.declared.given.Mode.TheVariants.{Replace, Update}
use Rattle.lwm2m_payloads.specs.Changes.{resource_of, with_parts, with_given, with_assignments, is_kept, is_other}
use Rattle.lwm2m_payloads.specs.Changes.{above_limit, is_too_many, has_too_many, is_lost, without_lost, gives_new}
use Rattle.lwm2m_payloads.specs.Changes.{has_new}
use Rattle.lwm2m_payloads.specs.Once.{ResourcesOnce}
use Rattle.lwm2m_payloads.specs.PartList.{PartList}
use Rattle.lwm2m_payloads.specs.Written.{is_taken_away}
use Rattle.lwm2m_payloads.proofs.Exceeding.{any_exceeds}
use Rattle.lwm2m_payloads.proofs.Held.{held_distinct, held_at}
use Rattle.lwm2m_payloads.proofs.New.{later}
use Rattle.lwm2m_payloads.proofs.Places.{at_number, at_part, at_single, at_without, lies_own}
use Rattle.lwm2m_payloads.proofs.Room.{others}
use Rattle.lwm2m_payloads.proofs.Writing.{assigned}
use Rattle.lwm2m_payloads.proofs.Written.{at_lost, all_instances, lost_instances}

-- ---- a resource that was cleared has no part

nothing : (ns : List ℕ) → ((n : ℕ) → is_member ◌==◌ ns n ≡ false) → ns ≡ []
nothing [] h = refl
nothing (m ∷ ns) h =
    let own : (m == m) ≡ true = grind (arith, nat_tests) in
    absurd (true≢false (sym (ap (λ b. b || is_member ◌==◌ ns m) own) ∙ h m))

pub none_held : (stored : Stored) (p : ResourcePath) → parts_of (without_values stored (resource_path p)) p ≡ []
none_held stored p =
    nothing (parts_of (without_values stored (resource_path p)) p) (λ n.
    held_at (without_values stored (resource_path p)) p n
    ∙ ap is_some (at_without stored (resource_path p) (part_of p n))
    ∙ ap (λ b. is_some (if b then None else value_at stored (part_of p n))) (lies_own p (Some n)))

no_more : (n : ℕ) → n + 0 ≡ n
no_more n = omega arith

pub cleared : (stored : Stored) (p : ResourcePath) (parts : PartList)
    → is_too_many Update (without_values stored (resource_path p)) p (Parts parts)
    ≡ is_too_many Replace stored p (Parts parts)
cleared stored p parts =
    ap (λ ns. is_some (above_limit (length parts + length (filter (is_other parts) ns)))) (none_held stored p)
    ∙ ap (λ n. is_some (above_limit n)) (no_more (length parts))

-- ---- the values elsewhere stay

parts_elsewhere : (parts : PartList) (stored : Stored) (p : ResourcePath) (q : FullPath)
    → lies_in (resource_path p) q ≡ false → value_at (with_parts stored p parts) q ≡ value_at stored q
parts_elsewhere [] stored p q h = refl
parts_elsewhere (e ∷ parts) stored p q h =
    parts_elsewhere parts (with_value stored (part_of p e.0) e.1) p q h
    ∙ at_part stored p e.0 e.1 q
    ∙ ap (λ b. if b && is_part e.0 q.part then Some e.1 else value_at stored q) h

given_elsewhere : (mode : Mode) (g : Given) (stored : Stored) (p : ResourcePath) (q : FullPath)
    → lies_in (resource_path p) q ≡ false → value_at (with_given mode stored p g) q ≡ value_at stored q
given_elsewhere mode (Single v) stored p q h =
    at_single stored p v q ∙ ap (λ b. if b && not (is_some q.part) then Some v else value_at stored q) h
given_elsewhere Replace (Parts parts) stored p q h =
    parts_elsewhere parts (without_values stored (resource_path p)) p q h
    ∙ at_without stored (resource_path p) q
    ∙ ap (λ b. if b then None else value_at stored q) h
given_elsewhere Update (Parts parts) stored p q h = parts_elsewhere parts stored p q h

other_resource : (place : InstancePath) (r s : ℕ) (n : Option ℕ) → (r == s) ≡ false
    → lies_in (resource_path (resource_of place r)) (at_number (resource_of place s) n) ≡ false
other_resource place r s n h = grind (arith, nat_tests)

one_elsewhere : (mode : Mode) (resources : List ResourceDef) (stored : Stored) (place : InstancePath) (a : Assignment)
    (r : ℕ) (n : Option ℕ) → (a.resource == r) ≡ false
    → value_at (assigned mode resources stored place a) (at_number (resource_of place r) n)
    ≡ value_at stored (at_number (resource_of place r) n)
one_elsewhere mode resources stored place a r n h =
    elim (is_kept resources a) as (λ k. value_at
    (if k then with_given mode stored (resource_of place a.resource) a.given else stored)
    (at_number (resource_of place r) n) ≡ value_at stored (at_number (resource_of place r) n)) [
      | true ↦ given_elsewhere mode a.given stored (resource_of place a.resource) (at_number (resource_of place r) n)
          (other_resource place a.resource r n h)
      | false ↦ refl
    ]

all_elsewhere : (mode : Mode) (resources : List ResourceDef) (given : List Assignment) (stored : Stored)
    (place : InstancePath) (r : ℕ) (n : Option ℕ) → list_any (λ b. b.resource == r) given ≡ false
    → value_at (with_assignments mode resources stored place given) (at_number (resource_of place r) n)
    ≡ value_at stored (at_number (resource_of place r) n)
all_elsewhere mode resources [] stored place r n h = refl
all_elsewhere mode resources (a ∷ given) stored place r n h =
    let t = or_parts (a.resource == r) (list_any (λ b. b.resource == r) given) h in
    all_elsewhere mode resources given (assigned mode resources stored place a) place r n t.1
    ∙ one_elsewhere mode resources stored place a r n t.0

-- ---- a resource with the same parts has the same room

kept_apart : (n : ℕ) (f : ℕ → Bool) (ns : List ℕ) → AllByRecursion (λ y. (n == y) ≡ false) ns
    → AllByRecursion (λ y. (n == y) ≡ false) (filter f ns)
kept_apart n f [] h = tt
kept_apart n f (m ∷ ns) h =
    elim (f m) as (λ b. AllByRecursion (λ y. (n == y) ≡ false) (cond b (m ∷ filter f ns) (filter f ns)))
    [ true ↦ (h.0, kept_apart n f ns h.1) | false ↦ kept_apart n f ns h.1 ]

kept_distinct : (f : ℕ → Bool) (ns : List ℕ) → IsDistinct ◌==◌ ns → IsDistinct ◌==◌ (filter f ns)
unfolding IsDistinct
kept_distinct f [] h = tt
kept_distinct f (m ∷ ns) h =
    elim (f m) as (λ b. IsDistinct ◌==◌ (cond b (m ∷ filter f ns) (filter f ns)))
    [ true ↦ (kept_apart m f ns h.0, kept_distinct f ns h.1) | false ↦ kept_distinct f ns h.1 ]

same_room : (mode : Mode) (g : Given) (s t : Stored) (p : ResourcePath)
    → ((n : ℕ) → value_at s (part_of p n) ≡ value_at t (part_of p n)) → is_too_many mode s p g ≡ is_too_many mode t p g
same_room mode (Single v) s t p h = refl
same_room Replace (Parts parts) s t p h = refl
same_room Update (Parts parts) s t p h =
    ap (λ n. is_some (above_limit (length parts + n)))
    (length-from_same_keys nat_eq_equiv (filter (is_other parts) (parts_of s p))
    (filter (is_other parts) (parts_of t p))
    (kept_distinct (is_other parts) (parts_of s p) (held_distinct s p))
    (kept_distinct (is_other parts) (parts_of t p) (held_distinct t p))
    (λ n. others parts s p n ∙ ap (λ o. is_some o && is_other parts n) (h n) ∙ sym (others parts t p n)))

-- an assignment is to none of the resources before it
before : (done : List Assignment) (a : Assignment) (rest : List Assignment) → ResourcesOnce (done ++ a ∷ rest)
    → list_any (λ b. b.resource == a.resource) done ≡ false
before [] a rest once = refl
before (d ∷ done) a rest once =
    let t = or_parts (list_any (λ b. b.resource == d.resource) done)
    (list_any (λ b. b.resource == d.resource) (a ∷ rest))
    (sym (list_any-append (λ b. b.resource == d.resource) done (a ∷ rest)) ∙ once.0) in
    let u = or_parts (a.resource == d.resource) (list_any (λ b. b.resource == d.resource) rest) t.1 in
    ap (λ b. b || list_any (λ b. b.resource == a.resource) done) (eqb_turned d.resource a.resource ∙ u.0)
    ∙ before done a rest once.1

-- what a test says of what a resource is given, by the values of that resource alone
abbrev IsOwn : (Stored → ResourcePath → Given → Bool) → Type 0
IsOwn test =
    (g : Given) (s t : Stored) (p : ResourcePath)
    → ((n : Option ℕ) → value_at s (at_number p n) ≡ value_at t (at_number p n)) → test s p g ≡ test t p g

-- where it holds of one resource when its turn comes, it held of it before the Write
one_of : (test : Stored → ResourcePath → Given → Bool) → IsOwn test → (mode : Mode) (resources : List ResourceDef)
    (stored : Stored) (place : InstancePath) (given done : List Assignment) (a : Assignment) (rest : List Assignment)
    → given ≡ done ++ a ∷ rest → ResourcesOnce given
    → (is_kept resources a && test (with_assignments mode resources stored place done)
    (resource_of place a.resource) a.given) ≡ true
    → list_any (λ b. is_kept resources b && test stored (resource_of place b.resource) b.given) given ≡ true
one_of test own mode resources stored place given done a rest is once holds =
    let each = λ (b : Assignment). is_kept resources b && test stored (resource_of place b.resource) b.given in
    let apart = before done a rest (rw (← is) once) in
    let here : each a ≡ true =
    ap (λ b. is_kept resources a && b) (sym (own a.given
    (with_assignments mode resources stored place done) stored (resource_of place a.resource)
    (λ n. all_elsewhere mode resources done stored place a.resource n apart))) ∙ holds in
    ap (list_any each) is ∙ list_any-append each done (a ∷ rest)
    ∙ ap (λ b. list_any each done || (b || list_any each rest)) here
    ∙ later (list_any each done) (list_any each rest)

-- where one resource has too many parts when its turn comes, the Write has too many
pub one_means : (mode : Mode) (resources : List ResourceDef) (stored : Stored) (place : InstancePath)
    (given done : List Assignment) (a : Assignment) (rest : List Assignment) → given ≡ done ++ a ∷ rest
    → ResourcesOnce given
    → (is_kept resources a && is_too_many mode (with_assignments mode resources stored place done)
    (resource_of place a.resource) a.given) ≡ true → has_too_many mode resources stored place given ≡ true
one_means mode resources stored place given done a rest is once holds =
    any_exceeds mode resources stored place given
    ∙ one_of (is_too_many mode) (λ g s t p h. same_room mode g s t p (λ n. h (Some n))) mode resources stored place
    given done a rest is once holds

same_parts : (parts : PartList) (s t : Stored) (p : ResourcePath)
    → ((n : Option ℕ) → value_at s (at_number p n) ≡ value_at t (at_number p n))
    → gives_new Update s p (Parts parts) ≡ gives_new Update t p (Parts parts)
same_parts [] s t p h = refl
same_parts (e ∷ parts) s t p h =
    ap (λ o. not (is_some o) || gives_new Update s p (Parts parts)) (h (Some e.0))
    ∙ ap (λ b. not (is_some (value_at t (part_of p e.0))) || b) (same_parts parts s t p h)

same_new : (mode : Mode) → IsOwn (gives_new mode)
same_new mode (Single v) s t p h = ap (λ o. not (is_some o)) (h None)
same_new Replace (Parts parts) s t p h = refl
same_new Update (Parts parts) s t p h = same_parts parts s t p h

-- where one resource is given something new when its turn comes, the Write gives something new
pub one_new : (mode : Mode) (resources : List ResourceDef) (stored : Stored) (place : InstancePath)
    (given done : List Assignment) (a : Assignment) (rest : List Assignment) → given ≡ done ++ a ∷ rest
    → ResourcesOnce given
    → (is_kept resources a && gives_new mode (with_assignments mode resources stored place done)
    (resource_of place a.resource) a.given) ≡ true → has_new mode resources stored place given ≡ true
one_new mode = one_of (gives_new mode) (same_new mode) mode

-- ---- what Replace takes away is given nothing

not_lost : (m w : Bool) → (not m && (w && not true)) ≡ false
not_lost true w = refl
not_lost false true = refl
not_lost false false = refl

lost_other : (given : List Assignment) (d : ResourceDef) (r : ℕ) (b : Bool) → (d.id == r) ≡ b
    → list_any (λ a. a.resource == r) given ≡ true → (b && is_lost given d) ≡ false
lost_other given d r true e h =
    let same : r ≡ d.id = grind (arith, nat_tests) in
    ap (λ t. not d.mandatory && (can_write d.ops && not t))
    (ap (λ k. list_any (λ a. a.resource == k) given) (sym same) ∙ h)
    ∙ not_lost d.mandatory (can_write d.ops)
lost_other given d r false e h = refl

stays : (resources : List ResourceDef) (given : List Assignment) (r : ℕ)
    → list_any (λ a. a.resource == r) given ≡ true → is_taken_away resources given r ≡ false
stays [] given r h = refl
stays (d ∷ resources) given r h =
    ap (λ b. b || is_taken_away resources given r) (lost_other given d r (d.id == r) refl h) ∙ stays resources given r h

lost_value : (resources : List ResourceDef) (given : List Assignment) (stored : Stored) (place : InstancePath) (r : ℕ)
    (n : Option ℕ) → list_any (λ a. a.resource == r) given ≡ true
    → value_at (without_lost resources stored place given) (at_number (resource_of place r) n)
    ≡ value_at stored (at_number (resource_of place r) n)
lost_value resources given stored place r n h =
    let q = at_number (resource_of place r) n in
    let x = value_at stored q in
    at_lost resources given stored place q
    ∙ ap (λ b. if lies_in (instance_path place) q then (if b then None else x) else x) (stays resources given r h)
    ∙ (elim (lies_in (instance_path place) q) as (λ b. (if b then x else x) ≡ x) [ true ↦ refl | false ↦ refl ])

named : (done : List Assignment) (a : Assignment) (rest : List Assignment)
    → list_any (λ b. b.resource == a.resource) (done ++ a ∷ rest) ≡ true
named done a rest =
    let own : (a.resource == a.resource) ≡ true = grind (arith, nat_tests) in
    list_any-append (λ b. b.resource == a.resource) done (a ∷ rest)
    ∙ ap (λ t. list_any (λ b. b.resource == a.resource) done || (t || list_any (λ b. b.resource == a.resource) rest))
    own
    ∙ later (list_any (λ b. b.resource == a.resource) done) (list_any (λ b. b.resource == a.resource) rest)

left_new : (mode : Mode) (resources : List ResourceDef) (stored : Stored) (place : InstancePath)
    (given done rest : List Assignment) → given ≡ done ++ rest
    → has_new mode resources (without_lost resources stored place given) place rest
    ≡ has_new mode resources stored place rest
left_new mode resources stored place given done [] is = refl
left_new mode resources stored place given done (a ∷ rest) is =
    let lost = without_lost resources stored place given in
    ap (λ b. (is_kept resources a && b) || has_new mode resources lost place rest)
    (same_new mode a.given lost stored (resource_of place a.resource)
    (λ n. lost_value resources given stored place a.resource n
    (ap (list_any (λ b. b.resource == a.resource)) is ∙ named done a rest)))
    ∙ ap (λ b. (is_kept resources a && gives_new mode stored (resource_of place a.resource) a.given) || b)
    (left_new mode resources stored place given (done ++ a ∷ []) rest (is ∙ sym (append_assoc done (a ∷ []) rest)))

pub lost_new : (mode : Mode) (resources : List ResourceDef) (stored : Stored) (place : InstancePath)
    (given : List Assignment) → has_new mode resources (without_lost resources stored place given) place given
    ≡ has_new mode resources stored place given
lost_new mode resources stored place given = left_new mode resources stored place given [] given refl

-- one more assignment, to another resource
pub once_more : (given : List Assignment) (a : Assignment) → ResourcesOnce given
    → list_any (λ b. b.resource == a.resource) given ≡ false → ResourcesOnce (given ++ a ∷ [])
once_more [] a once h = (refl, tt)
once_more (d ∷ given) a once h =
    let t = or_parts (d.resource == a.resource) (list_any (λ b. b.resource == a.resource) given) h in (
      list_any-append (λ b. b.resource == d.resource) given (a ∷ [])
          ∙ ap (λ b. b || ((a.resource == d.resource) || false)) once.0
          ∙ ap (λ b. b || false) (eqb_turned a.resource d.resource ∙ t.0),
      once_more given a once.1 t.1,
    )

-- ---- the instances stay

pub all_present : (mode : Mode) (resources : List ResourceDef) (given : List Assignment) (stored : Stored)
    (place at : InstancePath)
    → has_instance (with_assignments mode resources stored place given) at ≡ has_instance stored at
all_present mode resources given stored place at =
    ap (λ m. map.contains_key m at) (all_instances mode resources given stored place)

pub lost_present : (resources : List ResourceDef) (stored : Stored) (place : InstancePath) (given : List Assignment)
    (at : InstancePath) → has_instance (without_lost resources stored place given) at ≡ has_instance stored at
lost_present resources stored place given at =
    ap (λ m. map.contains_key m at) (lost_instances resources stored place given)
