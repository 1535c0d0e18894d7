-- The paths that a Discover shows are those that exist.
use Rattle.std.proofs.Common.{◌≡◌, ℕ, Bool, true, false, ◌&&◌, ◌==◌, inl, inr, List, map, Option, None, Some, is_some}
use Rattle.std.proofs.Common.{refl, sym, ap, subst, ◌∙◌}
use Rattle.std.specs.List.{filter}
use Rattle.std.specs.Option.{option_and_then}
use Rattle.std.specs.Ordering.{eq_by_cmp}
use Rattle.std.specs.Cmp.{eq_by_cmp_equiv}
use Rattle.std.specs.FinMap as map
use Rattle.std.proofs.lemmas.Bool.{eqb-true, and_parts, and_from}
use Rattle.lemmas.proofs.Numbers.{eqb_itself}
use Rattle.lemmas.proofs.Orders.{is_equal}
use Rattle.object_defs.specs.Catalog.{definition_of, object_of, resource_in}
use Rattle.object_defs.specs.Path.{instance_cmp}
use Rattle.object_defs.specs.declared.definition.ObjectDef.{ObjectDef}
use Rattle.object_defs.specs.declared.definition.ResourceDef.{ResourceDef}
use Rattle.object_defs.specs.declared.path.InstancePath.{InstancePath}
use Rattle.object_defs.specs.declared.path.ResourcePath.{ResourcePath}
use Rattle.object_defs.specs.declared.path.Path.{Path}
use Rattle.object_defs.specs.declared.path.Path.TheVariants.{Object, Instance, Resource, Part}
use Rattle.object_defs.proofs.PathOrder.{instance_total, instance_exact}
use Rattle.instance_store.specs.Existence.{exists_as}
use Rattle.instance_store.specs.Stored.{Stored, has_instance, instances_of}
use Rattle.device_requests.specs.Laws.{IsAmong, LinksWhatExists, is_part, lies_at}
use Rattle.device_requests.specs.Discover.{instance_paths, linked_paths, paths_below, resources_below}
use Rattle.device_requests.specs.Targets.{exists, place_of, resource_place, resources_as, resources_defined}
use Rattle.device_requests.proofs.Among.{among-any, among-filter, among-flat, among-map, any_found, filtered, flattened}
use Rattle.device_requests.proofs.Among.{found, mapped}

-- ---- instances

place_found : (k : InstancePath) (o n : ℕ) → eq_by_cmp instance_cmp (place_of o n) k ≡ true → place_of o n ≡ k
place_found k o n h = instance_exact (place_of o n) k (is_equal (instance_cmp (place_of o n) k) h)

pub has_listed : (stored : Stored) (o n : ℕ) → has_instance stored (place_of o n) ≡ true
    → IsAmong n (instances_of stored o)
has_listed stored o n h =
    let k = any_found (eq_by_cmp instance_cmp (place_of o n)) (map.keys stored.instances)
    (sym (map.contains_key-keys stored.instances (place_of o n)) ∙ h) in
    let e : place_of o n ≡ k.0 = place_found k.0 o n k.2 in
    let here : IsAmong (place_of o n) (map.keys stored.instances) = rw e k.1 in
    among-map (λ p. p.instance) (place_of o n) _ (among-filter (λ p. p.object == o) (place_of o n)
    (map.keys stored.instances) (eqb_itself o) here)

place_is : (k : InstancePath) (o n : ℕ) → k.object ≡ o → k.instance ≡ n → k ≡ place_of o n
place_is k o n h i = λ j. record { object = h j; instance = i j }

pub listed_has : (stored : Stored) (o n : ℕ) → IsAmong n (instances_of stored o)
    → has_instance stored (place_of o n) ≡ true
listed_has stored o n h =
    let k = mapped (λ p. p.instance) n (filter (λ p. p.object == o) (map.keys stored.instances)) h in
    let f = filtered (λ p. p.object == o) k.0 (map.keys stored.instances) k.1 in
    let e : k.0 ≡ place_of o n = place_is k.0 o n (eqb-true k.0.object o f.1) k.2 in
    map.contains_key-keys stored.instances (place_of o n)
    ∙ among-any (eq_by_cmp instance_cmp (place_of o n)) k.0 (map.keys stored.instances) f.0
    (ap (eq_by_cmp instance_cmp (place_of o n)) e ∙ (eq_by_cmp_equiv instance_total).refl (place_of o n))

-- ---- resources

pub definition_in : (object : Option ObjectDef) (r : ℕ) → option_and_then (λ o. resource_in o.resources r) object
    ≡ resource_in (resources_as object) r
definition_in None r = refl
definition_in (Some object) r = refl

-- a resource that exists has its instance and a definition
resource_exists : (stored : Stored) (p : ResourcePath) (definition : Option ResourceDef) (instance : Bool)
    → (instance && exists_as stored p definition) ≡ true
    → (instance ≡ true) × ((d : ResourceDef) × (definition ≡ Some d))
resource_exists stored p None instance h = let k = and_parts instance false h in let f : false ≡ true = k.1 in cc
resource_exists stored p (Some d) instance h = ((and_parts instance (exists_as stored p (Some d)) h).0, (d, refl))

resource_listed : (catalog : List ObjectDef) (stored : Stored) (o i r : ℕ)
    → exists catalog stored (Resource o i r) ≡ true
    → IsAmong (Resource o i r) (resources_below catalog stored o i)
resource_listed catalog stored o i r h =
    let known = resource_exists stored (resource_place o i r) (definition_of catalog o r)
    (has_instance stored (place_of o i)) h in
    let d = known.1.0 in
    let f = found (λ d. d.id == r) d (resources_defined catalog o)
    (sym (definition_in (object_of catalog o) r) ∙ known.1.1) in
    let e : d.id ≡ r = eqb-true d.id r f.1 in
    among-filter (exists catalog stored) (Resource o i r) (map (λ d. Resource o i d.id) (resources_defined catalog o)) h
    (subst (λ n. IsAmong (Resource o i n) (map (λ d. Resource o i d.id) (resources_defined catalog o))) e
    (among-map (λ d. Resource o i d.id) d (resources_defined catalog o) f.0))

listed_resource : (catalog : List ObjectDef) (stored : Stored) (o i : ℕ) (q : Path)
    → IsAmong q (resources_below catalog stored o i)
    → (r : ℕ) × (Resource o i r ≡ q) × (exists catalog stored q ≡ true)
listed_resource catalog stored o i q h =
    let f = filtered (exists catalog stored) q (map (λ d. Resource o i d.id) (resources_defined catalog o)) h in
    let m = mapped (λ d. Resource o i d.id) q (resources_defined catalog o) f.0 in
    (m.0.id, m.2, f.1)

-- ---- the links

abbrev Shown : List ObjectDef → Stored → Path → Path → Type 0
Shown catalog stored path q = (lies_at path q ≡ true) × (exists catalog stored q ≡ true)

lies_itself : (path : Path) → is_part path ≡ false → lies_at path path ≡ true
lies_itself (Object o) h = eqb_itself o
lies_itself (Instance o i) h = and_from _ _ (eqb_itself o) (eqb_itself i)
lies_itself (Resource o i r) h = and_from _ _ (eqb_itself o) (and_from _ _ (eqb_itself i) (eqb_itself r))
lies_itself (Part o i r n) h = cc

below_shown : (catalog : List ObjectDef) (stored : Stored) (path q : Path) → exists catalog stored path ≡ true
    → IsAmong q (paths_below catalog stored path) → Shown catalog stored path q
below_shown catalog stored (Object o) q e h =
    let n = flattened (instance_paths catalog stored o) q (instances_of stored o) h in
    elim n.2 [
      | inl i ↦ subst (Shown catalog stored (Object o)) i
          (eqb_itself o, and_from _ _ e (listed_has stored o n.0 n.1))
      | inr j ↦ let r =
          listed_resource catalog stored o n.0 q
          j in (subst (λ p. lies_at (Object o) p ≡ true) r.1 (eqb_itself o), r.2)
    ]
below_shown catalog stored (Instance o i) q e h =
    let r = listed_resource catalog stored o i q h in
    (subst (λ p. lies_at (Instance o i) p ≡ true) r.1 (and_from _ _ (eqb_itself o) (eqb_itself i)), r.2)
below_shown catalog stored (Resource o i r) q e h = absurd h
below_shown catalog stored (Part o i r n) q e h = absurd h

linked_shown : (catalog : List ObjectDef) (stored : Stored) (path q : Path) → exists catalog stored path ≡ true
    → is_part path ≡ false → IsAmong q (linked_paths catalog stored path) → Shown catalog stored path q
linked_shown catalog stored path q e k (inl h) = subst (Shown catalog stored path) h (lies_itself path k, e)
linked_shown catalog stored path q e k (inr h) = below_shown catalog stored path q e h

shown_linked : (catalog : List ObjectDef) (stored : Stored) (path q : Path) → lies_at path q ≡ true
    → exists catalog stored q ≡ true → IsAmong q (linked_paths catalog stored path)
shown_linked catalog stored (Object o) (Object p) h e = inl (ap Object (sym (eqb-true p o h)))
shown_linked catalog stored (Object o) (Instance p j) h e =
    subst (λ n. IsAmong (Instance p j) (linked_paths catalog stored (Object n))) (eqb-true p o h)
    (inr (among-flat (instance_paths catalog stored p) j (Instance p j) (instances_of stored p)
    (has_listed stored p j (and_parts (is_some (object_of catalog p)) (has_instance stored (place_of p j)) e).1)
    (inl refl)))
shown_linked catalog stored (Object o) (Resource p j r) h e =
    subst (λ n. IsAmong (Resource p j r) (linked_paths catalog stored (Object n))) (eqb-true p o h)
    (inr (among-flat (instance_paths catalog stored p) j (Resource p j r) (instances_of stored p)
    (has_listed stored p j (resource_exists stored (resource_place p j r) (definition_of catalog p r)
    (has_instance stored (place_of p j)) e).0)
    (inr (resource_listed catalog stored p j r e))))
shown_linked catalog stored (Object o) (Part p j r n) h e = cc
shown_linked catalog stored (Instance o i) (Object p) h e = cc
shown_linked catalog stored (Instance o i) (Instance p j) h e =
    let k = and_parts (p == o) (j == i) h in inl (λ t. Instance (sym (eqb-true p o k.0) t) (sym (eqb-true j i k.1) t))
shown_linked catalog stored (Instance o i) (Resource p j r) h e =
    let k = and_parts (p == o) (j == i) h in
    subst (λ n. IsAmong (Resource p j r) (linked_paths catalog stored (Instance n i))) (eqb-true p o k.0)
    (subst (λ n. IsAmong (Resource p j r) (linked_paths catalog stored (Instance p n))) (eqb-true j i k.1)
    (inr (resource_listed catalog stored p j r e)))
shown_linked catalog stored (Instance o i) (Part p j r n) h e = cc
shown_linked catalog stored (Resource o i r) (Object p) h e = cc
shown_linked catalog stored (Resource o i r) (Instance p j) h e = cc
shown_linked catalog stored (Resource o i r) (Resource p j s) h e =
    let k = and_parts (p == o) (j == i && s == r) h in
    let l = and_parts (j == i) (s == r) k.1 in
    inl (λ t. Resource (sym (eqb-true p o k.0) t) (sym (eqb-true j i l.0) t) (sym (eqb-true s r l.1) t))
shown_linked catalog stored (Resource o i r) (Part p j s n) h e = cc
shown_linked catalog stored (Part o i r n) (Object p) h e = cc
shown_linked catalog stored (Part o i r n) (Instance p j) h e = cc
shown_linked catalog stored (Part o i r n) (Resource p j s) h e = cc
shown_linked catalog stored (Part o i r n) (Part p j s m) h e = cc

pub links_exist : LinksWhatExists
links_exist catalog stored path q e k =
    (linked_shown catalog stored path q e k, λ s. shown_linked catalog stored path q s.0 s.1)
