-- The numbers of the parts that a resource has: each stands once, and they are those that have a value.
use Rattle.std.proofs.Common.{◌≡◌, ℕ, ◌==◌, true, false, cond, ◌&&◌, ◌||◌, List, [], ◌∷◌, Ordering, Option, None}
use Rattle.std.proofs.Common.{Some, refl, sym, ap, subst, ◌∙◌, true≢false}
use Rattle.std.proofs.Math.Dec.{T}
use Rattle.std.specs.Option.{is_some}
use Rattle.std.specs.List.{filter, filter_map, cons_option, list_any, AllByRecursion, IsDistinct}
use Rattle.std.specs.Ordering.{is_eq, is_lt, eq_by_cmp}
use Rattle.std.specs.declared.cmp.Ordering.TheVariants.{Less, Equal, Greater}
use Rattle.std.specs.Cmp.{eq_by_cmp_equiv}
use Rattle.std.specs.Map.{keys_of}
use Rattle.std.specs.FinMap as map
use Rattle.std.specs.FinMap.{is_sorted}
use Rattle.std.specs.FinMap.Entries.{below_all}
use Rattle.std.specs.Set.{is_member}
use Rattle.std.proofs.lemmas.Bool.{false_from_ne_true, eqb-true}
use Rattle.lemmas.proofs.Tests.{T_first, T_second}
use Rattle.lemmas.proofs.Numbers.{eqb_turned}
use Rattle.lwm2m_values.specs.declared.value.Value.{Value}
use Rattle.object_defs.specs.Path.{part_of, path_cmp}
use Rattle.object_defs.specs.declared.path.FullPath.{FullPath}
use Rattle.object_defs.specs.declared.path.ResourcePath.{ResourcePath}
use Rattle.object_defs.proofs.PathOrder.{path_total}
use Rattle.instance_store.specs.Stored.{Stored, value_at, resource_path, lies_in, is_part, parts_of}
use Rattle.lwm2m_payloads.proofs.Places.{same_path, at_number, is_at_part}

-- the numbers of a resource's parts among some entries
abbrev numbers : ResourcePath → List (FullPath × Value) → List ℕ
numbers p es = filter_map (λ e. e.0.part) (filter (λ e. lies_in (resource_path p) e.0) es)

not_below : (r : Ordering) → is_eq r ≡ true → T (is_lt r) → ⊥
not_below Less h k = true≢false (sym h)
not_below Equal h k = k
not_below Greater h k = k

-- parts of one resource, one below the other, have different numbers
apart : (p : ResourcePath) (e f : FullPath) (m k : ℕ) → T (is_lt (path_cmp e f)) → lies_in (resource_path p) e ≡ true
    → lies_in (resource_path p) f ≡ true → e.part ≡ Some m → f.part ≡ Some k → (m == k) ≡ false
apart p e f m k below here there is are =
    false_from_ne_true (m == k) (λ h.
    let alike : e ≡ f =
    same_path e p (Some m) here is ∙ ap (λ n. at_number p (Some n)) (eqb-true m k h)
    ∙ sym (same_path f p (Some k) there are) in
    not_below (path_cmp f f) ((eq_by_cmp_equiv path_total).refl f) (subst (λ q. T (is_lt (path_cmp q f))) alike below))

one_apart : (p : ResourcePath) (e f : FullPath) (m : ℕ) (ns : List ℕ) → T (is_lt (path_cmp e f))
    → lies_in (resource_path p) e ≡ true → lies_in (resource_path p) f ≡ true → e.part ≡ Some m → (o : Option ℕ)
    → f.part ≡ o → AllByRecursion (λ y. (m == y) ≡ false) ns
    → AllByRecursion (λ y. (m == y) ≡ false) (cons_option o ns)
one_apart p e f m ns below here there is None are rest = rest
one_apart p e f m ns below here there is (Some k) are rest = (apart p e f m k below here there is are, rest)

all_apart : (p : ResourcePath) (e : FullPath) (m : ℕ) (es : List (FullPath × Value)) → T (below_all path_cmp e es)
    → lies_in (resource_path p) e ≡ true → e.part ≡ Some m → AllByRecursion (λ y. (m == y) ≡ false) (numbers p es)
all_apart p e m [] below here is = tt
all_apart p e m (f ∷ es) below here is =
    let rest = all_apart p e m es (T_second _ _ below) here is in
    elim (lies_in (resource_path p) f.0) as (λ b. lies_in (resource_path p) f.0 ≡ b
    → AllByRecursion (λ y. (m == y) ≡ false)
    (filter_map (λ e. e.0.part) (cond b (f ∷ filter (λ e. lies_in (resource_path p) e.0) es)
    (filter (λ e. lies_in (resource_path p) e.0) es)))) [
      | true ↦ λ there. one_apart p e f.0 m (numbers p es) (T_first _ _ below) here there is f.0.part refl rest
      | false ↦ λ there. rest
    ] refl

one_distinct : (p : ResourcePath) (e : FullPath) (es : List (FullPath × Value)) → T (below_all path_cmp e es)
    → lies_in (resource_path p) e ≡ true → (o : Option ℕ) → e.part ≡ o → IsDistinct ◌==◌ (numbers p es)
    → IsDistinct ◌==◌ (cons_option o (numbers p es))
unfolding IsDistinct
one_distinct p e es below here None is rest = rest
one_distinct p e es below here (Some m) is rest = (all_apart p e m es below here is, rest)

distinct : (p : ResourcePath) (es : List (FullPath × Value)) → T (is_sorted path_cmp es)
    → IsDistinct ◌==◌ (numbers p es)
unfolding IsDistinct
distinct p [] sorted = tt
distinct p (e ∷ es) sorted =
    let rest = distinct p es (T_second _ _ sorted) in
    elim (lies_in (resource_path p) e.0) as (λ b. lies_in (resource_path p) e.0 ≡ b
    → IsDistinct ◌==◌ (filter_map (λ e. e.0.part)
    (cond b (e ∷ filter (λ e. lies_in (resource_path p) e.0) es)
    (filter (λ e. lies_in (resource_path p) e.0) es)))) [
      | true ↦ λ here. one_distinct p e.0 es (T_first _ _ sorted) here e.0.part refl rest
      | false ↦ λ here. rest
    ] refl

-- no number stands twice
pub held_distinct : (stored : Stored) (p : ResourcePath) → IsDistinct ◌==◌ (parts_of stored p)
held_distinct stored p = distinct p (map.entries stored.values) (map.entries_sorted stored.values)

one_member : (n : ℕ) (o : Option ℕ) (ns : List ℕ)
    → is_member ◌==◌ (cons_option o ns) n ≡ (is_part n o || is_member ◌==◌ ns n)
one_member n None ns = refl
one_member n (Some m) ns = ap (λ b. b || is_member ◌==◌ ns n) (eqb_turned n m)

member : (p : ResourcePath) (n : ℕ) (es : List (FullPath × Value))
    → is_member ◌==◌ (numbers p es) n ≡ list_any (eq_by_cmp path_cmp (part_of p n)) (keys_of es)
member p n [] = refl
member p n (e ∷ es) =
    (elim (lies_in (resource_path p) e.0) as
    (λ b. is_member ◌==◌ (filter_map (λ e. e.0.part)
    (cond b (e ∷ filter (λ e. lies_in (resource_path p) e.0) es)
    (filter (λ e. lies_in (resource_path p) e.0) es))) n
    ≡ ((b && is_part n e.0.part) || is_member ◌==◌ (numbers p es) n)) [
      | true ↦ one_member n e.0.part (numbers p es)
      | false ↦ refl
    ])
    ∙ ap (λ b. b || is_member ◌==◌ (numbers p es) n)
    (sym ((eq_by_cmp_equiv path_total).symm (part_of p n) e.0 ∙ is_at_part e.0 p n))
    ∙ ap (λ b. eq_by_cmp path_cmp (part_of p n) e.0 || b) (member p n es)

-- they are the numbers of the parts that have a value
pub held_at : (stored : Stored) (p : ResourcePath) (n : ℕ)
    → is_member ◌==◌ (parts_of stored p) n ≡ is_some (value_at stored (part_of p n))
held_at stored p n = member p n (map.entries stored.values) ∙ sym (map.contains_key-keys stored.values (part_of p n))
