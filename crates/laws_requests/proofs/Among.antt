-- What is among the elements of a list, among the entries of a map, and among the instances of an object.
use Rattle.std.proofs.Common.{◌≡◌, ◌↔◌, inl, inr, ℕ, Bool, true, false, cond, List, [], ◌∷◌}
use Rattle.std.proofs.Common.{None, Some, refl, sym, ap, subst, ◌∙◌}
use Rattle.std.proofs.Math.Dec.{T}
use Rattle.std.specs.Cmp.{eq_by_cmp_equiv}
use Rattle.std.specs.FinMap as finite
use Rattle.std.specs.FinMap.{find, is_sorted}
use Rattle.std.specs.FinMap.Entries.{below_all}
use Rattle.std.specs.List as lists
use Rattle.std.specs.List.{filter}
use Rattle.std.specs.Ordering.{eq_by_cmp, is_eq}
use Rattle.std.specs.declared.cmp.Ordering.TheVariants.{Less}
use Rattle.lemmas.proofs.Tests.{T_first, T_second, T_both}
use Rattle.lemmas.proofs.Orders.{is_less, is_equal}
use Rattle.lwm2m_values.specs.declared.value.Value.{Value}
use Rattle.object_defs.specs.Path.{path_cmp}
use Rattle.object_defs.specs.declared.path.FullPath.{FullPath}
use Rattle.object_defs.proofs.PathOrder.{path_exact, path_total}
use Rattle.instance_store.specs.Stored.{Stored, has_instance, instances_of, value_at}
use Rattle.lwm2m_payloads.specs.Nodes.{Pairs}
use Rattle.device_requests.specs.Laws.{IsAmong}
use Rattle.device_requests.specs.Targets.{place_of}
use Rattle.device_requests.proofs.LinksExist.{has_listed, listed_has}

-- ---- a list

pub found : {X : Type 0} (p : X → Bool) (x : X) (xs : List X) → lists.find p xs ≡ Some x → IsAmong x xs × (p x ≡ true)
found p x [] h = cc
found p x (z ∷ xs) h =
    elim (p z) as (λ b. p z ≡ b → cond b (Some z) (lists.find p xs) ≡ Some x → IsAmong x (z ∷ xs) × (p x ≡ true)) [
      | true ↦ λ e k. let i : z ≡ x = cc in (inl i, rw (← i) e)
      | false ↦ λ e k. let r = found p x xs k in (inr r.0, r.1)
    ] refl h

pub none_found : {X : Type 0} (p : X → Bool) (xs : List X) → lists.find p xs ≡ None → (x : X) → IsAmong x xs
    → p x ≡ false
none_found p [] h x among = absurd among
none_found p (z ∷ xs) h x among =
    elim (p z) as (λ b. p z ≡ b → cond b (Some z) (lists.find p xs) ≡ None → p x ≡ false) [
      | true ↦ λ e k. cc
      | false ↦ λ e k. elim among [ inl is ↦ sym (ap p is) ∙ e | inr others ↦ none_found p xs k x others ]
    ] refl h

pub not_found : {X : Type 0} (p : X → Bool) (xs : List X) → ((x : X) → IsAmong x xs → p x ≡ false)
    → lists.find p xs ≡ None
not_found p [] h = refl
not_found p (z ∷ xs) h =
    ap (λ (b : Bool). cond b (Some z) (lists.find p xs)) (h z (inl refl))
    ∙ not_found p xs (λ x among. h x (inr among))

-- ---- the entries of a map

below_filtered : (q : FullPath) (p : FullPath × Value → Bool) (es : Pairs) → T (below_all path_cmp q es)
    → T (below_all path_cmp q (filter p es))
below_filtered q p [] h = tt
below_filtered q p (e ∷ es) h =
    elim (p e) as (λ b. T (below_all path_cmp q (cond b (e ∷ filter p es) (filter p es)))) [
      | true ↦ T_both _ _ (T_first _ _ h) (below_filtered q p es (T_second _ _ h))
      | false ↦ below_filtered q p es (T_second _ _ h)
    ]

pub sorted_filtered : (p : FullPath × Value → Bool) (es : Pairs) → T (is_sorted path_cmp es)
    → T (is_sorted path_cmp (filter p es))
sorted_filtered p [] h = tt
sorted_filtered p (e ∷ es) h =
    elim (p e) as (λ b. T (is_sorted path_cmp (cond b (e ∷ filter p es) (filter p es)))) [
      | true ↦ T_both _ _ (below_filtered e.0 p es (T_first _ _ h)) (sorted_filtered p es (T_second _ _ h))
      | false ↦ sorted_filtered p es (T_second _ _ h)
    ]

among_below : (q : FullPath) (es : Pairs) (e : FullPath × Value) → T (below_all path_cmp q es) → IsAmong e es
    → path_cmp q e.0 ≡ Less
among_below q [] e h among = absurd among
among_below q (d ∷ es) e h (inl is) = rw (← is) (is_less (path_cmp q d.0) (T_first _ _ h))
among_below q (d ∷ es) e h (inr among) = among_below q es e (T_second _ _ h) among

-- the first of sorted entries is below all others, and these are sorted
pub sorted_first : (d : FullPath × Value) (es : Pairs) → T (is_sorted path_cmp (d ∷ es)) → (e : FullPath × Value)
    → IsAmong e es → path_cmp d.0 e.0 ≡ Less
sorted_first d es h e among = among_below d.0 es e (T_first _ _ h) among

pub sorted_rest : (d : FullPath × Value) (es : Pairs) → T (is_sorted path_cmp (d ∷ es)) → T (is_sorted path_cmp es)
sorted_rest d es h = T_second _ _ h

found_among : (q : FullPath) (v : Value) (es : Pairs) → find path_cmp q es ≡ Some v → IsAmong (q, v) es
found_among q v [] h = cc
found_among q v (e ∷ es) h =
    elim (eq_by_cmp path_cmp q e.0) as (λ b. eq_by_cmp path_cmp q e.0 ≡ b
    → cond b (Some e.1) (find path_cmp q es) ≡ Some v → IsAmong (q, v) (e ∷ es)) [
      | true ↦ λ is k.
          let same : q ≡ e.0 = path_exact q e.0 (is_equal (path_cmp q e.0) is) in
          let value : e.1 ≡ v = cc in
          inl (λ j. (sym same j, value j))
      | false ↦ λ is k. inr (found_among q v es k)
    ] refl h

equal_itself : (q : FullPath) → path_cmp q q ≡ Less → ⊥
equal_itself q h =
    let l : false ≡ true = sym (ap is_eq h) ∙ (eq_by_cmp_equiv path_total).refl q in cc

among_found : (q : FullPath) (v : Value) (es : Pairs) → T (is_sorted path_cmp es) → IsAmong (q, v) es
    → find path_cmp q es ≡ Some v
among_found q v [] h among = absurd among
among_found q v (e ∷ es) h (inl is) =
    let same : eq_by_cmp path_cmp q e.0 ≡ true = rw is ((eq_by_cmp_equiv path_total).refl q) in
    ap (λ (b : Bool). cond b (Some e.1) (find path_cmp q es)) same ∙ ap (λ (d : FullPath × Value). Some d.1) is
among_found q v (e ∷ es) h (inr among) =
    elim (eq_by_cmp path_cmp q e.0) as (λ b. eq_by_cmp path_cmp q e.0 ≡ b
    → cond b (Some e.1) (find path_cmp q es) ≡ Some v) [
      | true ↦ λ is.
          let same : q ≡ e.0 = path_exact q e.0 (is_equal (path_cmp q e.0) is) in
          absurd (equal_itself q (subst (λ (x : FullPath). path_cmp x q ≡ Less) (sym same)
          (sorted_first e es h (q, v) among)))
      | false ↦ λ is. among_found q v es (T_second _ _ h) among
    ] refl

-- the entries are what the store has at full paths
pub entry_held : (stored : Stored) (q : FullPath) (v : Value) → IsAmong (q, v) (finite.entries stored.values)
    ↔ (value_at stored q ≡ Some v)
entry_held stored q v =
    let es = finite.entries stored.values in (
      λ h. finite.get-entries stored.values q ∙ among_found q v es (finite.entries_sorted stored.values) h,
      λ h. found_among q v es (sym (finite.get-entries stored.values q) ∙ h),
    )

-- ---- the instances of an object

pub instance_listed : (stored : Stored) (o n : ℕ) → IsAmong n (instances_of stored o)
    ↔ (has_instance stored (place_of o n) ≡ true)
instance_listed stored o n = (listed_has stored o n, has_listed stored o n)
