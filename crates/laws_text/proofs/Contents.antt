-- What a class holds after each addition.
use Rattle.std.proofs.Common.{◌≡◌, ◌≢◌, ◌↔◌, ◌⊎◌, inl, inr, ℕ, Bool, true, false, cond, eqb, ltb, List, [], ◌∷◌, Option}
use Rattle.std.proofs.Common.{None, Some, Ordering, option_map, refl, sym, ap, ◌∙◌, eqb-true}
use Rattle.std.specs.Prelude.{◌||◌, is_some, option_and_then}
use Rattle.std.specs.FinMap.{get, get-insert}
use Rattle.std.specs.List.{list_any}
use Rattle.std.specs.Ordering.{eq_by_cmp}
use Rattle.std.specs.Cmp.{IsTotalOrder}
use Rattle.std.proofs.lemmas.Cmp.{eq_by_cmp_equiv}
use Rattle.std.proofs.lemmas.Map.Views.{tells_apart}
use Rattle.lemmas.proofs.Tests.{never_both}
use Rattle.lwm2m_values.specs.declared.value.Value.{Value}
use Rattle.object_defs.specs.Catalog.{definition_of, object_of, resource_in}
use Rattle.object_defs.specs.Path.{instance_cmp, path_cmp}
use Rattle.object_defs.specs.Vendor.{resource_fault, vendor_fault, with_definition, with_inserted, with_object}
use Rattle.object_defs.specs.Vendor.{with_resource}
use Rattle.object_defs.specs.declared.definition.ObjectDef.{ObjectDef}
use Rattle.object_defs.specs.declared.definition.ResourceDef.{ResourceDef}
use Rattle.object_defs.specs.declared.path.FullPath.{FullPath}
use Rattle.object_defs.specs.declared.path.InstancePath.{InstancePath}
use Rattle.object_defs.proofs.LookUps.{definition_of-with_resource_other, definition_of-with_resource_same}
use Rattle.object_defs.proofs.LookUps.{object_absent, object_of-with_object_other, object_of-with_object_same}
use Rattle.object_defs.proofs.LookUps.{object_of-with_resource_other, object_of-with_resource_same, resource_absent}
use Rattle.object_defs.proofs.LookUps.{same_number}
use Rattle.object_defs.proofs.PathOrder.{instance_exact, instance_total, path_exact, path_total}
use Rattle.instance_store.specs.Stored.{Stored, has_instance, value_at, with_instance, with_value}

-- what is there after an addition: what was there, and what was added
abbrev pub Grows : Type 0 → Type 0 → Type 0 → Type 0
Grows now before added = now ↔ (before ⊎ added)

either_of : {A : Type 0} → A ⊎ A → A
either_of (inl h) = h
either_of (inr h) = h

-- what nothing was added to was there
pub before_or : {A B : Type 0} → (B → ⊥) → A ⊎ B → A
before_or none (inl h) = h
before_or none (inr h) = absurd (none h)

-- ---- accounts

either : (a b : Bool) → Grows ((a || b) ≡ true) (b ≡ true) (a ≡ true)
either true b = ((λ h. inr refl), (λ h. refl))
either false true = ((λ h. inl refl), (λ h. refl))
either false false = ((λ h. inl h), (λ h. either_of h))

swapped : (a b c : Bool) → (a || (b || c)) ≡ (b || (a || c))
swapped true true c = refl
swapped true false c = refl
swapped false true c = refl
swapped false false c = refl

any_inserted : (p : ℕ → Bool) (x : ℕ) (xs : List ℕ) → list_any p (with_inserted (λ a. a) x xs) ≡ (p x || list_any p xs)
any_inserted p x [] = refl
any_inserted p x (y ∷ ys) =
    elim (ltb x y) as (λ b.
    list_any p (cond b (x ∷ y ∷ ys) (y ∷ with_inserted (λ a. a) x ys)) ≡ (p x || (p y || list_any p ys))) [
      | true ↦ refl
      | false ↦ ap (λ b. p y || b) (any_inserted p x ys) ∙ swapped (p y) (p x) (list_any p ys)
    ]

numbered : (x server : ℕ) {A : Type 0} → A ⊎ (eqb x server ≡ true) → A ⊎ (x ≡ server)
numbered x server (inl h) = inl h
numbered x server (inr h) = inr (eqb-true _ _ h)

counted_as : (x server : ℕ) {A : Type 0} → A ⊎ (x ≡ server) → A ⊎ (eqb x server ≡ true)
counted_as x server (inl h) = inl h
counted_as x server (inr h) = inr (ap (λ n. eqb n server) h ∙ same_number server)

pub account_grows : (xs : List ℕ) (x server : ℕ)
    → Grows (list_any (λ a. eqb a server) (with_inserted (λ a. a) x xs) ≡ true)
    (list_any (λ a. eqb a server) xs ≡ true) (x ≡ server)
account_grows xs x server =
    let e = any_inserted (λ a. eqb a server) x xs in
    let g = either (eqb x server) (list_any (λ a. eqb a server) xs) in (
      (λ h. numbered x server (g.0 (sym e ∙ h))),
      (λ h. e ∙ g.1 (counted_as x server h)),
    )

-- ---- objects

kept_some : {X : Type 0} (f : X → X) (o : Option X) → is_some (option_map f o) ≡ is_some o
kept_some f None = refl
kept_some f (Some x) = refl

object_by : (c : List ObjectDef) (id q : ℕ) (b : Bool) → eqb q id ≡ b → vendor_fault c id ≡ None
    → Grows (is_some (object_of (with_object c id) q) ≡ true) (is_some (object_of c q) ≡ true) (id ≡ q)
object_by c id q true e free =
    let same : q ≡ id = eqb-true _ _ e in (
      (λ h. inr (sym same)),
      (λ h. ap (λ n. is_some (object_of (with_object c id) n)) same
          ∙ ap is_some (object_of-with_object_same c id free)),
    )
object_by c id q false e free =
    let other : q ≢ id = λ k. never_both (eqb q id) (ap (λ n. eqb n id) k ∙ same_number id) e in
    let is = ap is_some (object_of-with_object_other c id q other) in (
      (λ h. inl (sym is ∙ h)),
      (λ h. is ∙ before_or (λ k. other (sym k)) h),
    )

pub object_grows : (c : List ObjectDef) (id q : ℕ) → vendor_fault c id ≡ None
    → Grows (is_some (object_of (with_object c id) q) ≡ true) (is_some (object_of c q) ≡ true) (id ≡ q)
object_grows c id q free = object_by c id q (eqb q id) refl free

resource_keeps_by : (c : List ObjectDef) (id : ℕ) (d : ResourceDef) (q : ℕ) (b : Bool) → eqb q id ≡ b
    → is_some (object_of c q) ≡ is_some (object_of (with_resource c id d) q)
resource_keeps_by c id d q true e =
    let same : q ≡ id = eqb-true _ _ e in
    ap (λ n. is_some (object_of c n)) same
    ∙ sym (ap is_some (object_of-with_resource_same c id d)
    ∙ kept_some (λ p. with_definition p d) (object_of c id))
    ∙ sym (ap (λ n. is_some (object_of (with_resource c id d) n)) same)
resource_keeps_by c id d q false e =
    sym (ap is_some (object_of-with_resource_other c id d q
    (λ k. never_both (eqb q id) (ap (λ n. eqb n id) k ∙ same_number id) e)))

-- a resource adds no object
pub resource_keeps : (c : List ObjectDef) (id : ℕ) (d : ResourceDef) (q : ℕ)
    → is_some (object_of c q) ≡ is_some (object_of (with_resource c id d) q)
resource_keeps c id d q = resource_keeps_by c id d q (eqb q id) refl

-- ---- definitions

none_in : (o : Option ObjectDef) (r : ℕ) → o ≡ None → option_and_then (λ p. resource_in p.resources r) o ≡ None
none_in o r h = ap (λ x. option_and_then (λ p. resource_in p.resources r) x) h

object_keeps_by : (c : List ObjectDef) (id q r : ℕ) (b : Bool) → eqb q id ≡ b → vendor_fault c id ≡ None
    → definition_of c q r ≡ definition_of (with_object c id) q r
object_keeps_by c id q r true e free =
    let same : q ≡ id = eqb-true _ _ e in
    ap (λ n. definition_of c n r) same
    ∙ none_in (object_of c id) r (object_absent c id free)
    ∙ sym (ap (λ x. option_and_then (λ p. resource_in p.resources r) x) (object_of-with_object_same c id free))
    ∙ sym (ap (λ n. definition_of (with_object c id) n r) same)
object_keeps_by c id q r false e free =
    sym (ap (λ x. option_and_then (λ p. resource_in p.resources r) x)
    (object_of-with_object_other c id q (λ k. never_both (eqb q id) (ap (λ n. eqb n id) k ∙ same_number id) e)))

-- a new object defines no resource
pub object_keeps : (c : List ObjectDef) (id q r : ℕ) → vendor_fault c id ≡ None
    → definition_of c q r ≡ definition_of (with_object c id) q r
object_keeps c id q r free = object_keeps_by c id q r (eqb q id) refl free

some_is : {X : Type 0} (o : Option X) (x y : X) → o ≡ Some x → o ≡ Some y → x ≡ y
some_is o x y h k = cc

none_is : {X : Type 0} (o : Option X) (x : X) → o ≡ None → o ≡ Some x → ⊥
none_is o x h k = cc

-- the place of a definition, and the definition
abbrev Defined : ℕ → ℕ → ℕ → ResourceDef → ResourceDef → Type 0
Defined id q r d e = (id ≡ q) × (d ≡ e) × (e.id ≡ r)

other_definition : (c : List ObjectDef) (id : ℕ) (d : ResourceDef) (q r : ℕ) (e : ResourceDef)
    → ((q ≡ id) × (r ≡ d.id) → ⊥)
    → Grows (definition_of (with_resource c id d) q r ≡ Some e) (definition_of c q r ≡ Some e) (Defined id q r d e)
other_definition c id d q r e other =
    let is = definition_of-with_resource_other c id d q r other in (
      (λ h. inl (sym is ∙ h)),
      (λ h. is ∙ before_or (λ k. other (sym k.0, sym k.2 ∙ sym (ap (λ x. x.id) k.1))) h),
    )

defined_now : (c : List ObjectDef) (id : ℕ) (d : ResourceDef) (q r : ℕ) (e : ResourceDef)
    → definition_of (with_resource c id d) q r ≡ Some d → definition_of c q r ≡ None
    → (definition_of c q r ≡ Some e) ⊎ Defined id q r d e → definition_of (with_resource c id d) q r ≡ Some e
defined_now c id d q r e now before (inl h) = absurd (none_is (definition_of c q r) e before h)
defined_now c id d q r e now before (inr h) = now ∙ ap (λ x. Some x) h.1

definition_by : (c : List ObjectDef) (id : ℕ) (d : ResourceDef) (q r : ℕ) (e : ResourceDef) (a b : Bool) → eqb q id ≡ a
    → eqb r d.id ≡ b → resource_fault c id d ≡ None
    → Grows (definition_of (with_resource c id d) q r ≡ Some e) (definition_of c q r ≡ Some e) (Defined id q r d e)
definition_by c id d q r e true true is at free =
    let same : q ≡ id = eqb-true _ _ is in
    let here : r ≡ d.id = eqb-true _ _ at in
    let now = ap (λ n. definition_of (with_resource c id d) n r) same
    ∙ ap (λ n. definition_of (with_resource c id d) id n) here
    ∙ definition_of-with_resource_same c id d free in
    let before =
    ap (λ n. definition_of c n r) same ∙ ap (λ n. definition_of c id n) here ∙ resource_absent c id d free in (
      (λ h. let equal = some_is (definition_of (with_resource c id d) q r) d e now h in
          inr (sym same, equal, sym (ap (λ x. x.id) equal) ∙ sym here)),
      (λ h. defined_now c id d q r e now before h),
    )
definition_by c id d q r e true false is at free =
    other_definition c id d q r e (λ k. never_both (eqb r d.id) (ap (λ n. eqb n d.id) k.1 ∙ same_number d.id) at)
definition_by c id d q r e false b is at free =
    other_definition c id d q r e (λ k. never_both (eqb q id) (ap (λ n. eqb n id) k.0 ∙ same_number id) is)

pub definition_grows : (c : List ObjectDef) (id : ℕ) (d : ResourceDef) (q r : ℕ) (e : ResourceDef)
    → resource_fault c id d ≡ None
    → Grows (definition_of (with_resource c id d) q r ≡ Some e) (definition_of c q r ≡ Some e) (Defined id q r d e)
definition_grows c id d q r e free = definition_by c id d q r e (eqb q id) (eqb r d.id) refl refl free

-- ---- instances and values

apart_from : {K : Type 0} {R : K → K → Ordering} (o : IsTotalOrder R) (q k : K) → eq_by_cmp R q k ≡ false → k ≡ q → ⊥
apart_from {R = R} o q k e same =
    never_both (eq_by_cmp R q k) (ap (eq_by_cmp R q) same ∙ (eq_by_cmp_equiv o).refl q) e

instance_by : (s : Stored) (p q : InstancePath) (b : Bool) → eq_by_cmp instance_cmp q p ≡ b
    → Grows (has_instance (with_instance s p) q ≡ true) (has_instance s q ≡ true) (p ≡ q)
instance_by s p q true e = (
  (λ h. inr (sym (tells_apart instance_exact q p e))),
  (λ h. ap is_some (get-insert instance_total s.instances p tt q
      ∙ ap (λ b. cond b (Some tt) (get s.instances q)) e)),
)
instance_by s p q false e =
    let is = ap is_some (get-insert instance_total s.instances p tt q
    ∙ ap (λ b. cond b (Some tt) (get s.instances q)) e) in (
      (λ h. inl (sym is ∙ h)),
      (λ h. is ∙ before_or (apart_from instance_total q p e) h),
    )

pub instance_grows : (s : Stored) (p q : InstancePath)
    → Grows (has_instance (with_instance s p) q ≡ true) (has_instance s q ≡ true) (p ≡ q)
instance_grows s p q = instance_by s p q (eq_by_cmp instance_cmp q p) refl

valued_now : (s : Stored) (p : FullPath) (w : Value) (q : FullPath) (v : Value)
    → value_at (with_value s p w) q ≡ Some w → value_at s q ≡ None → (value_at s q ≡ Some v) ⊎ ((p ≡ q) × (w ≡ v))
    → value_at (with_value s p w) q ≡ Some v
valued_now s p w q v now before (inl h) = absurd (none_is (value_at s q) v before h)
valued_now s p w q v now before (inr h) = now ∙ ap (λ x. Some x) h.1

value_by : (s : Stored) (p : FullPath) (w : Value) (q : FullPath) (v : Value) (b : Bool) → eq_by_cmp path_cmp q p ≡ b
    → value_at s p ≡ None
    → Grows (value_at (with_value s p w) q ≡ Some v) (value_at s q ≡ Some v) ((p ≡ q) × (w ≡ v))
value_by s p w q v true e free =
    let same : q ≡ p = tells_apart path_exact q p e in
    let now = get-insert path_total s.values p w q ∙ ap (λ b. cond b (Some w) (get s.values q)) e in
    let before = ap (value_at s) same ∙ free in (
      (λ h. inr (sym same, some_is (value_at (with_value s p w) q) w v now h)),
      (λ h. valued_now s p w q v now before h),
    )
value_by s p w q v false e free =
    let is = get-insert path_total s.values p w q ∙ ap (λ b. cond b (Some w) (get s.values q)) e in (
      (λ h. inl (sym is ∙ h)),
      (λ h. is ∙ before_or (λ k. apart_from path_total q p e k.0) h),
    )

pub value_grows : (s : Stored) (p : FullPath) (w : Value) (q : FullPath) (v : Value) → value_at s p ≡ None
    → Grows (value_at (with_value s p w) q ≡ Some v) (value_at s q ≡ Some v) ((p ≡ q) × (w ≡ v))
value_grows s p w q v free = value_by s p w q v (eq_by_cmp path_cmp q p) refl free
