-- Classes that have what they are written as, and a class to which one item is added.
use Rattle.std.proofs.Common.{◌≡◌, ◌≢◌, ℕ, Bool, true, false, ◌&&◌, List, [], ◌∷◌, ◌++◌, map, Option, None, Some}
use Rattle.std.proofs.Common.{Result, Ok, Err, Ordering, refl, sym, ap, ◌∙◌}
use Rattle.std.specs.Prelude.{length, drop}
use Rattle.std.specs.List.{list_all}
use Rattle.std.specs.Ordering.{is_lt}
use Rattle.std.proofs.lemmas.List.{nil_from_length}
use Rattle.std.specs.FinMap as finite
use Rattle.byte_layout.specs.declared.fault.Break.{Break}
use Rattle.byte_layout.specs.declared.fault.Break.TheVariants.{BadField}
use Rattle.byte_layout.specs.Layout.{Layout, layout_with_test}
use Rattle.byte_layout.specs.Outcome.{Fails}
use Rattle.lwm2m_values.specs.declared.value.Value.{Value}
use Rattle.object_defs.specs.Base.{base}
use Rattle.object_defs.specs.Path.{path_cmp, instance_cmp}
use Rattle.object_defs.specs.declared.definition.ObjectDef.{ObjectDef}
use Rattle.object_defs.specs.declared.path.FullPath.{FullPath}
use Rattle.object_defs.specs.declared.path.InstancePath.{InstancePath}
use Rattle.object_defs.proofs.PathOrder.{path_total, instance_total}
use Rattle.instance_store.specs.Stored.{with_instance, with_value}
use Rattle.device_template.specs.Template.{Template, with_catalog, with_store, instance_fault}
use Rattle.device_template.specs.declared.fault.TemplateFault.{TemplateFault}
use Rattle.device_template.specs.declared.fault.TemplateFault.TheVariants as faults
use Rattle.scenario_layout.specs.Growing.{items_with_next, refusal, IsLast}
use Rattle.scenario_layout.specs.Class.{objects_in, instances_in, values_in, with_accounts, with_objects}
use Rattle.scenario_layout.specs.Class.{with_instances, with_values, is_taken, account, object, object_id, instance}
use Rattle.scenario_layout.specs.Class.{entry, value_path}
use Rattle.scenario_layout.proofs.Ordered.{from_entries_of, insert_end}

-- ---- what an item's test says

-- an item that passes is read after the others
pub passed : {A : Type 0} (test : A → Bool) (p : Layout A) (before : List A) (bytes : List ℕ) (a : A) (rest : List ℕ)
    → p.read bytes ≡ Ok (a, rest) → test a ≡ true
    → items_with_next before ((layout_with_test BadField test p).read bytes) ≡ Ok (before ++ a ∷ [], rest)
passed test p before bytes a rest read good = rw (read, good) refl

-- one that does not is a bad field
pub failed : {A : Type 0} (test : A → Bool) (p : Layout A) (before : List A) (bytes : List ℕ) (a : A) (rest : List ℕ)
    → p.read bytes ≡ Ok (a, rest) → test a ≡ false
    → items_with_next before ((layout_with_test BadField test p).read bytes) ≡ Err (BadField (length bytes))
failed test p before bytes a rest read bad = rw (read, bad) refl

-- what a class refuses is a bad field
pub refused : {A : Type 0} (f : TemplateFault) (left : ℕ) (r : Result A Break)
    → (f ≢ faults.Memory → r ≡ Err (BadField left)) → Fails (refusal f left) r
refused faults.Memory left r h = tt
refused faults.Range left r h = h (λ (e : faults.Range ≡ faults.Memory). cc)
refused faults.Missing left r h = h (λ (e : faults.Missing ≡ faults.Memory). cc)
refused faults.Duplicate left r h = h (λ (e : faults.Duplicate ≡ faults.Memory). cc)
refused faults.Full left r h = h (λ (e : faults.Full ≡ faults.Memory). cc)

-- ---- accounts

pub accounts_same : (c : Template) (xs before : List ℕ) → account before ≡ account before
accounts_same c xs before = refl

pub accounts_twice : (c : Template) (xs ys : List ℕ) → with_accounts (with_accounts c xs) ys ≡ with_accounts c ys
accounts_twice c xs ys = refl

-- ---- objects

pub objects_same : (c : Template) (xs before : List ObjectDef) → object (with_objects c xs) before ≡ object c before
unfolding object object_id
objects_same c xs before = refl

pub objects_twice : (c : Template) (xs ys : List ObjectDef) → with_objects (with_objects c xs) ys ≡ with_objects c ys
objects_twice c xs ys = refl

-- ---- instances

units_again : (es : List (InstancePath × Unit {0}))
    → map (λ (p : InstancePath). (p, tt)) (map (λ (e : InstancePath × Unit {0}). e.0) es) ≡ es
units_again [] = refl
units_again (e ∷ es) = ap (λ t. e ∷ t) (units_again es)

-- a class has the instances that it has
pub instances_itself : (c : Template) → c ≡ with_instances c (instances_in c)
instances_itself c =
    ap (λ m. with_store c (record { values = c.store.values; instances = m }))
    (sym (ap finite.from_sorted (units_again (finite.entries c.store.instances))
    ∙ from_entries_of c.store.instances))

pub instances_same : (c : Template) (xs before : List InstancePath)
    → instance (with_instances c xs) before ≡ instance c before
unfolding instance
instances_same c xs before = refl

pub instances_twice : (c : Template) (xs ys : List InstancePath)
    → with_instances (with_instances c xs) ys ≡ with_instances c ys
instances_twice c xs ys = refl

-- ---- values

-- a class has the values that it has
pub values_itself : (c : Template) → c ≡ with_values c (values_in c)
values_itself c =
    ap (λ m. with_store c (record { values = m; instances = c.store.instances })) (sym (from_entries_of c.store.values))

pub values_same : (c : Template) (xs before : List (FullPath × Value))
    → entry (with_values c xs) before ≡ entry c before
unfolding entry value_path
values_same c xs before = refl

pub values_twice : (c : Template) (xs ys : List (FullPath × Value))
    → with_values (with_values c xs) ys ≡ with_values c ys
values_twice c xs ys = refl

-- ---- an instance

all_mapped : {X Y : Type 0} (f : X → Y) (p : Y → Bool) (xs : List X)
    → list_all p (map f xs) ≡ list_all (λ x. p (f x)) xs
all_mapped f p [] = refl
all_mapped f p (x ∷ xs) = ap (λ b. p (f x) && b) (all_mapped f p xs)

-- the test of an instance after those of the class
abbrev pub instance_test : Template → InstancePath → Bool
instance_test c p =
    list_all (λ q. is_lt (instance_cmp q p)) (instances_in c)
    && is_taken (instance_fault (with_instances c (instances_in c)) p)

not_taken : (o : Option TemplateFault) (f : TemplateFault) → o ≡ Some f → is_taken o ≡ false
not_taken o f e = ap is_taken e

pub taken_none : (o : Option TemplateFault) → o ≡ None → is_taken o ≡ true
taken_none o e = ap is_taken e

and_false : (b c : Bool) → c ≡ false → (b && c) ≡ false
and_false true c h = h
and_false false c h = refl

false_and : (b c : Bool) → b ≡ false → (b && c) ≡ false
false_and b c h = ap (λ t. t && c) h

pub instance_unfit : (c : Template) (p : InstancePath)
    → list_all (λ q. is_lt (instance_cmp q p)) (instances_in c) ≡ false → instance_test c p ≡ false
instance_unfit c p h = false_and _ _ h

pub instance_refused : (c : Template) (p : InstancePath) (f : TemplateFault) → instance_fault c p ≡ Some f
    → instance_test c p ≡ false
instance_refused c p f h = and_false _ _ (not_taken _ f (ap (λ k. instance_fault k p) (sym (instances_itself c)) ∙ h))

pub instance_fits : (c : Template) (p : InstancePath) → list_all (λ q. is_lt (instance_cmp q p)) (instances_in c) ≡ true
    → instance_fault c p ≡ None → instance_test c p ≡ true
instance_fits c p h g =
    ap (λ b. b && is_taken (instance_fault (with_instances c (instances_in c)) p)) h
    ∙ taken_none _ (ap (λ k. instance_fault k p) (sym (instances_itself c)) ∙ g)

-- the instances after an addition
pub instance_added : (c : Template) (p : InstancePath)
    → list_all (λ q. is_lt (instance_cmp q p)) (instances_in c) ≡ true
    → instances_in (with_store c (with_instance c.store p)) ≡ instances_in c ++ p ∷ []
instance_added c p h =
    ap (map (λ (e : InstancePath × Unit {0}). e.0))
    (insert_end instance_total c.store.instances p tt
    (sym (all_mapped (λ e. e.0) (λ q. is_lt (instance_cmp q p)) (finite.entries c.store.instances)) ∙ h))
    ∙ map_push (finite.entries c.store.instances) p
  where
    map_push : (es : List (InstancePath × Unit {0})) (q : InstancePath)
        → map (λ (e : InstancePath × Unit {0}). e.0) (es ++ (q, tt) ∷ [])
        ≡ map (λ (e : InstancePath × Unit {0}). e.0) es ++ q ∷ []
    map_push [] q = refl
    map_push (e ∷ es) q = ap (λ t. e.0 ∷ t) (map_push es q)

-- ---- a value

pub value_added : (c : Template) (p : FullPath) (v : Value)
    → list_all (λ e. is_lt (path_cmp e.0 p)) (values_in c) ≡ true
    → values_in (with_store c (with_value c.store p v)) ≡ values_in c ++ (p, v) ∷ []
value_added c p v h = insert_end path_total c.store.values p v h

-- ---- a class that has none yet

pub objects_none : (c : Template) → c.catalog ≡ base → objects_in c ≡ []
objects_none c h = ap (drop (length base)) h

pub objects_itself : (c : Template) → c.catalog ≡ base → c ≡ with_objects c (objects_in c)
objects_itself c h = ap (with_catalog c) (h ∙ ap (λ t. base ++ t) (sym (objects_none c h)))

pub objects_now : (c t : Template) → t ≡ with_objects c (objects_in t) → t ≡ with_objects t (objects_in t)
objects_now c t h = ap (with_catalog t) (ap (λ (k : Template). k.catalog) h)

pub no_entries : {K X : Type 0} (R : K → K → Ordering) → finite.entries (finite.empty {X = X} {R = R}) ≡ []
no_entries {X = X} R = nil_from_length _ (sym (finite.len-entries finite.empty) ∙ finite.len-empty R X)

pub instances_none : (c : Template) → c.store.instances ≡ finite.empty → instances_in c ≡ []
instances_none c h = ap (map (λ (e : InstancePath × Unit {0}). e.0)) (ap finite.entries h ∙ no_entries instance_cmp)

pub instances_none_last : (c : Template) → c.store.instances ≡ finite.empty
    → IsLast instance_cmp (λ p. p) (instances_in c) None
instances_none_last c h = λ k. ap (list_all (λ p. is_lt (instance_cmp p k))) (instances_none c h)

pub values_none : (c : Template) → c.store.values ≡ finite.empty → values_in c ≡ []
values_none c h = ap finite.entries h ∙ no_entries path_cmp

pub values_none_last : (c : Template) → c.store.values ≡ finite.empty → IsLast path_cmp (λ e. e.0) (values_in c) None
values_none_last c h = λ k. ap (list_all (λ (e : FullPath × Value). is_lt (path_cmp e.0 k))) (values_none c h)
