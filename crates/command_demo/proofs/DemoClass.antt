-- The class of the DEMO device refuses none of its parts: what a class refuses is asked of the lists of its entries,
-- which compute.
use Rattle.std.proofs.Common.{ℕ, ◌≡◌, ◌≢◌, ◌<◌, ◌+◌, Bool, true, not, ◌&&◌, List, [], ◌∷◌, length, drop, get_or, map}
use Rattle.std.proofs.Common.{Option, None, Some, is_some, refl, sym, ap, ◌∙◌}
use Rattle.std.specs.Prelude.{◌==◌, is_none, nat_le}
use Rattle.std.specs.List.{filter, filter_map, fold}
use Rattle.std.specs.FinMap as finite
use Rattle.std.proofs.lemmas.Bool.{and_parts}
use Rattle.std.proofs.lemmas.List.{at_drop_more, nil_from_length}
use Rattle.lwm2m_values.specs.declared.value.Value.{Value}
use Rattle.object_defs.specs.Base.{base}
use Rattle.object_defs.specs.Catalog.{object_of}
use Rattle.object_defs.specs.Lines.{first_line}
use Rattle.object_defs.specs.Path.{full_path, path_cmp, instance_cmp}
use Rattle.object_defs.specs.declared.definition.ObjectDef.{ObjectDef}
use Rattle.object_defs.specs.declared.path.FullPath.{FullPath}
use Rattle.object_defs.specs.declared.path.InstancePath.{InstancePath}
use Rattle.object_defs.specs.declared.path.Path.{Path}
use Rattle.object_defs.proofs.PathOrder.{path_total, instance_total}
use Rattle.instance_store.specs.Stored.{lies_in, resource_path}
use Rattle.device_template.specs.Template.{Template, empty_class, instance_fault, may_stand, value_fault, with_account}
use Rattle.device_template.specs.Values.{fits, instance_at, resource_at, with_value_at}
use Rattle.device_template.specs.declared.fault.TemplateFault.{TemplateFault}
use Rattle.device_template.specs.declared.fault.TemplateFault.TheVariants.{Range, Missing, Duplicate, Full, Memory}
use Rattle.device_requests.specs.Targets.{place_of}
use Rattle.command_demo.specs.declared.demo.Held.{Held}
use Rattle.command_demo.specs.Demo.{demo_instances, demo_values, row_of, takes_instances, takes_values, value_of}
use Rattle.command_demo.specs.Demo.{with_place, with_row}

-- ---- the entries of a class

abbrev Instances : Type 0
Instances = List (InstancePath × Unit {0})

abbrev Values : Type 0
Values = List (FullPath × Value)

abbrev instances_in : Template → Instances
instances_in class = finite.entries class.store.instances

abbrev values_in : Template → Values
values_in class = finite.entries class.store.values

no_instances : instances_in empty_class ≡ []
no_instances =
    nil_from_length _ (sym (finite.len-entries empty_class.store.instances) ∙ finite.len-empty instance_cmp (Unit {0}))

no_values : values_in empty_class ≡ []
no_values = nil_from_length _ (sym (finite.len-entries empty_class.store.values) ∙ finite.len-empty path_cmp Value)

-- ---- instances

-- with one instance more
abbrev put_instance : Instances → ℕ × ℕ → Instances
put_instance instances place = finite.put instance_cmp (place_of place.0 place.1) tt instances

put_instance_is : (class : Template) (place : ℕ × ℕ)
    → instances_in (with_place class place) ≡ put_instance (instances_in class) place
put_instance_is class place =
    finite.entries-insert instance_total class.store.instances (place_of place.0 place.1) tt

put_instances_are : (class : Template) (places : List (ℕ × ℕ)) (instances : Instances)
    → instances_in class ≡ instances → instances_in (fold with_place class places) ≡ fold put_instance instances places
put_instances_are class [] instances same = same
put_instances_are class (place ∷ places) instances same =
    put_instances_are (with_place class place) places (put_instance instances place)
    (put_instance_is class place ∙ ap (λ es. put_instance es place) same)

-- the numbers of an object's instances
abbrev numbers_of : Instances → ℕ → List ℕ
numbers_of instances object = map (λ p. p.instance) (filter (λ p. p.object == object) (map (λ e. e.0) instances))

-- what is refused of an instance
abbrev fault_in : List ObjectDef → Instances → InstancePath → Option TemplateFault
fault_in objects instances p =
    first_line (
    (not (may_stand p), Range)
    ∷ (not (is_some (object_of objects p.object)), Missing)
    ∷ (is_some (finite.find instance_cmp p instances), Duplicate)
    ∷ (nat_le 64 (length (numbers_of instances p.object)), Full)
    ∷ []
    )

fault_in_is : (class : Template) (p : InstancePath)
    → instance_fault class p ≡ fault_in class.catalog (instances_in class) p
fault_in_is class p = rw (finite.get-entries class.store.instances p) refl

-- none of the instances is refused
abbrev instances_fit : List ObjectDef → Instances → List (ℕ × ℕ) → Bool
instances_fit objects instances [] = true
instances_fit objects instances (place ∷ places) =
    is_none (fault_in objects instances (place_of place.0 place.1))
    && instances_fit objects (put_instance instances place) places

instances_fit_is : (class : Template) (places : List (ℕ × ℕ))
    → takes_instances class places ≡ instances_fit class.catalog (instances_in class) places
unfolding takes_instances
instances_fit_is class [] = refl
instances_fit_is class (place ∷ places) =
    let p : InstancePath = place_of place.0 place.1 in
    ap (λ f. is_none f && takes_instances (with_place class place) places) (fault_in_is class p)
    ∙ ap (λ b. is_none (fault_in class.catalog (instances_in class) p) && b)
    (instances_fit_is (with_place class place) places
    ∙ ap (λ es. instances_fit class.catalog es places) (put_instance_is class place))

-- ---- values

-- with one value more
abbrev put_value : Values → Option FullPath → Value → Values
put_value values None value = values
put_value values (Some p) value = finite.put path_cmp p value values

put_value_is : (class : Template) (q : Option FullPath) (value : Value)
    → finite.entries (with_value_at class.store q value).values ≡ put_value (values_in class) q value
put_value_is class None value = refl
put_value_is class (Some p) value = finite.entries-insert path_total class.store.values p value

same_instances : (class : Template) (q : Option FullPath) (value : Value)
    → (with_value_at class.store q value).instances ≡ class.store.instances
same_instances class None value = refl
same_instances class (Some p) value = refl

-- the numbers of a resource's parts
abbrev parts_in : Values → FullPath → List ℕ
parts_in values p = filter_map (λ e. e.0.part) (filter (λ e. lies_in (resource_path (resource_at p)) e.0) values)

-- the object and the instance are there
abbrev is_held : List ObjectDef → Instances → FullPath → Bool
is_held objects instances p =
    is_some (object_of objects p.object) && is_some (finite.find instance_cmp (instance_at p) instances)

-- what is refused of a value
abbrev fault_at : List ObjectDef → Instances → Values → Option FullPath → Value → Option TemplateFault
fault_at objects instances values None value = Some Range
fault_at objects instances values (Some p) value =
    first_line (
    (not (fits objects p value), Range)
    ∷ (not (is_held objects instances p), Missing)
    ∷ (is_some (finite.find path_cmp p values), Duplicate)
    ∷ (nat_le 65535 (length values), Full)
    ∷ (is_some p.part && nat_le 32 (length (parts_in values p)), Full)
    ∷ []
    )

fault_at_is : (class : Template) (q : Option FullPath) (value : Value)
    → value_fault class q value ≡ fault_at class.catalog (instances_in class) (values_in class) q value
fault_at_is class None value = refl
fault_at_is class (Some p) value =
    let value_there = finite.get-entries class.store.values p in
    let instance_there = finite.get-entries class.store.instances (instance_at p) in
    rw (value_there, instance_there, finite.len-entries class.store.values) refl

-- none of the values is refused
abbrev values_fit : List ObjectDef → Instances → Values → List (Path × Value) → Bool
values_fit objects instances values [] = true
values_fit objects instances values (row ∷ rows) =
    is_none (fault_at objects instances values (full_path row.0) row.1)
    && values_fit objects instances (put_value values (full_path row.0) row.1) rows

values_fit_is : (class : Template) (rows : List (Path × Value))
    → takes_values class rows ≡ values_fit class.catalog (instances_in class) (values_in class) rows
unfolding takes_values
values_fit_is class [] = refl
values_fit_is class (row ∷ rows) =
    let q : Option FullPath = full_path row.0 in
    ap (λ f. is_none f && takes_values (with_row class row) rows) (fault_at_is class q row.1)
    ∙ ap (λ b. is_none (fault_at class.catalog (instances_in class) (values_in class) q row.1) && b)
    (values_fit_is (with_row class row) rows
    ∙ ap (λ m. values_fit class.catalog (finite.entries m) (values_in (with_row class row)) rows)
    (same_instances class q row.1)
    ∙ ap (λ es. values_fit class.catalog (instances_in class) es rows) (put_value_is class q row.1))

-- ---- the class

-- with its account, and then with its instances
abbrev with_its_account : Template
with_its_account = with_account empty_class 1

abbrev with_its_instances : Template
with_its_instances = fold with_place with_its_account demo_instances

abbrev its_instances : Instances
its_instances = fold put_instance [] demo_instances

pub instances_taken : takes_instances with_its_account demo_instances ≡ true
instances_taken =
    instances_fit_is with_its_account demo_instances ∙ ap (λ es. instances_fit base es demo_instances) no_instances

pub values_taken : takes_values with_its_instances demo_values ≡ true
values_taken =
    values_fit_is with_its_instances demo_values
    ∙ ap (λ es. values_fit base es (values_in empty_class) demo_values)
    (put_instances_are with_its_account demo_instances [] no_instances)
    ∙ ap (λ es. values_fit base its_instances es demo_values) no_values

-- ---- the steps of the loops

-- what is not refused can only be out of memory
pub only_memory : (o : Option TemplateFault) (f : TemplateFault) → o ≡ None → (f ≢ Memory → o ≡ Some f) → f ≡ Memory
only_memory o Memory free h = refl
only_memory o Range free h = let e : o ≡ Some Range = h (λ (same : Range ≡ Memory). cc) in cc
only_memory o Missing free h = let e : o ≡ Some Missing = h (λ (same : Missing ≡ Memory). cc) in cc
only_memory o Duplicate free h = let e : o ≡ Some Duplicate = h (λ (same : Duplicate ≡ Memory). cc) in cc
only_memory o Full free h = let e : o ≡ Some Full = h (λ (same : Full ≡ Memory). cc) in cc

is_free : (o : Option TemplateFault) → is_none o ≡ true → o ≡ None
is_free None h = refl
is_free (Some f) h = cc

-- the next instance is not refused, and neither are those after it
pub next_instance : (class : Template) (places : List (ℕ × ℕ)) (i : ℕ) (d : ℕ × ℕ) → i < length places
    → takes_instances class (drop i places) ≡ true
    → (instance_fault class (place_of (get_or places i d).0 (get_or places i d).1) ≡ None)
    × (takes_instances (with_place class (get_or places i d)) (drop (i + 1) places) ≡ true)
unfolding takes_instances
next_instance class places i d within taken =
    let parts = and_parts _ _ (sym (at_drop_more (takes_instances class) places i d within) ∙ taken) in
    (is_free _ parts.0, parts.1)

-- the next value is not refused, and neither are those after it
pub next_value : (class : Template) (rows : List (Path × Held)) (i : ℕ) (d : Path × Held) → i < length rows
    → takes_values class (map row_of (drop i rows)) ≡ true
    → (value_fault class (full_path (get_or rows i d).0) (value_of (get_or rows i d).1) ≡ None)
    × (takes_values (with_row class (row_of (get_or rows i d))) (map row_of (drop (i + 1) rows)) ≡ true)
unfolding takes_values
next_value class rows i d within taken =
    let parts = and_parts _ _ (sym (at_drop_more (λ rs. takes_values class (map row_of rs)) rows i d within) ∙ taken) in
    (is_free _ parts.0, parts.1)
