-- The values of a class have bytes.
use Rattle.std.proofs.Common.{All, ◌≡◌, ℕ, ◌+◌, ◌<◌, ◌≤◌, Bool, true, false, cond, not, ◌&&◌, eqb, List, [], ◌∷◌, ◌++◌}
use Rattle.std.proofs.Common.{length, filter, filter_map, Option, None, Some, option_and_then, refl, sym, ap, subst}
use Rattle.std.proofs.Common.{◌∙◌, arith, eqb-true}
use Rattle.std.specs.Prelude.{nat_le, is_some}
use Rattle.std.specs.List.{AllByRecursion, list_all}
use Rattle.std.specs.Int.{w16}
use Rattle.std.specs.Ordering.{is_lt, eq_by_cmp}
use Rattle.std.specs.FinMap as finite
use Rattle.std.specs.FinMap.Entries.{find}
use Rattle.std.proofs.lemmas.Bool.Decides.{nat_tests}
use Rattle.std.proofs.lemmas.List.Elements.{All-from_recursion, filter-append, filter_map-append}
use Rattle.std.proofs.lemmas.Bool.{and_parts, and_from, not-false}
use Rattle.lemmas.proofs.Lists.{each_weaker, each_here}
use Rattle.lemmas.proofs.Options.{none_from_test}
use Rattle.lemmas.proofs.Numbers.{nat_le_below}
use Rattle.byte_layout.proofs.Fields.{number_good}
use Rattle.lwm2m_values.specs.declared.kind.ValueKind.{ValueKind}
use Rattle.lwm2m_values.specs.declared.kind.ValueKind.TheVariants as kinds
use Rattle.lwm2m_values.specs.declared.value.Value.{Value}
use Rattle.lwm2m_values.specs.declared.value.Value.TheVariants as held
use Rattle.lwm2m_values.specs.Value.{kind_of, IsGood}
use Rattle.object_defs.specs.Catalog.{object_of, resource_in, definition_of}
use Rattle.object_defs.specs.Lines.{first_line}
use Rattle.object_defs.specs.Operations.{can_read}
use Rattle.object_defs.specs.Path.{path_cmp, instance_cmp}
use Rattle.object_defs.specs.Vendor.{vendor_fault, resource_fault, with_object, with_resource}
use Rattle.object_defs.specs.declared.definition.ObjectDef.{ObjectDef}
use Rattle.object_defs.specs.declared.definition.ResourceDef.{ResourceDef}
use Rattle.object_defs.specs.declared.path.FullPath.{FullPath}
use Rattle.object_defs.specs.declared.path.InstancePath.{InstancePath}
use Rattle.object_defs.specs.declared.path.ResourcePath.{ResourcePath}
use Rattle.object_defs.proofs.LookUps.{resource_absent, definition_of-with_resource_other}
use Rattle.object_defs.proofs.PathOrder.{path_total, instance_total}
use Rattle.instance_store.specs.Stored.{lies_in, resource_path, value_at, value_count}
use Rattle.scenario_layout.specs.Value.{value}
use Rattle.scenario_layout.specs.Value as fields
use Rattle.scenario_layout.proofs.GoodValue.{path_good, value_good}
use Rattle.device_template.specs.Template.{Template, kind_taken, kind_taken_by, plain, value_fault_at}
use Rattle.device_template.specs.Values.{fits, fits_object, fits_resource, has_all_parts, has_kind, has_place}
use Rattle.device_template.specs.Values.{instance_at, is_set_at_start, resource_at}
use Rattle.lwm2m_values.specs.Value.{has_good_length}
use Rattle.device_template.specs.Built.{IsBuilt, IsShort}
use Rattle.device_template.specs.Built.IsBuilt.{nothing, account, object, resource, instance, value as added, notify}
use Rattle.scenario_layout.specs.Class.{values_in, with_values, values}
use Rattle.scenario_layout.specs.Class as layout
use Rattle.scenario_layout.proofs.Between.{all_more, length_more, taken_more, taken_before, shorter}
use Rattle.scenario_layout.proofs.Between.{each_good, below, not_true}
use Rattle.scenario_layout.proofs.Filling.{no_entries}
use Rattle.scenario_layout.proofs.GoodObjects.{no_fault}
use Rattle.scenario_layout.proofs.GoodInstances.{object_kept}
use Rattle.scenario_layout.proofs.Ordered.{is_true, map_same}
use Rattle.scenario_layout.proofs.Rising.{Ascends, is_in_order, front_ascends, front_below, none_behind, insert_more}
use Rattle.scenario_layout.proofs.Rising.{map_ascends}

abbrev Entry : Type 0
Entry = FullPath × Value

abbrev Places : Type 0
Places = finite.FinMap instance_cmp (Unit {0})

-- a value that fits the definition at its path, in an instance that is there
record IsHeld (catalog : List ObjectDef) (places : Places) (e : Entry) : Type 0 where
  short : IsShort e.0
  good : IsGood e.1
  def : ResourceDef
  defined : definition_of catalog e.0.object e.0.resource ≡ Some def
  fitting : fits_resource e.0 e.1 (Some def) ≡ true
  unset : is_set_at_start e.0 ≡ false
  placed : finite.contains_key places (instance_at e.0) ≡ true

-- the numbers of a resource's parts
parts : ResourcePath → List Entry → List ℕ
parts r es = filter_map (λ e. e.0.part) (filter (λ e. lies_in (resource_path r) e.0) es)

record HasValues (catalog : List ObjectDef) (places : Places) (es : List Entry) : Type 0 where
  each : AllByRecursion (IsHeld catalog places) es
  few_parts : (r : ResourcePath) → length (parts r es) ≤ 32
  few : length es ≤ 65535

joins : (r : ResourcePath) (xs ys : List Entry) → parts r (xs ++ ys) ≡ parts r xs ++ parts r ys
unfolding parts
joins r xs ys =
    ap (filter_map (λ (e : Entry). e.0.part)) (filter-append (λ e. lies_in (resource_path r) e.0) xs ys)
    ∙ filter_map-append (λ e. e.0.part) (filter (λ e. lies_in (resource_path r) e.0) xs)
    (filter (λ e. lies_in (resource_path r) e.0) ys)

-- ---- what a value that is not refused has

fitting_in : (p : FullPath) (v : Value) (r : Option ResourceDef) → fits_resource p v r ≡ true → (d : ResourceDef)
    × (r ≡ Some d) × (fits_resource p v (Some d) ≡ true)
fitting_in p v None h = absurd cc
fitting_in p v (Some d) h = (d, refl, h)

defined_in : (p : FullPath) (v : Value) (o : Option ObjectDef) → fits_object p v o ≡ true → is_some o ≡ true
    → (d : ResourceDef) × (option_and_then (λ q. resource_in q.resources p.resource) o ≡ Some d)
    × (fits_resource p v (Some d) ≡ true) × (is_set_at_start p ≡ false)
defined_in p v None h some = absurd cc
defined_in p v (Some o) h some =
    let both = and_parts (fits_resource p v (resource_in o.resources p.resource)) (not (is_set_at_start p)) h in
    let found = fitting_in p v (resource_in o.resources p.resource) both.0 in
    (found.0, found.1, found.2, turned (is_set_at_start p) both.1)
  where
    turned : (b : Bool) → not b ≡ true → b ≡ false
    turned false h = refl
    turned true h = absurd cc

five_lines : {X : Type 0} (a b c d e : Bool) (x y z w u : X)
    → first_line ((a, x) ∷ (b, y) ∷ (c, z) ∷ (d, w) ∷ (e, u) ∷ []) ≡ None → (a ≡ false) × (b ≡ false) × (c ≡ false)
    × (d ≡ false) × (e ≡ false)
five_lines true b c d e x y z w u h = absurd cc
five_lines false true c d e x y z w u h = absurd cc
five_lines false false true d e x y z w u h = absurd cc
five_lines false false false true e x y z w u h = absurd cc
five_lines false false false false true x y z w u h = absurd cc
five_lines false false false false false x y z w u h = (refl, refl, refl, refl, refl)

no_five : {X : Type 0} (a b c d e : Bool) (x y z w u : X) → a ≡ false → b ≡ false → c ≡ false → d ≡ false → e ≡ false
    → first_line ((a, x) ∷ (b, y) ∷ (c, z) ∷ (d, w) ∷ (e, u) ∷ []) ≡ None
no_five true b c d e x y z w u h i j k l = absurd cc
no_five false true c d e x y z w u h i j k l = absurd cc
no_five false false true d e x y z w u h i j k l = absurd cc
no_five false false false true e x y z w u h i j k l = absurd cc
no_five false false false false true x y z w u h i j k l = absurd cc
no_five false false false false false x y z w u h i j k l = refl

-- ---- a value more

-- how many parts a path names
seen : Option ℕ → ℕ
seen None = 0
seen (Some n) = 1

one_part : (p : FullPath) (v : Value) (part : Option ℕ) → p.part ≡ part
    → length (filter_map (λ (e : Entry). e.0.part) ((p, v) ∷ [])) ≡ seen part
unfolding seen
one_part p v None h = rw h refl
one_part p v (Some n) h = rw h refl

parts_at : (r : ResourcePath) (p : FullPath) (v : Value) (b : Bool) → lies_in (resource_path r) p ≡ b
    → length (parts r ((p, v) ∷ [])) ≡ cond b (seen p.part) 0
unfolding parts
parts_at r p v true h =
    ap (λ b. length (filter_map (λ (e : Entry). e.0.part) (cond b ((p, v) ∷ []) []))) h ∙ one_part p v p.part refl
parts_at r p v false h = ap (λ b. length (filter_map (λ (e : Entry). e.0.part) (cond b ((p, v) ∷ []) []))) h

same_resource : (r : ResourcePath) (p : FullPath) → lies_in (resource_path r) p ≡ true → resource_at p ≡ r
same_resource r p h =
    let outer = and_parts (eqb p.object r.object && eqb p.instance r.instance) (eqb p.resource r.resource) h in
    let inner = and_parts (eqb p.object r.object) (eqb p.instance r.instance) outer.0 in
    let o = eqb-true p.object r.object inner.0 in
    let i = eqb-true p.instance r.instance inner.1 in
    let n = eqb-true p.resource r.resource outer.1 in
    λ j. record { object = o j; instance = i j; resource = n j }

room_for : (part : Option ℕ) (n : ℕ) → (is_some part && nat_le 32 n) ≡ false → n ≤ 32 → n + seen part ≤ 32
unfolding seen
room_for None n h few = omega (arith, few)
room_for (Some m) n h few = omega (arith, below n 32 h)

still_few : (r : ResourcePath) (p : FullPath) (es new : List Entry) (b : Bool) → lies_in (resource_path r) p ≡ b
    → length (parts r new) ≡ length (parts r es) + cond b (seen p.part) 0
    → (is_some p.part && nat_le 32 (length (parts (resource_at p) es))) ≡ false → length (parts r es) ≤ 32
    → length (parts r new) ≤ 32
still_few r p es new true e more room few =
    let there : (is_some p.part && nat_le 32 (length (parts r es))) ≡ false =
    subst (λ q. (is_some p.part && nat_le 32 (length (parts q es))) ≡ false) (same_resource r p e) room in
    omega (arith, more, room_for p.part (length (parts r es)) there few)
still_few r p es new false e more room few = omega (arith, more, few)

value_more : (c : Template) (p : FullPath) (v : Value) → IsShort p → IsGood v
    → HasValues c.catalog c.store.instances (finite.entries c.store.values) → value_fault_at c p v ≡ None
    → HasValues c.catalog c.store.instances (finite.entries (finite.insert c.store.values p v))
unfolding parts
value_more c p v short good before free =
    let es = finite.entries c.store.values in
    let lines = five_lines (not (fits c.catalog p v)) (not (has_place c.catalog c.store p))
    (is_some (value_at c.store p)) (nat_le 65535 (value_count c.store)) (has_all_parts c.store p) _ _ _ _ _ free in
    let fit = and_parts (has_good_length v) (fits_object p v (object_of c.catalog p.object))
    (not-false (fits c.catalog p v) lines.0) in
    let there = and_parts (is_some (object_of c.catalog p.object))
    (finite.contains_key c.store.instances (instance_at p)) (not-false (has_place c.catalog c.store p) lines.1) in
    let found = defined_in p v (object_of c.catalog p.object) fit.1 there.0 in
    let more = insert_more path_total c.store.values p v (none_from_test (finite.get c.store.values p) lines.2) in
    let room : length es < 65535 =
    below (length es) 65535 (ap (nat_le 65535) (sym (finite.len-entries c.store.values)) ∙ lines.3) in
    record {
      each = all_more (IsHeld c.catalog c.store.instances) (p, v) es _ more
          (record {
            short = short;
            good = good;
            def = found.0;
            defined = found.1;
            fitting = found.2;
            unset =
                found.3;
            placed = there.1;
          }) before.each;
      few_parts = λ r. still_few r p es _ (lies_in (resource_path r) p) refl
          (taken_more (parts r) (joins r) (p, v) es _ more
          ∙ ap (λ n. length (parts r es) + n) (parts_at r p v (lies_in (resource_path r) p) refl)) lines.4
          (before.few_parts r);
      few = omega (arith, length_more (p, v) es (finite.entries (finite.insert c.store.values p v)) more, room);
    }

-- ---- what is held stays so

some_object : (o : Option ObjectDef) (r : ℕ) (d : ResourceDef)
    → option_and_then (λ q. resource_in q.resources r) o ≡ Some d → is_some o ≡ true
some_object None r d h = absurd cc
some_object (Some o) r d h = refl

moved : (c b : List ObjectDef) (m n : Places) (e : Entry) (h : IsHeld c m e)
    → definition_of b e.0.object e.0.resource ≡ definition_of c e.0.object e.0.resource
    → finite.contains_key n (instance_at e.0) ≡ true → IsHeld b n e
moved c b m n e h same placed =
    record {
      short = h.short;
      good = h.good;
      def = h.def;
      defined = same ∙ h.defined;
      fitting = h.fitting;
      unset =
          h.unset;
      placed = placed;
    }

held_by_object : (c : List ObjectDef) (m : Places) (id : ℕ) → vendor_fault c id ≡ None → (e : Entry) → IsHeld c m e
    → IsHeld (with_object c id) m e
held_by_object c m id free e h =
    moved c (with_object c id) m m e h (ap (option_and_then (λ q. resource_in q.resources e.0.resource))
    (object_kept c id e.0.object free (some_object (object_of c e.0.object) e.0.resource h.def h.defined))) h.placed

held_by_resource : (c : List ObjectDef) (m : Places) (id : ℕ) (d : ResourceDef) → resource_fault c id d ≡ None
    → (e : Entry) → IsHeld c m e → IsHeld (with_resource c id d) m e
held_by_resource c m id d free e h =
    moved c (with_resource c id d) m m e h (definition_of-with_resource_other c id d e.0.object e.0.resource (λ at.
    let clash : None ≡ Some h.def =
    sym (resource_absent c id d free) ∙ ap (λ q. definition_of c q d.id) (sym at.0)
    ∙ ap (definition_of c e.0.object) (sym at.1) ∙ h.defined in cc)) h.placed

held_by_instance : (c : List ObjectDef) (m : Places) (place : InstancePath) (e : Entry) → IsHeld c m e
    → IsHeld c (finite.insert m place tt) e
held_by_instance c m place e h =
    moved c c m (finite.insert m place tt) e h refl
    (ap is_some (finite.get-insert instance_total m place tt (instance_at e.0))
    ∙ either (eq_by_cmp instance_cmp (instance_at e.0) place) (finite.get m (instance_at e.0)) h.placed)
  where
    either : (b : Bool) (o : Option (Unit {0})) → is_some o ≡ true → is_some (cond b (Some tt) o) ≡ true
    either true o some = refl
    either false o some = some

has_values : (class : Template) → IsBuilt class
    → HasValues class.catalog class.store.instances (finite.entries class.store.values)
unfolding parts
has_values _ nothing =
    subst (HasValues _ _) (sym (no_entries path_cmp))
    (record { each = tt; few_parts = λ r. omega arith; few = omega arith })
has_values _ (account {class} server built free) = has_values class built
has_values _ (object {class} id built free) =
    let before = has_values class built in
    record {
      each = each_weaker _ _ (held_by_object class.catalog class.store.instances id (no_fault _ free)) _
          before.each;
      few_parts = before.few_parts;
      few = before.few;
    }
has_values _ (resource {class} id d short built free) =
    let before = has_values class built in
    record {
      each = each_weaker _ _ (held_by_resource class.catalog class.store.instances id d (no_fault _ free)) _
          before.each;
      few_parts = before.few_parts;
      few = before.few;
    }
has_values _ (instance {class} place short built free) =
    let before = has_values class built in
    record {
      each = each_weaker _ _ (held_by_instance class.catalog class.store.instances place) _ before.each;
      few_parts = before.few_parts;
      few = before.few;
    }
has_values _ (added {class} p v short good built free) = value_more class p v short good (has_values class built) free
has_values _ (notify {class} seconds built fits) = has_values class built

-- ---- their bytes

pub plain_short : (k : ValueKind) → has_good_length (plain k) ≡ true
plain_short kinds.Text = refl
plain_short kinds.Whole = refl
plain_short kinds.Flag = refl
plain_short kinds.Opaque = refl
plain_short kinds.Moment = refl
plain_short kinds.Link = refl

plain_kind : (k : ValueKind) → has_kind (plain k) k ≡ true
plain_kind kinds.Text = refl
plain_kind kinds.Whole = refl
plain_kind kinds.Flag = refl
plain_kind kinds.Opaque = refl
plain_kind kinds.Moment = refl
plain_kind kinds.Link = refl

same_kind : (v : Value) (k : ValueKind) → has_kind v k ≡ true → fields.fits (Some k) (kind_of v) ≡ true
same_kind (held.Text t) kinds.Text h = refl
same_kind (held.Text t) kinds.Whole h = absurd cc
same_kind (held.Text t) kinds.Flag h = absurd cc
same_kind (held.Text t) kinds.Opaque h = absurd cc
same_kind (held.Text t) kinds.Moment h = absurd cc
same_kind (held.Text t) kinds.Link h = absurd cc
same_kind (held.Whole z) kinds.Text h = absurd cc
same_kind (held.Whole z) kinds.Whole h = refl
same_kind (held.Whole z) kinds.Flag h = absurd cc
same_kind (held.Whole z) kinds.Opaque h = absurd cc
same_kind (held.Whole z) kinds.Moment h = absurd cc
same_kind (held.Whole z) kinds.Link h = absurd cc
same_kind (held.Flag b) kinds.Text h = absurd cc
same_kind (held.Flag b) kinds.Whole h = absurd cc
same_kind (held.Flag b) kinds.Flag h = refl
same_kind (held.Flag b) kinds.Opaque h = absurd cc
same_kind (held.Flag b) kinds.Moment h = absurd cc
same_kind (held.Flag b) kinds.Link h = absurd cc
same_kind (held.Opaque b) kinds.Text h = absurd cc
same_kind (held.Opaque b) kinds.Whole h = absurd cc
same_kind (held.Opaque b) kinds.Flag h = absurd cc
same_kind (held.Opaque b) kinds.Opaque h = refl
same_kind (held.Opaque b) kinds.Moment h = absurd cc
same_kind (held.Opaque b) kinds.Link h = absurd cc
same_kind (held.Moment z) kinds.Text h = absurd cc
same_kind (held.Moment z) kinds.Whole h = absurd cc
same_kind (held.Moment z) kinds.Flag h = absurd cc
same_kind (held.Moment z) kinds.Opaque h = absurd cc
same_kind (held.Moment z) kinds.Moment h = refl
same_kind (held.Moment z) kinds.Link h = absurd cc
same_kind (held.Link o i) kinds.Text h = absurd cc
same_kind (held.Link o i) kinds.Whole h = absurd cc
same_kind (held.Link o i) kinds.Flag h = absurd cc
same_kind (held.Link o i) kinds.Opaque h = absurd cc
same_kind (held.Link o i) kinds.Moment h = absurd cc
same_kind (held.Link o i) kinds.Link h = refl

-- a plain value fits where another of its kind does
plain_fits_resource : (p : FullPath) (v : Value) (d : ResourceDef) → fits_resource p v (Some d) ≡ true
    → (has_kind v d.kind ≡ true) × (fits_resource p (plain d.kind) (Some d) ≡ true)
plain_fits_resource p v d h =
    let outer = and_parts (can_read d.ops) _ h in
    let inner = and_parts (has_kind v d.kind) _ outer.1 in (
      inner.0,
      and_from (can_read d.ops) _ outer.0
          (and_from (has_kind (plain d.kind) d.kind) _ (plain_kind d.kind) inner.1),
    )

plain_fits : (p : FullPath) (d : ResourceDef) (o : Option ObjectDef)
    → option_and_then (λ q. resource_in q.resources p.resource) o ≡ Some d
    → fits_resource p (plain d.kind) (Some d) ≡ true → is_set_at_start p ≡ false
    → fits_object p (plain d.kind) o ≡ true
plain_fits p d None found fit unset = refl
plain_fits p d (Some o) found fit unset =
    and_from (fits_resource p (plain d.kind) (resource_in o.resources p.resource)) _
    (ap (fits_resource p (plain d.kind)) found ∙ fit) (ap not unset)

front_entries : (front back : List Entry) → Ascends path_cmp (λ e. e.0) (front ++ back)
    → finite.entries (finite.from_sorted {R = path_cmp} front) ≡ front
front_entries front back h =
    finite.entries-from_sorted path_cmp front
    (is_true _ (ap (finite.is_sorted path_cmp) (sym (map_same front))
    ∙ is_in_order path_cmp (λ e. e) front (front_ascends path_cmp (λ e. e.0) front back h)))

full_line : (part : Option ℕ) (n : ℕ) → n + seen part ≤ 32 → (is_some part && nat_le 32 n) ≡ false
unfolding seen
full_line None n h = refl
full_line (Some m) n h = nat_le_below n 32 (omega (arith, h))

own_resource : (p : FullPath) → lies_in (resource_path (resource_at p)) p ≡ true
own_resource p =
    and_from (eqb p.object p.object && eqb p.instance p.instance) _
    (and_from (eqb p.object p.object) _ (same p.object) (same p.instance)) (same p.resource)
  where
    same : (n : ℕ) → eqb n n ≡ true
    same n = grind (arith, nat_tests)

module _ (k : Template) (front : List Entry) (e : Entry) (back : List Entry)
    (h : Ascends path_cmp (λ e. e.0) (front ++ e ∷ back))
    (all : HasValues k.catalog k.store.instances (front ++ e ∷ back)) where
  is : IsHeld k.catalog k.store.instances e
  is = each_here (IsHeld k.catalog k.store.instances) front e back all.each

  low : list_all (λ b. is_lt (path_cmp b.0 e.0)) front ≡ true
  low = front_below path_cmp (λ b. b.0) front e back h

  no_value : is_some (value_at (with_values k front).store e.0) ≡ false
  unfolding low
  no_value = ap is_some (finite.get-entries (finite.from_sorted {R = path_cmp} front) e.0
      ∙ ap (find path_cmp e.0) (front_entries front (e ∷ back) h) ∙ none_behind path_total e.0 front low)

  room : nat_le 65535 (value_count (with_values k front).store) ≡ false
  room = ap (nat_le 65535) (finite.len-entries (finite.from_sorted {R = path_cmp} front)
      ∙ ap length (front_entries front (e ∷ back) h))
      ∙ nat_le_below (length front) 65535 (omega (arith, shorter (front ++ e ∷ back) front e back refl, all.few))

  more_parts : has_all_parts (with_values k front).store e.0 ≡ false
  unfolding parts
  more_parts =
      let r = resource_at e.0 in
      let own = parts_at r e.0 e.1 true (own_resource e.0) in
      let before = taken_before (parts r) (joins r) (front ++ e ∷ back) front e back refl in
      ap (λ t. is_some e.0.part && nat_le 32 (length (parts r t))) (front_entries front (e ∷ back) h)
      ∙ full_line e.0.part (length (parts r front)) (omega (arith, own, before, all.few_parts r))

  free : (d : ResourceDef) → definition_of k.catalog e.0.object e.0.resource ≡ Some d
      → fits_resource e.0 e.1 (Some d) ≡ true → is_set_at_start e.0 ≡ false
      → finite.contains_key k.store.instances (instance_at e.0) ≡ true
      → value_fault_at (with_values k front) e.0 (plain d.kind) ≡ None
  free d defined fitting unset placed =
      no_five _ _ _ _ _ _ _ _ _ _
      (not_true (fits k.catalog e.0 (plain d.kind))
      (and_from (has_good_length (plain d.kind)) _ (plain_short d.kind)
      (plain_fits e.0 d (object_of k.catalog e.0.object) defined
      (plain_fits_resource e.0 e.1 d fitting).1 unset)))
      (not_true (has_place k.catalog k.store e.0)
      (and_from (is_some (object_of k.catalog e.0.object)) _
      (some_object (object_of k.catalog e.0.object) e.0.resource d defined) placed))
      no_value room more_parts

  taken : kind_taken (with_values k front) e.0 ≡ Some is.def.kind
  unfolding is
  taken =
      ap (kind_taken_by (with_values k front) e.0) is.defined
      ∙ ap (λ o. cond (is_some o) None (Some is.def.kind)) (free is.def is.defined is.fitting is.unset is.placed)

  entry_good : (layout.entry k front).Good e
  unfolding layout.entry layout.value_path is low
  entry_good = (
    (path_good e.0 is.short.0 is.short.1 is.short.2 is.short.3, and_from _ _ low (ap is_some taken)),
    (
      subst (λ (wanted : Option ValueKind). (value wanted).Good e.1) (sym taken)
          (value_good (Some is.def.kind) e.1 is.good
          (same_kind e.1 is.def.kind (plain_fits_resource e.0 e.1 is.def is.fitting).0)),
      refl,
    ),
  )

pub values_good : (c k : Template) → IsBuilt c → k.catalog ≡ c.catalog → k.store.instances ≡ c.store.instances
    → (values k).Good (values_in c)
unfolding values
values_good c k built same_catalog same_places =
    let es = values_in c in
    let h : HasValues k.catalog k.store.instances es =
    subst (λ (t : List ObjectDef). HasValues t k.store.instances es) (sym same_catalog)
    (subst (λ (m : Places). HasValues c.catalog m es) (sym same_places) (has_values c built)) in (
      number_good w16 (length es) (omega (arith, h.few)),
      each_good (layout.entry k) es [] es refl (λ front e back is.
          entry_good k front e back (subst (Ascends path_cmp (λ (b : Entry). b.0)) is
          (map_ascends path_total c.store.values)) (subst (HasValues k.catalog k.store.instances) is h)),
    )

-- ---- what their writer asks for

pub each_held : (c : Template) → IsBuilt c → All (λ e. IsGood e.1) (values_in c)
each_held c built =
    All-from_recursion _ _ (each_weaker (IsHeld c.catalog c.store.instances) (λ e. IsGood e.1) (λ e h. h.good)
    (values_in c) (has_values c built).each)

pub few_values : (c : Template) → IsBuilt c → length (values_in c) < 65536
few_values c built = omega (arith, (has_values c built).few)
