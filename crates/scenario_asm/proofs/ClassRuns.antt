-- The statements of a class make it.
use Rattle.std.proofs.Common.{◌≡◌, ℕ, zero, suc, ◌+◌, ◌<◌, ◌≤◌, Bool, true, false, cond, not, ◌&&◌, eqb, ltb, List, []}
use Rattle.std.proofs.Common.{◌∷◌, ◌++◌, map, length, Option, None, Some, Ok, option_map, refl, sym, ap, subst, ◌∙◌}
use Rattle.std.proofs.Common.{append_assoc, arith}
use Rattle.std.specs.Prelude.{is_some, nat_le, nat_lt}
use Rattle.std.specs.List.{AllByRecursion, flat_map, list_all}
use Rattle.std.specs.Ordering.{is_lt}
use Rattle.std.proofs.lemmas.Bool.{eqb-true, and_parts}
use Rattle.std.proofs.lemmas.Bool.Decides.{nat_tests}
use Rattle.std.proofs.lemmas.List.{append-nil}
use Rattle.byte_layout.specs.Layout.{each}
use Rattle.byte_layout.proofs.Fields.{number_below}
use Rattle.lwm2m_values.specs.declared.kind.ValueKind.{ValueKind}
use Rattle.lwm2m_values.specs.declared.kind.ValueKind.TheVariants as kinds
use Rattle.lwm2m_values.specs.declared.value.Value.{Value}
use Rattle.lwm2m_values.specs.declared.value.Value.TheVariants as held
use Rattle.lwm2m_values.specs.Value.{kind_of}
use Rattle.object_defs.specs.Base.{base}
use Rattle.object_defs.specs.Catalog.{definition_of, object_of}
use Rattle.object_defs.specs.Lines.{first_line}
use Rattle.object_defs.specs.Path.{full_path, instance_cmp, path_cmp, path_to, path_with}
use Rattle.object_defs.specs.Vendor.{is_vendor, new_object, with_object, with_resource}
use Rattle.object_defs.specs.declared.definition.ObjectDef.{ObjectDef}
use Rattle.object_defs.specs.declared.definition.ResourceDef.{ResourceDef}
use Rattle.object_defs.specs.declared.path.FullPath.{FullPath}
use Rattle.object_defs.specs.declared.path.InstancePath.{InstancePath}
use Rattle.object_defs.proofs.LookUps.{same_number}
use Rattle.instance_store.specs.Stored.{has_instance, instances_of, value_at, value_count, with_instance, with_value}
use Rattle.scenario_layout.specs.Value.{kind_numbered, kind_number, of_kind, opaque, text, value}
use Rattle.std.specs.Int.{w8}
use Rattle.lemmas.proofs.Tests.{never_both}
use Rattle.lemmas.proofs.Lists.{length_pushed}
use Rattle.lemmas.proofs.Numbers.{nat_le_below}
use Rattle.scenario_layout.specs.Definition.{resource, resources}
use Rattle.device_template.specs.Template.{Template, empty_class, instance_fault, kind_taken}
use Rattle.device_template.specs.Template.{kind_taken_by, object_fault, plain, value_fault, value_fault_at, may_stand}
use Rattle.device_template.specs.Template.{with_catalog, with_notify, with_store}
use Rattle.device_template.specs.Values.{fits_object, has_all_parts, has_place, with_value_at}
use Rattle.lwm2m_values.specs.Value.{has_good_length}
use Rattle.device_template.specs.Built.{IsBuilt}
use Rattle.device_template.specs.declared.fault.TemplateFault.{TemplateFault}
use Rattle.device_template.specs.declared.fault.TemplateFault.TheVariants as template
use Rattle.scenario_layout.specs.Class.{class, behind_accounts, behind_instances, behind_notify, behind_objects, notify}
use Rattle.scenario_layout.specs.Class.{notify_in, entry, instance, instances, instances_in, is_taken, object}
use Rattle.scenario_layout.specs.Class.{object_id, object_of_definitions, objects, objects_in, value_path, values}
use Rattle.scenario_layout.specs.Class.{values_in, with_accounts, with_instances, with_objects, with_values}
use Rattle.scenario_layout.proofs.Defined.{defined_end, not_refused_at}
use Rattle.scenario_layout.proofs.Filling.{instance_added as more_instances, instances_itself, instances_none}
use Rattle.scenario_layout.proofs.Filling.{value_added as more_values, values_itself, values_none}
use Rattle.scenario_layout.proofs.GoodClass.{class_good}
use Rattle.scenario_layout.proofs.Items.{instance_made, object_vendor, value_made, number_again}
use Rattle.scenario_layout.proofs.Ordered.{inserted_end}
use Rattle.scenario_layout.proofs.GoodEntries.{plain_short}
use Rattle.scenario_image.specs.Scenario.{Scenario, class_fault}
use Rattle.scenario_image.specs.declared.fault.ScenarioFault.TheVariants as scenario
use Rattle.scenario_words.specs.Reading.{◌>>=◌}
use Rattle.scenario_statements.specs.declared.statement.Statement.TheVariants as says
use Rattle.scenario_asm.specs.Canonical.{of_class, of_notify, of_object, of_value}
use Rattle.scenario_asm.specs.Causes.{needs, scenario_cause, template_cause, unless}
use Rattle.scenario_asm.specs.ClassLines.{has_object, is_stated, value_cause}
use Rattle.scenario_asm.specs.Draft.{Draft, closed_scenario}
use Rattle.scenario_asm.specs.Effect.{class_begun, effect}
use Rattle.scenario_asm.specs.Denotes.{Lead}
use Rattle.scenario_asm.proofs.Canonical.{lead_append}
use Rattle.scenario_asm.proofs.ClassValues.{same_fit, short_told, too_long}
use Rattle.scenario_asm.proofs.Opened.{opened, taken_is, items_lead, accounts_lead, notify_lead}

-- ---- instances

four_lines : (a b c d : Bool)
    → first_line ((a, template.Range) ∷ (not b, template.Missing) ∷ (c, template.Duplicate) ∷ (d, template.Full) ∷ [])
    ≡ None → b ≡ true
four_lines a true c d h = refl
four_lines true false c d h = absurd cc
four_lines false false c d h = absurd cc

object_there : (k : Template) (p : InstancePath) → instance_fault k p ≡ None → has_object k p.object ≡ true
object_there k p h =
    four_lines (not (may_stand p)) (is_some (object_of k.catalog p.object)) (has_instance k.store p)
    (nat_le 64 (length (instances_of k.store p.object))) h

instance_lead : (s : Scenario) (o : Option ℕ) (c : Template) (before : List InstancePath) (p : InstancePath)
    → instances_in (with_instances c before) ≡ before → (instance c before).Good p
    → (effect (says.Instance p) (opened s (with_instances c before) o)
    ≡ Ok (opened s (with_instances c (before ++ p ∷ [])) o))
    × (instances_in (with_instances c (before ++ p ∷ [])) ≡ before ++ p ∷ [])
unfolding instance
instance_lead s o c before p same good =
    let k = with_instances c before in
    let u = with_store k (with_instance k.store p) in
    let both = and_parts (list_all (λ q. is_lt (instance_cmp q p)) before) (is_taken (instance_fault k p)) good.1 in
    let free : instance_fault k p ≡ None = taken_is _ both.1 in
    let more : instances_in u ≡ before ++ p ∷ [] =
    more_instances k p (ap (list_all (λ q. is_lt (instance_cmp q p))) same ∙ both.0)
    ∙ ap (λ xs. xs ++ p ∷ []) same in
    let made : u ≡ with_instances c (before ++ p ∷ []) = instance_made k u p refl ∙ ap (with_instances c) more in (
      ap (λ b. needs b (unless (option_map template_cause (instance_fault k p)) u) >>= (λ e. Ok (opened s e o)))
          (object_there k p free)
          ∙ ap (λ f. unless (option_map template_cause f) u >>= (λ e. Ok (opened s e o))) free
          ∙ ap (λ e. Ok (opened s e o)) made,
      sym (ap instances_in made) ∙ more,
    )

instances_lead : (s : Scenario) (o : Option ℕ) (c : Template) (xs : List InstancePath) → instances_in c ≡ []
    → (instances c).Good xs → Lead (opened s c o) (map (λ p. says.Instance p) xs) (opened s (with_instances c xs) o)
unfolding instances
instances_lead s o c xs none good =
    let start : with_instances c [] ≡ c = sym (instances_itself c ∙ ap (with_instances c) none) in
    subst (λ (k : Template). Lead (opened s k o) (map (λ p. says.Instance p) xs) (opened s (with_instances c xs) o))
    start
    (items_lead (λ p. says.Instance p) (instance c) (with_instances c)
    (λ before. instances_in (with_instances c before) ≡ before) s o
    (λ before p q good. instance_lead s o c before p q good) (length xs) [] xs
    (ap instances_in start ∙ none) good.1)

-- ---- values

five_lines : (a b d e g : Bool)
    → first_line ((not a, template.Range) ∷ (not b, template.Missing) ∷ (d, template.Duplicate) ∷ (
      e,
      template.Full,
    ) ∷ (g, template.Full) ∷ []) ≡ None → (a ≡ true) × (b ≡ true)
five_lines true true d e g h = (refl, refl)
five_lines false b d e g h = absurd cc
five_lines true false d e g h = absurd cc

up_to : (n m : ℕ) → n < suc m → nat_le n m ≡ true
up_to n m h = grind (arith, nat_tests)

below_test : (n m : ℕ) → nat_lt n (suc m) ≡ true → nat_le n m ≡ true
below_test n m h = grind (arith, nat_tests)

short_text : (t : List ℕ) → text.Good t → nat_le (length t) 255 ≡ true
unfolding text
short_text t h = let below : length t < 256 = number_below w8 (length t) h.0.0 in up_to (length t) 255 below

short_opaque : (b : List ℕ) → opaque.Good b → nat_le (length b) 1024 ≡ true
unfolding opaque
short_opaque b h = below_test (length b) 1024 h.0.1

-- a value that has a spelling is short
spelled_short : (v : Value) → (of_kind (kind_of v)).Good v → has_good_length v ≡ true
spelled_short (held.Text t) h = short_text t h.0
spelled_short (held.Whole z) h = refl
spelled_short (held.Flag b) h = refl
spelled_short (held.Opaque b) h = short_opaque b h.0
spelled_short (held.Moment z) h = refl
spelled_short (held.Link o i) h = refl

-- a value that may stand where a kind is taken is of that kind, and short
of_kind_taken : (j : ValueKind) (v : Value) → (value (Some j)).Good v → (kind_of v ≡ j) × (has_good_length v ≡ true)
unfolding value
of_kind_taken j v good =
    let same : kind_number (kind_of v) ≡ kind_number j = eqb-true (kind_number (kind_of v)) (kind_number j) good.0.1 in
    (sym (number_again (kind_of v)) ∙ ap kind_numbered same ∙ number_again j, spelled_short v good.1)

some_kind : (o : Option ValueKind) → is_some o ≡ true → (j : ValueKind) × (o ≡ Some j)
some_kind None h = absurd cc
some_kind (Some j) h = (j, refl)

by_fault : (k : Template) (p : FullPath) (d : ResourceDef) (j : ValueKind) (f : Option TemplateFault)
    → value_fault_at k p (plain d.kind) ≡ f → cond (is_some f) None (Some d.kind) ≡ Some j
    → value_fault_at k p (plain j) ≡ None
by_fault k p d j None is h = let same : d.kind ≡ j = cc in ap (λ q. value_fault_at k p (plain q)) (sym same) ∙ is
by_fault k p d j (Some f) is h = absurd cc

by_definition : (k : Template) (p : FullPath) (o : Option ResourceDef) (j : ValueKind) → kind_taken_by k p o ≡ Some j
    → value_fault_at k p (plain j) ≡ None
by_definition k p None j h = absurd cc
by_definition k p (Some d) j h = by_fault k p d j (value_fault_at k p (plain d.kind)) refl h

-- the refusals of a value, by whether it is short and whether it fits
abbrev judged_so : Template → FullPath → Bool → Bool → Option TemplateFault
judged_so k p w a =
    first_line ((not (w && a), template.Range) ∷ (
      not (has_place k.catalog k.store p),
      template.Missing,
    ) ∷ (is_some (value_at k.store p), template.Duplicate) ∷ (
      nat_le 65535 (value_count k.store),
      template.Full,
    ) ∷ (has_all_parts k.store p, template.Full) ∷ [])

value_free : (k : Template) (p : FullPath) (v : Value) (j : ValueKind) → kind_taken k p ≡ Some j → kind_of v ≡ j
    → has_good_length v ≡ true → value_fault_at k p v ≡ None
value_free k p v j taken is short =
    let o = object_of k.catalog p.object in
    ap (λ w. judged_so k p w (fits_object p v o)) short
    ∙ ap (judged_so k p true) (sym (same_fit p v o))
    ∙ ap (λ w. judged_so k p w (fits_object p (plain (kind_of v)) o)) (sym (plain_short (kind_of v)))
    ∙ ap (λ q. value_fault_at k p (plain q)) is
    ∙ by_definition k p (definition_of k.catalog p.object p.resource) j taken

full_again : (o i r : ℕ) (part : Option ℕ)
    → full_path (path_with o i r part) ≡ Some (record { object = o; instance = i; resource = r; part = part })
full_again o i r None = refl
full_again o i r (Some n) = refl

stated_at : (k : Template) (o i r : ℕ) (part : Option ℕ)
    → is_stated k (path_with o i r part) ≡ (has_object k o
    && has_instance k.store (record { object = o; instance = i }))
stated_at k o i r None = refl
stated_at k o i r (Some n) = refl

value_taken : (s : Scenario) (o : Option ℕ) (k : Template) (p : FullPath) (v : Value) → value_fault_at k p v ≡ None
    → has_good_length v ≡ true
    → effect (says.Value (path_to p) v) (opened s k o) ≡ Ok (opened s (with_store k (with_value k.store p v)) o)
value_taken s o k p v free short =
    let full : full_path (path_to p) ≡ Some p = full_again p.object p.instance p.resource p.part in
    let placed = (five_lines (has_good_length v && fits_object p v (object_of k.catalog p.object))
    (has_place k.catalog k.store p) (is_some (value_at k.store p)) (nat_le 65535 (value_count k.store))
    (has_all_parts k.store p) free).1 in
    let stated : is_stated k (path_to p) ≡ true = stated_at k p.object p.instance p.resource p.part ∙ placed in
    let cause : value_cause k (full_path (path_to p)) v ≡ None =
    short_told k (path_to p) v stated (λ long. never_both (has_good_length v) short (too_long v long))
    ∙ ap (λ q. option_map template_cause (value_fault k q v)) full
    ∙ ap (option_map template_cause) free in
    ap (λ b. needs b (unless (value_cause k (full_path (path_to p)) v)
    (with_store k (with_value_at k.store (full_path (path_to p)) v))) >>= (λ e. Ok (opened s e o))) stated
    ∙ ap (λ f. unless f (with_store k (with_value_at k.store (full_path (path_to p)) v)) >>= (λ e. Ok (opened s e o)))
    cause
    ∙ ap (λ q. Ok (opened s (with_store k (with_value_at k.store q v)) o)) full

value_lead : (s : Scenario) (o : Option ℕ) (c : Template) (before : List (FullPath × Value)) (e : FullPath × Value)
    → values_in (with_values c before) ≡ before → (entry c before).Good e
    → (effect (of_value e) (opened s (with_values c before) o) ≡ Ok (opened s (with_values c (before ++ e ∷ [])) o))
    × (values_in (with_values c (before ++ e ∷ [])) ≡ before ++ e ∷ [])
unfolding entry value_path
value_lead s o c before e same good =
    let k = with_values c before in
    let p = e.0 in
    let v = e.1 in
    let u = with_store k (with_value k.store p v) in
    let both = and_parts (list_all (λ q. is_lt (path_cmp q.0 p)) before) (is_some (kind_taken k p)) good.0.1 in
    let found = some_kind (kind_taken k p) both.1 in
    let fit = of_kind_taken found.0 v (subst (λ w. (value w).Good v) found.1 good.1.0) in
    let free : value_fault_at k p v ≡ None = value_free k p v found.0 found.1 fit.0 fit.1 in
    let more : values_in u ≡ before ++ e ∷ [] =
    more_values k p v (ap (list_all (λ q. is_lt (path_cmp q.0 p))) same ∙ both.0) ∙ ap (λ xs. xs ++ e ∷ []) same in
    let made : u ≡ with_values c (before ++ e ∷ []) = value_made k u p v refl ∙ ap (with_values c) more in
    (value_taken s o k p v free fit.1 ∙ ap (λ t. Ok (opened s t o)) made, sym (ap values_in made) ∙ more)

values_lead : (s : Scenario) (o : Option ℕ) (c : Template) (xs : List (FullPath × Value)) → values_in c ≡ []
    → (values c).Good xs → Lead (opened s c o) (map of_value xs) (opened s (with_values c xs) o)
unfolding values
values_lead s o c xs none good =
    let start : with_values c [] ≡ c = sym (values_itself c ∙ ap (with_values c) none) in
    subst (λ (k : Template). Lead (opened s k o) (map of_value xs) (opened s (with_values c xs) o)) start
    (items_lead of_value (entry c) (with_values c) (λ before. values_in (with_values c before) ≡ before) s o
    (λ before e p good. value_lead s o c before e p good) (length xs) [] xs (ap values_in start ∙ none) good.1)

-- ---- objects and their resources

other : (n m : ℕ) → ltb n m ≡ true → eqb n m ≡ false
other n m h = grind (arith, nat_tests)

found_last : (front : List ObjectDef) (id : ℕ) (ds : List ResourceDef) → list_all (λ o. nat_lt o.id id) front ≡ true
    → object_of (front ++ object_of_definitions id ds ∷ []) id ≡ Some (object_of_definitions id ds)
found_last [] id ds low = ap (λ b. cond b (Some (object_of_definitions id ds)) None) (same_number id)
found_last (o ∷ front) id ds low =
    let p = and_parts (ltb o.id id) (list_all (λ q. nat_lt q.id id) front) low in
    ap (λ b. cond b (Some o) (object_of (front ++ object_of_definitions id ds ∷ []) id)) (other o.id id p.0)
    ∙ found_last front id ds p.1

one_definition : (front : List ObjectDef) (id : ℕ) (before : List ResourceDef) (d : ResourceDef)
    → list_all (λ o. nat_lt o.id id) front ≡ true → (resource before).Good d
    → with_resource (front ++ object_of_definitions id before ∷ []) id d ≡ front
    ++ object_of_definitions id (before ++ d ∷ []) ∷ []
unfolding each
one_definition front id before d low good = defined_end (suc zero) front id before (d ∷ []) low (good, refl)

one_less : (m n k : ℕ) → m + suc n ≤ k → suc m + n ≤ k
one_less m n k h = omega (arith, h)

is_below : (m n k : ℕ) → m + suc n ≤ k → m < k
is_below m n k h = omega (arith, h)

definitions_lead : (s : Scenario) (c : Template) (front : List ObjectDef) (id : ℕ) (n : ℕ)
    (before ds : List ResourceDef) → is_vendor id ≡ true → list_all (λ o. nat_lt o.id id) front ≡ true
    → length before + n ≤ 64 → (each resource n before).Good ds
    → Lead (opened s (with_catalog c (front ++ object_of_definitions id before ∷ [])) (Some id))
    (map (λ d. says.Def d) ds)
    (opened s (with_catalog c (front ++ object_of_definitions id (before ++ ds) ∷ [])) (Some id))
unfolding each
definitions_lead s c front id zero before ds vendor low nat_le_below good =
    subst (λ ys. Lead (opened s (with_catalog c (front ++ object_of_definitions id before ∷ [])) (Some id))
    (map (λ d. says.Def d) ys) (opened s (with_catalog c (front ++ object_of_definitions id (before ++ ys) ∷ []))
    (Some id)))
    (sym good)
    (ap (λ ys. opened s (with_catalog c (front ++ object_of_definitions id ys ∷ [])) (Some id))
    (sym (append-nil before)))
definitions_lead s c front id (suc n) before [] vendor low nat_le_below good = absurd good
definitions_lead s c front id (suc n) before (d ∷ ds) vendor low nat_le_below good =
    let k = with_catalog c (front ++ object_of_definitions id before ∷ []) in (
      opened s (with_catalog c (front ++ object_of_definitions id (before ++ d ∷ []) ∷ [])) (Some id),
      ap (λ f. unless (option_map template_cause f) (with_catalog k (with_resource k.catalog id d)) >>=
          (λ e. Ok (opened s e (Some id)))) (not_refused_at k id before d vendor (found_last front id before low) good.0
          (is_below (length before) n 64 nat_le_below))
          ∙ ap (λ t. Ok (opened s (with_catalog c t) (Some id))) (one_definition front id before d low good.0),
      subst (λ ys. Lead (opened s (with_catalog c (front ++ object_of_definitions id (before ++ d ∷ []) ∷ []))
          (Some id))
          (map (λ d. says.Def d) ds) (opened s (with_catalog c (front ++ object_of_definitions id ys ∷ [])) (Some id)))
          (append_assoc before (d ∷ []) ds)
          (definitions_lead s c front id n (before ++ d ∷ []) ds vendor low
          (subst (λ m. m + n ≤ 64) (sym (length_pushed before d)) (one_less (length before) n 64 nat_le_below)) good.1),
    )

short_list : (n : ℕ) → nat_lt n 65 ≡ true → 0 + n ≤ 64
short_list n h = grind (arith, nat_tests)

object_lead : (s : Scenario) (c : Template) (before : List ObjectDef) (o : ObjectDef) (num : Option ℕ)
    → (object c before).Good o
    → Lead (opened s (with_objects c before) num) (of_object o)
    (opened s (with_objects c (before ++ o ∷ [])) (Some o.id))
unfolding object object_id resources
object_lead s c before o num good =
    let k = with_objects c before in
    let both = and_parts (list_all (λ q. nat_lt q.id o.id) (base ++ before))
    (is_taken (object_fault k o.id)) good.0.1 in
    let free : object_fault k o.id ≡ None = taken_is _ both.1 in (
      opened s (with_catalog c ((base ++ before) ++ object_of_definitions o.id [] ∷ [])) (Some o.id),
      ap (λ f. unless (option_map template_cause f) (with_catalog k (with_object k.catalog o.id)) >>=
          (λ e. Ok (opened s e (Some o.id)))) free
          ∙ ap (λ t. Ok (opened s (with_catalog c t) (Some o.id)))
          (inserted_end (λ q. q.id) (new_object o.id) (base ++ before) both.0),
      subst (λ t. Lead (opened s (with_catalog c ((base ++ before) ++ object_of_definitions o.id [] ∷ [])) (Some o.id))
          (map (λ d. says.Def d) o.resources) (opened s (with_catalog c t) (Some o.id)))
          (append_assoc base before (o ∷ []))
          (definitions_lead s c (base ++ before) o.id (length o.resources) [] o.resources
          (object_vendor k o.id free) both.0 (short_list (length o.resources) good.1.0.0.1) good.1.0.1),
    )

objects_each : (s : Scenario) (c : Template) (n : ℕ) (before xs : List ObjectDef) (num : Option ℕ)
    → (each (object c) n before).Good xs → (m : Option ℕ)
    × Lead (opened s (with_objects c before) num) (flat_map of_object xs)
    (opened s (with_objects c (before ++ xs)) m)
unfolding each
objects_each s c zero before xs num good = (
  num,
  subst (λ ys. Lead (opened s (with_objects c before) num) (flat_map of_object ys)
      (opened s (with_objects c (before ++ ys)) num)) (sym good)
      (ap (λ ys. opened s (with_objects c ys) num) (sym (append-nil before))),
)
objects_each s c (suc n) before [] num good = absurd good
objects_each s c (suc n) before (o ∷ xs) num good =
    let rest = objects_each s c n (before ++ o ∷ []) xs (Some o.id) good.1 in (
      rest.0,
      lead_append (opened s (with_objects c before) num) (opened s (with_objects c (before ++ o ∷ [])) (Some o.id)) _
          (of_object o) (flat_map of_object xs) (object_lead s c before o num good.0)
          (subst (λ ys. Lead (opened s (with_objects c (before ++ o ∷ [])) (Some o.id)) (flat_map of_object xs)
          (opened s (with_objects c ys) rest.0)) (append_assoc before (o ∷ []) xs) rest.1),
    )

objects_lead : (s : Scenario) (c : Template) (xs : List ObjectDef) (num : Option ℕ) → c.catalog ≡ base
    → (objects c).Good xs → (m : Option ℕ)
    × Lead (opened s c num) (flat_map of_object xs) (opened s (with_objects c xs) m)
unfolding objects
objects_lead s c xs num none good =
    let start : with_objects c [] ≡ c = ap (with_catalog c) (append-nil base ∙ sym none) in
    let all = objects_each s c (length xs) [] xs num good.1 in (
      all.0,
      subst (λ (k : Template). Lead (opened s k num) (flat_map of_object xs) (opened s (with_objects c xs) all.0))
          start all.1,
    )

-- ---- a class

begin_lead : (s : Scenario) (d : Draft) → d.begun ≡ true → closed_scenario d ≡ s → length s.classes < 256
    → effect says.Class d ≡ Ok (opened s empty_class None)
begin_lead s d begun same room =
    ap (λ b. needs b (class_begun d)) begun
    ∙ ap (λ t. unless (option_map scenario_cause (class_fault t))
    (record { begun = d.begun; scenario = t; open_class = Some empty_class; object = None })) same
    ∙ ap (λ b. unless (option_map scenario_cause (cond b (Some scenario.Limit) None))
    (record { begun = d.begun; scenario = s; open_class = Some empty_class; object = None }))
    (nat_le_below (length s.classes) 256 room)
    ∙ ap (λ b. Ok (record { begun = b; scenario = s; open_class = Some empty_class; object = None })) begun

-- the statements of a class make it, from a draft that has room for it
pub class_lead : (s : Scenario) (c : Template) (d : Draft) → IsBuilt c → d.begun ≡ true → closed_scenario d ≡ s
    → length s.classes < 256 → (m : Option ℕ) × Lead d (of_class c) (opened s c m)
unfolding class notify_in notify behind_notify behind_accounts behind_objects behind_instances
class_lead s c d built begun same room =
    let all = class_good c built in
    let good = all.1 in
    let k0 = with_notify empty_class c.notify in
    let k1 = with_accounts k0 c.accounts in
    let objs = objects_lead s k1 (objects_in c) None refl good.1.0 in
    let k2 = with_objects k1 (objects_in c) in
    let k3 = with_instances k2 (instances_in c) in
    let places = instances_lead s objs.0 k2 (instances_in c) (instances_none k2 refl) good.1.1.0 in
    let last = values_lead s objs.0 k3 (values_in c) (values_none k3 refl) good.1.1.1.0 in (
      objs.0,
      (
        opened s empty_class None,
        begin_lead s d begun same room,
        lead_append (opened s empty_class None) (opened s k0 None) _ (of_notify c.notify) _
            (notify_lead s c.notify all.0.1)
            (lead_append (opened s k0 None) (opened s k1 None) _ (map (λ n. says.Account n) c.accounts) _
            (accounts_lead s k0 c.accounts refl good.0)
            (lead_append (opened s k1 None) (opened s k2 objs.0) _ (flat_map of_object (objects_in c)) _ objs.1
            (lead_append (opened s k2 objs.0) (opened s k3 objs.0) _
            (map (λ p. says.Instance p) (instances_in c)) _ places
            (subst (λ (t : Template). Lead (opened s k3 objs.0) (map of_value (values_in c)) (opened s t objs.0))
            (sym good.1.1.1.1) last)))),
      ),
    )

abbrev script : List Template → Scenario
script cs = record { classes = cs; rows = [] }

-- the statements of classes make them
pub classes_lead : (cs todo : List Template) (d : Draft) → d.begun ≡ true → closed_scenario d ≡ script cs
    → AllByRecursion IsBuilt todo → length cs + length todo ≤ 256
    → (e : Draft) × Lead d (flat_map of_class todo) e × (e.begun ≡ true) × (closed_scenario e ≡ script (cs ++ todo))
classes_lead cs [] d begun same built room = (d, refl, begun, same ∙ ap script (sym (append-nil cs)))
classes_lead cs (c ∷ todo) d begun same built room =
    let one = class_lead (script cs) c d built.0 begun same (is_below (length cs) (length todo) 256 room) in
    let rest = classes_lead (cs ++ c ∷ []) todo (opened (script cs) c one.0) refl refl built.1
    (subst (λ n. n + length todo ≤ 256) (sym (length_pushed cs c)) (one_less (length cs) (length todo) 256 room)) in (
      rest.0,
      lead_append d (opened (script cs) c one.0) rest.0 (of_class c) (flat_map of_class todo) one.1 rest.1,
      rest.2,
      rest.3 ∙ ap script (append_assoc cs (c ∷ []) todo),
    )
