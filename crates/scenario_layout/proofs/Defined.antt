-- An object whose resources are added one after another.
use Rattle.std.proofs.Common.{◌≡◌, ◌≢◌, ℕ, zero, suc, ◌+◌, ◌<◌, Bool, true, false, cond, ltb, eqb, List, [], ◌∷◌, ◌++◌}
use Rattle.std.proofs.Common.{length, take, get_or, Option, None, Some, option_map, refl, sym, ap, ◌∙◌, append_assoc}
use Rattle.std.proofs.Common.{length-take-le, arith}
use Rattle.std.specs.Prelude.{nat_lt, nat_le, is_some, not, find}
use Rattle.std.specs.List.{list_all}
use Rattle.std.proofs.lemmas.Bool.Decides.{nat_tests}
use Rattle.std.proofs.lemmas.Bool.{ltb-true, and_parts}
use Rattle.std.proofs.lemmas.Option.{slice_get-get_or}
use Rattle.std.proofs.lemmas.List.{append-nil, take_more}
use Rattle.byte_layout.specs.Layout.{each}
use Rattle.byte_layout.specs.declared.fault.ReadError.TheVariants as errors
use Rattle.byte_layout.proofs.Lists.{each_at}
use Rattle.lwm2m_values.specs.declared.kind.ValueKind.{ValueKind}
use Rattle.lwm2m_values.specs.declared.kind.ValueKind.TheVariants as kinds
use Rattle.object_defs.specs.Catalog.{object_of, resource_in}
use Rattle.object_defs.specs.Lines.{first_line}
use Rattle.object_defs.specs.Vendor.{is_sound, is_vendor, new_object, resource_fault_in, with_definition, with_resource}
use Rattle.object_defs.specs.declared.definition.Ops.{Ops}
use Rattle.object_defs.specs.declared.definition.Ops.TheVariants.{R, W, RW, E}
use Rattle.object_defs.specs.declared.definition.ObjectDef.{ObjectDef}
use Rattle.object_defs.specs.declared.definition.ResourceDef.{ResourceDef}
use Rattle.object_defs.specs.declared.fault.CatalogFault.TheVariants as catalog_faults
use Rattle.object_defs.proofs.LookUps.{object_of-with_resource_same, same_number}
use Rattle.scenario_layout.specs.Definition.{flags_of, flags_fit, kind_fits, resource, resources}
use Rattle.device_template.specs.Template.{Template, definition_fault, fault_of, with_catalog}
use Rattle.device_template.specs.declared.fault.TemplateFault.{TemplateFault}
use Rattle.device_template.specs.declared.fault.TemplateFault.TheVariants as faults
use Rattle.scenario_layout.specs.Growing.{refusal, with_definitions}
use Rattle.scenario_layout.specs.Class.{object_of_definitions}
use Rattle.scenario_layout.proofs.Ordered.{inserted_end}

sound_at : (n : ℕ) (o : Ops) (m r : Bool) (k : ValueKind) → flags_fit o (flags_of m r) ≡ true → kind_fits o k ≡ true
    → is_sound (record { id = n; ops = o; multiple = m; mandatory = r; kind = k }) ≡ true
sound_at n R m r k f g = refl
sound_at n W m r k f g = refl
sound_at n RW m r k f g = refl
sound_at n E true true k f g = absurd cc
sound_at n E true false k f g = absurd cc
sound_at n E false r kinds.Text f g = refl
sound_at n E false r kinds.Whole f g = absurd cc
sound_at n E false r kinds.Flag f g = absurd cc
sound_at n E false r kinds.Opaque f g = absurd cc
sound_at n E false r kinds.Moment f g = absurd cc
sound_at n E false r kinds.Link f g = absurd cc

sound : (before : List ResourceDef) (d : ResourceDef) → (resource before).Good d → is_sound d ≡ true
unfolding resource
sound before d good = sound_at d.id d.ops d.multiple d.mandatory d.kind good.1.1.0.1 good.1.1.1.0.1

pub is_above : (before : List ResourceDef) (d : ResourceDef) → (resource before).Good d
    → list_all (λ q. nat_lt q.id d.id) before ≡ true
unfolding resource
is_above before d good = good.0.1

pub other : (n m : ℕ) → ltb n m ≡ true → eqb n m ≡ false
other n m h = grind (arith, nat_tests)

-- what all stand below is not among them
pub none_found : {X : Type 0} (number : X → ℕ) (n : ℕ) (xs : List X) → list_all (λ x. nat_lt (number x) n) xs ≡ true
    → find (λ x. eqb (number x) n) xs ≡ None
none_found number n [] h = refl
none_found number n (x ∷ xs) h =
    let p = and_parts (ltb (number x) n) (list_all (λ y. nat_lt (number y) n) xs) h in
    ap (λ b. cond b (Some x) (find (λ y. eqb (number y) n) xs)) (other (number x) n p.0) ∙ none_found number n xs p.1

-- a definition that may stand after so few is not refused
fits_lines : (a b c : Bool) → a ≡ true → b ≡ false → c ≡ false
    → first_line ((not a, catalog_faults.IdRange) ∷ (b, catalog_faults.Duplicate) ∷ (c, catalog_faults.TooMany) ∷ [])
    ≡ None
fits_lines true false false h i j = refl
fits_lines false b c h i j = absurd cc
fits_lines true true c h i j = absurd cc
fits_lines true false true h i j = absurd cc

few : (n : ℕ) → n < 64 → nat_le 64 n ≡ false
few n h = grind (arith, nat_tests)

pub not_refused_at : (c : Template) (id : ℕ) (before : List ResourceDef) (d : ResourceDef) → is_vendor id ≡ true
    → object_of c.catalog id ≡ Some (object_of_definitions id before) → (resource before).Good d → length before < 64
    → definition_fault c id d ≡ None
not_refused_at c id before d vendor found good short =
    ap (λ b. option_map fault_of (resource_fault_in d (cond b (object_of c.catalog id) None))) vendor
    ∙ ap (λ o. option_map fault_of (resource_fault_in d o)) found
    ∙ ap (option_map fault_of) (fits_lines (is_sound d) (is_some (resource_in before d.id)) (nat_le 64 (length before))
    (sound before d good) (ap is_some (none_found (λ r. r.id) d.id before (is_above before d good)))
    (few (length before) short))

-- only a lack of memory is left
pub only_memory : (f : TemplateFault) (left : ℕ) → (f ≢ faults.Memory → ⊥) → refusal f left ≡ errors.Memory
only_memory faults.Memory left h = refl
only_memory faults.Range left h = absurd (h (λ (e : faults.Range ≡ faults.Memory). cc))
only_memory faults.Missing left h = absurd (h (λ (e : faults.Missing ≡ faults.Memory). cc))
only_memory faults.Duplicate left h = absurd (h (λ (e : faults.Duplicate ≡ faults.Memory). cc))
only_memory faults.Full left h = absurd (h (λ (e : faults.Full ≡ faults.Memory). cc))

pub with_definitions-push : (c : List ObjectDef) (id : ℕ) (ds : List ResourceDef) (d : ResourceDef)
    → with_definitions c id (ds ++ d ∷ []) ≡ with_resource (with_definitions c id ds) id d
with_definitions-push c id [] d = refl
with_definitions-push c id (e ∷ ds) d = with_definitions-push (with_resource c id e) id ds d

-- the object after one more definition
pub found_on : (c : List ObjectDef) (id : ℕ) (before : List ResourceDef) (d : ResourceDef)
    → object_of c id ≡ Some (object_of_definitions id before) → (resource before).Good d
    → object_of (with_resource c id d) id ≡ Some (object_of_definitions id (before ++ d ∷ []))
found_on c id before d found good =
    object_of-with_resource_same c id d
    ∙ ap (option_map (λ o. with_definition o d)) found
    ∙ ap (λ ds. Some (object_of_definitions id ds)) (inserted_end (λ r. r.id) d before (is_above before d good))

-- an object at the end gets the definitions
resource_end : (front : List ObjectDef) (id : ℕ) (before : List ResourceDef) (d : ResourceDef)
    → list_all (λ o. nat_lt o.id id) front ≡ true → list_all (λ q. nat_lt q.id d.id) before ≡ true
    → with_resource (front ++ object_of_definitions id before ∷ []) id d ≡ front
    ++ object_of_definitions id (before ++ d ∷ []) ∷ []
resource_end [] id before d low above =
    ap (λ b. cond b (with_definition (object_of_definitions id before) d ∷ []) (object_of_definitions id before ∷ []))
    (same_number id)
    ∙ ap (λ ds. object_of_definitions id ds ∷ []) (inserted_end (λ r. r.id) d before above)
resource_end (o ∷ front) id before d low above =
    let p = and_parts (ltb o.id id) (list_all (λ q. nat_lt q.id id) front) low in
    ap (λ b. cond b (with_definition o d ∷ front ++ object_of_definitions id before ∷ [])
    (o ∷ with_resource (front ++ object_of_definitions id before ∷ []) id d)) (other o.id id p.0)
    ∙ ap (λ t. o ∷ t) (resource_end front id before d p.1 above)

pub defined_end : (n : ℕ) (front : List ObjectDef) (id : ℕ) (before ds : List ResourceDef)
    → list_all (λ o. nat_lt o.id id) front ≡ true → (each resource n before).Good ds
    → with_definitions (front ++ object_of_definitions id before ∷ []) id ds ≡ front
    ++ object_of_definitions id (before ++ ds) ∷ []
unfolding each
defined_end zero front id before ds low good =
    ap (with_definitions (front ++ object_of_definitions id before ∷ []) id) good
    ∙ ap (λ xs. front ++ object_of_definitions id xs ∷ [])
    (sym (append-nil before) ∙ ap (λ xs. before ++ xs) (sym good))
defined_end (suc n) front id before [] low good = absurd good
defined_end (suc n) front id before (d ∷ ds) low good =
    ap (λ c. with_definitions c id ds) (resource_end front id before d low (is_above before d good.0))
    ∙ defined_end n front id (before ++ d ∷ []) ds low good.1
    ∙ ap (λ xs. front ++ object_of_definitions id xs ∷ []) (append_assoc before (d ∷ []) ds)

-- the object at the end is found
pub found_end : (front : List ObjectDef) (id : ℕ) → list_all (λ o. nat_lt o.id id) front ≡ true
    → object_of (front ++ new_object id ∷ []) id ≡ Some (new_object id)
found_end [] id low = ap (λ b. cond b (Some (new_object id)) None) (same_number id)
found_end (o ∷ front) id low =
    let p = and_parts (ltb o.id id) (list_all (λ q. nat_lt q.id id) front) low in
    ap (λ b. cond b (Some o) (object_of (front ++ new_object id ∷ []) id)) (other o.id id p.0) ∙ found_end front id p.1

-- ---- one step of the loop

item_good : (ds : List ResourceDef) (i : ℕ) (d : ResourceDef) → resources.Good ds → i < length ds → d ≡ get_or ds i d
    → (resource (take i ds)).Good d
unfolding resources
item_good ds i d good lt item =
    each_at resource (length ds) [] ds good.1 i d (slice_get-get_or ds i d lt ∙ ap (λ y. Some y) (sym item))

few_definitions : (ds : List ResourceDef) (i : ℕ) → resources.Good ds → i < length ds → length (take i ds) < 64
unfolding resources
few_definitions ds i good lt =
    omega (arith, ltb-true (length ds) 65 good.0.1, length-take-le i ds (omega (arith, lt)), lt)

pub free_at : (c : Template) (id : ℕ) (ds : List ResourceDef) (i : ℕ) (d : ResourceDef) → is_vendor id ≡ true
    → resources.Good ds → i < length ds → d ≡ get_or ds i d
    → object_of c.catalog id ≡ Some (object_of_definitions id (take i ds))
    → definition_fault c id d ≡ None
free_at c id ds i d vendor good lt item found =
    not_refused_at c id (take i ds) d vendor found (item_good ds i d good lt item) (few_definitions ds i good lt)

next : (ds : List ResourceDef) (i : ℕ) (d : ResourceDef) → i < length ds → d ≡ get_or ds i d
    → take (i + 1) ds ≡ take i ds ++ d ∷ []
next ds i d lt item = take_more ds i d lt ∙ ap (λ y. take i ds ++ y ∷ []) (sym item)

pub made_on : (c t u : Template) (id : ℕ) (ds : List ResourceDef) (i : ℕ) (d : ResourceDef) → i < length ds
    → d ≡ get_or ds i d → t ≡ with_catalog c (with_definitions c.catalog id (take i ds))
    → u ≡ with_catalog t (with_resource t.catalog id d)
    → u ≡ with_catalog c (with_definitions c.catalog id (take (i + 1) ds))
made_on c t u id ds i d lt item so_far made =
    made
    ∙ ap (λ (k : Template). with_catalog k (with_resource k.catalog id d)) so_far
    ∙ ap (with_catalog c) (sym (with_definitions-push c.catalog id (take i ds) d)
    ∙ ap (with_definitions c.catalog id) (sym (next ds i d lt item)))

pub found_more : (t u : Template) (id : ℕ) (ds : List ResourceDef) (i : ℕ) (d : ResourceDef) → resources.Good ds
    → i < length ds → d ≡ get_or ds i d → object_of t.catalog id ≡ Some (object_of_definitions id (take i ds))
    → u ≡ with_catalog t (with_resource t.catalog id d)
    → object_of u.catalog id ≡ Some (object_of_definitions id (take (i + 1) ds))
found_more t u id ds i d good lt item found made =
    ap (λ (k : Template). object_of k.catalog id) made
    ∙ found_on t.catalog id (take i ds) d found (item_good ds i d good lt item)
    ∙ ap (λ xs. Some (object_of_definitions id xs)) (sym (next ds i d lt item))

pub clash : (o : Option TemplateFault) (f : TemplateFault) → o ≡ None → o ≡ Some f → ⊥
clash o f free bad = let e : None ≡ Some f = sym free ∙ bad in cc
