-- The objects of a class's own have bytes.
use Rattle.std.proofs.Common.{All, ◌≡◌, ℕ, suc, ◌<◌, ◌≤◌, Bool, true, false, cond, not, eqb, ltb, List, [], ◌∷◌, ◌++◌}
use Rattle.std.proofs.Common.{map, length, Option, None, Some, option_map, refl, sym, ap, subst, ◌∙◌, arith}
use Rattle.std.specs.Prelude.{nat_le, is_some, drop}
use Rattle.std.specs.List.{AllByRecursion, list_all}
use Rattle.std.specs.Int.{w8, w16}
use Rattle.std.proofs.lemmas.Bool.{lt-ltb, and_parts, and_from, not-false}
use Rattle.std.proofs.lemmas.Bool.Decides.{nat_tests}
use Rattle.std.proofs.lemmas.List.{map-append}
use Rattle.std.proofs.lemmas.List.Elements.{All-from_recursion}
use Rattle.std.proofs.lemmas.List.Folds.{list_all-append}
use Rattle.lemmas.proofs.Lists.{each_weaker, each_here}
use Rattle.lemmas.proofs.Numbers.{nat_le_below}
use Rattle.byte_layout.proofs.Fields.{number_good}
use Rattle.lwm2m_values.specs.declared.kind.ValueKind.{ValueKind}
use Rattle.lwm2m_values.specs.declared.kind.ValueKind.TheVariants as kinds
use Rattle.object_defs.specs.Base.{base}
use Rattle.object_defs.specs.Catalog.{object_of, resource_in}
use Rattle.object_defs.specs.Vendor.{with_inserted, is_sound, is_text, is_vendor, new_object, vendor_fault}
use Rattle.object_defs.specs.Vendor.{resource_fault, resource_fault_in, with_definition, with_object, with_resource}
use Rattle.object_defs.specs.declared.definition.Ops.{Ops}
use Rattle.object_defs.specs.declared.definition.Ops.TheVariants.{R, W, RW, E}
use Rattle.object_defs.specs.declared.definition.ObjectDef.{ObjectDef}
use Rattle.object_defs.specs.declared.definition.ResourceDef.{ResourceDef}
use Rattle.object_defs.specs.declared.fault.CatalogFault.{CatalogFault}
use Rattle.object_defs.proofs.LookUps.{vendor_is}
use Rattle.scenario_layout.specs.Definition.{flags_of, flags_fit, kind_fits, resources}
use Rattle.scenario_layout.specs.Definition as defs
use Rattle.scenario_layout.proofs.Definitions.{resource_good}
use Rattle.device_template.specs.Template.{Template, fault_of}
use Rattle.device_template.specs.Built.{IsBuilt}
use Rattle.device_template.specs.Built.IsBuilt.{nothing, account, object, resource, instance, value, notify}
use Rattle.device_template.proofs.Ascending.{Rises, rises-with_inserted}
use Rattle.scenario_layout.specs.Class.{objects_in, object_of_definitions, objects}
use Rattle.scenario_layout.specs.Class as layout
use Rattle.scenario_layout.proofs.Between.{all_more, length_more, inserted_more, map_inserted}
use Rattle.scenario_layout.proofs.Between.{shorter, each_good, rising_front, all_below, found_any, three_lines}
use Rattle.scenario_layout.proofs.Between.{no_three, below, not_true}
use Rattle.scenario_layout.proofs.Defined.{none_found, other}
use Rattle.scenario_layout.proofs.Filling.{taken_none}

-- ---- definitions of resources

abbrev IsFit : ResourceDef → Type 0
IsFit d = (d.id < 65536) × (is_sound d ≡ true)

abbrev ids : List ResourceDef → List ℕ
ids ds = map (λ d. d.id) ds

record HasDefinitions (ds : List ResourceDef) : Type 0 where
  rising : Rises (ids ds)
  each : AllByRecursion IsFit ds
  few : length ds ≤ 64

definitions_more : (o : ObjectDef) (d : ResourceDef) → d.id < 65536 → HasDefinitions o.resources
    → resource_fault_in d (Some o) ≡ None → HasDefinitions (with_definition o d).resources
definitions_more o d short before free =
    let lines = three_lines (not (is_sound d)) (is_some (resource_in o.resources d.id))
    (nat_le 64 (length o.resources)) _ _ _ free in
    let more = inserted_more (λ r. r.id) d o.resources in
    record {
      rising = subst Rises (sym (map_inserted (λ r. r.id) d o.resources))
          (rises-with_inserted d.id (ids o.resources) (sym (found_any (λ r. r.id) d.id o.resources) ∙ lines.1)
          before.rising);
      each = all_more IsFit d o.resources _ more (short, not-false (is_sound d) lines.0) before.each;
      few = omega (arith, length_more d o.resources _ more, below (length o.resources) 64 lines.2);
    }

all_flags : (m r : Bool) → ltb (flags_of m r) 4 ≡ true
all_flags true true = refl
all_flags true false = refl
all_flags false true = refl
all_flags false false = refl

sound_flags : (n : ℕ) (o : Ops) (m r : Bool) (k : ValueKind)
    → is_sound (record { id = n; ops = o; multiple = m; mandatory = r; kind = k }) ≡ true
    → flags_fit o (flags_of m r) ≡ true
sound_flags n R m r k h = all_flags m r
sound_flags n W m r k h = all_flags m r
sound_flags n RW m r k h = all_flags m r
sound_flags n E true r k h = absurd cc
sound_flags n E false true k h = refl
sound_flags n E false false k h = refl

text_number : (k : ValueKind) → is_text k ≡ true → kind_fits E k ≡ true
text_number kinds.Text h = refl
text_number kinds.Whole h = absurd cc
text_number kinds.Flag h = absurd cc
text_number kinds.Opaque h = absurd cc
text_number kinds.Moment h = absurd cc
text_number kinds.Link h = absurd cc

sound_kind : (n : ℕ) (o : Ops) (m r : Bool) (k : ValueKind)
    → is_sound (record { id = n; ops = o; multiple = m; mandatory = r; kind = k }) ≡ true → kind_fits o k ≡ true
sound_kind n R m r k h = refl
sound_kind n W m r k h = refl
sound_kind n RW m r k h = refl
sound_kind n E m r k h = text_number k (and_parts (not m) (is_text k) h).1

definition_good : (front : List ResourceDef) (d : ResourceDef) (back : List ResourceDef)
    → HasDefinitions (front ++ d ∷ back) → (defs.resource front).Good d
definition_good front d back h =
    let fit = each_here IsFit front d back h.each in
    resource_good front d fit.0 (all_below (λ r. r.id) d.id front
    (rising_front (ids front) d.id (ids back) (subst Rises (map-append (λ r. r.id) front (d ∷ back)) h.rising)))
    (sound_flags d.id d.ops d.multiple d.mandatory d.kind fit.1)
    (sound_kind d.id d.ops d.multiple d.mandatory d.kind fit.1)

definitions_good : (ds : List ResourceDef) → HasDefinitions ds → resources.Good ds
unfolding resources
definitions_good ds h = (
  (number_good w8 (length ds) (omega (arith, h.few)), lt-ltb (length ds) 65 (omega (arith, h.few))),
  each_good defs.resource ds [] ds refl (λ front d back e. definition_good front d back (subst HasDefinitions e h)),
)

-- ---- objects

abbrev IsOwnObject : ObjectDef → Type 0
IsOwnObject o = (is_vendor o.id ≡ true) × HasDefinitions o.resources

abbrev numbers : List ObjectDef → List ℕ
numbers os = map (λ o. o.id) os

pub record IsOwn (os : List ObjectDef) : Type 0 where
  pub rising : Rises (numbers os)
  each : AllByRecursion IsOwnObject os
  pub few : length os ≤ 11

pub record HasObjects (catalog : List ObjectDef) : Type 0 where
  pub own : List ObjectDef
  pub behind : catalog ≡ base ++ own
  pub good : IsOwn own

vendor_above : (id : ℕ) → is_vendor id ≡ true → 10240 < id
vendor_above id h = grind (arith, nat_tests)

vendor_small : (id : ℕ) → is_vendor id ≡ true → id < 65536
vendor_small id h = grind (arith, nat_tests)

-- the numbers of the base objects are below those of a class's own
base_low : (id : ℕ) → is_vendor id ≡ true → list_all (λ o. ltb o.id id) base ≡ true
base_low id vendor =
    let high = vendor_above id vendor in
    and_from (ltb 0 id) _ (lt-ltb 0 id (omega (arith, high)))
    (and_from (ltb 1 id) _ (lt-ltb 1 id (omega (arith, high)))
    (and_from (ltb 2 id) _ (lt-ltb 2 id (omega (arith, high)))
    (and_from (ltb 3 id) _ (lt-ltb 3 id (omega (arith, high)))
    (and_from (ltb 5 id) true (lt-ltb 5 id (omega (arith, high))) refl))))

not_low : (x y : ℕ) → ltb y x ≡ true → ltb x y ≡ false
not_low x y h = grind (arith, nat_tests)

inserted_behind : {X : Type 0} (number : X → ℕ) (x : X) (front xs : List X)
    → list_all (λ y. ltb (number y) (number x)) front ≡ true
    → with_inserted number x (front ++ xs) ≡ front ++ with_inserted number x xs
inserted_behind number x [] xs low = refl
inserted_behind number x (y ∷ front) xs low =
    let p = and_parts (ltb (number y) (number x)) _ low in
    ap (λ b. cond b (x ∷ y ∷ front ++ xs) (y ∷ with_inserted number x (front ++ xs)))
    (not_low (number x) (number y) p.0)
    ∙ ap (λ t. y ∷ t) (inserted_behind number x front xs p.1)

resource_behind : (front os : List ObjectDef) (id : ℕ) (d : ResourceDef) → list_all (λ o. ltb o.id id) front ≡ true
    → with_resource (front ++ os) id d ≡ front ++ with_resource os id d
resource_behind [] os id d low = refl
resource_behind (o ∷ front) os id d low =
    let p = and_parts (ltb o.id id) _ low in
    ap (λ b. cond b (with_definition o d ∷ front ++ os) (o ∷ with_resource (front ++ os) id d)) (other o.id id p.0)
    ∙ ap (λ t. o ∷ t) (resource_behind front os id d p.1)

found_behind : (front os : List ObjectDef) (id : ℕ) → list_all (λ o. ltb o.id id) front ≡ true
    → object_of (front ++ os) id ≡ object_of os id
found_behind [] os id low = refl
found_behind (o ∷ front) os id low =
    let p = and_parts (ltb o.id id) _ low in
    ap (λ b. cond b (Some o) (object_of (front ++ os) id)) (other o.id id p.0) ∙ found_behind front os id p.1

pub no_fault : (o : Option CatalogFault) → option_map fault_of o ≡ None → o ≡ None
no_fault None h = refl
no_fault (Some f) h = absurd cc

object_more : (catalog : List ObjectDef) (id : ℕ) → HasObjects catalog → vendor_fault catalog id ≡ None
    → HasObjects (with_object catalog id)
object_more catalog id h free =
    let lines = three_lines (not (is_vendor id)) (is_some (object_of catalog id))
    (nat_le 16 (length catalog)) _ _ _ free in
    let vendor = not-false (is_vendor id) lines.0 in
    let low = base_low id vendor in
    let more = inserted_more (λ o. o.id) (new_object id) h.own in
    let absent : is_some (object_of h.own id) ≡ false =
    ap is_some (sym (found_behind base h.own id low)) ∙ ap (λ c. is_some (object_of c id)) (sym h.behind)
    ∙ lines.1 in
    let room : length h.own < 11 = omega (arith, below (length catalog) 16 lines.2, ap length h.behind) in
    record {
      own = with_inserted (λ o. o.id) (new_object id) h.own;
      behind = ap (λ c. with_object c id) h.behind ∙ inserted_behind (λ o. o.id) (new_object id) base h.own low;
      good = record {
        rising = subst Rises (sym (map_inserted (λ o. o.id) (new_object id) h.own))
            (rises-with_inserted id (numbers h.own) (sym (found_any (λ o. o.id) id h.own) ∙ absent) h.good.rising);
        each = all_more IsOwnObject (new_object id) h.own _ more
            (vendor, record { rising = tt; each = tt; few = omega arith }) h.good.each;
        few = omega (arith, length_more (new_object id) h.own _ more, room);
      };
    }

-- a definition more changes no number of an object
pub same_numbers : (os : List ObjectDef) (id : ℕ) (d : ResourceDef) → numbers (with_resource os id d) ≡ numbers os
same_numbers [] id d = refl
same_numbers (o ∷ os) id d =
    elim (eqb o.id id) as (λ b. numbers (cond b (with_definition o d ∷ os) (o ∷ with_resource os id d))
    ≡ numbers (o ∷ os)) [
      | true ↦ refl
      | false ↦ ap (λ t. o.id ∷ t) (same_numbers os id d)
    ]

same_length : (os : List ObjectDef) (id : ℕ) (d : ResourceDef) → length (with_resource os id d) ≡ length os
same_length [] id d = refl
same_length (o ∷ os) id d =
    elim (eqb o.id id) as (λ b. length (cond b (with_definition o d ∷ os) (o ∷ with_resource os id d))
    ≡ suc (length os)) [
      | true ↦ refl
      | false ↦ ap suc (same_length os id d)
    ]

each_more : (os : List ObjectDef) (id : ℕ) (d : ResourceDef) → d.id < 65536 → AllByRecursion IsOwnObject os
    → resource_fault_in d (object_of os id) ≡ None → AllByRecursion IsOwnObject (with_resource os id d)
each_more [] id d short all free = tt
each_more (o ∷ os) id d short all free =
    elim (eqb o.id id) as (λ b. resource_fault_in d (cond b (Some o) (object_of os id)) ≡ None
    → AllByRecursion IsOwnObject (cond b (with_definition o d ∷ os) (o ∷ with_resource os id d))) [
      | true ↦ λ e. ((all.0.0, definitions_more o d short all.0.1 e), all.1)
      | false ↦ λ e. (all.0, each_more os id d short all.1 e)
    ] free

resource_more : (catalog : List ObjectDef) (id : ℕ) (d : ResourceDef) → d.id < 65536 → HasObjects catalog
    → resource_fault catalog id d ≡ None → HasObjects (with_resource catalog id d)
resource_more catalog id d short h free =
    let p = vendor_is (is_vendor id) d (object_of catalog id) free in
    let low = base_low id p.0 in
    let found : resource_fault_in d (object_of h.own id) ≡ None =
    ap (resource_fault_in d) (sym (found_behind base h.own id low) ∙ ap (λ c. object_of c id) (sym h.behind))
    ∙ p.1 in
    record {
      own = with_resource h.own id d;
      behind = ap (λ c. with_resource c id d) h.behind ∙ resource_behind base h.own id d low;
      good = record {
        rising = subst Rises (sym (same_numbers h.own id d)) h.good.rising;
        each = each_more h.own id d short h.good.each found;
        few = omega (arith, same_length h.own id d, h.good.few);
      };
    }

pub has_objects : (class : Template) → IsBuilt class → HasObjects class.catalog
has_objects _ nothing = record { own = []; behind = refl; good = record { rising = tt; each = tt; few = omega arith } }
has_objects _ (account {class} server built free) = has_objects class built
has_objects _ (object {class} id built free) =
    object_more class.catalog id (has_objects class built) (no_fault _ free)
has_objects _ (resource {class} id d short built free) =
    resource_more class.catalog id d short (has_objects class built) (no_fault _ free)
has_objects _ (instance {class} place short built free) = has_objects class built
has_objects _ (value {class} p v short good built free) = has_objects class built
has_objects _ (notify {class} seconds built fits) = has_objects class built

-- ---- their bytes

object_good : (k : Template) (front : List ObjectDef) (o : ObjectDef) (back : List ObjectDef)
    → IsOwn (front ++ o ∷ back) → (layout.object k front).Good o
unfolding layout.object layout.object_id
object_good k front o back h =
    let own = each_here IsOwnObject front o back h.each in
    let above : list_all (λ q. ltb q.id o.id) front ≡ true =
    all_below (λ q. q.id) o.id front (rising_front (numbers front) o.id (numbers back)
    (subst Rises (map-append (λ q. q.id) front (o ∷ back)) h.rising)) in
    let low : list_all (λ q. ltb q.id o.id) (base ++ front) ≡ true =
    list_all-append (λ q. ltb q.id o.id) base front ∙ and_from _ _ (base_low o.id own.0) above in
    let room : length (base ++ front) < 16 = omega (arith, shorter (front ++ o ∷ back) front o back refl, h.few) in
    let free : vendor_fault (base ++ front) o.id ≡ None =
    no_three _ _ _ _ _ _ (not_true (is_vendor o.id) own.0)
    (ap is_some (none_found (λ q. q.id) o.id (base ++ front) low))
    (nat_le_below (length (base ++ front)) 16 room) in (
      (number_good w16 o.id (vendor_small o.id own.0), and_from _ _ low (taken_none _ (ap (option_map fault_of) free))),
      (definitions_good o.resources own.1, refl),
    )

own_good : (k : Template) (own : List ObjectDef) → IsOwn own → (objects k).Good own
unfolding objects
own_good k own h = (
  (number_good w8 (length own) (omega (arith, h.few)), lt-ltb (length own) 12 (omega (arith, h.few))),
  each_good (layout.object k) own [] own refl (λ front o back e. object_good k front o back (subst IsOwn e h)),
)

pub own_is : (c : Template) (h : HasObjects c.catalog) → objects_in c ≡ h.own
own_is c h = ap (drop (length base)) h.behind

pub objects_good : (c k : Template) → HasObjects c.catalog → (objects k).Good (objects_in c)
objects_good c k h = subst (λ (os : List ObjectDef). (objects k).Good os) (sym (own_is c h)) (own_good k h.own h.good)

-- a class's objects are the base objects and its own
pub catalog_is : (c : Template) → HasObjects c.catalog → base ++ objects_in c ≡ c.catalog
catalog_is c h = ap (λ t. base ++ t) (own_is c h) ∙ sym h.behind

pub few_objects : (c : Template) → HasObjects c.catalog → length c.catalog ≤ 16
few_objects c h = omega (arith, ap length h.behind, h.good.few)

-- ---- what their writer asks for

pub each_defined : (c : Template) → HasObjects c.catalog → All (λ o. resources.Good o.resources) (objects_in c)
each_defined c h =
    subst (All (λ (o : ObjectDef). resources.Good o.resources)) (sym (own_is c h))
    (All-from_recursion _ _ (each_weaker IsOwnObject (λ o. resources.Good o.resources)
    (λ o own. definitions_good o.resources own.1) h.own h.good.each))

pub few_own : (c : Template) → HasObjects c.catalog → length (objects_in c) ≤ 11
few_own c h = subst (λ (os : List ObjectDef). length os ≤ 11) (sym (own_is c h)) h.good.few
