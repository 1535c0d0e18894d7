-- What a Write of an instance leaves at a full path.
use Rattle.std.proofs.Common.{◌≡◌, ℕ, ◌==◌, Bool, true, false, not, ◌&&◌, ◌||◌, List, [], ◌∷◌, Option, None, Some, find}
use Rattle.std.proofs.Common.{option_map, refl, sym, ap, ◌∙◌, arith, if◌then◌else◌}
use Rattle.std.specs.Option.{is_some, option_or}
use Rattle.std.specs.List.{list_any}
use Rattle.std.proofs.lemmas.Bool.Decides.{nat_tests}
use Rattle.std.proofs.lemmas.Bool.{or_parts}
use Rattle.lemmas.proofs.Numbers.{eqb_turned}
use Rattle.lwm2m_values.specs.declared.value.Value.{Value}
use Rattle.object_defs.specs.Path.{part_of}
use Rattle.object_defs.specs.declared.definition.ResourceDef.{ResourceDef}
use Rattle.object_defs.specs.declared.path.FullPath.{FullPath}
use Rattle.object_defs.specs.declared.path.InstancePath.{InstancePath}
use Rattle.object_defs.specs.declared.path.ResourcePath.{ResourcePath}
use Rattle.instance_store.specs.Stored.{Stored, value_at, with_value, without_values, resource_path, instance_path}
use Rattle.instance_store.specs.Stored.{lies_in, is_part}
use Rattle.lwm2m_payloads.specs.declared.given.Assignment.{Assignment}
use Rattle.lwm2m_payloads.specs.declared.given.Given.{Given}
use Rattle.lwm2m_payloads.specs.declared.given.Given.TheVariants.{Single, Parts}
use Rattle.lwm2m_payloads.specs.declared.given.Mode.{Mode}
use Rattle.lwm2m_payloads.specs.declared.given.Mode.TheVariants.{Replace, Update}
use Rattle.lwm2m_payloads.specs.Changes.{resource_of, with_parts, with_given, is_kept, with_assignments, is_lost}
use Rattle.lwm2m_payloads.specs.Changes.{without_lost, instance_written}
use Rattle.lwm2m_payloads.specs.PartList.{PartList}
use Rattle.lwm2m_payloads.specs.Written.{part_value, value_given, value_with, is_taken_away, value_by, value_behind}
use Rattle.lwm2m_payloads.specs.Written.{PartsOnce, GivenOnce, EachOnce}
use Rattle.lwm2m_payloads.proofs.Places.{at_part, at_single, at_without}
use Rattle.lwm2m_payloads.proofs.Writing.{assigned}

not_there : (parts : PartList) (n m : ℕ) → n ≡ m → list_any (λ p. p.0 == n) parts ≡ false
    → part_value parts (Some m) ≡ None
not_there [] n m e h = refl
not_there (d ∷ parts) n m e h =
    let t = or_parts (d.0 == n) (list_any (λ p. p.0 == n) parts) h in
    let other : (d.0 == m) ≡ false = ap (λ k. d.0 == k) (sym e) ∙ t.0 in
    ap (λ b. option_map (λ (e : ℕ × Value). e.1) (if b then Some d else find (λ e. e.0 == m) parts)) other
    ∙ not_there parts n m e t.1

one_more_at : (e : ℕ × Value) (parts : PartList) (n : ℕ) (before : Option Value) (b : Bool) → (e.0 == n) ≡ b
    → list_any (λ p. p.0 == e.0) parts ≡ false
    → option_or (part_value parts (Some n)) (if b then Some e.1 else before)
    ≡ option_or (option_map (λ (d : ℕ × Value). d.1) (if b then Some e else find (λ d. d.0 == n) parts)) before
one_more_at e parts n before true is h = let same : e.0 ≡ n =
    grind (arith, nat_tests) in ap (λ o. option_or o (Some e.1)) (not_there parts e.0 n same h)
one_more_at e parts n before false is h = refl

-- a part set before others that are not it
one_more : (e : ℕ × Value) (parts : PartList) (k : Option ℕ) (before : Option Value)
    → list_any (λ p. p.0 == e.0) parts ≡ false
    → option_or (part_value parts k) (if is_part e.0 k then Some e.1 else before)
    ≡ option_or (part_value (e ∷ parts) k) before
one_more e parts None before h = refl
one_more e parts (Some n) before h =
    ap (λ b. option_or (part_value parts (Some n)) (if b then Some e.1 else before)) (eqb_turned n e.0)
    ∙ one_more_at e parts n before (e.0 == n) refl h

no_part : (k : Option ℕ) → part_value [] k ≡ None
no_part None = refl
no_part (Some n) = refl

pub at_parts : (parts : PartList) (stored : Stored) (p : ResourcePath) (q : FullPath) → PartsOnce parts
    → value_at (with_parts stored p parts) q
    ≡ (if lies_in (resource_path p) q then option_or (part_value parts q.part) (value_at stored q)
    else value_at stored q)
at_parts [] stored p q once =
    let x = value_at stored q in
    elim (lies_in (resource_path p) q) as (λ b. x ≡ (if b then option_or (part_value [] q.part) x else x))
    [ true ↦ sym (ap (λ o. option_or o x) (no_part q.part)) | false ↦ refl ]
at_parts (e ∷ parts) stored p q once =
    let x = value_at stored q in
    at_parts parts (with_value stored (part_of p e.0) e.1) p q once.1
    ∙ ap (λ o. if lies_in (resource_path p) q then option_or (part_value parts q.part) o else o)
    (at_part stored p e.0 e.1 q)
    ∙ (elim (lies_in (resource_path p) q) as
    (λ b. (if b then option_or (part_value parts q.part) (if b && is_part e.0 q.part then Some e.1 else x)
    else (if b && is_part e.0 q.part then Some e.1 else x))
    ≡ (if b then option_or (part_value (e ∷ parts) q.part) x else x)) [
      | true ↦ one_more e parts q.part x once.0
      | false ↦ refl
    ])

single_more : (v : Value) (k : Option ℕ) (x : Option Value)
    → (if not (is_some k) then Some v else x) ≡ option_or (value_given (Single v) k) x
single_more v None x = refl
single_more v (Some n) x = refl

-- after a change of one resource
pub at_given : (mode : Mode) (g : Given) (stored : Stored) (p : ResourcePath) (q : FullPath) → GivenOnce g
    → value_at (with_given mode stored p g) q
    ≡ (if lies_in (resource_path p) q then value_with mode g q.part (value_at stored q) else value_at stored q)
at_given mode (Single v) stored p q once =
    let x = value_at stored q in
    at_single stored p v q
    ∙ (elim (lies_in (resource_path p) q) as
    (λ b. (if b && not (is_some q.part) then Some v else x)
    ≡ (if b then option_or (value_given (Single v) q.part) x else x))
    [ true ↦ single_more v q.part x | false ↦ refl ])
at_given Replace (Parts parts) stored p q once =
    let x = value_at stored q in
    at_parts parts (without_values stored (resource_path p)) p q once
    ∙ ap (λ o. if lies_in (resource_path p) q then option_or (part_value parts q.part) o else o)
    (at_without stored (resource_path p) q)
    ∙ (elim (lies_in (resource_path p) q) as
    (λ b. (if b then option_or (part_value parts q.part) (if b then None else x) else (if b then None else x))
    ≡ (if b then option_or (part_value parts q.part) None else x)) [ true ↦ refl | false ↦ refl ])
at_given Update (Parts parts) stored p q once = at_parts parts stored p q once

pub lies_split : (place : InstancePath) (r : ℕ) (q : FullPath)
    → lies_in (resource_path (resource_of place r)) q ≡ (lies_in (instance_path place) q && (q.resource == r))
lies_split place r q =
    elim (q.object == place.object) as (λ a. (a && (q.instance == place.instance) && (q.resource == r))
    ≡ ((a && (q.instance == place.instance)) && (q.resource == r))) [ true ↦ refl | false ↦ refl ]

assigned_cases : (kept here : Bool) (v x : Option Value)
    → (if kept then (if here then v else x) else x) ≡ (if here then (if kept then v else x) else x)
assigned_cases true here v x = refl
assigned_cases false true v x = refl
assigned_cases false false v x = refl

at_assigned : (mode : Mode) (resources : List ResourceDef) (stored : Stored) (place : InstancePath) (a : Assignment)
    (q : FullPath) → GivenOnce a.given
    → value_at (assigned mode resources stored place a) q
    ≡ (if lies_in (instance_path place) q && (q.resource == a.resource)
    then value_by mode resources (Some a) q.part (value_at stored q) else value_at stored q)
at_assigned mode resources stored place a q once =
    let x = value_at stored q in
    let p = resource_of place a.resource in
    let v = value_with mode a.given q.part x in
    (elim (is_kept resources a) as (λ k. value_at (if k then with_given mode stored p a.given else stored) q
    ≡ (if k then (if lies_in (resource_path p) q then v else x) else x)) [
      | true ↦ at_given mode a.given stored p q once
      | false ↦ refl
    ])
    ∙ ap (λ b. if is_kept resources a then (if b then v else x) else x) (lies_split place a.resource q)
    ∙ assigned_cases (is_kept resources a) (lies_in (instance_path place) q && (q.resource == a.resource)) v x

not_named : (given : List Assignment) (r s : ℕ) → r ≡ s → list_any (λ b. b.resource == r) given ≡ false
    → find (λ a. a.resource == s) given ≡ None
not_named [] r s e h = refl
not_named (a ∷ given) r s e h =
    let t = or_parts (a.resource == r) (list_any (λ b. b.resource == r) given) h in
    let other : (a.resource == s) ≡ false = ap (λ k. a.resource == k) (sym e) ∙ t.0 in
    ap (λ b. if b then Some a else find (λ a. a.resource == s) given) other ∙ not_named given r s e t.1

first_or_later : (mode : Mode) (resources : List ResourceDef) (a : Assignment) (given : List Assignment) (q : FullPath)
    (x : Option Value) (b : Bool) → (a.resource == q.resource) ≡ b
    → list_any (λ b. b.resource == a.resource) given ≡ false
    → value_by mode resources (find (λ a. a.resource == q.resource) given) q.part
    (if b then value_by mode resources (Some a) q.part x else x)
    ≡ value_by mode resources (if b then Some a else find (λ a. a.resource == q.resource) given) q.part
    x
first_or_later mode resources a given q x true is h =
    let same : a.resource ≡ q.resource = grind (arith, nat_tests) in
    ap (λ o. value_by mode resources o q.part (value_by mode resources (Some a) q.part x))
    (not_named given a.resource q.resource same h)
first_or_later mode resources a given q x false is h = refl

-- after several
pub at_assignments : (mode : Mode) (resources : List ResourceDef) (given : List Assignment) (stored : Stored)
    (place : InstancePath) (q : FullPath) → EachOnce given
    → value_at (with_assignments mode resources stored place given) q
    ≡ (if lies_in (instance_path place) q then value_by mode resources
    (find (λ a. a.resource == q.resource) given) q.part (value_at stored q) else value_at stored q)
at_assignments mode resources [] stored place q once =
    let x = value_at stored q in elim (lies_in (instance_path place) q) as
    (λ b. x ≡ (if b then x else x)) [ true ↦ refl | false ↦ refl ]
at_assignments mode resources (a ∷ given) stored place q once =
    let x = value_at stored q in
    let later = λ (o : Option Value). value_by mode resources (find (λ a. a.resource == q.resource) given) q.part o in
    let first = value_by mode resources (Some a) q.part x in
    at_assignments mode resources given (assigned mode resources stored place a) place q once.2
    ∙ ap (λ o. if lies_in (instance_path place) q then later o else o)
    (at_assigned mode resources stored place a q once.1)
    ∙ ap (λ t. if lies_in (instance_path place) q then later (if lies_in (instance_path place) q && t then first else x)
    else (if lies_in (instance_path place) q && t then first else x)) (eqb_turned q.resource a.resource)
    ∙ (elim (lies_in (instance_path place) q) as
    (λ b. (if b then later (if b && (a.resource == q.resource) then first else x)
    else (if b && (a.resource == q.resource) then first else x))
    ≡ (if b then value_by mode resources (if a.resource == q.resource then Some a
    else find (λ a. a.resource == q.resource) given) q.part x else x)) [
      | true ↦ first_or_later mode resources a given q x (a.resource == q.resource) refl once.0
      | false ↦ refl
    ])

lost_cases : (t l g : Bool) (x : Option Value)
    → (if g then None else (if l then (if t then None else x) else x)) ≡ (if (t && l) || g then None else x)
lost_cases true true true x = refl
lost_cases true true false x = refl
lost_cases true false true x = refl
lost_cases true false false x = refl
lost_cases false true true x = refl
lost_cases false true false x = refl
lost_cases false false true x = refl
lost_cases false false false x = refl

-- after what Replace takes away
pub at_lost : (resources : List ResourceDef) (given : List Assignment) (stored : Stored) (place : InstancePath)
    (q : FullPath) → value_at (without_lost resources stored place given) q
    ≡ (if lies_in (instance_path place) q then (if is_taken_away resources given q.resource then None
    else value_at stored q) else value_at stored q)
at_lost [] given stored place q =
    let x = value_at stored q in elim (lies_in (instance_path place) q) as
    (λ b. x ≡ (if b then x else x)) [ true ↦ refl | false ↦ refl ]
at_lost (d ∷ resources) given stored place q =
    let x = value_at stored q in
    let here = lies_in (instance_path place) q in
    let gone = is_taken_away resources given q.resource in
    let lost = is_lost given d in
    at_lost resources given (if lost then without_values stored (resource_path (resource_of place d.id)) else stored)
    place q
    ∙ ap (λ o. if here then (if gone then None else o) else o)
    (elim lost as (λ l. value_at (if l then without_values stored (resource_path (resource_of place d.id))
    else stored) q ≡ (if l then (if lies_in (resource_path (resource_of place d.id)) q then None else x)
    else x)) [
      | true ↦ at_without stored (resource_path (resource_of place d.id)) q
      | false ↦ refl
    ])
    ∙ ap (λ t. if here then (if gone then None else (if lost then (if t then None else x) else x))
    else (if lost then (if t then None else x) else x))
    (lies_split place d.id q ∙ ap (λ t. here && t) (eqb_turned q.resource d.id))
    ∙ (elim here as (λ b. (if b then (if gone then None
    else (if lost then (if b && (d.id == q.resource) then None else x) else x))
    else (if lost then (if b && (d.id == q.resource) then None else x) else x))
    ≡ (if b then (if ((d.id == q.resource) && lost) || gone then None else x) else x)) [
      | true ↦ lost_cases (d.id == q.resource) lost gone x
      | false ↦ elim lost as (λ l. (if l then x else x) ≡ x) [ true ↦ refl | false ↦ refl ]
    ])

-- after a Write of an instance
pub at_written : (mode : Mode) (resources : List ResourceDef) (stored : Stored) (place : InstancePath)
    (given : List Assignment) (q : FullPath) → EachOnce given
    → value_at (instance_written mode resources stored place given) q
    ≡ (if lies_in (instance_path place) q then value_behind mode resources given q (value_at stored q)
    else value_at stored q)
at_written Update resources stored place given q once = at_assignments Update resources given stored place q once
at_written Replace resources stored place given q once =
    let x = value_at stored q in
    let by = λ (o : Option Value). value_by Replace resources (find (λ a. a.resource == q.resource) given) q.part o in
    let left = if is_taken_away resources given q.resource then None else x in
    at_assignments Replace resources given (without_lost resources stored place given) place q once
    ∙ ap (λ o. if lies_in (instance_path place) q then by o else o) (at_lost resources given stored place q)
    ∙ (elim (lies_in (instance_path place) q) as
    (λ b. (if b then by (if b then left else x) else (if b then left else x)) ≡ (if b then by left else x))
    [ true ↦ refl | false ↦ refl ])

pub parts_instances : (parts : PartList) (stored : Stored) (p : ResourcePath)
    → (with_parts stored p parts).instances ≡ stored.instances
parts_instances [] stored p = refl
parts_instances (e ∷ parts) stored p = parts_instances parts (with_value stored (part_of p e.0) e.1) p

pub given_instances : (mode : Mode) (g : Given) (stored : Stored) (p : ResourcePath)
    → (with_given mode stored p g).instances ≡ stored.instances
given_instances mode (Single v) stored p = refl
given_instances Replace (Parts parts) stored p = parts_instances parts (without_values stored (resource_path p)) p
given_instances Update (Parts parts) stored p = parts_instances parts stored p

pub all_instances : (mode : Mode) (resources : List ResourceDef) (given : List Assignment) (stored : Stored)
    (place : InstancePath) → (with_assignments mode resources stored place given).instances ≡ stored.instances
all_instances mode resources [] stored place = refl
all_instances mode resources (a ∷ given) stored place =
    all_instances mode resources given (assigned mode resources stored place a) place
    ∙ (elim (is_kept resources a) as (λ k. (if k then with_given mode stored (resource_of place a.resource) a.given
    else stored).instances ≡ stored.instances) [
      | true ↦ given_instances mode a.given stored (resource_of place a.resource)
      | false ↦ refl
    ])

pub lost_instances : (resources : List ResourceDef) (stored : Stored) (place : InstancePath) (given : List Assignment)
    → (without_lost resources stored place given).instances ≡ stored.instances
lost_instances [] stored place given = refl
lost_instances (d ∷ resources) stored place given =
    lost_instances resources (if is_lost given d then without_values stored (resource_path (resource_of place d.id))
    else stored) place given
    ∙ (elim (is_lost given d) as (λ l. (if l then without_values stored (resource_path (resource_of place d.id))
    else stored).instances ≡ stored.instances) [ true ↦ refl | false ↦ refl ])

pub written_instances : (mode : Mode) (resources : List ResourceDef) (stored : Stored) (place : InstancePath)
    (given : List Assignment) → (instance_written mode resources stored place given).instances ≡ stored.instances
written_instances Replace resources stored place given =
    all_instances Replace resources given (without_lost resources stored place given) place
    ∙ lost_instances resources stored place given
written_instances Update resources stored place given = all_instances Update resources given stored place
