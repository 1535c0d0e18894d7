-- An instance that was written holds what it was given.
use Rattle.std.proofs.Common.{◌≡◌, ◌⊎◌, inl, inr, ℕ, Bool, true, false, not, ◌&&◌, ◌||◌, ◌==◌, List, [], ◌∷◌, Option}
use Rattle.std.proofs.Common.{None, Some, find, refl, sym, ap, subst, ◌∙◌, arith}
use Rattle.std.specs.Bool.{if◌then◌else◌}
use Rattle.std.specs.List.{list_any}
use Rattle.std.specs.Option.{option_or}
use Rattle.std.proofs.lemmas.Bool.Decides.{nat_tests}
use Rattle.std.proofs.lemmas.Bool.{eqb-true}
use Rattle.lemmas.proofs.Numbers.{eqb_itself}
use Rattle.lwm2m_values.specs.declared.value.Value.{Value}
use Rattle.object_defs.specs.Catalog.{definition_of, resource_in}
use Rattle.object_defs.specs.Operations.{can_write}
use Rattle.object_defs.specs.Path.{part_of, single_of}
use Rattle.object_defs.specs.declared.definition.ResourceDef.{ResourceDef}
use Rattle.object_defs.specs.declared.path.FullPath.{FullPath}
use Rattle.object_defs.specs.declared.path.Path.TheVariants.{Instance}
use Rattle.instance_store.specs.Stored.{lies_in, value_at}
use Rattle.lwm2m_payloads.specs.Changes.{is_kept_as, is_lost}
use Rattle.lwm2m_payloads.specs.PartList.{PartList}
use Rattle.lwm2m_payloads.specs.Written.{EachOnce, GivenOnce, is_taken_away, left_of, part_value, value_behind}
use Rattle.lwm2m_payloads.specs.Written.{value_by, value_if_unnamed, value_with}
use Rattle.lwm2m_payloads.specs.declared.given.Assignment.{Assignment}
use Rattle.lwm2m_payloads.specs.declared.given.Given.{Given}
use Rattle.lwm2m_payloads.specs.declared.given.Given.TheVariants.{Single, Parts}
use Rattle.lwm2m_payloads.specs.declared.given.Mode.{Mode}
use Rattle.lwm2m_payloads.specs.declared.given.Mode.TheVariants.{Replace, Update}
use Rattle.lwm2m_payloads.proofs.EachOnce.{instance_once}
use Rattle.device_requests.specs.Client.{Client}
use Rattle.device_requests.specs.Targets.{is_readable, resource_place, resources_defined}
use Rattle.device_requests.proofs.Among.{any_found, among-any}
use Rattle.laws_requests.specs.Instances.{InstancesHoldGiven, IsGivenTo, IsNamedIn, IsOptional, left_by}
use Rattle.laws_requests.specs.Multiples.{HasPart}
use Rattle.laws_requests.proofs.Holding.{among_value, is_defined_in, value_among}
use Rattle.laws_requests.proofs.Writing.{instances_written}
use Rattle.laws_requests.proofs.Giving.{any_named}

-- ---- who is named

abbrev to : ℕ → Given → Assignment
to r g = record { resource = r; given = g }

is_named : (given : List Assignment) (r : ℕ) (g : Given) → IsGivenTo given r g
    → list_any (λ a. a.resource == r) given ≡ true
is_named [] r g h = absurd h
is_named (a ∷ given) r g (inl is) =
    ap (λ (b : Assignment). (b.resource == r) || list_any (λ a. a.resource == r) given) is
    ∙ ap (λ (b : Bool). b || list_any (λ a. a.resource == r) given) (eqb_itself r)
is_named (a ∷ given) r g (inr h) =
    elim (a.resource == r) as (λ b. (b || list_any (λ a. a.resource == r) given) ≡ true) [
      | true ↦ refl
      | false ↦ is_named given r g h
    ]

is_found : (given : List Assignment) (r : ℕ) (g : Given) → EachOnce given → IsGivenTo given r g
    → find (λ a. a.resource == r) given ≡ Some (to r g)
is_found [] r g once h = absurd h
is_found (a ∷ given) r g once (inl is) =
    ap (λ (b : Assignment). if b.resource == r then Some b else find (λ a. a.resource == r) given) is
    ∙ ap (λ (b : Bool). if b then Some (to r g) else find (λ a. a.resource == r) given) (eqb_itself r)
is_found (a ∷ given) r g once (inr h) =
    elim (a.resource == r) as (λ b. (a.resource == r) ≡ b
    → (if b then Some a else find (λ a. a.resource == r) given) ≡ Some (to r g)) [
      | true ↦ λ is.
          let l : true ≡ false = sym (is_named given r g h)
          ∙ (ap (λ (k : ℕ). list_any (λ b. b.resource == k) given) (sym (eqb-true a.resource r is)) ∙ once.0) in
          cc
      | false ↦ λ is. is_found given r g once.2 h
    ] refl

pub is_once : (given : List Assignment) (r : ℕ) (g : Given) → EachOnce given → IsGivenTo given r g → GivenOnce g
is_once [] r g once h = absurd h
is_once (a ∷ given) r g once (inl is) = subst (λ (b : Assignment). GivenOnce b.given) is once.1
is_once (a ∷ given) r g once (inr h) = is_once given r g once.2 h

named_first : (a : Assignment) (r : ℕ) → (a.resource == r) ≡ true → a ≡ to r a.given
named_first a r h = λ j. record { resource = eqb-true a.resource r h j; given = a.given }

none_named : (given : List Assignment) (r : ℕ) → ¬ (IsNamedIn given r)
    → list_any (λ a. a.resource == r) given ≡ false
none_named given r never =
    elim (list_any (λ a. a.resource == r) given) as (λ b. list_any (λ a. a.resource == r) given ≡ b → b ≡ false) [
      | true ↦ λ is. absurd (never (any_named given r is))
      | false ↦ λ is. refl
    ] refl

none_found : (given : List Assignment) (r : ℕ) → list_any (λ a. a.resource == r) given ≡ false
    → find (λ a. a.resource == r) given ≡ None
none_found [] r h = refl
none_found (a ∷ given) r h =
    elim (a.resource == r) as (λ b. (b || list_any (λ a. a.resource == r) given) ≡ false
    → (if b then Some a else find (λ a. a.resource == r) given) ≡ None) [
      | true ↦ λ k. cc
      | false ↦ λ k. none_found given r k
    ] h

-- ---- what Replace takes away

lost_by : (same mandatory writable named : Bool) → same ≡ true → mandatory ≡ false → writable ≡ true → named ≡ false
    → (same && (not mandatory && (writable && not named))) ≡ true
lost_by true false true false h k l m = refl
lost_by true false true true h k l m = cc
lost_by true false false named h k l m = cc
lost_by true true writable named h k l m = cc
lost_by false mandatory writable named h k l m = cc

is_taken : (resources : List ResourceDef) (given : List Assignment) (r : ℕ) → ¬ (IsNamedIn given r)
    → IsOptional resources r → is_taken_away resources given r ≡ true
is_taken resources given r never d =
    among-any (λ e. e.id == r && is_lost given e) d.0 resources d.1
    (lost_by (d.0.id == r) d.0.mandatory (can_write d.0.ops) (list_any (λ a. a.resource == d.0.id) given)
    (ap (λ (n : ℕ). n == r) d.2 ∙ eqb_itself r) d.3 d.4
    (ap (λ (n : ℕ). list_any (λ a. a.resource == n) given) d.2 ∙ none_named given r never))

-- what has been lost is optional, and not named
record IsLost (same mandatory writable named : Bool) : Type 0 where
  is_same : same ≡ true
  optional : mandatory ≡ false
  written : writable ≡ true
  unnamed : named ≡ false

lost_means : (same mandatory writable named : Bool) → (same && (not mandatory && (writable && not named))) ≡ true
    → IsLost same mandatory writable named
lost_means true false true false h = record { is_same = refl; optional = refl; written = refl; unnamed = refl }
lost_means true false true true h = cc
lost_means true false false named h = cc
lost_means true true writable named h = cc
lost_means false mandatory writable named h = cc

-- what Replace takes away is optional, and not named
record IsTaken (resources : List ResourceDef) (given : List Assignment) (r : ℕ) : Type 0 where
  optional : IsOptional resources r
  unnamed : list_any (λ a. a.resource == r) given ≡ false

taken_means : (resources : List ResourceDef) (given : List Assignment) (r : ℕ)
    → is_taken_away resources given r ≡ true → IsTaken resources given r
taken_means resources given r h =
    let d = any_found (λ (e : ResourceDef). e.id == r && is_lost given e) resources h in
    let l = lost_means (d.0.id == r) d.0.mandatory (can_write d.0.ops)
    (list_any (λ a. a.resource == d.0.id) given) d.2 in
    let same = eqb-true d.0.id r l.is_same in
    record {
      optional = (d.0, d.1, same, l.optional, l.written);
      unnamed = sym (ap (λ (n : ℕ). list_any (λ a. a.resource == n) given) same) ∙ l.unnamed;
    }

not_taken : (resources : List ResourceDef) (given : List Assignment) (r : ℕ) → ¬ (IsTaken resources given r)
    → is_taken_away resources given r ≡ false
not_taken resources given r never =
    elim (is_taken_away resources given r) as (λ b. is_taken_away resources given r ≡ b → b ≡ false) [
      | true ↦ λ is. absurd (never (taken_means resources given r is))
      | false ↦ λ is. refl
    ] refl

keeps_named : (mode : Mode) (resources : List ResourceDef) (given : List Assignment) (r : ℕ) (before : Option Value)
    → IsNamedIn given r → value_if_unnamed mode resources given r before ≡ before
keeps_named Update resources given r before named = refl
keeps_named Replace resources given r before named =
    ap (λ (b : Bool). if b then None else before) (not_taken resources given r (λ t.
    let l : true ≡ false = sym (is_named given r named.0 named.1) ∙ t.unnamed in cc))

keeps_left : (mode : Mode) (resources : List ResourceDef) (given : List Assignment) (r : ℕ) (before : Option Value)
    → (mode ≡ Update) ⊎ (¬ (IsOptional resources r)) → value_if_unnamed mode resources given r before ≡ before
keeps_left Update resources given r before why = refl
keeps_left Replace resources given r before (inl h) = cc
keeps_left Replace resources given r before (inr never) =
    ap (λ (b : Bool). if b then None else before) (not_taken resources given r (λ t. never t.optional))

takes_away : (mode : Mode) (resources : List ResourceDef) (given : List Assignment) (r : ℕ) (before : Option Value)
    → mode ≡ Replace → ¬ (IsNamedIn given r) → IsOptional resources r
    → value_if_unnamed mode resources given r before ≡ None
takes_away Update resources given r before h never optional = cc
takes_away Replace resources given r before h never optional =
    ap (λ (b : Bool). if b then None else before) (is_taken resources given r never optional)

-- ---- what is given

same_test : (d : Option ResourceDef) → is_kept_as d ≡ is_readable d
same_test None = refl
same_test (Some d) = refl

is_kept_here : (client : Client) (o r : ℕ) (b : Bool) → is_readable (definition_of client.catalog o r) ≡ b
    → is_kept_as (resource_in (resources_defined client.catalog o) r) ≡ b
is_kept_here client o r b h =
    same_test (resource_in (resources_defined client.catalog o) r) ∙ sym (ap is_readable (is_defined_in client o r)) ∙ h

-- after a Write of an instance that names a resource
behind_named : (client : Client) (mode : Mode) (o : ℕ) (given : List Assignment) (q : FullPath) (g : Given) (b : Bool)
    (before : Option Value) → EachOnce given → IsGivenTo given q.resource g
    → is_readable (definition_of client.catalog o q.resource) ≡ b
    → value_behind mode (resources_defined client.catalog o) given q before
    ≡ (if b then value_with mode g q.part before else before)
behind_named client mode o given q g b before once is readable =
    let resources = resources_defined client.catalog o in
    let was = value_if_unnamed mode resources given q.resource before in
    ap (λ (a : Option Assignment). value_by mode resources a q.part was) (is_found given q.resource g once is)
    ∙ ap (λ (k : Bool). if k then value_with mode g q.part was else was) (is_kept_here client o q.resource b readable)
    ∙ ap (λ (v : Option Value). if b then value_with mode g q.part v else v)
    (keeps_named mode resources given q.resource before (g, is))

behind_unnamed : (client : Client) (mode : Mode) (o : ℕ) (given : List Assignment) (q : FullPath)
    (before : Option Value) → ¬ (IsNamedIn given q.resource)
    → value_behind mode (resources_defined client.catalog o) given q before
    ≡ value_if_unnamed mode (resources_defined client.catalog o) given q.resource before
behind_unnamed client mode o given q before never =
    let resources = resources_defined client.catalog o in
    ap (λ (a : Option Assignment). value_by mode resources a q.part
    (value_if_unnamed mode resources given q.resource before))
    (none_found given q.resource (none_named given q.resource never))

has_value : (parts : PartList) (n : ℕ) → ¬ (HasPart parts n) → part_value parts (Some n) ≡ None
has_value parts n never =
    elim (part_value parts (Some n)) as (λ v. part_value parts (Some n) ≡ v → v ≡ None) [
      | None ↦ λ is. refl
      | Some v ↦ λ is. absurd (never (v, value_among parts n v is))
    ] refl

parts_left : (mode : Mode) (parts : PartList) (before : Option Value)
    → left_of mode (Parts parts) before ≡ left_by mode before
parts_left Replace parts before = refl
parts_left Update parts before = refl

lies_single : (o i r : ℕ) → lies_in (Instance o i) (single_of (resource_place o i r)) ≡ true
lies_single o i r = grind (arith, nat_tests)

lies_part : (o i r n : ℕ) → lies_in (Instance o i) (part_of (resource_place o i r) n) ≡ true
lies_part o i r n = grind (arith, nat_tests)

pub instances_hold : InstancesHoldGiven
instances_hold client server mode o i number payload h =
    let resources = resources_defined client.catalog o in
    let w = instances_written client server mode o i number payload h in
    let given = w.given in
    let once = instance_once resources i payload given w.gives in
    record {
      given = given;
      gives = w.gives;
      value = λ r v is readable.
          let q = single_of (resource_place o i r) in
          w.inside q (lies_single o i r)
          ∙ behind_named client mode o given q (Single v) true (value_at client.store q) once is readable;
      beside = λ r v n is readable.
          let q = part_of (resource_place o i r) n in
          w.inside q (lies_part o i r n)
          ∙ behind_named client mode o given q (Single v) true (value_at client.store q) once is readable;
      part = λ r parts n v is readable among.
          let q = part_of (resource_place o i r) n in
          let before = value_at client.store q in
          w.inside q (lies_part o i r n)
          ∙ behind_named client mode o given q (Parts parts) true before once is readable
          ∙ ap (λ (x : Option Value). option_or x (left_of mode (Parts parts) before))
          (among_value parts n v (is_once given r (Parts parts) once is) among);
      other_part = λ r parts n is readable never.
          let q = part_of (resource_place o i r) n in
          let before = value_at client.store q in
          w.inside q (lies_part o i r n)
          ∙ behind_named client mode o given q (Parts parts) true before once is readable
          ∙ ap (λ (x : Option Value). option_or x (left_of mode (Parts parts) before)) (has_value parts n never)
          ∙ parts_left mode parts before;
      no_part = λ r parts is readable.
          let q = single_of (resource_place o i r) in
          let before = value_at client.store q in
          w.inside q (lies_single o i r)
          ∙ behind_named client mode o given q (Parts parts) true before once is readable
          ∙ parts_left mode parts before;
      write_only = λ q lies named readable.
          w.inside q lies
          ∙ behind_named client mode o given q named.0 false (value_at client.store q) once named.1 readable;
      taken_away = λ q lies never replaced optional.
          let before = value_at client.store q in
          w.inside q lies ∙ behind_unnamed client mode o given q before never
          ∙ takes_away mode resources given q.resource before replaced never optional;
      left_alone = λ q lies never why.
          let before = value_at client.store q in
          w.inside q lies ∙ behind_unnamed client mode o given q before never
          ∙ keeps_left mode resources given q.resource before why;
      elsewhere = λ q away. w.outside q away;
    }
