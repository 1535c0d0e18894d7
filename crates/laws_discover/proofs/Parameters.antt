-- What stands after the path of a link.
use Rattle.std.proofs.Common.{◌≡◌, ◌≢◌, ◌⊎◌, inl, inr, ℕ, ◌≤◌, ◌==◌, ℤ, Bool, true, false, ◌||◌, List, [], ◌∷◌, ◌++◌}
use Rattle.std.proofs.Common.{map, length, Option, None, Some, codes, refl, sym, ap, subst, ◌∙◌, arith}
use Rattle.std.specs.Bool.{if◌then◌else◌}
use Rattle.std.proofs.lemmas.Cmp.{nat_eq_equiv}
use Rattle.std.specs.Fmt.{decimal}
use Rattle.std.specs.List.{flat_map}
use Rattle.std.specs.Option.{is_some, option_or}
use Rattle.std.specs.Set.{is_member}
use Rattle.std.proofs.lemmas.Bool.Decides.{nat_tests}
use Rattle.std.proofs.lemmas.Map.Made.{length-le_from_is_member}
use Rattle.std.proofs.lemmas.Bool.{eqb-true}
use Rattle.lemmas.proofs.Numbers.{eqb_itself}
use Rattle.lemmas.proofs.Options.{some_from_test}
use Rattle.object_defs.specs.Catalog.{definition_of}
use Rattle.object_defs.specs.Path.{part_of}
use Rattle.object_defs.specs.declared.definition.ResourceDef.{ResourceDef}
use Rattle.object_defs.specs.declared.path.Path.{Path}
use Rattle.object_defs.specs.declared.path.Path.TheVariants.{Object, Instance, Resource, Part}
use Rattle.object_defs.specs.declared.path.ResourcePath.{ResourcePath}
use Rattle.instance_store.specs.Stored.{Stored, parts_of, value_at}
use Rattle.notifier.specs.declared.attribute.Name.{Name}
use Rattle.notifier.specs.declared.attribute.Name.TheVariants.{Pmin, Pmax, Gt, Lt, St}
use Rattle.notifier.specs.Attributes.{assigned_number, effective}
use Rattle.lwm2m_payloads.proofs.Held.{held_at, held_distinct}
use Rattle.device_requests.specs.Client.{Client}
use Rattle.device_requests.specs.Discover.{dimension, inherits_at, is_period, name_text, number_text, shown_number}
use Rattle.device_requests.specs.Laws.{IsAmong}
use Rattle.device_requests.specs.Targets.{is_multiple, resource_place}
use Rattle.device_requests.proofs.Among.{among-left, among-either, among-right}
use Rattle.laws_discover.specs.Links.{attribute_names, attribute_parameter, attribute_parameters, dimension_parameter}
use Rattle.laws_discover.specs.Links.{link_to}
use Rattle.laws_discover.specs.Parameters.{AreSomeOf, FirstLinkShows, HoldsNumbers, IsInherited, IsShownFirst}
use Rattle.laws_discover.specs.Parameters.{IsShownOn}
use Rattle.laws_discover.specs.Parameters.{OtherLinksShow, Parameter, ParametersInOrder, end, its_attribute}
use Rattle.laws_discover.specs.Parameters.{its_dimension, its_own, left_out, of_instance, of_object, taken}

-- ---- among lists that stand one after another

among_some : {W X : Type 0} (f : W → List X) (x : X) (ws : List W) → IsAmong x (flat_map f ws)
    → (w : W) × IsAmong x (f w)
among_some f x [] h = absurd h
among_some f x (w ∷ ws) h =
    elim (among-either x (f w) (flat_map f ws) h) [ inl k ↦ (w, k) | inr k ↦ among_some f x ws k ]

among_names : {X : Type 0} (f : Name → List X) (x : X) (n : Name) → IsAmong x (f n)
    → IsAmong x (flat_map f attribute_names)
among_names f x Pmin h = among-left x (f Pmin) _ h
among_names f x Pmax h = among-right x (f Pmin) _ (among-left x (f Pmax) _ h)
among_names f x Gt h = among-right x (f Pmin) _ (among-right x (f Pmax) _ (among-left x (f Gt) _ h))
among_names f x Lt h =
    among-right x (f Pmin) _ (among-right x (f Pmax) _ (among-right x (f Gt) _ (among-left x (f Lt) _ h)))
among_names f x St h =
    among-right x (f Pmin) _ (among-right x (f Pmax) _ (among-right x (f Gt) _ (among-right x (f Lt) _
    (among-left x (f St) _ h))))

-- ---- how many parts

member_among : (ns : List ℕ) (n : ℕ) → is_member ◌==◌ ns n ≡ true → IsAmong n ns
member_among [] n h = cc
member_among (m ∷ ns) n h =
    elim (n == m) as (λ b. (n == m) ≡ b → (b || is_member ◌==◌ ns n) ≡ true → IsAmong n (m ∷ ns)) [
      | true ↦ λ is k. inl (sym (eqb-true n m is))
      | false ↦ λ is k. inr (member_among ns n k)
    ] refl h

among_member : (ns : List ℕ) (n : ℕ) → IsAmong n ns → is_member ◌==◌ ns n ≡ true
among_member [] n h = absurd h
among_member (m ∷ ns) n (inl is) =
    ap (λ (b : Bool). b || is_member ◌==◌ ns n) (ap (λ (k : ℕ). n == k) is ∙ eqb_itself n)
among_member (m ∷ ns) n (inr h) =
    elim (n == m) as (λ b. (b || is_member ◌==◌ ns n) ≡ true) [ true ↦ refl | false ↦ among_member ns n h ]

-- the numbers of the parts that a resource holds
holds_numbers : (stored : Stored) (p : ResourcePath) → HoldsNumbers stored p (parts_of stored p)
holds_numbers stored p =
    record {
      once = held_distinct stored p;
      each = λ n. (
        λ h. some_from_test (value_at stored (part_of p n))
            (sym (held_at stored p n) ∙ among_member (parts_of stored p) n h),
        λ h. member_among (parts_of stored p) n (held_at stored p n ∙ ap is_some h.1),
      );
    }

no_longer : (stored : Stored) (p : ResourcePath) (ms ns : List ℕ) → HoldsNumbers stored p ms
    → HoldsNumbers stored p ns → length ms ≤ length ns
no_longer stored p ms ns h k =
    length-le_from_is_member nat_eq_equiv ms ns h.once (λ q is.
    among_member ns q ((k.each q).1 ((h.each q).0 (member_among ms q is))))

as_long : (stored : Stored) (p : ResourcePath) (ns : List ℕ) → HoldsNumbers stored p ns
    → length ns ≡ length (parts_of stored p)
as_long stored p ns h =
    let k = holds_numbers stored p in
    let l : length ns ≤ length (parts_of stored p) = no_longer stored p ns (parts_of stored p) h k in
    let m : length (parts_of stored p) ≤ length ns = no_longer stored p (parts_of stored p) ns k h in
    omega arith

-- ---- `dim`

abbrev dim : ℕ → Parameter
dim n = (codes "dim", decimal n)

dimension_is : (n : ℕ) (x : Parameter) → IsAmong x (dimension_parameter n)
    → ((n == 0) ≡ false) × ((codes "dim", decimal n) ≡ x)
dimension_is n x h =
    elim (n == 0) as (λ b. (n == 0) ≡ b → IsAmong x (if b then [] else (codes "dim", decimal n) ∷ [])
    → ((n == 0) ≡ false) × ((codes "dim", decimal n) ≡ x)) [
      | true ↦ λ is k. absurd k
      | false ↦ λ is k. elim k [ inl e ↦ (is, e) | inr f ↦ absurd f ]
    ] refl h

is_dimension : (n : ℕ) → (n == 0) ≡ false → IsAmong (dim n) (dimension_parameter n)
is_dimension n h =
    subst (λ (b : Bool). IsAmong (dim n) (if b then [] else (codes "dim", decimal n) ∷ [])) (sym h)
    (inl refl)

empty_is_zero : (ns : List ℕ) → (length ns == 0) ≡ false → ns ≢ []
empty_is_zero ns h e =
    let l : true ≡ false = sym (ap (λ (ms : List ℕ). length ms == 0) e) ∙ h in cc

some_is_more : (ns : List ℕ) → ns ≢ [] → (length ns == 0) ≡ false
some_is_more [] h = absurd (h refl)
some_is_more (n ∷ ns) h = grind (arith, nat_tests)

several : (d : Option ResourceDef) → is_multiple d ≡ true → (e : ResourceDef) × (d ≡ Some e) × (e.multiple ≡ true)
several None h = cc
several (Some d) h = (d, refl, h)

dimension_shown : (client : Client) (server : ℕ) (path : Path) (x : Parameter)
    → IsAmong x (dimension_parameter (dimension client.catalog client.store path))
    → IsShownOn client server path x
dimension_shown client server (Object o) x h = absurd h
dimension_shown client server (Instance o i) x h = absurd h
dimension_shown client server (Part o i r n) x h = absurd h
dimension_shown client server (Resource o i r) x h =
    let p = resource_place o i r in
    let ns = parts_of client.store p in
    elim (is_multiple (definition_of client.catalog o r)) as
    (λ b. is_multiple (definition_of client.catalog o r) ≡ b
    → IsAmong x (dimension_parameter (if b then length ns else 0)) → IsShownOn client server (Resource o i r) x) [
      | true ↦ λ is k.
          let d = several (definition_of client.catalog o r) is in
          let e = dimension_is (length ns) x k in
          subst (IsShownOn client server (Resource o i r)) e.1
          (its_dimension o i r d.0 ns d.1 d.2 (holds_numbers client.store p) (empty_is_zero ns e.0))
      | false ↦ λ is k. absurd k
    ] refl h

-- ---- attributes

abbrev set_to : Name → ℤ → Parameter
set_to n z = (name_text n, number_text n z)

attribute_is : (n : Name) (o : Option ℤ) (x : Parameter) → IsAmong x (attribute_parameter n o)
    → (z : ℤ) × (o ≡ Some z) × ((name_text n, number_text n z) ≡ x)
attribute_is n None x h = absurd h
attribute_is n (Some z) x (inl e) = (z, refl, e)
attribute_is n (Some z) x (inr f) = absurd f

is_attribute : (n : Name) (o : Option ℤ) (z : ℤ) → o ≡ Some z
    → IsAmong (set_to n z) (attribute_parameter n o)
is_attribute n o z h =
    subst (λ (v : Option ℤ). IsAmong (set_to n z) (attribute_parameter n v)) (sym h) (inl refl)

-- the parameters of a link
abbrev parameters : Client → ℕ → Bool → Path → List Parameter
parameters client server inherits path = (link_to client server inherits path).parameters

among_parameters : (client : Client) (server : ℕ) (inherits : Bool) (path : Path) (x : Parameter)
    → IsAmong x (parameters client server inherits path)
    → IsAmong x (dimension_parameter (dimension client.catalog client.store path))
    ⊎ ((n : Name) × (z : ℤ) × (shown_number client.attributes server inherits path n ≡ Some z)
    × ((name_text n, number_text n z) ≡ x))
among_parameters client server inherits path x h =
    let f = λ (n : Name). attribute_parameter n (shown_number client.attributes server inherits path n) in
    elim (among-either x (dimension_parameter (dimension client.catalog client.store path))
    (attribute_parameters client server inherits path) h) [
      | inl k ↦ inl k
      | inr k ↦
          let s = among_some f x attribute_names k in
          let a = attribute_is s.0 (shown_number client.attributes server inherits path s.0) x s.1 in
          inr (s.0, a.0, a.1, a.2)
    ]

attribute_there : (client : Client) (server : ℕ) (inherits : Bool) (path : Path) (n : Name) (z : ℤ)
    → shown_number client.attributes server inherits path n ≡ Some z
    → IsAmong (set_to n z) (parameters client server inherits path)
attribute_there client server inherits path n z h =
    let f = λ (m : Name). attribute_parameter m (shown_number client.attributes server inherits path m) in
    let x = set_to n z in
    among-right x (dimension_parameter (dimension client.catalog client.store path))
    (attribute_parameters client server inherits path)
    (among_names f x n (is_attribute n (shown_number client.attributes server inherits path n) z h))

dimension_there : (client : Client) (server : ℕ) (inherits : Bool) (o i r : ℕ) (d : ResourceDef) (ns : List ℕ)
    → definition_of client.catalog o r ≡ Some d → d.multiple ≡ true
    → HoldsNumbers client.store (resource_place o i r) ns → ns ≢ []
    → IsAmong (dim (length ns)) (parameters client server inherits (Resource o i r))
dimension_there client server inherits o i r d ns defined_as many holds some =
    let p = resource_place o i r in
    let is : dimension client.catalog client.store (Resource o i r) ≡ length ns =
    ap (λ (b : Bool). if b then length (parts_of client.store p) else 0) (ap is_multiple defined_as ∙ many)
    ∙ sym (as_long client.store p ns holds) in
    among-left (dim (length ns))
    (dimension_parameter (dimension client.catalog client.store (Resource o i r)))
    (attribute_parameters client server inherits (Resource o i r))
    (subst (λ (n : ℕ). IsAmong (dim (length ns)) (dimension_parameter n)) (sym is)
    (is_dimension (length ns) (some_is_more ns some)))

-- ---- links other than the first

shown_on : (client : Client) (server : ℕ) (path : Path) (x : Parameter)
    → IsAmong x (parameters client server false path) → IsShownOn client server path x
shown_on client server path x h =
    elim (among_parameters client server false path x h) [
      | inl k ↦ dimension_shown client server path x k
      | inr k ↦ subst (IsShownOn client server path) k.3 (its_attribute path k.0 k.1 k.2)
    ]

on_shown : (client : Client) (server : ℕ) (path : Path) (x : Parameter) → IsShownOn client server path x
    → IsAmong x (parameters client server false path)
on_shown client server path x (its_dimension o i r d ns defined_as many holds some) =
    dimension_there client server false o i r d ns defined_as many holds some
on_shown client server path x (its_attribute _ n z is) = attribute_there client server false path n z is

pub other_links_show : OtherLinksShow
other_links_show client server path x = (shown_on client server path x, on_shown client server path x)

-- ---- the first link

inherited : (n : Name) → is_period n ≡ true → IsInherited n
inherited Pmin h = inl refl
inherited Pmax h = inr refl
inherited Gt h = cc
inherited Lt h = cc
inherited St h = cc

inherits : (n : Name) → IsInherited n → is_period n ≡ true
inherits n (inl is) = ap is_period is
inherits n (inr is) = ap is_period is

first_attribute : (client : Client) (server o i r : ℕ) (n : Name) (z : ℤ)
    → shown_number client.attributes server true (Resource o i r) n ≡ Some z
    → IsShownFirst client server (Resource o i r) (set_to n z)
first_attribute client server o i r n z h =
    elim (is_period n) as (λ b. is_period n ≡ b
    → (if b then effective client.attributes server (Resource o i r) n
    else assigned_number client.attributes server (Resource o i r) n) ≡ Some z
    → IsShownFirst client server (Resource o i r) (set_to n z)) [
      | true ↦ λ is k. by (inherited n is) (assigned_number client.attributes server (Resource o i r) n) refl
          (assigned_number client.attributes server (Instance o i) n) refl
          (assigned_number client.attributes server (Object o) n) refl k
      | false ↦ λ is k. its_own (Resource o i r) (set_to n z) (its_attribute (Resource o i r) n z k)
    ] refl h
  where
    by : IsInherited n → (a : Option ℤ) → assigned_number client.attributes server (Resource o i r) n ≡ a
        → (b : Option ℤ) → assigned_number client.attributes server (Instance o i) n ≡ b
        → (c : Option ℤ) → assigned_number client.attributes server (Object o) n ≡ c
        → option_or a (option_or b (option_or c None)) ≡ Some z
        → IsShownFirst client server (Resource o i r) (set_to n z)
    by p (Some y) is b at c on k =
        its_own (Resource o i r) (set_to n z) (its_attribute (Resource o i r) n z (is ∙ k))
    by p None is (Some y) at c on k = of_instance o i r n z p is (at ∙ k)
    by p None is None at (Some y) on k = of_object o i r n z p is at (on ∙ k)
    by p None is None at None on k = cc

path_first : (client : Client) (server : ℕ) (path : Path) (n : Name) (z : ℤ)
    → shown_number client.attributes server (inherits_at path) path n ≡ Some z
    → IsShownFirst client server path (set_to n z)
path_first client server (Object o) n z h = its_own (Object o) _ (its_attribute (Object o) n z h)
path_first client server (Instance o i) n z h = its_own (Instance o i) _ (its_attribute (Instance o i) n z h)
path_first client server (Part o i r p) n z h = its_own (Part o i r p) _ (its_attribute (Part o i r p) n z h)
path_first client server (Resource o i r) n z h = first_attribute client server o i r n z h

shown_first : (client : Client) (server : ℕ) (path : Path) (x : Parameter)
    → IsAmong x (parameters client server (inherits_at path) path) → IsShownFirst client server path x
shown_first client server path x h =
    elim (among_parameters client server (inherits_at path) path x h) [
      | inl k ↦ its_own path x (dimension_shown client server path x k)
      | inr k ↦ subst (IsShownFirst client server path) k.3 (path_first client server path k.0 k.1 k.2)
    ]

-- the number of an attribute at a resource is shown, whether or not it could be inherited
own_number : (client : Client) (server : ℕ) (path : Path) (n : Name) (z : ℤ)
    → assigned_number client.attributes server path n ≡ Some z
    → shown_number client.attributes server (inherits_at path) path n ≡ Some z
own_number client server (Object o) n z h = h
own_number client server (Instance o i) n z h = h
own_number client server (Part o i r p) n z h = h
own_number client server (Resource o i r) n z h =
    elim (is_period n) as (λ b. (if b then effective client.attributes server (Resource o i r) n
    else assigned_number client.attributes server (Resource o i r) n) ≡ Some z) [
      | true ↦ ap (λ (a : Option ℤ). option_or a (option_or (assigned_number client.attributes server (Instance o i) n)
          (option_or (assigned_number client.attributes server (Object o) n) None))) h
      | false ↦ h
    ]

inherited_number : (client : Client) (server o i r : ℕ) (n : Name) (z : ℤ) → IsInherited n
    → effective client.attributes server (Resource o i r) n ≡ Some z
    → shown_number client.attributes server true (Resource o i r) n ≡ Some z
inherited_number client server o i r n z p h =
    ap (λ (b : Bool). if b then effective client.attributes server (Resource o i r) n
    else assigned_number client.attributes server (Resource o i r) n) (inherits n p) ∙ h

first_shown : (client : Client) (server : ℕ) (path : Path) (x : Parameter) → IsShownFirst client server path x
    → IsAmong x (parameters client server (inherits_at path) path)
first_shown client server path x (its_own _ _ (its_dimension o i r d ns defined_as many holds some)) =
    dimension_there client server true o i r d ns defined_as many holds some
first_shown client server path x (its_own _ _ (its_attribute _ n z is)) =
    attribute_there client server (inherits_at path) path n z (own_number client server path n z is)
first_shown client server path x (of_instance o i r n z p none is) =
    attribute_there client server true (Resource o i r) n z (inherited_number client server o i r n z p
    (ap (λ (t : Option ℤ × Option ℤ). option_or t.0 (option_or t.1
    (option_or (assigned_number client.attributes server (Object o) n) None))) (λ j. (none j, is j))))
first_shown client server path x (of_object o i r n z p none neither is) =
    attribute_there client server true (Resource o i r) n z (inherited_number client server o i r n z p
    (ap (λ (t : Option ℤ × Option ℤ × Option ℤ). option_or t.0 (option_or t.1 (option_or t.2 None)))
    (λ j. (none j, neither j, is j))))

pub first_link_shows : FirstLinkShows
first_link_shows client server path x = (shown_first client server path x, first_shown client server path x)

-- ---- their order

some_attribute : (n : Name) (o : Option ℤ) (rest : List Parameter) (ys : List (List ℕ))
    → AreSomeOf (map (λ x. x.0) rest) ys
    → AreSomeOf (map (λ x. x.0) (attribute_parameter n o ++ rest)) (name_text n ∷ ys)
some_attribute n None rest ys h = left_out (name_text n) (map (λ x. x.0) rest) ys h
some_attribute n (Some z) rest ys h = taken (name_text n) (map (λ x. x.0) rest) ys h

some_dimension : (n : ℕ) (rest : List Parameter) (ys : List (List ℕ)) → AreSomeOf (map (λ x. x.0) rest) ys
    → AreSomeOf (map (λ x. x.0) (dimension_parameter n ++ rest)) (codes "dim" ∷ ys)
some_dimension n rest ys h =
    elim (n == 0) as (λ b. AreSomeOf (map (λ x. x.0) ((if b then [] else (codes "dim", decimal n) ∷ []) ++ rest))
    (codes "dim" ∷ ys)) [
      | true ↦ left_out (codes "dim") (map (λ x. x.0) rest) ys h
      | false ↦ taken (codes "dim") (map (λ x. x.0) rest) ys h
    ]

pub parameters_in_order : ParametersInOrder
parameters_in_order client server inherits path =
    let number = λ (n : Name). shown_number client.attributes server inherits path n in
    some_dimension (dimension client.catalog client.store path) (attribute_parameters client server inherits path) _
    (some_attribute Pmin (number Pmin) _ _ (some_attribute Pmax (number Pmax) _ _ (some_attribute Gt (number Gt) _ _
    (some_attribute Lt (number Lt) _ _ (some_attribute St (number St) [] [] end)))))
