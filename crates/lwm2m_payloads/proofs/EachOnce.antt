-- What a payload gives, it gives once.
use Rattle.std.proofs.Common.{◌≡◌, ℕ, ◌+◌, ◌==◌, Bool, true, false, cond, List, [], ◌∷◌, length, Option, None, Some}
use Rattle.std.proofs.Common.{option_map, Result, Ok, Err, refl, ap, subst, ◌∙◌, if◌then◌else◌}
use Rattle.std.specs.Option.{ok_or}
use Rattle.std.specs.List.{find, list_any}
use Rattle.std.proofs.lemmas.Bool.{eqb-true, or_parts, or_from}
use Rattle.lwm2m_values.specs.declared.kind.ValueKind.{ValueKind}
use Rattle.lwm2m_values.specs.declared.value.Value.{Value}
use Rattle.lwm2m_values.specs.Reading.{value_of_text, value_of_bytes}
use Rattle.lwm2m_values.specs.Tree.{Tree, Trees, instance, multi, part, single, none, more}
use Rattle.object_defs.specs.Catalog.{resource_in}
use Rattle.object_defs.specs.declared.definition.ResourceDef.{ResourceDef}
use Rattle.lwm2m_payloads.specs.declared.fault.PayloadFault.TheVariants as fault
use Rattle.lwm2m_payloads.specs.declared.fault.RecordFault.{RecordFault}
use Rattle.lwm2m_payloads.specs.declared.fault.RecordFault.TheVariants as record_fault
use Rattle.lwm2m_payloads.specs.declared.format.Format.{Format}
use Rattle.lwm2m_payloads.specs.declared.format.Format.TheVariants.{PlainText, OctetStream, Tlv}
use Rattle.lwm2m_payloads.specs.declared.given.Assignment.{Assignment}
use Rattle.lwm2m_payloads.specs.declared.given.Creation.{Creation}
use Rattle.lwm2m_payloads.specs.declared.given.Given.{Given}
use Rattle.lwm2m_payloads.specs.declared.given.Given.TheVariants.{Single, Parts}
use Rattle.lwm2m_payloads.specs.declared.given.Purpose.{Purpose}
use Rattle.lwm2m_payloads.specs.declared.given.Purpose.TheVariants.{Write, Create}
use Rattle.lwm2m_payloads.specs.Given.{assigned_as, assigned_by, assignments, assignments_from, at_record, before}
use Rattle.lwm2m_payloads.specs.Given.{complete, content_of, creation_given, creation_in, given_by, has_number}
use Rattle.lwm2m_payloads.specs.Given.{instance_given, is_lacking, lone_part, lone_record, may_be_given, number_in, one_part}
use Rattle.lwm2m_payloads.specs.Given.{part_by, part_given, part_in, part_record, parts_given, record_in, records_in}
use Rattle.lwm2m_payloads.specs.Given.{resource_given, some_parts, unless, unless_lacking, value_in, whole_value}
use Rattle.lwm2m_payloads.specs.PartList.{PartList}
use Rattle.lwm2m_payloads.specs.Results.{result_and_then, result_map}
use Rattle.lwm2m_payloads.specs.Written.{PartsOnce, GivenOnce, EachOnce}

-- ---- a fact of what there is, where there is something

abbrev If : {A E : Type 0} → (A → Type 0) → Result A E → Type 0
If P (Ok a) = P a
If P (Err e) = Unit {0}

there : {A E : Type 0} (P : A → Type 0) (r : Result A E) (a : A) → If P r → r ≡ Ok a → P a
there P r a h e = subst (If P) e h

weaker : {A E : Type 0} (Q P : A → Type 0) (r : Result A E) → ((a : A) → Q a → P a) → If Q r → If P r
weaker Q P (Ok a) f h = f a h
weaker Q P (Err e) f h = tt

map_if : {A B E : Type 0} (Q : A → Type 0) (P : B → Type 0) (f : A → B) (r : Result A E) → ((a : A) → Q a → P (f a))
    → If Q r → If P (result_map f r)
map_if Q P f (Ok a) h q = h a q
map_if Q P f (Err e) h q = tt

mapped : {A B E : Type 0} (P : B → Type 0) (f : A → B) (r : Result A E) → ((a : A) → P (f a)) → If P (result_map f r)
mapped P f (Ok a) h = h a
mapped P f (Err e) h = tt

then_if : {A B E : Type 0} (P : B → Type 0) (f : A → Result B E) (r : Result A E) → ((a : A) → If P (f a))
    → If P (result_and_then f r)
then_if P f (Ok a) h = h a
then_if P f (Err e) h = tt

then_from : {A B E : Type 0} (Q : A → Type 0) (P : B → Type 0) (f : A → Result B E) (r : Result A E)
    → ((a : A) → Q a → If P (f a)) → If Q r → If P (result_and_then f r)
then_from Q P f (Ok a) h q = h a q
then_from Q P f (Err e) h q = tt

told_if : {A : Type 0} (P : A → Type 0) (place number : ℕ) (r : Result A RecordFault) → If P r
    → If P (at_record place number r)
told_if P place number (Ok a) h = h
told_if P place number (Err e) h = tt

unless_if : {A E : Type 0} (P : A → Type 0) (b : Bool) (why : E) (r : Result A E) → If (λ a. b ≡ false → P a) r
    → If P (unless b why r)
unless_if P true why (Ok a) h = tt
unless_if P false why (Ok a) h = h refl
unless_if P b why (Err e) h = tt

before_if : {A E : Type 0} (Q : A → Type 0) (R P : List A → Type 0)
    → ((a : A) (xs : List A) → Q a → R xs → P (a ∷ xs))
    → (first : Result A E) (others : Result (List A) E) → If Q first → If R others → If P (before first others)
before_if Q R P f (Ok a) (Ok xs) q r = f a xs q r
before_if Q R P f (Ok a) (Err e) q r = tt
before_if Q R P f (Err e) others q r = tt

-- ---- one number after the other

-- the numbers of these are among those of records
abbrev Numbered : {A : Type 0} → (A → ℕ) → Trees → List A → Type 0
Numbered key nodes xs = (n : ℕ) → has_number n nodes ≡ false → list_any (λ x. key x == n) xs ≡ false

-- one is of a record whose number no later one has
abbrev pub IsNew : Tree → Trees → ℕ → Type 0
IsNew node nodes n = (n ≡ number_in node) × (has_number n nodes ≡ false)

numbered_more : {A : Type 0} (key : A → ℕ) (node : Tree) (nodes : Trees) (a : A) (xs : List A)
    → key a ≡ number_in node → Numbered key nodes xs → Numbered key (more node nodes) (a ∷ xs)
numbered_more key node nodes a xs e h = λ n none.
    let t = or_parts (number_in node == n) (has_number n nodes) none in
    or_from _ _ (ap (λ k. k == n) e ∙ t.0) (h n t.1)

-- ---- parts

abbrev part_key : ℕ × Value → ℕ
part_key e = e.0

abbrev PartsOf : Trees → PartList → Type 0
PartsOf nodes parts = Numbered part_key nodes parts × PartsOnce parts

part_value : (n : ℕ) (bytes : List ℕ) (nodes : Trees) (why : RecordFault) (value : Option Value)
    → If (λ e. has_number n nodes ≡ false → IsNew (part n bytes) nodes (part_key e))
    (ok_or (option_map (λ v. (n, v)) value) why)
part_value n bytes nodes why None = tt
part_value n bytes nodes why (Some v) = λ none. (refl, none)

part_new : (kind : ValueKind) (node : Tree) (nodes : Trees)
    → If (λ e. IsNew node nodes (part_key e)) (part_in kind node nodes)
part_new kind (part n bytes) nodes =
    let why = record_fault.Part n kind (length bytes) in
    let value = value_of_bytes kind bytes in
    unless_if (λ e. IsNew (part n bytes) nodes (part_key e)) (has_number n nodes) (record_fault.PartTwice n)
    (ok_or (option_map (λ v. (n, v)) value) why) (part_value n bytes nodes why value)
part_new kind (instance i inner) nodes = tt
part_new kind (multi r inner) nodes = tt
part_new kind (single r bytes) nodes = tt

parts_once : (kind : ValueKind) (nodes : Trees) → If (PartsOf nodes) (parts_given kind nodes)
parts_once kind none = ((λ n h. refl), tt)
parts_once kind (more node nodes) =
    before_if (λ e. IsNew node nodes (part_key e)) (PartsOf nodes) (PartsOf (more node nodes))
    (λ e parts new h. (numbered_more part_key node nodes e parts new.0 h.0, (h.0 e.0 new.1, h.1)))
    (part_in kind node nodes) (parts_given kind nodes) (part_new kind node nodes) (parts_once kind nodes)

some_once : (d : ResourceDef) (nodes : Trees) → If GivenOnce (some_parts d nodes)
some_once d none =
    elim d.mandatory as (λ b. If GivenOnce (if b then Err record_fault.Empty else Ok (Parts [])))
    [ true ↦ tt | false ↦ tt ]
some_once d (more node nodes) =
    map_if (PartsOf (more node nodes)) GivenOnce Parts (parts_given d.kind (more node nodes)) (λ parts h. h.1)
    (parts_once d.kind (more node nodes))

given_once : (d : ResourceDef) (t : Tree) → If GivenOnce (given_by d t)
given_once d (single r bytes) =
    elim d.multiple as
    (λ b. If GivenOnce (if b then Err record_fault.Form else result_map Single (value_in d.kind bytes)))
    [ true ↦ tt | false ↦ mapped GivenOnce Single (value_in d.kind bytes) (λ v. tt) ]
given_once d (multi r inner) =
    elim d.multiple as (λ b. If GivenOnce (if b then some_parts d inner else Err record_fault.Form))
    [ true ↦ some_once d inner | false ↦ tt ]
given_once d (part n bytes) = tt
given_once d (instance i inner) = tt

-- ---- a resource, and a part of it

lone_once : (d : ResourceDef) (nodes : Trees) → If GivenOnce (lone_record d nodes)
lone_once d none = tt
lone_once d (more t none) =
    told_if GivenOnce 1 (number_in t) (if number_in t == d.id then given_by d t else Err record_fault.Number)
    (elim (number_in t == d.id) as (λ b. If GivenOnce (if b then given_by d t else Err record_fault.Number))
    [ true ↦ given_once d t | false ↦ tt ])
lone_once d (more t (more u nodes)) = tt

resource_once_by : (d : ResourceDef) (format : Format) (payload : List ℕ)
    → If GivenOnce (resource_given d format payload)
resource_once_by d PlainText payload =
    mapped GivenOnce Single (whole_value d.kind payload (value_of_text d.kind payload)) (λ v. tt)
resource_once_by d OctetStream payload =
    mapped GivenOnce Single (whole_value d.kind payload (value_of_bytes d.kind payload)) (λ v. tt)
resource_once_by d Tlv payload = then_if GivenOnce (lone_record d) (records_in payload) (lone_once d)

by_once : (kind : ValueKind) (n : ℕ) (t : Tree) → If GivenOnce (part_by kind n t)
by_once kind n (part m bytes) =
    elim (m == n) as
    (λ b. If GivenOnce (if b then result_map (one_part n) (value_in kind bytes) else Err record_fault.Number))
    [ true ↦ mapped GivenOnce (one_part n) (value_in kind bytes) (λ v. (refl, tt)) | false ↦ tt ]
by_once kind n (instance i inner) = tt
by_once kind n (multi r inner) = tt
by_once kind n (single r bytes) = tt

lone_part_once : (kind : ValueKind) (n : ℕ) (nodes : Trees) → If GivenOnce (lone_part kind n nodes)
lone_part_once kind n none = tt
lone_part_once kind n (more t none) = told_if GivenOnce 1 (number_in t) (part_by kind n t) (by_once kind n t)
lone_part_once kind n (more t (more u nodes)) = tt

part_once_in : (d : ResourceDef) (n : ℕ) (nodes : Trees) → If GivenOnce (part_record d n nodes)
part_once_in d n none = tt
part_once_in d n (more (multi r inner) none) =
    elim (r == d.id) as
    (λ b. If GivenOnce (if b then lone_part d.kind n inner else Err (fault.Record 1 r record_fault.Number)))
    [ true ↦ lone_part_once d.kind n inner | false ↦ tt ]
part_once_in d n (more (multi r inner) (more u nodes)) = tt
part_once_in d n (more (part m bytes) nodes) = lone_part_once d.kind n (more (part m bytes) nodes)
part_once_in d n (more (instance i inner) nodes) = lone_part_once d.kind n (more (instance i inner) nodes)
part_once_in d n (more (single r bytes) nodes) = lone_part_once d.kind n (more (single r bytes) nodes)

part_once_by : (d : ResourceDef) (n : ℕ) (format : Format) (payload : List ℕ)
    → If GivenOnce (part_given d n format payload)
part_once_by d n PlainText payload =
    mapped GivenOnce (one_part n) (whole_value d.kind payload (value_of_text d.kind payload)) (λ v. (refl, tt))
part_once_by d n OctetStream payload =
    mapped GivenOnce (one_part n) (whole_value d.kind payload (value_of_bytes d.kind payload)) (λ v. (refl, tt))
part_once_by d n Tlv payload = then_if GivenOnce (part_record d n) (records_in payload) (part_once_in d n)

pub resource_once : (d : ResourceDef) (format : Format) (payload : List ℕ) (given : Given)
    → resource_given d format payload ≡ Ok given → GivenOnce given
resource_once d format payload given e =
    there GivenOnce (resource_given d format payload) given (resource_once_by d format payload) e

pub part_given_once : (d : ResourceDef) (n : ℕ) (format : Format) (payload : List ℕ) (given : Given)
    → part_given d n format payload ≡ Ok given → GivenOnce given
part_given_once d n format payload given e =
    there GivenOnce (part_given d n format payload) given (part_once_by d n format payload) e

-- ---- an instance

abbrev assignment_key : Assignment → ℕ
assignment_key a = a.resource

abbrev AssignedOf : Trees → List Assignment → Type 0
AssignedOf nodes given = Numbered assignment_key nodes given × EachOnce given

-- what a record gives, it gives once to the resource of its number
abbrev IsOf : ℕ → Assignment → Type 0
IsOf n a = (a.resource ≡ n) × GivenOnce a.given

assigned_at : (purpose : Purpose) (node : Tree) (d : ResourceDef) (b : Bool)
    → If (IsOf d.id) (if b then result_map (λ g. record { resource = d.id; given = g }) (given_by d node)
    else Err (record_fault.Operations d.ops))
assigned_at purpose node d true =
    map_if GivenOnce (IsOf d.id) (λ g. record { resource = d.id; given = g }) (given_by d node) (λ g h. (refl, h))
    (given_once d node)
assigned_at purpose node d false = tt

assigned_once : (purpose : Purpose) (resources : List ResourceDef) (node : Tree) (n : ℕ)
    → If (IsOf n) (assigned_as purpose node (resource_in resources n))
assigned_once purpose [] node n = tt
assigned_once purpose (d ∷ resources) node n =
    elim (d.id == n) as
    (λ b. (d.id == n) ≡ b → If (IsOf n) (assigned_as purpose node (cond b (Some d) (resource_in resources n)))) [
      | true ↦ λ e. weaker (IsOf d.id) (IsOf n) (assigned_as purpose node (Some d))
          (λ a h. (h.0 ∙ eqb-true d.id n e, h.1)) (assigned_at purpose node d (may_be_given purpose d.ops))
      | false ↦ λ e. assigned_once purpose resources node n
    ] refl

abbrev IsNewOnce : Tree → Trees → Assignment → Type 0
IsNewOnce node nodes a = IsNew node nodes a.resource × GivenOnce a.given

record_once : (purpose : Purpose) (resources : List ResourceDef) (place : ℕ) (node : Tree) (nodes : Trees)
    → If (IsNewOnce node nodes) (record_in purpose resources place node nodes)
record_once purpose resources place node nodes =
    let given = assigned_by purpose resources node in
    let twice = has_number (number_in node) nodes in
    told_if (IsNewOnce node nodes) place (number_in node) (unless twice record_fault.Twice given)
    (unless_if (IsNewOnce node nodes) twice record_fault.Twice given
    (weaker (IsOf (number_in node)) (λ a. twice ≡ false → IsNewOnce node nodes a) given
    (λ a h none. ((h.0, ap (λ n. has_number n nodes) h.0 ∙ none), h.1))
    (assigned_once purpose resources node (number_in node))))

pub record_new : (purpose : Purpose) (resources : List ResourceDef) (place : ℕ) (node : Tree) (nodes : Trees)
    (a : Assignment) → record_in purpose resources place node nodes ≡ Ok a → IsNew node nodes a.resource
record_new purpose resources place node nodes a e =
    (there (IsNewOnce node nodes) (record_in purpose resources place node nodes) a
    (record_once purpose resources place node nodes) e).0

assigned_from : (place : ℕ) (purpose : Purpose) (resources : List ResourceDef) (nodes : Trees)
    → If (AssignedOf nodes) (assignments_from place purpose resources nodes)
assigned_from place purpose resources none = ((λ n h. refl), tt)
assigned_from place purpose resources (more node nodes) =
    before_if (IsNewOnce node nodes) (AssignedOf nodes) (AssignedOf (more node nodes))
    (λ a given new h. (
      numbered_more assignment_key node nodes a given new.0.0 h.0,
      (h.0 a.resource new.0.1, new.1, h.1),
    ))
    (record_in purpose resources place node nodes) (assignments_from (place + 1) purpose resources nodes)
    (record_once purpose resources place node nodes) (assigned_from (place + 1) purpose resources nodes)

each_once : (purpose : Purpose) (resources : List ResourceDef) (nodes : Trees)
    → If EachOnce (assignments purpose resources nodes)
each_once purpose resources nodes =
    weaker (AssignedOf nodes) EachOnce (assignments purpose resources nodes) (λ given h. h.1)
    (assigned_from 1 purpose resources nodes)

pub instance_once : (resources : List ResourceDef) (i : ℕ) (payload : List ℕ) (given : List Assignment)
    → instance_given resources i payload ≡ Ok given → EachOnce given
instance_once resources i payload given e =
    there EachOnce (instance_given resources i payload) given
    (then_if EachOnce (assignments Write resources) (result_and_then (content_of i) (records_in payload))
    (each_once Write resources)) e

-- ---- a new instance

abbrev NewOnce : Creation → Type 0
NewOnce creation = EachOnce creation.assigned

lacking_once : (lacking : Option ResourceDef) (creation : Creation) → NewOnce creation
    → If NewOnce (unless_lacking lacking creation)
lacking_once None creation h = h
lacking_once (Some d) creation h = tt

complete_once : (resources : List ResourceDef) (number : Option ℕ) (nodes : Trees)
    → If NewOnce (result_and_then (complete resources number) (assignments Create resources nodes))
complete_once resources number nodes =
    then_from EachOnce NewOnce (complete resources number) (assignments Create resources nodes)
    (λ given h. lacking_once (find (is_lacking given) resources) (record { number = number; assigned = given }) h)
    (each_once Create resources nodes)

creation_once_in : (resources : List ResourceDef) (nodes : Trees) → If NewOnce (creation_in resources nodes)
creation_once_in resources none = complete_once resources None none
creation_once_in resources (more (instance i inner) none) = complete_once resources (Some i) inner
creation_once_in resources (more (instance i inner) (more t nodes)) =
    complete_once resources None (more (instance i inner) (more t nodes))
creation_once_in resources (more (multi r inner) nodes) = complete_once resources None (more (multi r inner) nodes)
creation_once_in resources (more (part n bytes) nodes) = complete_once resources None (more (part n bytes) nodes)
creation_once_in resources (more (single r bytes) nodes) = complete_once resources None (more (single r bytes) nodes)

pub creation_once : (resources : List ResourceDef) (payload : List ℕ) (creation : Creation)
    → creation_given resources payload ≡ Ok creation → EachOnce creation.assigned
creation_once resources payload creation e =
    there NewOnce (creation_given resources payload) creation
    (then_if NewOnce (creation_in resources) (records_in payload) (creation_once_in resources)) e
