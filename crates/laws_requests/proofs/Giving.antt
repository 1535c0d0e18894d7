-- What payloads give to resources is what the grammar of their records says.
use Rattle.std.proofs.Common.{◌≡◌, ◌≢◌, inl, inr, ℕ, ◌+◌, ◌==◌, Bool, true, false, ◌||◌, List, [], ◌∷◌, length}
use Rattle.std.proofs.Common.{Option, None, Some, Result, Ok, Err, ok_or, option_map, refl, sym, ap, subst, ◌∙◌}
use Rattle.std.specs.Bool.{if◌then◌else◌}
use Rattle.std.specs.List.{list_any}
use Rattle.std.proofs.lemmas.Bool.{ne_eqb, eqb-true, false_from_ne_true, both_ways}
use Rattle.lemmas.proofs.Numbers.{eqb_itself}
use Rattle.lemmas.proofs.Options.{option_map_parts}
use Rattle.lwm2m_values.specs.Reading.{value_of_bytes, value_of_text}
use Rattle.lwm2m_values.specs.Tlv.{IsTlv}
use Rattle.lwm2m_values.specs.Tree.{Tree, Trees, instance, multi, part, single, none, more}
use Rattle.lwm2m_values.specs.declared.kind.ValueKind.{ValueKind}
use Rattle.lwm2m_values.specs.declared.value.Value.{Value}
use Rattle.lwm2m_values.proofs.BytesReading.{value_of_bytes_exact}
use Rattle.lwm2m_values.proofs.TextReading.{value_of_text_exact}
use Rattle.object_defs.specs.Catalog.{resource_in}
use Rattle.object_defs.specs.Operations.{can_write}
use Rattle.object_defs.specs.declared.definition.Ops.{Ops}
use Rattle.object_defs.specs.declared.definition.Ops.TheVariants.{R, W, RW, E}
use Rattle.object_defs.specs.declared.definition.ResourceDef.{ResourceDef}
use Rattle.lwm2m_payloads.specs.Given.{assigned_as, assigned_by, assignments, assignments_from, at_record, before}
use Rattle.lwm2m_payloads.specs.Given.{content_of, given_by, has_number, instance_given, lone_record, may_be_given}
use Rattle.lwm2m_payloads.specs.Given.{number_in, part_in, parts_given, record_in, records_in, resource_given}
use Rattle.lwm2m_payloads.specs.Given.{some_parts, unless, value_in, whole_value}
use Rattle.lwm2m_payloads.specs.PartList.{PartList}
use Rattle.lwm2m_payloads.specs.Results.{result_and_then, result_map}
use Rattle.lwm2m_payloads.specs.declared.fault.PayloadFault.{PayloadFault}
use Rattle.lwm2m_payloads.specs.declared.fault.PayloadFault.TheVariants as payload_fault
use Rattle.lwm2m_payloads.specs.declared.fault.RecordFault.{RecordFault}
use Rattle.lwm2m_payloads.specs.declared.fault.RecordFault.TheVariants as fault
use Rattle.lwm2m_payloads.specs.declared.fault.RecordFault.TheVariants.{Empty, Form, Operations, PartTwice, Twice}
use Rattle.lwm2m_payloads.specs.declared.format.Format.{Format}
use Rattle.lwm2m_payloads.specs.declared.format.Format.TheVariants.{PlainText, OctetStream, Tlv}
use Rattle.lwm2m_payloads.specs.declared.given.Assignment.{Assignment}
use Rattle.lwm2m_payloads.specs.declared.given.Given.{Given}
use Rattle.lwm2m_payloads.specs.declared.given.Given.TheVariants.{Single, Parts}
use Rattle.lwm2m_payloads.specs.declared.given.Purpose.{Purpose}
use Rattle.lwm2m_payloads.specs.declared.given.Purpose.TheVariants.{Write, Create}
use Rattle.device_requests.specs.Laws.{IsAmong}
use Rattle.device_requests.proofs.Among.{any_found, among-any}
use Rattle.laws_requests.specs.Instances.{IsNamedIn}
use Rattle.laws_requests.specs.Multiples.{HasPart}
use Rattle.laws_requests.specs.Payloads.{RecordsGive, GiveParts, GivesInstance}
use Rattle.laws_requests.specs.Payloads.{GivesResource, GivesTo, InstancesAreGiven, IsOpenTo}
use Rattle.laws_requests.specs.Payloads.{OtherInstanceGivesNothing, ResourcesAreGiven, by_bytes}
use Rattle.laws_requests.specs.Payloads.{by_instance, by_record, by_records, by_text, gives_parts, gives_value, no_part}
use Rattle.laws_requests.specs.Payloads.{no_record, one_part_more, one_record_more}
use Rattle.laws_requests.proofs.Among.{found}
use Rattle.laws_requests.proofs.Results.{are_records, at_record_parts, before_parts, ok_or_parts, records_are}
use Rattle.laws_requests.proofs.Results.{result_and_then_parts, result_map_parts, unless_ok, unless_parts, where_ok}

-- ---- a number that is given, or not

any_part : (ps : PartList) (n : ℕ) → list_any (λ p. p.0 == n) ps ≡ true → HasPart ps n
any_part ps n h =
    let f = any_found (λ (p : ℕ × Value). p.0 == n) ps h in
    let is : n ≡ f.0.0 = sym (eqb-true f.0.0 n f.2) in
    (f.0.1, subst (λ (k : ℕ). IsAmong (k, f.0.1) ps) (sym is) f.1)

part_any : (ps : PartList) (n : ℕ) → HasPart ps n → list_any (λ p. p.0 == n) ps ≡ true
part_any ps n h = among-any (λ (p : ℕ × Value). p.0 == n) (n, h.0) ps h.1 (eqb_itself n)

pub any_named : (given : List Assignment) (r : ℕ) → list_any (λ b. b.resource == r) given ≡ true → IsNamedIn given r
any_named given r h =
    let f = any_found (λ (b : Assignment). b.resource == r) given h in
    let is : f.0.resource ≡ r = eqb-true f.0.resource r f.2 in
    (f.0.given, subst (λ (k : ℕ). IsAmong (record { resource = k; given = f.0.given }) given) is f.1)

pub named_any : (given : List Assignment) (r : ℕ) → IsNamedIn given r → list_any (λ b. b.resource == r) given ≡ true
named_any given r h =
    among-any (λ (b : Assignment). b.resource == r) (record { resource = r; given = h.0 }) given h.1 (eqb_itself r)

-- ---- parts

-- the numbers of the parts are those of the records
part_numbers : (kind : ValueKind) (nodes : Trees) (ps : PartList) → GiveParts kind nodes ps → (n : ℕ)
    → has_number n nodes ≡ list_any (λ p. p.0 == n) ps
part_numbers kind nodes ps no_part n = refl
part_numbers kind nodes ps (one_part_more m bytes v rest others is never more_of) n =
    ap (λ (b : Bool). m == n || b) (part_numbers kind rest others more_of n)

parts_give : (kind : ValueKind) (nodes : Trees) (ps : PartList) → parts_given kind nodes ≡ Ok ps
    → GiveParts kind nodes ps
parts_give kind none ps h = let is : [] ≡ ps = cc in subst (GiveParts kind none) is no_part
parts_give kind (more (part n bytes) rest) ps h =
    let pair : Value → ℕ × Value = λ v. (n, v) in
    let m = before_parts (part_in kind (part n bytes) rest) (parts_given kind rest) ps h in
    let u = unless_parts (has_number n rest) (PartTwice n)
    (ok_or (option_map pair (value_of_bytes kind bytes)) (fault.Part n kind (length bytes))) m.first m.first_is in
    let v = option_map_parts pair (value_of_bytes kind bytes) m.first
    (ok_or_parts (option_map pair (value_of_bytes kind bytes)) (fault.Part n kind (length bytes)) m.first u.1) in
    let more_of = parts_give kind rest m.others m.others_are in
    subst (GiveParts kind (more (part n bytes) rest)) ((λ j. v.2 j ∷ m.others) ∙ m.are)
    (one_part_more n bytes v.0 rest m.others ((value_of_bytes_exact kind v.0 bytes).0 v.1)
    (λ k. both_ways (list_any (λ p. p.0 == n) m.others) (sym (part_numbers kind rest m.others more_of n) ∙ u.0)
    (part_any m.others n k))
    more_of)
parts_give kind (more (instance i inner) rest) ps h = cc
parts_give kind (more (multi r inner) rest) ps h = cc
parts_give kind (more (single r bytes) rest) ps h = cc

give_parts : (kind : ValueKind) (nodes : Trees) (ps : PartList) → GiveParts kind nodes ps
    → parts_given kind nodes ≡ Ok ps
give_parts kind nodes ps no_part = refl
give_parts kind nodes ps (one_part_more n bytes v rest others is never more_of) =
    let once : has_number n rest ≡ false =
    part_numbers kind rest others more_of n
    ∙ false_from_ne_true (list_any (λ p. p.0 == n) others) (λ k. never (any_part others n k)) in
    ap (λ (o : Option Value). before (unless (has_number n rest) (PartTwice n)
    (ok_or (option_map (λ w. (n, w)) o) (fault.Part n kind (length bytes)))) (parts_given kind rest))
    ((value_of_bytes_exact kind v bytes).1 is)
    ∙ ap (λ (b : Bool). before (unless b (PartTwice n) (Ok (n, v))) (parts_given kind rest)) once
    ∙ ap (before (Ok (n, v))) (give_parts kind rest others more_of)

-- ---- a record of a resource

some_part : (kind : ValueKind) (nodes : Trees) (ps : PartList) → GiveParts kind nodes ps → (node : Tree) (rest : Trees)
    → nodes ≡ more node rest → ps ≢ []
some_part kind nodes ps no_part node rest e = cc
some_part kind nodes ps (one_part_more n bytes v later others is never more_of) node rest e = λ k. cc

some_give : (d : ResourceDef) (inner : Trees) (g : Given) → some_parts d inner ≡ Ok g
    → (ps : PartList) × (GiveParts d.kind inner ps) × (Parts ps ≡ g) × (d.mandatory ≡ true → ps ≢ [])
some_give d none g h =
    let u = unless_ok d.mandatory (Ok (Parts [])) Empty g h in
    ([], no_part, (let k = u.1 in cc), λ m e. both_ways d.mandatory u.0 m)
some_give d (more node rest) g h =
    let m = result_map_parts Parts (parts_given d.kind (more node rest)) g h in
    let give = parts_give d.kind (more node rest) m.0 m.1 in
    (m.0, give, m.2, λ k. some_part d.kind (more node rest) m.0 give node rest refl)

give_some : (d : ResourceDef) (inner : Trees) (ps : PartList) → GiveParts d.kind inner ps
    → (d.mandatory ≡ true → ps ≢ []) → some_parts d inner ≡ Ok (Parts ps)
give_some d inner ps no_part h =
    ap (λ (b : Bool). if b then Err Empty else Ok (Parts [])) (false_from_ne_true d.mandatory (λ k. h k refl))
give_some d inner ps (one_part_more n bytes v rest others is never more_of) h =
    ap (result_map Parts)
    (give_parts d.kind (more (part n bytes) rest) ((n, v) ∷ others)
    (one_part_more n bytes v rest others is never more_of))

record_gives : (d : ResourceDef) (node : Tree) (g : Given) → number_in node ≡ d.id → given_by d node ≡ Ok g
    → GivesTo d node g
record_gives d (single r bytes) g is h =
    let u = unless_ok d.multiple (result_map Single (value_in d.kind bytes)) Form g h in
    let m = result_map_parts Single (value_in d.kind bytes) g u.1 in
    let v = ok_or_parts (value_of_bytes d.kind bytes) (fault.Value d.kind (length bytes)) m.0 m.1 in
    subst (λ (t : Tree × Given). GivesTo d t.0 t.1) (λ j. (single (sym is j) bytes, m.2 j))
    (gives_value bytes m.0 u.0 ((value_of_bytes_exact d.kind m.0 bytes).0 v))
record_gives d (multi r inner) g is h =
    let u = where_ok d.multiple (some_parts d inner) Form g h in
    let m = some_give d inner g u.1 in
    subst (λ (t : Tree × Given). GivesTo d t.0 t.1) (λ j. (multi (sym is j) inner, m.2 j))
    (gives_parts inner m.0 u.0 m.1 m.3)
record_gives d (part n bytes) g is h = cc
record_gives d (instance i inner) g is h = cc

gives_number : (d : ResourceDef) (node : Tree) (g : Given) → GivesTo d node g → number_in node ≡ d.id
gives_number d node g (gives_value bytes v one is) = refl
gives_number d node g (gives_parts inner ps many are some) = refl

gives_record : (d : ResourceDef) (node : Tree) (g : Given) → GivesTo d node g → given_by d node ≡ Ok g
gives_record d node g (gives_value bytes v one is) =
    ap (λ (b : Bool). if b then Err Form else result_map Single (value_in d.kind bytes)) one
    ∙ ap (λ (o : Option Value). result_map Single (ok_or o (fault.Value d.kind (length bytes))))
    ((value_of_bytes_exact d.kind v bytes).1 is)
gives_record d node g (gives_parts inner ps many are some) =
    ap (λ (b : Bool). if b then some_parts d inner else Err Form) many ∙ give_some d inner ps are some

-- ---- the records of an instance

open_to : (purpose : Purpose) (ops : Ops) → may_be_given purpose ops ≡ true → IsOpenTo purpose ops
open_to Write R h = cc
open_to Write W h = inl refl
open_to Write RW h = inr refl
open_to Write E h = cc
open_to Create R h = λ e. cc
open_to Create W h = λ e. cc
open_to Create RW h = λ e. cc
open_to Create E h = cc

may_give : (purpose : Purpose) (ops : Ops) → IsOpenTo purpose ops → may_be_given purpose ops ≡ true
may_give Write ops (inl is) = ap can_write is
may_give Write ops (inr is) = ap can_write is
may_give Create R h = refl
may_give Create W h = refl
may_give Create RW h = refl
may_give Create E h = absurd (h refl)

abbrev assign : ℕ → Given → Assignment
assign r g = record { resource = r; given = g }

record IsAssigned (purpose : Purpose) (node : Tree) (definition : Option ResourceDef) (a : Assignment) : Type 0 where
  d : ResourceDef
  given : Given
  definition_is : definition ≡ Some d
  may : may_be_given purpose d.ops ≡ true
  gives : given_by d node ≡ Ok given
  is : record { resource = d.id; given = given } ≡ a

is_assigned : (purpose : Purpose) (node : Tree) (definition : Option ResourceDef) (a : Assignment)
    → assigned_as purpose node definition ≡ Ok a → IsAssigned purpose node definition a
is_assigned purpose node None a h = cc
is_assigned purpose node (Some d) a h =
    let to = assign d.id in
    let u = where_ok (may_be_given purpose d.ops) (result_map to (given_by d node)) (Operations d.ops) a h in
    let m = result_map_parts to (given_by d node) a u.1 in
    record { d = d; given = m.0; definition_is = refl; may = u.0; gives = m.1; is = m.2 }

-- the numbers of the resources are those of the records
record_numbers : (purpose : Purpose) (resources : List ResourceDef) (nodes : Trees) (given : List Assignment)
    → RecordsGive purpose resources nodes given → (n : ℕ)
    → has_number n nodes ≡ list_any (λ b. b.resource == n) given
record_numbers purpose resources nodes given no_record n = refl
record_numbers purpose resources nodes given (one_record_more d node g rest others is_defined may gives never more_of)
    n =
    (λ j. gives_number d node g gives j == n || record_numbers purpose resources rest others more_of n j)

all_give_from : (purpose : Purpose) (resources : List ResourceDef) (place : ℕ) (nodes : Trees)
    (given : List Assignment) → assignments_from place purpose resources nodes ≡ Ok given
    → RecordsGive purpose resources nodes given
all_give_from purpose resources place none given h =
    let is : [] ≡ given = cc in subst (RecordsGive purpose resources none) is no_record
all_give_from purpose resources place (more node rest) given h =
    let m = before_parts (record_in purpose resources place node rest)
    (assignments_from (place + 1) purpose resources rest) given h in
    let twice = has_number (number_in node) rest in
    let u = unless_parts twice Twice (assigned_by purpose resources node) m.first
    (at_record_parts place (number_in node) (unless twice Twice (assigned_by purpose resources node)) m.first
    m.first_is) in
    let a = is_assigned purpose node (resource_in resources (number_in node)) m.first u.1 in
    let f = found (λ (d : ResourceDef). d.id == number_in node) a.d resources a.definition_is in
    let number : number_in node ≡ a.d.id = sym (eqb-true a.d.id (number_in node) f.1) in
    let more_of = all_give_from purpose resources (place + 1) rest m.others m.others_are in
    let once : list_any (λ b. b.resource == a.d.id) m.others ≡ false =
    sym (record_numbers purpose resources rest m.others more_of a.d.id)
    ∙ ap (λ (n : ℕ). has_number n rest) (sym number) ∙ u.0 in
    subst (RecordsGive purpose resources (more node rest)) ((λ j. a.is j ∷ m.others) ∙ m.are)
    (one_record_more a.d node a.given rest m.others (ap (resource_in resources) (sym number) ∙ a.definition_is)
    (open_to purpose a.d.ops a.may) (record_gives a.d node a.given number a.gives)
    (λ k. both_ways (list_any (λ b. b.resource == a.d.id) m.others) once (named_any m.others a.d.id k))
    more_of)

pub all_give : (purpose : Purpose) (resources : List ResourceDef) (nodes : Trees) (given : List Assignment)
    → assignments purpose resources nodes ≡ Ok given → RecordsGive purpose resources nodes given
all_give purpose resources nodes given h = all_give_from purpose resources 1 nodes given h

give_all_from : (purpose : Purpose) (resources : List ResourceDef) (place : ℕ) (nodes : Trees)
    (given : List Assignment) → RecordsGive purpose resources nodes given
    → assignments_from place purpose resources nodes ≡ Ok given
give_all_from purpose resources place nodes given no_record = refl
give_all_from purpose resources place nodes given
    (one_record_more d node g rest others is_defined may gives never more_of) =
    let to = assign d.id in
    let assigned : assigned_by purpose resources node ≡ Ok (to g) =
    ap (λ (n : ℕ). assigned_as purpose node (resource_in resources n)) (gives_number d node g gives)
    ∙ ap (assigned_as purpose node) is_defined
    ∙ ap (λ (b : Bool). if b then result_map to (given_by d node) else Err (Operations d.ops))
    (may_give purpose d.ops may)
    ∙ ap (result_map to) (gives_record d node g gives) in
    let once : has_number (number_in node) rest ≡ false =
    ap (λ (n : ℕ). has_number n rest) (gives_number d node g gives)
    ∙ record_numbers purpose resources rest others more_of d.id
    ∙ false_from_ne_true (list_any (λ b. b.resource == d.id) others) (λ k. never (any_named others d.id k)) in
    let later = assignments_from (place + 1) purpose resources rest in
    ap (λ (r : Result Assignment RecordFault). before (at_record place (number_in node)
    (unless (has_number (number_in node) rest) Twice r)) later) assigned
    ∙ ap (λ (b : Bool). before (at_record place (number_in node) (unless b Twice (Ok (to g)))) later) once
    ∙ ap (before (Ok (to g))) (give_all_from purpose resources (place + 1) rest others more_of)

pub give_all : (purpose : Purpose) (resources : List ResourceDef) (nodes : Trees) (given : List Assignment)
    → RecordsGive purpose resources nodes given → assignments purpose resources nodes ≡ Ok given
give_all purpose resources nodes given h = give_all_from purpose resources 1 nodes given h

-- an Object Instance gives nothing

gives_no_instance : (d : ResourceDef) (node : Tree) (g : Given) → GivesTo d node g → (i : ℕ) (inner : Trees)
    → node ≡ instance i inner → ⊥
gives_no_instance d node g (gives_value bytes v one is) i inner e = cc
gives_no_instance d node g (gives_parts inner ps many are some) i within e = cc

pub no_instance : (purpose : Purpose) (resources : List ResourceDef) (nodes : Trees) (given : List Assignment)
    → RecordsGive purpose resources nodes given → (i : ℕ) (inner rest : Trees)
    → nodes ≡ more (instance i inner) rest → ⊥
no_instance purpose resources nodes given no_record i inner rest e = cc
no_instance purpose resources nodes given (one_record_more d node g later others is_defined may gives never more_of) i
    inner rest e =
    let is : node ≡ instance i inner = cc in gives_no_instance d node g gives i inner is

content_alone : (resources : List ResourceDef) (i : ℕ) (nodes : Trees) (given : List Assignment)
    → RecordsGive Write resources nodes given → content_of i nodes ≡ Ok nodes
content_alone resources i none given h = refl
content_alone resources i (more (instance j inner) rest) given h =
    absurd (no_instance Write resources (more (instance j inner) rest) given h j inner rest refl)
content_alone resources i (more (multi r inner) rest) given h = refl
content_alone resources i (more (part n bytes) rest) given h = refl
content_alone resources i (more (single r bytes) rest) given h = refl

-- the content of one Object Instance
abbrev content_if : ℕ → Trees → Bool → Result Trees PayloadFault
content_if j inner b = if b then Ok inner else Err (payload_fault.Record 1 j fault.Number)

instance_from : (resources : List ResourceDef) (i : ℕ) (payload : List ℕ) (given : List Assignment) (nodes : Trees)
    → IsTlv nodes payload → result_and_then (assignments Write resources) (content_of i nodes) ≡ Ok given
    → GivesInstance resources i payload given
instance_from resources i payload given (more (instance j inner) none) tlv h =
    elim (j == i) as (λ b. (j == i) ≡ b → result_and_then (assignments Write resources) (content_if j inner b)
    ≡ Ok given → GivesInstance resources i payload given) [
      | true ↦ λ is k.
          by_instance inner (subst (λ (n : ℕ). IsTlv (more (instance n inner) none) payload) (eqb-true j i is) tlv)
          (all_give Write resources inner given k)
      | false ↦ λ is k. cc
    ] refl h
instance_from resources i payload given nodes tlv h = by_records nodes tlv (all_give Write resources nodes given h)

instance_back : (resources : List ResourceDef) (i : ℕ) (payload : List ℕ) (given : List Assignment)
    → GivesInstance resources i payload given → instance_given resources i payload ≡ Ok given
instance_back resources i payload given (by_records nodes tlv all) =
    ap (λ (r : Result Trees PayloadFault). result_and_then (assignments Write resources)
    (result_and_then (content_of i) r)) (records_are nodes payload tlv)
    ∙ ap (result_and_then (assignments Write resources)) (content_alone resources i nodes given all)
    ∙ give_all Write resources nodes given all
instance_back resources i payload given (by_instance inner tlv all) =
    ap (λ (r : Result Trees PayloadFault). result_and_then (assignments Write resources)
    (result_and_then (content_of i) r)) (records_are (more (instance i inner) none) payload tlv)
    ∙ ap (λ (b : Bool). result_and_then (assignments Write resources) (content_if i inner b)) (eqb_itself i)
    ∙ give_all Write resources inner given all

pub instances_given : InstancesAreGiven
instances_given resources i payload given = (
  λ h.
      let c = result_and_then_parts (assignments Write resources) (result_and_then (content_of i) (records_in payload))
      given h in
      let n = result_and_then_parts (content_of i) (records_in payload) c.0 c.1 in
      instance_from resources i payload given n.0 (are_records n.0 payload n.1)
      (ap (result_and_then (assignments Write resources)) n.2 ∙ c.2),
  instance_back resources i payload given,
)

pub other_refused : OtherInstanceGivesNothing
other_refused resources i j inner payload other tlv =
    ap (λ (r : Result Trees PayloadFault). result_and_then (assignments Write resources)
    (result_and_then (content_of i) r)) (records_are (more (instance j inner) none) payload tlv)
    ∙ ap (λ (b : Bool). result_and_then (assignments Write resources) (content_if j inner b)) (ne_eqb j i other)

-- ---- a resource

lone_gives : (d : ResourceDef) (payload : List ℕ) (nodes : Trees) (g : Given) → IsTlv nodes payload
    → lone_record d nodes ≡ Ok g → GivesResource d Tlv payload g
lone_gives d payload none g tlv h = cc
lone_gives d payload (more node (more next rest)) g tlv h = cc
lone_gives d payload (more node none) g tlv h =
    let b = number_in node == d.id in
    let u = where_ok b (given_by d node) fault.Number g
    (at_record_parts 1 (number_in node) (if b then given_by d node else Err fault.Number) g h) in
    by_record payload node g tlv (record_gives d node g (eqb-true (number_in node) d.id u.0) u.1)

-- a value that the whole payload spells
pub whole_is : (kind : ValueKind) (payload : List ℕ) (value : Option Value) (v : Value)
    → whole_value kind payload value ≡ Ok v → value ≡ Some v
whole_is kind payload value v h = ok_or_parts value (payload_fault.NotValue kind (length payload)) v h

resource_from : (d : ResourceDef) (format : Format) (payload : List ℕ) (g : Given)
    → resource_given d format payload ≡ Ok g → GivesResource d format payload g
resource_from d PlainText payload g h =
    let value = value_of_text d.kind payload in
    let m = result_map_parts Single (whole_value d.kind payload value) g h in
    subst (GivesResource d PlainText payload) m.2
    (by_text payload m.0 ((value_of_text_exact d.kind m.0 payload).0 (whole_is d.kind payload value m.0 m.1)))
resource_from d OctetStream payload g h =
    let value = value_of_bytes d.kind payload in
    let m = result_map_parts Single (whole_value d.kind payload value) g h in
    subst (GivesResource d OctetStream payload) m.2
    (by_bytes payload m.0 ((value_of_bytes_exact d.kind m.0 payload).0 (whole_is d.kind payload value m.0 m.1)))
resource_from d Tlv payload g h =
    let n = result_and_then_parts (lone_record d) (records_in payload) g h in
    lone_gives d payload n.0 g (are_records n.0 payload n.1) n.2

resource_back : (d : ResourceDef) (format : Format) (payload : List ℕ) (g : Given)
    → GivesResource d format payload g → resource_given d format payload ≡ Ok g
resource_back d format payload g (by_text _ v is) =
    ap (λ (o : Option Value). result_map Single (whole_value d.kind payload o))
    ((value_of_text_exact d.kind v payload).1 is)
resource_back d format payload g (by_bytes _ v is) =
    ap (λ (o : Option Value). result_map Single (whole_value d.kind payload o))
    ((value_of_bytes_exact d.kind v payload).1 is)
resource_back d format payload g (by_record _ node _ tlv gives) =
    ap (result_and_then (lone_record d)) (records_are (more node none) payload tlv)
    ∙ ap (λ (b : Bool). at_record 1 (number_in node) (if b then given_by d node else Err fault.Number))
    (ap (λ (n : ℕ). n == d.id) (gives_number d node g gives) ∙ eqb_itself d.id)
    ∙ ap (at_record 1 (number_in node)) (gives_record d node g gives)

pub resources_given : ResourcesAreGiven
resources_given d format payload g = (resource_from d format payload g, resource_back d format payload g)
