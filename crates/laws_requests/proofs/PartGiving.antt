-- What payloads give to a part, and to a new instance, is what the grammar of their records says.
use Rattle.std.proofs.Common.{◌≡◌, ℕ, ◌==◌, Bool, true, false, not, ◌&&◌, List, [], ◌∷◌, length, find}
use Rattle.std.proofs.Common.{Option, None, Some, Result, Ok, Err, ok_or, refl, sym, ap, subst, ◌∙◌}
use Rattle.std.specs.Bool.{if◌then◌else◌}
use Rattle.std.specs.List.{list_any}
use Rattle.std.proofs.lemmas.Bool.{eqb-true, false_from_ne_true, both_ways}
use Rattle.lemmas.proofs.Numbers.{eqb_itself}
use Rattle.lwm2m_values.specs.Reading.{value_of_bytes, value_of_text}
use Rattle.lwm2m_values.specs.Tlv.{IsTlv}
use Rattle.lwm2m_values.specs.Tree.{Tree, Trees, instance, multi, part, single, none, more}
use Rattle.lwm2m_values.specs.declared.kind.ValueKind.{ValueKind}
use Rattle.lwm2m_values.specs.declared.value.Value.{Value}
use Rattle.lwm2m_values.proofs.BytesReading.{value_of_bytes_exact}
use Rattle.lwm2m_values.proofs.TextReading.{value_of_text_exact}
use Rattle.object_defs.specs.Operations.{can_read}
use Rattle.object_defs.specs.declared.definition.ResourceDef.{ResourceDef}
use Rattle.lwm2m_payloads.specs.Given.{assignments, at_record, complete, creation_given, creation_in, is_lacking}
use Rattle.lwm2m_payloads.specs.Given.{lone_part, number_in, one_part, part_by, part_given, part_record, records_in}
use Rattle.lwm2m_payloads.specs.Given.{unless_lacking, value_in, whole_value}
use Rattle.lwm2m_payloads.specs.Results.{result_and_then, result_map}
use Rattle.lwm2m_payloads.specs.declared.fault.PayloadFault.{PayloadFault}
use Rattle.lwm2m_payloads.specs.declared.fault.PayloadFault.TheVariants.{Record}
use Rattle.lwm2m_payloads.specs.declared.fault.RecordFault.TheVariants as record_fault
use Rattle.lwm2m_payloads.specs.declared.fault.RecordFault.TheVariants.{Number}
use Rattle.lwm2m_payloads.specs.declared.format.Format.{Format}
use Rattle.lwm2m_payloads.specs.declared.format.Format.TheVariants.{PlainText, OctetStream, Tlv}
use Rattle.lwm2m_payloads.specs.declared.given.Assignment.{Assignment}
use Rattle.lwm2m_payloads.specs.declared.given.Creation.{Creation}
use Rattle.lwm2m_payloads.specs.declared.given.Given.{Given}
use Rattle.lwm2m_payloads.specs.declared.given.Given.TheVariants.{Parts}
use Rattle.lwm2m_payloads.specs.declared.given.Purpose.TheVariants.{Create}
use Rattle.laws_requests.specs.Payloads.{AreBytesOf, CreationsAreGiven, RecordsGive, GivesCreation}
use Rattle.laws_requests.specs.Payloads.{GivesPart, HasMandatory}
use Rattle.laws_requests.specs.Payloads.{PartsAreGiven}
use Rattle.laws_requests.specs.Payloads.{part_alone, part_by_bytes}
use Rattle.laws_requests.specs.Payloads.{part_by_text, part_in_resource, with_number, without_number}
use Rattle.laws_requests.proofs.Among.{none_found, not_found}
use Rattle.laws_requests.proofs.Giving.{all_give, any_named, give_all, named_any}
use Rattle.laws_requests.proofs.Giving.{no_instance, whole_is}
use Rattle.laws_requests.proofs.Results.{are_records, at_record_parts, ok_or_parts, records_are}
use Rattle.laws_requests.proofs.Results.{result_and_then_parts, result_map_parts, where_ok}

-- ---- a part

abbrev IsPartGiven : ResourceDef → ℕ → Format → List ℕ → Given → Type 0
IsPartGiven d n format payload g = (v : Value) × (g ≡ Parts ((n, v) ∷ [])) × GivesPart d n format payload v

-- the Resource Instance of the number, alone
abbrev IsLone : ValueKind → ℕ → Trees → Given → Type 0
IsLone kind n nodes g =
    (v : Value) × (bytes : List ℕ) × (nodes ≡ more (part n bytes) none) × (value_of_bytes kind bytes ≡ Some v)
    × (g ≡ Parts ((n, v) ∷ []))

part_is : (kind : ValueKind) (n : ℕ) (node : Tree) (g : Given) → part_by kind n node ≡ Ok g
    → IsLone kind n (more node none) g
part_is kind n (part m bytes) g h =
    let u = where_ok (m == n) (result_map (one_part n) (value_in kind bytes)) Number g h in
    let o = result_map_parts (one_part n) (value_in kind bytes) g u.1 in (
      o.0,
      bytes,
      λ j. more (part (eqb-true m n u.0 j) bytes) none,
      ok_or_parts (value_of_bytes kind bytes) (record_fault.Value kind (length bytes)) o.0 o.1,
      sym o.2,
    )
part_is kind n (instance i inner) g h = cc
part_is kind n (multi r inner) g h = cc
part_is kind n (single r bytes) g h = cc

lone_is : (kind : ValueKind) (n : ℕ) (nodes : Trees) (g : Given) → lone_part kind n nodes ≡ Ok g
    → IsLone kind n nodes g
lone_is kind n none g h = cc
lone_is kind n (more node none) g h =
    part_is kind n node g (at_record_parts 1 (number_in node) (part_by kind n node) g h)
lone_is kind n (more node (more next rest)) g h = cc

lone_back : (kind : ValueKind) (n : ℕ) (bytes : List ℕ) (v : Value) → AreBytesOf kind bytes v
    → lone_part kind n (more (part n bytes) none) ≡ Ok (Parts ((n, v) ∷ []))
lone_back kind n bytes v is =
    ap (λ (b : Bool). at_record 1 n (if b then result_map (one_part n) (value_in kind bytes) else Err Number))
    (eqb_itself n)
    ∙ ap (λ (o : Option Value). at_record 1 n (result_map (one_part n)
    (ok_or o (record_fault.Value kind (length bytes))))) ((value_of_bytes_exact kind v bytes).1 is)

part_from_lone : (d : ResourceDef) (n : ℕ) (payload : List ℕ) (nodes : Trees) (g : Given) → IsTlv nodes payload
    → IsLone d.kind n nodes g → IsPartGiven d n Tlv payload g
part_from_lone d n payload nodes g tlv l = (
  l.0,
  l.4,
  part_alone payload l.1 l.0 (subst (λ (t : Trees). IsTlv t payload) l.2 tlv)
      ((value_of_bytes_exact d.kind l.0 l.1).0 l.3),
)

part_from_nodes : (d : ResourceDef) (n : ℕ) (payload : List ℕ) (nodes : Trees) (g : Given) → IsTlv nodes payload
    → part_record d n nodes ≡ Ok g → IsPartGiven d n Tlv payload g
part_from_nodes d n payload (more (multi r inner) none) g tlv h =
    let u = where_ok (r == d.id) (lone_part d.kind n inner) (Record 1 r Number) g h in
    let l = lone_is d.kind n inner g u.1 in
    let same : r ≡ d.id = eqb-true r d.id u.0 in (
      l.0,
      l.4,
      part_in_resource payload l.1 l.0
          (subst (λ (t : Trees). IsTlv t payload) (λ j. more (multi (same j) (l.2 j)) none) tlv)
          ((value_of_bytes_exact d.kind l.0 l.1).0 l.3),
    )
part_from_nodes d n payload nodes g tlv h =
    part_from_lone d n payload nodes g tlv (lone_is d.kind n nodes g h)

part_from : (d : ResourceDef) (n : ℕ) (format : Format) (payload : List ℕ) (g : Given)
    → part_given d n format payload ≡ Ok g → IsPartGiven d n format payload g
part_from d n PlainText payload g h =
    let value = value_of_text d.kind payload in
    let o = result_map_parts (one_part n) (whole_value d.kind payload value) g h in (
      o.0,
      sym o.2,
      part_by_text payload o.0
          ((value_of_text_exact d.kind o.0 payload).0 (whole_is d.kind payload value o.0 o.1)),
    )
part_from d n OctetStream payload g h =
    let value = value_of_bytes d.kind payload in
    let o = result_map_parts (one_part n) (whole_value d.kind payload value) g h in (
      o.0,
      sym o.2,
      part_by_bytes payload o.0
          ((value_of_bytes_exact d.kind o.0 payload).0 (whole_is d.kind payload value o.0 o.1)),
    )
part_from d n Tlv payload g h =
    let m = result_and_then_parts (part_record d n) (records_in payload) g h in
    part_from_nodes d n payload m.0 g (are_records m.0 payload m.1) m.2

part_back : (d : ResourceDef) (n : ℕ) (format : Format) (payload : List ℕ) (v : Value)
    → GivesPart d n format payload v → part_given d n format payload ≡ Ok (Parts ((n, v) ∷ []))
part_back d n format payload v (part_by_text _ _ is) =
    ap (λ (o : Option Value). result_map (one_part n) (whole_value d.kind payload o))
    ((value_of_text_exact d.kind v payload).1 is)
part_back d n format payload v (part_by_bytes _ _ is) =
    ap (λ (o : Option Value). result_map (one_part n) (whole_value d.kind payload o))
    ((value_of_bytes_exact d.kind v payload).1 is)
part_back d n format payload v (part_alone _ bytes _ tlv is) =
    ap (result_and_then (part_record d n)) (records_are (more (part n bytes) none) payload tlv)
    ∙ lone_back d.kind n bytes v is
part_back d n format payload v (part_in_resource _ bytes _ tlv is) =
    let inner = more (part n bytes) none in
    ap (result_and_then (part_record d n)) (records_are (more (multi d.id inner) none) payload tlv)
    ∙ ap (λ (b : Bool). if b then lone_part d.kind n inner else Err (Record 1 d.id Number)) (eqb_itself d.id)
    ∙ lone_back d.kind n bytes v is

pub parts_given_by : PartsAreGiven
parts_given_by d n format payload g = (
  part_from d n format payload g,
  λ h. part_back d n format payload h.0 h.2 ∙ ap Ok (sym h.1),
)

-- ---- a new instance

lacking : (a b c : Bool) → a ≡ true → b ≡ true → (a && (b && not c)) ≡ false → c ≡ true
lacking true true true h k l = refl
lacking true true false h k l = cc
lacking true false c h k l = cc
lacking false b c h k l = cc

lacks : (a b c : Bool) → (a && (b && not c)) ≡ true → (a ≡ true) × (b ≡ true) × (c ≡ false)
lacks true true false h = (refl, refl, refl)
lacks true true true h = cc
lacks true false c h = cc
lacks false b c h = cc

has_mandatory : (resources : List ResourceDef) (given : List Assignment) → find (is_lacking given) resources ≡ None
    → HasMandatory resources given
has_mandatory resources given h d among mandatory readable =
    let never : is_lacking given d ≡ false = none_found (is_lacking given) resources h d among in
    any_named given d.id (lacking d.mandatory (can_read d.ops) (list_any (λ a. a.resource == d.id) given) mandatory
    readable never)

mandatory_has : (resources : List ResourceDef) (given : List Assignment) → HasMandatory resources given
    → find (is_lacking given) resources ≡ None
mandatory_has resources given h =
    not_found (is_lacking given) resources (λ d among. false_from_ne_true (is_lacking given d) (λ k.
    let l = lacks d.mandatory (can_read d.ops) (list_any (λ a. a.resource == d.id) given) k in
    both_ways (list_any (λ a. a.resource == d.id) given) l.2 (named_any given d.id (h d among l.0 l.1))))

record IsComplete (resources : List ResourceDef) (number : Option ℕ) (r : Result (List Assignment) PayloadFault)
    (creation : Creation) : Type 0 where
  given : List Assignment
  given_is : r ≡ Ok given
  has : HasMandatory resources given
  is : record { number = number; assigned = given } ≡ creation

unless_found : (lacking : Option ResourceDef) (made creation : Creation) → unless_lacking lacking made ≡ Ok creation
    → (lacking ≡ None) × (made ≡ creation)
unless_found None made creation h = (refl, cc)
unless_found (Some d) made creation h = cc

is_complete : (resources : List ResourceDef) (number : Option ℕ) (r : Result (List Assignment) PayloadFault)
    (creation : Creation) → result_and_then (complete resources number) r ≡ Ok creation
    → IsComplete resources number r creation
is_complete resources number (Err e) creation h = cc
is_complete resources number (Ok given) creation h =
    let u = unless_found (find (is_lacking given) resources) (record { number = number; assigned = given }) creation h
    in
    record { given = given; given_is = refl; has = has_mandatory resources given u.0; is = u.1 }

complete_is : (resources : List ResourceDef) (number : Option ℕ) (given : List Assignment)
    → HasMandatory resources given
    → complete resources number given ≡ Ok (record { number = number; assigned = given })
complete_is resources number given h =
    ap (λ (lacking : Option ResourceDef). unless_lacking lacking (record { number = number; assigned = given }))
    (mandatory_has resources given h)

without_instance : (resources : List ResourceDef) (payload : List ℕ) (nodes : Trees) (creation : Creation)
    → IsTlv nodes payload
    → result_and_then (complete resources None) (assignments Create resources nodes) ≡ Ok creation
    → GivesCreation resources payload creation
without_instance resources payload nodes creation tlv h =
    let c = is_complete resources None (assignments Create resources nodes) creation h in
    subst (GivesCreation resources payload) c.is
    (without_number nodes c.given tlv (all_give Create resources nodes c.given c.given_is) c.has)

creation_from : (resources : List ResourceDef) (payload : List ℕ) (nodes : Trees) (creation : Creation)
    → IsTlv nodes payload → creation_in resources nodes ≡ Ok creation → GivesCreation resources payload creation
creation_from resources payload (more (instance i inner) none) creation tlv h =
    let c = is_complete resources (Some i) (assignments Create resources inner) creation h in
    subst (GivesCreation resources payload) c.is
    (with_number i inner c.given tlv (all_give Create resources inner c.given c.given_is) c.has)
creation_from resources payload nodes creation tlv h = without_instance resources payload nodes creation tlv h

creation_alone : (resources : List ResourceDef) (nodes : Trees) (given : List Assignment)
    → RecordsGive Create resources nodes given
    → creation_in resources nodes
    ≡ result_and_then (complete resources None) (assignments Create resources nodes)
creation_alone resources none given h = refl
creation_alone resources (more (instance j inner) rest) given h =
    absurd (no_instance Create resources (more (instance j inner) rest) given h j inner rest refl)
creation_alone resources (more (multi r inner) rest) given h = refl
creation_alone resources (more (part n bytes) rest) given h = refl
creation_alone resources (more (single r bytes) rest) given h = refl

creation_back : (resources : List ResourceDef) (payload : List ℕ) (creation : Creation)
    → GivesCreation resources payload creation → creation_given resources payload ≡ Ok creation
creation_back resources payload creation (with_number i inner given tlv all has) =
    ap (result_and_then (creation_in resources)) (records_are (more (instance i inner) none) payload tlv)
    ∙ ap (result_and_then (complete resources (Some i))) (give_all Create resources inner given all)
    ∙ complete_is resources (Some i) given has
creation_back resources payload creation (without_number nodes given tlv all has) =
    ap (result_and_then (creation_in resources)) (records_are nodes payload tlv)
    ∙ creation_alone resources nodes given all
    ∙ ap (result_and_then (complete resources None)) (give_all Create resources nodes given all)
    ∙ complete_is resources None given has

pub creations_given : CreationsAreGiven
creations_given resources payload creation = (
  λ h.
      let m = result_and_then_parts (creation_in resources) (records_in payload) creation h in
      creation_from resources payload m.0 creation (are_records m.0 payload m.1) m.2,
  creation_back resources payload creation,
)
