-- What the payload of a Write or a Create gives to resources, or why it gives nothing (OMA LwM2M 1.1 Core, data
-- formats). Records are counted from 1; of those at fault the first is told.
use Rattle.std.specs.Prelude.{ℕ, ◌+◌, ◌==◌, Bool, false, not, ◌&&◌, ◌||◌, List, [], ◌∷◌, length, find, Option}
use Rattle.std.specs.Prelude.{None, Some, option_map, Result, Ok, Err, ok_or, if◌then◌else◌}
use Rattle.std.specs.List.{list_any}
use Rattle.lwm2m_values.specs.declared.kind.ValueKind.{ValueKind}
use Rattle.lwm2m_values.specs.declared.value.Value.{Value}
use Rattle.lwm2m_values.specs.Reading.{value_of_text, value_of_bytes, nodes_of_bytes}
use Rattle.lwm2m_values.specs.Tree.{Tree, Trees, instance, multi, part, single, none, more}
use Rattle.object_defs.specs.Catalog.{resource_in}
use Rattle.object_defs.specs.Operations.{can_read, can_write, can_execute}
use Rattle.object_defs.specs.declared.definition.Ops.{Ops}
use Rattle.object_defs.specs.declared.definition.ResourceDef.{ResourceDef}
use Rattle.lwm2m_payloads.specs.declared.fault.PayloadFault.{PayloadFault}
use Rattle.lwm2m_payloads.specs.declared.fault.PayloadFault.TheVariants as fault
use Rattle.lwm2m_payloads.specs.declared.fault.RecordFault.{RecordFault}
use Rattle.lwm2m_payloads.specs.declared.fault.RecordFault.TheVariants as record_fault
use Rattle.lwm2m_payloads.specs.declared.format.Format.{Format}
use Rattle.lwm2m_payloads.specs.declared.format.Format.TheVariants.{PlainText, OctetStream, Tlv}
use Rattle.lwm2m_payloads.specs.declared.given.Assignment.{Assignment}
use Rattle.lwm2m_payloads.specs.declared.given.Creation.{Creation}
use Rattle.lwm2m_payloads.specs.declared.given.Given.{Given}
use Rattle.lwm2m_payloads.specs.declared.given.Given.TheVariants.{Single, Parts}
use Rattle.lwm2m_payloads.specs.declared.given.Purpose.{Purpose}
use Rattle.lwm2m_payloads.specs.declared.given.Purpose.TheVariants.{Write, Create}
use Rattle.lwm2m_payloads.specs.PartList.{PartList}
use Rattle.lwm2m_payloads.specs.Results.{result_map, result_map_err, result_and_then}

-- ---- one after the other

-- the first, and the others; the first fault, where there is one
abbrev pub before : {A E : Type 0} → Result A E → Result (List A) E → Result (List A) E
before (Ok a) others = result_map (λ xs. a ∷ xs) others
before (Err e) others = Err e

-- what else is valid is refused with this fault, where the test holds
abbrev pub unless : {A E : Type 0} → Bool → E → Result A E → Result A E
unless test e (Ok a) = if test then Err e else Ok a
unless test e (Err f) = Err f

-- ---- records

abbrev pub number_in : Tree → ℕ
number_in (instance i inner) = i
number_in (multi r inner) = r
number_in (part n bytes) = n
number_in (single r bytes) = r

-- how many records there are
abbrev pub count_of : Trees → ℕ
count_of none = 0
count_of (more node nodes) = 1 + count_of nodes

-- a record of this number is among these
abbrev pub has_number : ℕ → Trees → Bool
has_number n none = false
has_number n (more node nodes) = number_in node == n || has_number n nodes

-- the value of this kind with a record's bytes
abbrev pub value_in : ValueKind → List ℕ → Result Value RecordFault
value_in kind bytes = ok_or (value_of_bytes kind bytes) (record_fault.Value kind (length bytes))

-- a part of a Multiple Resource, before the others: a Resource Instance with a value of the kind, and with a number
-- that none of the others has
abbrev pub part_in : ValueKind → Tree → Trees → Result (ℕ × Value) RecordFault
part_in kind (part n bytes) others =
    unless (has_number n others) (record_fault.PartTwice n)
    (ok_or (option_map (λ v. (n, v)) (value_of_bytes kind bytes)) (record_fault.Part n kind (length bytes)))
part_in kind (instance i inner) others = Err record_fault.Form
part_in kind (multi r inner) others = Err record_fault.Form
part_in kind (single r bytes) others = Err record_fault.Form

-- the parts of a Multiple Resource
abbrev pub parts_given : ValueKind → Trees → Result PartList RecordFault
parts_given kind none = Ok []
parts_given kind (more node nodes) = before (part_in kind node nodes) (parts_given kind nodes)

-- a mandatory resource is given one part at least
abbrev pub some_parts : ResourceDef → Trees → Result Given RecordFault
some_parts d none = if d.mandatory then Err record_fault.Empty else Ok (Parts [])
some_parts d (more node nodes) = result_map Parts (parts_given d.kind (more node nodes))

-- what a record gives to the resource of this definition: a Resource to a single one, a Multiple Resource to a multiple
-- one
abbrev pub given_by : ResourceDef → Tree → Result Given RecordFault
given_by d (single r bytes) = if d.multiple then Err record_fault.Form else result_map Single (value_in d.kind bytes)
given_by d (multi r inner) = if d.multiple then some_parts d inner else Err record_fault.Form
given_by d (instance i inner) = Err record_fault.Form
given_by d (part n bytes) = Err record_fault.Form

-- a fault of the record of this place and number
abbrev pub at_record : {A : Type 0} → ℕ → ℕ → Result A RecordFault → Result A PayloadFault
at_record place number r = result_map_err (λ why. fault.Record place number why) r

-- ---- records of an instance

-- a Write gives to writable resources, a Create to all but the executable ones
abbrev pub may_be_given : Purpose → Ops → Bool
may_be_given Write ops = can_write ops
may_be_given Create ops = not (can_execute ops)

abbrev pub assigned_as : Purpose → Tree → Option ResourceDef → Result Assignment RecordFault
assigned_as purpose node None = Err record_fault.Undefined
assigned_as purpose node (Some d) =
    if may_be_given purpose d.ops then result_map (λ g. record { resource = d.id; given = g }) (given_by d node)
    else Err (record_fault.Operations d.ops)

-- what a record of an instance gives to the resource of its number
abbrev pub assigned_by : Purpose → List ResourceDef → Tree → Result Assignment RecordFault
assigned_by purpose resources node = assigned_as purpose node (resource_in resources (number_in node))

-- the same of the record of this place, before the others: none of them has its number
abbrev pub record_in : Purpose → List ResourceDef → ℕ → Tree → Trees → Result Assignment PayloadFault
record_in purpose resources place node others =
    at_record place (number_in node)
    (unless (has_number (number_in node) others) record_fault.Twice (assigned_by purpose resources node))

-- what the records of an instance give, where the first of them has this place
abbrev pub assignments_from : ℕ → Purpose → List ResourceDef → Trees → Result (List Assignment) PayloadFault
assignments_from place purpose resources none = Ok []
assignments_from place purpose resources (more node nodes) =
    before (record_in purpose resources place node nodes) (assignments_from (place + 1) purpose resources nodes)

-- what the records of an instance give: to defined resources, each once
abbrev pub assignments : Purpose → List ResourceDef → Trees → Result (List Assignment) PayloadFault
assignments purpose resources nodes = assignments_from 1 purpose resources nodes

-- ---- payloads

-- the records that a payload is
abbrev pub records_in : List ℕ → Result Trees PayloadFault
records_in payload = ok_or (nodes_of_bytes payload) fault.NotTlv

-- a value that the whole payload spells, where it spells one
abbrev pub whole_value : ValueKind → List ℕ → Option Value → Result Value PayloadFault
whole_value kind payload value = ok_or value (fault.NotValue kind (length payload))

-- what stands in an Object Instance that is alone and of this number; else what stands there itself
abbrev pub content_of : ℕ → Trees → Result Trees PayloadFault
content_of i (more (instance j inner) none) = if j == i then Ok inner else Err (fault.Record 1 j record_fault.Number)
content_of i nodes = Ok nodes

-- what the payload of a Write gives to the resources of the instance of this number
abbrev pub instance_given : List ResourceDef → ℕ → List ℕ → Result (List Assignment) PayloadFault
instance_given resources i payload =
    result_and_then (assignments Write resources) (result_and_then (content_of i) (records_in payload))

-- a record of the resource's number, alone
abbrev pub lone_record : ResourceDef → Trees → Result Given PayloadFault
lone_record d (more node none) =
    at_record 1 (number_in node) (if number_in node == d.id then given_by d node else Err record_fault.Number)
lone_record d nodes = Err (fault.Records (count_of nodes))

-- what the payload of a Write gives to the resource of this definition
abbrev pub resource_given : ResourceDef → Format → List ℕ → Result Given PayloadFault
resource_given d PlainText payload = result_map Single (whole_value d.kind payload (value_of_text d.kind payload))
resource_given d OctetStream payload = result_map Single (whole_value d.kind payload (value_of_bytes d.kind payload))
resource_given d Tlv payload = result_and_then (lone_record d) (records_in payload)

-- a value for the part of this number
abbrev pub one_part : ℕ → Value → Given
one_part n value = Parts ((n, value) ∷ [])

-- a Resource Instance of the part's number
abbrev pub part_by : ValueKind → ℕ → Tree → Result Given RecordFault
part_by kind n (part m bytes) =
    if m == n then result_map (one_part n) (value_in kind bytes) else Err record_fault.Number
part_by kind n (instance i inner) = Err record_fault.Form
part_by kind n (multi r inner) = Err record_fault.Form
part_by kind n (single r bytes) = Err record_fault.Form

-- the same, alone
abbrev pub lone_part : ValueKind → ℕ → Trees → Result Given PayloadFault
lone_part kind n (more node none) = at_record 1 (number_in node) (part_by kind n node)
lone_part kind n nodes = Err (fault.Records (count_of nodes))

-- the same, or a Multiple Resource of the resource's number with it alone
abbrev pub part_record : ResourceDef → ℕ → Trees → Result Given PayloadFault
part_record d n (more (multi r inner) none) =
    if r == d.id then lone_part d.kind n inner else Err (fault.Record 1 r record_fault.Number)
part_record d n nodes = lone_part d.kind n nodes

-- what the payload of a Write gives to the part of this number
abbrev pub part_given : ResourceDef → ℕ → Format → List ℕ → Result Given PayloadFault
part_given d n PlainText payload =
    result_map (one_part n) (whole_value d.kind payload (value_of_text d.kind payload))
part_given d n OctetStream payload =
    result_map (one_part n) (whole_value d.kind payload (value_of_bytes d.kind payload))
part_given d n Tlv payload = result_and_then (part_record d n) (records_in payload)

-- ---- a new instance

-- a mandatory resource that is neither executable nor write-only, and is not among the assignments
abbrev pub is_lacking : List Assignment → ResourceDef → Bool
is_lacking given d = d.mandatory && (can_read d.ops && not (list_any (λ a. a.resource == d.id) given))

abbrev pub unless_lacking : Option ResourceDef → Creation → Result Creation PayloadFault
unless_lacking None creation = Ok creation
unless_lacking (Some d) creation = Err (fault.Mandatory d.id)

-- each mandatory resource that can be read is given
abbrev pub complete : List ResourceDef → Option ℕ → List Assignment → Result Creation PayloadFault
complete resources number given =
    unless_lacking (find (is_lacking given) resources) (record { number = number; assigned = given })

-- the records of an instance, or an Object Instance alone, which names its number
abbrev pub creation_in : List ResourceDef → Trees → Result Creation PayloadFault
creation_in resources (more (instance i inner) none) =
    result_and_then (complete resources (Some i)) (assignments Create resources inner)
creation_in resources nodes = result_and_then (complete resources None) (assignments Create resources nodes)

-- what the payload of a Create gives
abbrev pub creation_given : List ResourceDef → List ℕ → Result Creation PayloadFault
creation_given resources payload = result_and_then (creation_in resources) (records_in payload)
