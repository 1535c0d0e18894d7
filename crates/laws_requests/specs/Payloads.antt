-- What the payload of a Write or a Create gives, as a grammar of its records (OMA LwM2M 1.1 Core, data formats, Write
-- and Create).
use Rattle.std.specs.Prelude.{◌≡◌, ◌≢◌, ◌⊎◌, ◌↔◌, ℕ, true, false, List, [], ◌∷◌, None, Some, Err, Ok}
use Rattle.lwm2m_values.specs.Tlv.{IsTlv}
use Rattle.lwm2m_values.specs.Tree.{Tree, Trees, instance, multi, part, single, none, more}
use Rattle.lwm2m_values.specs.Value.{IsBytesOf, IsGood, IsText, kind_of}
use Rattle.lwm2m_values.specs.declared.kind.ValueKind.{ValueKind}
use Rattle.lwm2m_values.specs.declared.value.Value.{Value}
use Rattle.object_defs.specs.Catalog.{resource_in}
use Rattle.object_defs.specs.Operations.{can_read}
use Rattle.object_defs.specs.declared.definition.Ops.{Ops}
use Rattle.object_defs.specs.declared.definition.Ops.TheVariants.{W, RW, E}
use Rattle.object_defs.specs.declared.definition.ResourceDef.{ResourceDef}
use Rattle.lwm2m_payloads.specs.Given.{creation_given, instance_given, part_given, resource_given}
use Rattle.lwm2m_payloads.specs.PartList.{PartList}
use Rattle.lwm2m_payloads.specs.declared.fault.PayloadFault.TheVariants.{Record}
use Rattle.lwm2m_payloads.specs.declared.fault.RecordFault.TheVariants.{Number}
use Rattle.lwm2m_payloads.specs.declared.format.Format.{Format}
use Rattle.lwm2m_payloads.specs.declared.format.Format.TheVariants.{PlainText, OctetStream, Tlv}
use Rattle.lwm2m_payloads.specs.declared.given.Assignment.{Assignment}
use Rattle.lwm2m_payloads.specs.declared.given.Creation.{Creation}
use Rattle.lwm2m_payloads.specs.declared.given.Given.{Given}
use Rattle.lwm2m_payloads.specs.declared.given.Given.TheVariants.{Single, Parts}
use Rattle.lwm2m_payloads.specs.declared.given.Purpose.{Purpose}
use Rattle.lwm2m_payloads.specs.declared.given.Purpose.TheVariants.{Write, Create}
use Rattle.device_requests.specs.Laws.{IsAmong}
use Rattle.laws_requests.specs.Instances.{IsNamedIn}
use Rattle.laws_requests.specs.Multiples.{HasPart}

-- these bytes, as TLV has them, are a valid value of the kind
abbrev pub AreBytesOf : ValueKind → List ℕ → Value → Type 0
AreBytesOf kind bytes v = IsGood v × (kind_of v ≡ kind) × IsBytesOf v bytes

-- this plain text is a valid value of the kind
abbrev pub IsTextOf : ValueKind → List ℕ → Value → Type 0
IsTextOf kind text v = IsGood v × (kind_of v ≡ kind) × IsText v text

-- Resource Instances of different numbers, each with a value of the kind, and nothing else: they give these parts
pub data GiveParts (kind : ValueKind) : Trees → PartList → Type 0 where
  no_part : GiveParts kind none []
  one_part_more : (n : ℕ) (bytes : List ℕ) (v : Value) (rest : Trees) (others : PartList) → AreBytesOf kind bytes v
      → ¬ (HasPart others n) → GiveParts kind rest others
      → GiveParts kind (more (part n bytes) rest) ((n, v) ∷ others)

-- a Resource of its number gives a single resource its value, a Multiple Resource a multiple one its parts; where it is
-- mandatory, it has one part or more
pub data GivesTo (d : ResourceDef) : Tree → Given → Type 0 where
  gives_value : (bytes : List ℕ) (v : Value) → d.multiple ≡ false → AreBytesOf d.kind bytes v
      → GivesTo d (single d.id bytes) (Single v)
  gives_parts : (inner : Trees) (parts : PartList) → d.multiple ≡ true → GiveParts d.kind inner parts
      → (d.mandatory ≡ true → parts ≢ []) → GivesTo d (multi d.id inner) (Parts parts)

-- a Write gives to resources that can be written, a Create to all but those that can be executed
abbrev pub IsOpenTo : Purpose → Ops → Type 0
IsOpenTo Write ops = (ops ≡ W) ⊎ (ops ≡ RW)
IsOpenTo Create ops = ops ≢ E

-- records of different numbers, each of a resource that is defined and open to it, and nothing else
pub data RecordsGive (purpose : Purpose) (resources : List ResourceDef) : Trees → List Assignment → Type 0 where
  no_record : RecordsGive purpose resources none []
  one_record_more : (d : ResourceDef) (node : Tree) (g : Given) (rest : Trees) (others : List Assignment)
      → resource_in resources d.id ≡ Some d → IsOpenTo purpose d.ops → GivesTo d node g
      → ¬ (IsNamedIn others d.id) → RecordsGive purpose resources rest others
      → RecordsGive purpose resources (more node rest) (record { resource = d.id; given = g } ∷ others)

-- a Write of an instance: these records, or one Object Instance of its number with these records in it
pub data GivesInstance (resources : List ResourceDef) (i : ℕ) (payload : List ℕ) (given : List Assignment)
    : Type 0 where
  by_records : (nodes : Trees) → IsTlv nodes payload → RecordsGive Write resources nodes given
      → GivesInstance resources i payload given
  by_instance : (inner : Trees) → IsTlv (more (instance i inner) none) payload → RecordsGive Write resources inner given
      → GivesInstance resources i payload given

abbrev pub InstancesAreGiven : Type 0
InstancesAreGiven =
    (resources : List ResourceDef) (i : ℕ) (payload : List ℕ) (given : List Assignment)
    → (instance_given resources i payload ≡ Ok given) ↔ GivesInstance resources i payload given

-- one Object Instance of another number gives nothing, for its number
abbrev pub OtherInstanceGivesNothing : Type 0
OtherInstanceGivesNothing =
    (resources : List ResourceDef) (i j : ℕ) (inner : Trees) (payload : List ℕ) → j ≢ i
    → IsTlv (more (instance j inner) none) payload
    → instance_given resources i payload ≡ Err (Record 1 j Number)

-- a Write of a resource: its value as plain text or as bytes, or one record of it, alone
pub data GivesResource (d : ResourceDef) : Format → List ℕ → Given → Type 0 where
  by_text : (payload : List ℕ) (v : Value) → IsTextOf d.kind payload v → GivesResource d PlainText payload (Single v)
  by_bytes : (payload : List ℕ) (v : Value) → AreBytesOf d.kind payload v
      → GivesResource d OctetStream payload (Single v)
  by_record : (payload : List ℕ) (node : Tree) (g : Given) → IsTlv (more node none) payload → GivesTo d node g
      → GivesResource d Tlv payload g

abbrev pub ResourcesAreGiven : Type 0
ResourcesAreGiven =
    (d : ResourceDef) (format : Format) (payload : List ℕ) (g : Given)
    → (resource_given d format payload ≡ Ok g) ↔ GivesResource d format payload g

-- a Write of a part: its value as plain text or as bytes, or one Resource Instance of its number, alone or in one
-- Multiple Resource of the resource's number
pub data GivesPart (d : ResourceDef) (n : ℕ) : Format → List ℕ → Value → Type 0 where
  part_by_text : (payload : List ℕ) (v : Value) → IsTextOf d.kind payload v → GivesPart d n PlainText payload v
  part_by_bytes : (payload : List ℕ) (v : Value) → AreBytesOf d.kind payload v → GivesPart d n OctetStream payload v
  part_alone : (payload bytes : List ℕ) (v : Value) → IsTlv (more (part n bytes) none) payload
      → AreBytesOf d.kind bytes v → GivesPart d n Tlv payload v
  part_in_resource : (payload bytes : List ℕ) (v : Value)
      → IsTlv (more (multi d.id (more (part n bytes) none)) none) payload → AreBytesOf d.kind bytes v
      → GivesPart d n Tlv payload v

abbrev pub PartsAreGiven : Type 0
PartsAreGiven =
    (d : ResourceDef) (n : ℕ) (format : Format) (payload : List ℕ) (g : Given)
    → (part_given d n format payload ≡ Ok g)
    ↔ ((v : Value) × (g ≡ Parts ((n, v) ∷ [])) × GivesPart d n format payload v)

-- each mandatory resource that can be read is given
abbrev pub HasMandatory : List ResourceDef → List Assignment → Type 0
HasMandatory resources given =
    (d : ResourceDef) → IsAmong d resources → d.mandatory ≡ true → can_read d.ops ≡ true → IsNamedIn given d.id

-- a Create: an Object Instance of the new number with these records, or the records without a number
pub data GivesCreation (resources : List ResourceDef) (payload : List ℕ) : Creation → Type 0 where
  with_number : (i : ℕ) (inner : Trees) (given : List Assignment) → IsTlv (more (instance i inner) none) payload
      → RecordsGive Create resources inner given → HasMandatory resources given
      → GivesCreation resources payload (record { number = Some i; assigned = given })
  without_number : (nodes : Trees) (given : List Assignment) → IsTlv nodes payload
      → RecordsGive Create resources nodes given → HasMandatory resources given
      → GivesCreation resources payload (record { number = None; assigned = given })

abbrev pub CreationsAreGiven : Type 0
CreationsAreGiven =
    (resources : List ResourceDef) (payload : List ℕ) (creation : Creation)
    → (creation_given resources payload ≡ Ok creation) ↔ GivesCreation resources payload creation
