-- A multiple resource is read as the parts that it holds, and holds what was written (OMA LwM2M 1.1 Core, Write and
-- Read).
use Rattle.std.specs.Prelude.{◌≡◌, ◌≢◌, ◌↔◌, ◌⊎◌, ℕ, true, List, [], ◌∷◌, map, Option, Some, Ok}
use Rattle.std.specs.List.Sorted.{IsStrictlySortedBy}
use Rattle.std.specs.Ordering.{nat_cmp}
use Rattle.lwm2m_values.specs.Tlv.{shortest_tlv}
use Rattle.lwm2m_values.specs.Tree.{Trees, multi, part, none, more}
use Rattle.lwm2m_values.specs.Value.{bytes_of}
use Rattle.lwm2m_values.specs.declared.value.Value.{Value}
use Rattle.object_defs.specs.Catalog.{definition_of}
use Rattle.object_defs.specs.Numbers.{security_object}
use Rattle.object_defs.specs.Operations.{can_read}
use Rattle.object_defs.specs.Path.{part_of}
use Rattle.object_defs.specs.declared.definition.ResourceDef.{ResourceDef}
use Rattle.object_defs.specs.declared.path.Path.TheVariants.{Resource, Part}
use Rattle.object_defs.specs.declared.path.ResourcePath.{ResourcePath}
use Rattle.instance_store.specs.Stored.{Stored, has_instance, value_at}
use Rattle.lwm2m_payloads.specs.Given.{part_given, resource_given}
use Rattle.lwm2m_payloads.specs.PartList.{PartList}
use Rattle.lwm2m_payloads.specs.declared.format.Format.{Format}
use Rattle.lwm2m_payloads.specs.declared.format.Format.TheVariants.{Tlv}
use Rattle.lwm2m_payloads.specs.declared.given.Given.TheVariants.{Parts}
use Rattle.lwm2m_payloads.specs.declared.given.Mode.{Mode}
use Rattle.lwm2m_payloads.specs.declared.given.Mode.TheVariants.{Replace, Update}
use Rattle.device_requests.specs.declared.answer.Answer.{Answer}
use Rattle.device_requests.specs.declared.ruling.Ruling.TheVariants as rule
use Rattle.device_requests.specs.declared.answer.Code.TheVariants.{Changed}
use Rattle.device_requests.specs.Access.{may_read}
use Rattle.device_requests.specs.Answer.{bare}
use Rattle.device_requests.specs.Client.{Client}
use Rattle.device_requests.specs.Laws.{IsAmong, content_within}
use Rattle.device_requests.specs.Outcomes.{read_answer, write_outcome}
use Rattle.device_requests.specs.Read.{format_at}
use Rattle.device_requests.specs.Refusals.{is_tlv}
use Rattle.device_requests.specs.Ruling.{code_of}
use Rattle.device_requests.specs.Targets.{place_of, resource_place}

-- a resource holds these parts with these values, and no other part
abbrev pub HoldsParts : Stored → ResourcePath → PartList → Type 0
HoldsParts stored p parts = (n : ℕ) (v : Value) → (value_at stored (part_of p n) ≡ Some v) ↔ IsAmong (n, v) parts

-- a Resource Instance for each part, in their order
abbrev pub part_records : PartList → Trees
part_records [] = none
part_records (e ∷ parts) = more (part e.0 (bytes_of e.1)) (part_records parts)

-- a multiple resource without a part does not exist; any other is shown as the Resource Instances of its parts, in TLV
abbrev pub answer_of_parts : ℕ → PartList → Answer
answer_of_parts r [] = bare rule.Target
answer_of_parts r (e ∷ parts) =
    content_within Tlv (shortest_tlv (more (multi r (part_records (e ∷ parts))) none))

-- a resource holds these parts, and a Read of it answers them by ascending number, to each server that may read it
pub record IsReadInParts (client : Client) (o i r : ℕ) (parts : PartList) : Type 0 where
  pub held : HoldsParts client.store (resource_place o i r) parts
  pub ascending : IsStrictlySortedBy nat_cmp (map (λ e. e.0) parts)
  pub read : (server : ℕ) (accept : Option ℕ) → may_read client server (Resource o i r) ≡ true → is_tlv accept ≡ true
      → read_answer client server (Resource o i r) accept ≡ answer_of_parts r parts

-- each multiple resource that can be read, of an instance that is there
abbrev pub MultipleIsRead : Type 0
MultipleIsRead =
    (client : Client) (o i r : ℕ) (d : ResourceDef) → o ≢ security_object → definition_of client.catalog o r ≡ Some d
    → d.multiple ≡ true → can_read d.ops ≡ true → has_instance client.store (place_of o i) ≡ true
    → (parts : PartList) × IsReadInParts client o i r parts

-- the payload gives these parts, in any order, and a Read of the resource then answers them, and no other
pub record ArePartsReadBack (o i r : ℕ) (d : ResourceDef) (payload : List ℕ) (new : Client) : Type 0 where
  pub given : PartList
  pub gives : resource_given d Tlv payload ≡ Ok (Parts given)
  pub shown : PartList
  pub same : (e : ℕ × Value) → IsAmong e shown ↔ IsAmong e given
  pub read : IsReadInParts new o i r shown

-- a Write, by Replace, of a multiple resource that can be read, answered by Changed; also of one of Firmware Update,
-- since the firmware takes single values alone
abbrev pub MultipleIsReadBack : Type 0
MultipleIsReadBack =
    (client : Client) (server o i r : ℕ) (d : ResourceDef) (number : Option ℕ) (payload : List ℕ)
    → definition_of client.catalog o r ≡ Some d → d.multiple ≡ true → can_read d.ops ≡ true
    → code_of (write_outcome client server Replace (Resource o i r) number payload).answer.ruling ≡ Changed
    → ArePartsReadBack o i r d payload (write_outcome client server Replace (Resource o i r) number payload).client

-- the part of this number is given a value
abbrev pub HasPart : PartList → ℕ → Type 0
HasPart parts n = (v : Value) × IsAmong (n, v) parts

-- a part of a resource after a change: one that is given, and with Partial Update one that was there and is not given
abbrev pub IsPartThen : Mode → PartList → ℕ → Option Value → Value → Type 0
IsPartThen mode parts n before v =
    IsAmong (n, v) parts ⊎ ((mode ≡ Update) × (¬ (HasPart parts n)) × (before ≡ Some v))

-- a Write of a part gives it one value, and a Read of its resource then answers this part and the others that it held
pub record IsPartReadAmong (client : Client) (o i r n : ℕ) (d : ResourceDef) (number : Option ℕ) (payload : List ℕ)
    (new : Client) : Type 0 where
  pub format : Format
  pub served : format_at client.catalog (Part o i r n) number ≡ Some format
  pub value : Value
  pub gives : part_given d n format payload ≡ Ok (Parts ((n, value) ∷ []))
  pub shown : PartList
  pub read : IsReadInParts new o i r shown
  pub parts : (m : ℕ) (v : Value) → IsAmong (m, v) shown
      ↔ IsPartThen Update ((n, value) ∷ []) m (value_at client.store (part_of (resource_place o i r) m)) v

-- a Write of a part of a resource that can be read, answered by Changed; other parts stay, whatever the mode is
abbrev pub PartIsReadAmong : Type 0
PartIsReadAmong =
    (client : Client) (server : ℕ) (mode : Mode) (o i r n : ℕ) (d : ResourceDef) (number : Option ℕ)
    (payload : List ℕ)
    → definition_of client.catalog o r ≡ Some d → can_read d.ops ≡ true
    → code_of (write_outcome client server mode (Part o i r n) number payload).answer.ruling ≡ Changed
    → IsPartReadAmong client o i r n d number payload
    (write_outcome client server mode (Part o i r n) number payload).client
