-- What an instance holds after a Write (OMA LwM2M 1.1 Core, Write: Replace and Partial Update).
use Rattle.std.specs.Prelude.{◌≡◌, ◌⊎◌, ◌↔◌, ℕ, true, false, List, Option, None, Some, Ok}
use Rattle.lwm2m_values.specs.Tree.{single}
use Rattle.lwm2m_values.specs.declared.value.Value.{Value}
use Rattle.object_defs.specs.Catalog.{definition_of}
use Rattle.object_defs.specs.Operations.{can_read, can_write}
use Rattle.object_defs.specs.Path.{part_of, single_of}
use Rattle.object_defs.specs.declared.definition.ResourceDef.{ResourceDef}
use Rattle.object_defs.specs.declared.path.FullPath.{FullPath}
use Rattle.object_defs.specs.declared.path.Path.TheVariants.{Instance, Resource}
use Rattle.instance_store.specs.Stored.{Stored, lies_in, value_at}
use Rattle.lwm2m_payloads.specs.Formats.{format_for, one}
use Rattle.lwm2m_payloads.specs.Given.{instance_given}
use Rattle.lwm2m_payloads.specs.Nodes.{value_payload}
use Rattle.lwm2m_payloads.specs.PartList.{PartList}
use Rattle.lwm2m_payloads.specs.declared.format.Format.{Format}
use Rattle.lwm2m_payloads.specs.declared.given.Assignment.{Assignment}
use Rattle.lwm2m_payloads.specs.declared.given.Given.{Given}
use Rattle.lwm2m_payloads.specs.declared.given.Given.TheVariants.{Single, Parts}
use Rattle.lwm2m_payloads.specs.declared.given.Mode.{Mode}
use Rattle.lwm2m_payloads.specs.declared.given.Mode.TheVariants.{Replace, Update}
use Rattle.device_requests.specs.declared.answer.Code.TheVariants.{Changed}
use Rattle.device_requests.specs.Access.{may_read}
use Rattle.device_requests.specs.Client.{Client}
use Rattle.device_requests.specs.Laws.{IsAmong, content_within}
use Rattle.device_requests.specs.Outcomes.{read_answer, write_outcome}
use Rattle.device_requests.specs.Ruling.{code_of}
use Rattle.device_requests.specs.Targets.{is_readable, resource_place, resources_defined}
use Rattle.laws_requests.specs.Multiples.{HasPart, IsPartThen, IsReadInParts}

-- the resource of this number is given this
abbrev pub IsGivenTo : List Assignment → ℕ → Given → Type 0
IsGivenTo given r value = IsAmong (record { resource = r; given = value }) given

-- the resource of this number is given something
abbrev pub IsNamedIn : List Assignment → ℕ → Type 0
IsNamedIn given r = (value : Given) × IsGivenTo given r value

-- an optional resource that can be written, which Replace takes away where it is not named
abbrev pub IsOptional : List ResourceDef → ℕ → Type 0
IsOptional resources r =
    (d : ResourceDef) × IsAmong d resources × (d.id ≡ r) × (d.mandatory ≡ false) × (can_write d.ops ≡ true)

-- Replace leaves nothing, Partial Update what there was
abbrev pub left_by : Mode → Option Value → Option Value
left_by Replace before = None
left_by Update before = before

-- what the payload gives to the resources of the instance that can be read is there then; of what else lies below a
-- resource that is given parts, and of the optional resources that are not named, Replace leaves nothing; all else is
-- as it was
pub record HoldsGiven (client : Client) (mode : Mode) (o i : ℕ) (payload : List ℕ) (new : Stored) : Type 0 where
  pub given : List Assignment
  pub gives : instance_given (resources_defined client.catalog o) i payload ≡ Ok given
  pub value : (r : ℕ) (v : Value) → IsGivenTo given r (Single v)
      → is_readable (definition_of client.catalog o r) ≡ true
      → value_at new (single_of (resource_place o i r)) ≡ Some v
  pub beside : (r : ℕ) (v : Value) (n : ℕ) → IsGivenTo given r (Single v)
      → is_readable (definition_of client.catalog o r) ≡ true
      → value_at new (part_of (resource_place o i r) n) ≡ value_at client.store (part_of (resource_place o i r) n)
  pub part : (r : ℕ) (parts : PartList) (n : ℕ) (v : Value) → IsGivenTo given r (Parts parts)
      → is_readable (definition_of client.catalog o r) ≡ true → IsAmong (n, v) parts
      → value_at new (part_of (resource_place o i r) n) ≡ Some v
  pub other_part : (r : ℕ) (parts : PartList) (n : ℕ) → IsGivenTo given r (Parts parts)
      → is_readable (definition_of client.catalog o r) ≡ true → ¬ (HasPart parts n)
      → value_at new (part_of (resource_place o i r) n)
      ≡ left_by mode (value_at client.store (part_of (resource_place o i r) n))
  pub no_part : (r : ℕ) (parts : PartList) → IsGivenTo given r (Parts parts)
      → is_readable (definition_of client.catalog o r) ≡ true
      → value_at new (single_of (resource_place o i r))
      ≡ left_by mode (value_at client.store (single_of (resource_place o i r)))
  pub write_only : (q : FullPath) → lies_in (Instance o i) q ≡ true → IsNamedIn given q.resource
      → is_readable (definition_of client.catalog o q.resource) ≡ false
      → value_at new q ≡ value_at client.store q
  pub taken_away : (q : FullPath) → lies_in (Instance o i) q ≡ true → ¬ (IsNamedIn given q.resource)
      → mode ≡ Replace → IsOptional (resources_defined client.catalog o) q.resource → value_at new q ≡ None
  pub left_alone : (q : FullPath) → lies_in (Instance o i) q ≡ true → ¬ (IsNamedIn given q.resource)
      → (mode ≡ Update) ⊎ (¬ (IsOptional (resources_defined client.catalog o) q.resource))
      → value_at new q ≡ value_at client.store q
  pub elsewhere : (q : FullPath) → lies_in (Instance o i) q ≡ false → value_at new q ≡ value_at client.store q

-- a Write of an instance, by Replace or Partial Update, that is answered by Changed
abbrev pub InstancesHoldGiven : Type 0
InstancesHoldGiven =
    (client : Client) (server : ℕ) (mode : Mode) (o i : ℕ) (number : Option ℕ) (payload : List ℕ)
    → code_of (write_outcome client server mode (Instance o i) number payload).answer.ruling ≡ Changed
    → HoldsGiven client mode o i payload (write_outcome client server mode (Instance o i) number payload).client.store

-- a Read of a single resource that is given a value answers it, in each format that is served; a Read of a multiple
-- resource that is given parts answers these, and with Partial Update the others that it held, by ascending number
pub record IsInstanceReadBack (client : Client) (mode : Mode) (o i : ℕ) (payload : List ℕ) (new : Client) : Type 0 where
  pub given : List Assignment
  pub gives : instance_given (resources_defined client.catalog o) i payload ≡ Ok given
  pub value : (r : ℕ) (d : ResourceDef) (v : Value) → definition_of client.catalog o r ≡ Some d
      → d.multiple ≡ false → can_read d.ops ≡ true → IsGivenTo given r (Single v)
      → (server : ℕ) (accept : Option ℕ) (wanted : Format) → may_read new server (Resource o i r) ≡ true
      → format_for (one d.kind) accept ≡ Some wanted
      → read_answer new server (Resource o i r) accept
      ≡ content_within wanted (value_payload wanted (single r) v)
  pub parts : (r : ℕ) (d : ResourceDef) (parts : PartList) → definition_of client.catalog o r ≡ Some d
      → d.multiple ≡ true → can_read d.ops ≡ true → IsGivenTo given r (Parts parts)
      → (shown : PartList) × IsReadInParts new o i r shown
      × ((n : ℕ) (v : Value) → IsAmong (n, v) shown
      ↔ IsPartThen mode parts n (value_at client.store (part_of (resource_place o i r) n)) v)

abbrev pub InstancesAreReadBack : Type 0
InstancesAreReadBack =
    (client : Client) (server : ℕ) (mode : Mode) (o i : ℕ) (number : Option ℕ) (payload : List ℕ)
    → code_of (write_outcome client server mode (Instance o i) number payload).answer.ruling ≡ Changed
    → IsInstanceReadBack client mode o i payload (write_outcome client server mode (Instance o i) number payload).client
