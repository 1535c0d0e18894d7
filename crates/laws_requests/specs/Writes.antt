-- What a Write changes (OMA LwM2M 1.1 Core, Write: Replace and Partial Update).
use Rattle.std.specs.Prelude.{◌≡◌, ◌≢◌, ℕ, true, false, List, [], ◌∷◌, Option, Some, if◌then◌else◌, Ok}
use Rattle.lwm2m_values.specs.declared.value.Value.{Value}
use Rattle.object_defs.specs.Catalog.{definition_of}
use Rattle.object_defs.specs.Operations.{can_read}
use Rattle.object_defs.specs.Path.{part_of}
use Rattle.object_defs.specs.declared.definition.ResourceDef.{ResourceDef}
use Rattle.object_defs.specs.declared.path.FullPath.{FullPath}
use Rattle.object_defs.specs.declared.path.Path.TheVariants.{Instance, Resource, Part}
use Rattle.instance_store.specs.Stored.{Stored, lies_in, value_at}
use Rattle.lwm2m_payloads.specs.Given.{instance_given, part_given, resource_given}
use Rattle.lwm2m_payloads.specs.Written.{value_behind, value_with}
use Rattle.lwm2m_payloads.specs.declared.format.Format.{Format}
use Rattle.lwm2m_payloads.specs.declared.given.Assignment.{Assignment}
use Rattle.lwm2m_payloads.specs.declared.given.Given.{Given}
use Rattle.lwm2m_payloads.specs.declared.given.Given.TheVariants.{Parts}
use Rattle.lwm2m_payloads.specs.declared.given.Mode.{Mode}
use Rattle.device_requests.specs.declared.answer.Code.TheVariants.{Changed}
use Rattle.device_requests.specs.Client.{Client}
use Rattle.device_requests.specs.Outcomes.{write_outcome}
use Rattle.device_requests.specs.Read.{format_at}
use Rattle.device_requests.specs.Ruling.{code_of}
use Rattle.device_requests.specs.Targets.{resource_place, resources_defined}

-- the payload gives values to resources of the instance; in it there is then what is given and kept, nothing where
-- Replace takes it away, else what was there; all other values are as they were
pub record IsInstanceWritten (client : Client) (mode : Mode) (o i : ℕ) (payload : List ℕ) (new : Stored) : Type 0 where
  pub given : List Assignment
  pub gives : instance_given (resources_defined client.catalog o) i payload ≡ Ok given
  pub inside : (q : FullPath) → lies_in (Instance o i) q ≡ true
      → value_at new q ≡ value_behind mode (resources_defined client.catalog o) given q (value_at client.store q)
  pub outside : (q : FullPath) → lies_in (Instance o i) q ≡ false → value_at new q ≡ value_at client.store q

-- a Write of an instance that is answered Changed
abbrev pub InstancesAreWritten : Type 0
InstancesAreWritten =
    (client : Client) (server : ℕ) (mode : Mode) (o i : ℕ) (number : Option ℕ) (payload : List ℕ)
    → code_of (write_outcome client server mode (Instance o i) number payload).answer.ruling ≡ Changed
    → IsInstanceWritten client mode o i payload
    (write_outcome client server mode (Instance o i) number payload).client.store

-- the payload gives a value or parts to the resource; where it can be read these are kept, where it is write-only they
-- are not; of its other parts Replace leaves none, Partial Update all; all other values are as they were
pub record IsResourceWritten (client : Client) (mode : Mode) (o i r : ℕ) (number : Option ℕ) (payload : List ℕ)
    (new : Stored) : Type 0 where
  pub definition : ResourceDef
  pub is_defined : definition_of client.catalog o r ≡ Some definition
  pub format : Format
  pub served : format_at client.catalog (Resource o i r) number ≡ Some format
  pub given : Given
  pub gives : resource_given definition format payload ≡ Ok given
  pub inside : (q : FullPath) → lies_in (Resource o i r) q ≡ true
      → value_at new q
      ≡ (if can_read definition.ops then value_with mode given q.part (value_at client.store q)
      else value_at client.store q)
  pub outside : (q : FullPath) → lies_in (Resource o i r) q ≡ false → value_at new q ≡ value_at client.store q

-- a Write of a resource that is answered Changed; what is written to Firmware Update goes to the firmware
abbrev pub ResourcesAreWritten : Type 0
ResourcesAreWritten =
    (client : Client) (server : ℕ) (mode : Mode) (o i r : ℕ) (number : Option ℕ) (payload : List ℕ) → o ≢ 5
    → code_of (write_outcome client server mode (Resource o i r) number payload).answer.ruling ≡ Changed
    → IsResourceWritten client mode o i r number payload
    (write_outcome client server mode (Resource o i r) number payload).client.store

-- the payload gives one value to the part, which is kept where the resource can be read; the other parts and all other
-- values are as they were, whatever the mode is
pub record IsPartWritten (client : Client) (o i r n : ℕ) (number : Option ℕ) (payload : List ℕ) (new : Stored)
    : Type 0 where
  pub definition : ResourceDef
  pub is_defined : definition_of client.catalog o r ≡ Some definition
  pub format : Format
  pub served : format_at client.catalog (Part o i r n) number ≡ Some format
  pub value : Value
  pub gives : part_given definition n format payload ≡ Ok (Parts ((n, value) ∷ []))
  pub part : value_at new (part_of (resource_place o i r) n)
      ≡ (if can_read definition.ops then Some value
      else value_at client.store (part_of (resource_place o i r) n))
  pub others : (q : FullPath) → q ≢ part_of (resource_place o i r) n → value_at new q ≡ value_at client.store q

-- a Write of a part that is answered Changed
abbrev pub PartsAreWritten : Type 0
PartsAreWritten =
    (client : Client) (server : ℕ) (mode : Mode) (o i r n : ℕ) (number : Option ℕ) (payload : List ℕ)
    → code_of (write_outcome client server mode (Part o i r n) number payload).answer.ruling ≡ Changed
    → IsPartWritten client o i r n number payload
    (write_outcome client server mode (Part o i r n) number payload).client.store
