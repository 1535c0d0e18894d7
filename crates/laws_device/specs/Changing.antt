-- What an event changes of a device (OMA LwM2M 1.1 Core; RFC 7641 section 3): which values, instances, attributes and
-- observations are others afterwards, and that all else is as before.
use Rattle.std.specs.Prelude.{◌≡◌, ◌≢◌, ◌⊎◌, ℕ, true, false, List, Some, is_some}
use Rattle.coap_codec.specs.Message.{Message}
use Rattle.coap_codec.specs.declared.kind.Kind.TheVariants.{Con, Non}
use Rattle.lwm2m_values.specs.declared.value.Value.{Value}
use Rattle.object_defs.specs.Path.{full_path}
use Rattle.object_defs.specs.declared.path.FullPath.{FullPath}
use Rattle.object_defs.specs.declared.path.Path.{Path}
use Rattle.instance_store.specs.Stored.{value_at}
use Rattle.notifier.specs.Observed.{without_cancelled}
use Rattle.device_firmware.specs.Firmware.{outcome_in}
use Rattle.device_firmware.specs.declared.event.FirmwareEvent.TheVariants.{Ended}
use Rattle.device_template.specs.Values.{misses}
use Rattle.device_requests.specs.Order.{Asks}
use Rattle.device_requests.specs.Refusals.{done_ruling}
use Rattle.device_requests.specs.Request.{outcome_of, purpose_of}
use Rattle.device_requests.specs.declared.operation.Operation.{Operation}
use Rattle.device_requests.specs.declared.operation.Operation.TheVariants.{Read}
use Rattle.laws_requests.specs.Done.{Changes}
use Rattle.laws_requests.specs.Taken.{IsTaken}
use Rattle.device_machine.specs.Laws.{IsFresh}
use Rattle.device_machine.specs.Reactions.{flat_after}
use Rattle.device_machine.specs.State.{Machine}
use Rattle.device_machine.specs.declared.event.Event.TheVariants.{Firmware, Put, Recv}
use Rattle.laws_device.specs.Sending.{IsMissed, OnlyStores}

-- ---- a request

-- what is managed changes as the operation says; of the observations, that of the server and the token of a Read may
-- change, those of other names are as they were and in their order, and no other operation changes any; the clock stays
pub record IsDone (f : Machine) (server : ℕ) (bytes : List ℕ) (m : Message) (path : Path) (operation : Operation)
    : Type 0 where
  pub changes : Changes f.kept.client server m path operation (record {
    answer = (outcome_of f.kept.client server m).answer;
    client = (flat_after f (Recv server bytes)).kept.client;
  })
  pub others : without_cancelled (flat_after f (Recv server bytes)).kept.observations server m.token
      ≡ without_cancelled f.kept.observations server m.token
  pub unasked : operation ≢ Read → (flat_after f (Recv server bytes)).kept.observations ≡ f.kept.observations
  pub clock : (flat_after f (Recv server bytes)).kept.clock ≡ f.kept.clock

-- a request that is no repeat, and is done
abbrev pub RequestsAreDone : Type 0
RequestsAreDone =
    (f : Machine) (server : ℕ) (bytes : List ℕ) (m : Message) (path : Path) (operation : Operation)
    → IsFresh f server bytes m → (m.kind ≡ Con) ⊎ (m.kind ≡ Non) → Asks m path operation
    → (outcome_of f.kept.client server m).answer.ruling ≡ done_ruling (purpose_of m operation)
    → IsDone f server bytes m path operation

-- ---- a value

-- the value stands at its path, and all else is as before
pub record SetsOne (f : Machine) (path : Path) (value : Value) : Type 0 where
  pub place : FullPath
  pub names : full_path path ≡ Some place
  pub set : value_at (flat_after f (Put path value)).kept.client.store place ≡ Some value
  pub others : (q : FullPath) → q ≢ place
      → value_at (flat_after f (Put path value)).kept.client.store q ≡ value_at f.kept.client.store q
  pub rest : OnlyStores f (Put path value)

-- so it is of a value that fits at its path
abbrev pub PutsSetOne : Type 0
PutsSetOne =
    (f : Machine) (path : Path) (value : Value)
    → misses f.kept.client.catalog f.kept.client.store (full_path path) value ≡ false → SetsOne f path value

-- any other changes nothing
abbrev pub PutsMiss : Type 0
PutsMiss =
    (f : Machine) (path : Path) (value : Value)
    → misses f.kept.client.catalog f.kept.client.store (full_path path) value ≡ true → IsMissed f (Put path value)

-- ---- the firmware

-- State, Update Result and Package URI are then as the table of the firmware says, and all else is as before
pub record Ends (f : Machine) (code : ℕ) : Type 0 where
  pub taken : IsTaken f.kept.client.store (Ended code) (flat_after f (Firmware code)).kept.client.store
  pub rest : OnlyStores f (Firmware code)

-- so it is of an end of a download or an update that is in the table
abbrev pub EndsAreTaken : Type 0
EndsAreTaken =
    (f : Machine) (code : ℕ) → is_some (outcome_in f.kept.client.store (Ended code)) ≡ true → Ends f code

-- any other changes nothing
abbrev pub EndsMiss : Type 0
EndsMiss =
    (f : Machine) (code : ℕ) → is_some (outcome_in f.kept.client.store (Ended code)) ≡ false
    → IsMissed f (Firmware code)
