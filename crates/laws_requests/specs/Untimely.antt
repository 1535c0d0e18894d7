-- What the firmware refuses for its State (OMA LwM2M 1.1 Core, Firmware Update), and which rule decides then. The case
-- `Firmware update: Package and Package URI in a State that does not take them` shows it.
use Rattle.std.specs.Prelude.{◌≡◌, ◌≢◌, ℕ, false, [], ◌∷◌, None, Some}
use Rattle.coap_codec.specs.Message.{Message}
use Rattle.object_defs.specs.Path.{object_in}
use Rattle.object_defs.specs.declared.path.Path.{Path}
use Rattle.object_defs.specs.declared.path.Path.TheVariants.{Resource}
use Rattle.device_firmware.specs.Firmware.{firmware_after}
use Rattle.device_firmware.specs.declared.event.FirmwareEvent.{FirmwareEvent}
use Rattle.device_firmware.specs.declared.event.FirmwareEvent.TheVariants.{Update}
use Rattle.device_requests.specs.declared.operation.Operation.{Operation}
use Rattle.device_requests.specs.declared.operation.Operation.TheVariants.{Execute, WritePartial, WriteReplace}
use Rattle.device_requests.specs.declared.ruling.Ruling.TheVariants as rule
use Rattle.device_requests.specs.Client.{Client}
use Rattle.device_requests.specs.Laws.{IsAmong}
use Rattle.device_requests.specs.Order.{Asks, given_by}
use Rattle.device_requests.specs.Refusals.{Purpose, format_ruling, is_invalid, lacks_format, lacks_operation}
use Rattle.device_requests.specs.Refusals.{lacks_right, lacks_target}
use Rattle.device_requests.specs.Request.{outcome_of, purpose_of}
use Rattle.device_requests.specs.Write.{event_of}

-- a Write gives the Package or the Package URI, or an Execute asks for the update, and the table of the firmware has no
-- line for it in its State
pub data IsUntimely (client : Client) (m : Message) (path : Path) : Operation → Type 0 where
  replaces : (event : FirmwareEvent) → event_of path (given_by client m path) ≡ Some event
      → firmware_after client.store event ≡ None → IsUntimely client m path WriteReplace
  updates_partially : (event : FirmwareEvent) → event_of path (given_by client m path) ≡ Some event
      → firmware_after client.store event ≡ None → IsUntimely client m path WritePartial
  asks_for_update : (instance : ℕ) → path ≡ Resource 5 instance 2 → firmware_after client.store Update ≡ None
      → IsUntimely client m path Execute

-- no rule before that of the firmware refuses the operation
pub record ReachesFirmware (client : Client) (server : ℕ) (path : Path) (purpose : Purpose) : Type 0 where
  pub object : object_in path ≢ 0
  pub target : lacks_target client path purpose ≡ false
  pub right : lacks_right client server path purpose ≡ false
  pub served : lacks_operation client.catalog path purpose ≡ false
  pub format : lacks_format client.catalog path purpose ≡ false
  pub payload : is_invalid client server path purpose ≡ false

-- then that rule decides, with 4.05, whatever would be stored
abbrev pub StatesDecide : Type 0
StatesDecide =
    (client : Client) (server : ℕ) (m : Message) (path : Path) (operation : Operation) → Asks m path operation
    → IsUntimely client m path operation → ReachesFirmware client server path (purpose_of m operation)
    → (outcome_of client server m).answer.ruling ≡ rule.State

-- a request that comes at the wrong time is never done, and never 5.00
abbrev pub StatesPrecedeLimits : Type 0
StatesPrecedeLimits =
    (client : Client) (server : ℕ) (m : Message) (path : Path) (operation : Operation) → Asks m path operation
    → IsUntimely client m path operation
    → IsAmong (outcome_of client server m).answer.ruling
    (rule.Security ∷ rule.Target ∷ rule.Right ∷ rule.Operation ∷ format_ruling (purpose_of m operation)
    ∷ rule.Payload ∷ rule.State ∷ [])
