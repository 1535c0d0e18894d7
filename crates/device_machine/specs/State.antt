-- The flat state of a device, and when a device shows one.
use Rattle.std.specs.Prelude.{◌≡◌, ◌↔◌, ℕ, ◌-◌, nat_lt, Bool, false, List, filter, Option, None, Some}
use Rattle.std.specs.List.{Contains}
use Rattle.coap_codec.specs.declared.kind.Kind.{Kind}
use Rattle.coap_codec.specs.declared.kind.Kind.TheVariants.{Con, Non, Ack, Rst}
use Rattle.device_requests.specs.Client.{Client}
use Rattle.instance_store.specs.Stored.{value_at}
use Rattle.notifier.specs.declared.observation.Observation.{Observation}
use Rattle.lwm2m_values.specs.declared.value.Value.{Value}
use Rattle.object_defs.specs.declared.path.FullPath.{FullPath}
use Rattle.device_machine.specs.declared.recorded.Recorded.{Recorded}

-- all of the flat state but the recorded requests: what device management looks at, the observations in the order of
-- registration, the clock, and the device's next message ID
pub record DeviceState : Type 0 where
  pub client : Client
  pub observations : List Observation
  pub clock : ℕ
  pub next_id : ℕ

-- the same with this client
abbrev pub with_client : DeviceState → Client → DeviceState
with_client kept client = record kept { client = client }

-- the same with these observations
abbrev pub with_observations : DeviceState → List Observation → DeviceState
with_observations kept observations = record kept { observations = observations }

-- the flat state: what is kept, and all the requests since the start, oldest first
pub record Machine : Type 0 where
  pub kept : DeviceState
  pub recorded : List Recorded

-- for how many seconds a message ID is not used again: EXCHANGE_LIFETIME and NON_LIFETIME (RFC 7252 section 4.8.2)
abbrev pub lifetime : Kind → ℕ
lifetime Con = 247
lifetime Non = 145
lifetime Ack = 0
lifetime Rst = 0

-- the request's message ID is not free again yet
abbrev pub is_live : ℕ → Recorded → Bool
is_live clock r = nat_lt (clock - r.second) (lifetime r.kind)

-- the flat state with those of the recorded requests that an answer can still depend on
abbrev pub with_live_records : Machine → Machine
with_live_records f = record f { recorded = filter (λ r. is_live f.kept.clock r) f.recorded }

-- what contracts see of a device: of the recorded requests, those that live
pub record Device : Type 0 where
  pub spent : Bool
  pub flat : Machine

-- the same requests are in both, in any order
unfoldable pub HaveSameMembers : List Recorded → List Recorded → Type 0
HaveSameMembers rs ss = (r : Recorded) → Contains rs r ↔ Contains ss r

-- the device is not spent, and shows this flat state: what it keeps is the same, and of the recorded requests it has
-- those that live
pub record Shows (device : Device) (flat : Machine) : Type 0 where
  pub ready : device.spent ≡ false
  pub kept : device.flat.kept ≡ flat.kept
  pub recorded : HaveSameMembers device.flat.recorded (with_live_records flat).recorded

-- the value at a path that a device in this flat state has
abbrev pub value_in : DeviceState → Option FullPath → Option Value
value_in kept None = None
value_in kept (Some p) = value_at kept.client.store p
