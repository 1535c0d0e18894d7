-- What an event of the firmware changes (OMA LwM2M 1.1 Core, Firmware Update; the table is this profile's).
use Rattle.std.specs.Prelude.{◌≡◌, ◌≢◌, pos, true, is_some, option_map}
use Rattle.lwm2m_values.specs.declared.value.Value.TheVariants.{Whole}
use Rattle.object_defs.specs.Numbers.{package_uri, update_state, update_result}
use Rattle.object_defs.specs.Path.{single_of}
use Rattle.object_defs.specs.declared.path.FullPath.{FullPath}
use Rattle.instance_store.specs.Stored.{Stored, value_at}
use Rattle.device_firmware.specs.Firmware.{firmware_resource, firmware_value, outcome_in, state_number, uri_of}
use Rattle.device_firmware.specs.Laws.{uri_after}
use Rattle.device_firmware.specs.declared.event.FirmwareEvent.{FirmwareEvent}

-- the firmware takes an event: State and Update Result are then as its table says, Package URI is what the event gives,
-- where it gives one; no Package is kept, and all else is as it was
pub record IsTaken (old : Stored) (event : FirmwareEvent) (new : Stored) : Type 0 where
  pub by_table : is_some (outcome_in old event) ≡ true
  pub state : firmware_value new update_state
      ≡ option_map (λ o. Whole (pos (state_number o.state))) (outcome_in old event)
  pub result : firmware_value new update_result ≡ option_map (λ o. Whole (pos o.code)) (outcome_in old event)
  pub uri : firmware_value new package_uri ≡ uri_after (firmware_value old package_uri) (uri_of event)
  pub others : (q : FullPath) → q ≢ single_of (firmware_resource package_uri)
      → q ≢ single_of (firmware_resource update_state)
      → q ≢ single_of (firmware_resource update_result) → value_at new q ≡ value_at old q
  pub instances : new.instances ≡ old.instances
