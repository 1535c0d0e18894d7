-- What an event of the firmware changes.
use Rattle.std.proofs.Common.{◌≡◌, ℕ, Some, pos, sym, ap, subst, ◌∙◌}
use Rattle.std.specs.Option.{is_some, option_map}
use Rattle.lemmas.proofs.Options.{option_map_parts}
use Rattle.lwm2m_values.specs.declared.value.Value.TheVariants.{Whole}
use Rattle.object_defs.specs.Path.{single_of}
use Rattle.object_defs.specs.declared.path.FullPath.{FullPath}
use Rattle.instance_store.specs.Stored.{Stored, with_value}
use Rattle.instance_store.proofs.SetValues.{value_after}
use Rattle.device_firmware.specs.Firmware.{firmware_after, firmware_resource, outcome_in, state_number, uri_of}
use Rattle.device_firmware.specs.Firmware.{with_outcome, with_uri}
use Rattle.device_firmware.specs.declared.event.FirmwareEvent.{FirmwareEvent}
use Rattle.device_firmware.proofs.AfterEvent.{code-outcome, other-outcome, other-uri, same_instances, uri-outcome}
use Rattle.device_firmware.proofs.AfterEvent.{uri-uri}
use Rattle.laws_requests.specs.Taken.{IsTaken}

abbrev at : ℕ → FullPath
at n = single_of (firmware_resource n)

-- the store after an event that is taken
pub is_taken : (s after : Stored) (e : FirmwareEvent) → firmware_after s e ≡ Some after → IsTaken s e after
is_taken s after e h =
    let t = with_uri s (uri_of e) in
    let o = option_map_parts (with_outcome t) (outcome_in s e) after h in
    let v = Whole (pos (state_number o.0.state)) in
    let code = Whole (pos o.0.code) in
    subst (λ (u : Stored). IsTaken s e u) o.2 (record {
      by_table = ap is_some o.1;
      state = value_after (with_value t (at 3) v) (at 5) (at 3) code ∙ value_after t (at 3) (at 3) v
          ∙ sym (ap (option_map (λ x. Whole (pos (state_number x.state)))) o.1);
      result = code-outcome t o.0 ∙ sym (ap (option_map (λ x. Whole (pos x.code))) o.1);
      uri = uri-outcome t o.0 ∙ uri-uri s (uri_of e);
      others = λ q not1 not3 not5. other-outcome t o.0 q not3 not5 ∙ other-uri s (uri_of e) q not1;
      instances = same_instances s (uri_of e);
    })
