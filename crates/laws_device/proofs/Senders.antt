-- To whom a device sends, and on which events it sends nothing.
use Rattle.std.proofs.Common.{◌≡◌, ℕ, ◌==◌, Bool, true, false, ◌⊎◌, inl, inr, List, [], ◌∷◌, Option, None, Some}
use Rattle.std.proofs.Common.{Result, Ok, Err, option_map, refl, sym, ap, ◌∙◌}
use Rattle.std.specs.Bool.{if◌then◌else◌}
use Rattle.std.specs.List.{AllByRecursion}
use Rattle.lemmas.proofs.Lists.{each_appended}
use Rattle.lemmas.proofs.Tests.{either}
use Rattle.coap_codec.specs.Message.{Message, spelling}
use Rattle.coap_codec.specs.Reading.{reading_of}
use Rattle.coap_codec.specs.declared.fault.CoapFault.{CoapFault}
use Rattle.coap_codec.specs.declared.kind.Kind.{Kind}
use Rattle.coap_codec.specs.declared.kind.Kind.TheVariants.{Con, Non, Ack, Rst}
use Rattle.lwm2m_values.specs.declared.value.Value.{Value}
use Rattle.object_defs.specs.Path.{full_path}
use Rattle.object_defs.specs.declared.path.FullPath.{FullPath}
use Rattle.object_defs.specs.declared.path.Path.{Path}
use Rattle.instance_store.specs.Stored.{Stored}
use Rattle.device_firmware.proofs.AfterEvent.{same_instances, taken}
use Rattle.device_firmware.specs.Firmware.{firmware_after, uri_of}
use Rattle.device_firmware.specs.declared.event.FirmwareEvent.TheVariants.{Ended}
use Rattle.device_requests.specs.Client.{has_account, with_stored}
use Rattle.device_requests.specs.Request.{outcome_of}
use Rattle.device_requests.specs.declared.answer.Act.{Act as Deed}
use Rattle.device_requests.specs.declared.answer.Act.TheVariants.{Missed}
use Rattle.device_template.specs.Values.{misses, with_value_at}
use Rattle.device_machine.specs.Observing.{observe_result}
use Rattle.device_machine.specs.Reactions.{Reaction, again, claimed_mid, claims_confirmable, is_request, outputs_of_act}
use Rattle.device_machine.specs.Reactions.{on_acknowledgement, on_datagram, on_reset, reaction_to, reply_to, reset}
use Rattle.device_machine.specs.Reactions.{on_firmware, on_message, on_request, repeat_of, sends, sent_to, silence}
use Rattle.device_machine.specs.State.{Machine, with_client}
use Rattle.device_machine.specs.declared.recorded.Recorded.{Recorded}
use Rattle.device_machine.specs.declared.event.Event.TheVariants.{Firmware, Put, Recv}
use Rattle.device_machine.specs.declared.output.Output.TheVariants.{Act}
use Rattle.laws_device.specs.Sending.{FirmwareSendsNothing, IsMissed, IsTo, OnlyStores, OnlyTheAskerIsAnswered}
use Rattle.laws_device.specs.Sending.{PutsSendNothing, StrangersAreIgnored}

pub strangers : StrangersAreIgnored
strangers f server bytes h =
    let ignored : reaction_to f (Recv server bytes) ≡ silence f =
    ap (λ b. if b then on_datagram f server bytes (reading_of bytes) else silence f) h in
    (ap (λ r. r.outputs) ignored, ap (λ r. r.flat) ignored)

-- all that a reaction sends goes to this server
abbrev IsAllTo : ℕ → Reaction → Type 0
IsAllTo server r = AllByRecursion (IsTo server) r.outputs

reply_to_it : (server : ℕ) (bytes : Option (List ℕ)) → AllByRecursion (IsTo server) (sent_to server bytes)
reply_to_it server None = tt
reply_to_it server (Some bytes) = (refl, tt)

act_to_none : (server : ℕ) (act : Option Deed) → AllByRecursion (IsTo server) (outputs_of_act act)
act_to_none server None = tt
act_to_none server (Some act) = (tt, tt)

repeated_to_it : (server : ℕ) (kind : Kind) (reply : Option (List ℕ))
    → AllByRecursion (IsTo server) (again server kind reply)
repeated_to_it server Con reply = reply_to_it server reply
repeated_to_it server Non reply = tt
repeated_to_it server Ack reply = tt
repeated_to_it server Rst reply = tt

answered_it : (f : Machine) (server : ℕ) (m : Message) (r : Option Recorded) → IsAllTo server (on_request f server m r)
answered_it f server m None =
    let outcome = outcome_of f.kept.client server m in
    let told = observe_result (with_client f.kept outcome.client) server m outcome.answer in
    let reply = option_map spelling (reply_to f.kept.next_id m m.kind told.number outcome.answer) in
    each_appended (IsTo server) (sent_to server reply) (outputs_of_act outcome.answer.act) (reply_to_it server reply)
    (act_to_none server outcome.answer.act)
answered_it f server m (Some r) = repeated_to_it server m.kind r.reply

message_to_it : (f : Machine) (server : ℕ) (m : Message) (kind : Kind) → IsAllTo server (on_message f server m kind)
message_to_it f server m Con =
    either (IsAllTo server) (is_request m.code) (on_request f server m (repeat_of f server m))
    (sends f server (reset m.mid)) (answered_it f server m (repeat_of f server m)) (refl, tt)
message_to_it f server m Non =
    either (IsAllTo server) (is_request m.code) (on_request f server m (repeat_of f server m)) (silence f)
    (answered_it f server m (repeat_of f server m)) tt
message_to_it f server m Ack =
    either (IsAllTo server) (m.code == 0) (on_acknowledgement f server m.mid) (silence f) tt tt
message_to_it f server m Rst =
    either (IsAllTo server) (m.code == 0) (on_reset f server m.mid) (silence f) tt tt

datagram_to_it : (f : Machine) (server : ℕ) (bytes : List ℕ) (r : Result Message CoapFault)
    → IsAllTo server (on_datagram f server bytes r)
datagram_to_it f server bytes (Ok m) = message_to_it f server m m.kind
datagram_to_it f server bytes (Err fault) =
    either (IsAllTo server) (claims_confirmable bytes) (sends f server (reset (claimed_mid bytes))) (silence f)
    (refl, tt) tt

pub only_the_asker : OnlyTheAskerIsAnswered
only_the_asker f server bytes =
    either (IsAllTo server) (has_account f.kept.client server) (on_datagram f server bytes (reading_of bytes))
    (silence f) (datagram_to_it f server bytes (reading_of bytes)) tt

-- ---- puts and the firmware

abbrev pub put_when : Machine → Option FullPath → Value → Bool → Reaction
put_when f place value missed =
    if missed then record { outputs = Act Missed ∷ []; flat = f } else record {
      outputs = [];
      flat = record {
        kept = with_client f.kept (with_stored f.kept.client (with_value_at f.kept.client.store place value));
        recorded = f.recorded;
      };
    }

instances_stay : (stored : Stored) (place : Option FullPath) (value : Value)
    → (with_value_at stored place value).instances ≡ stored.instances
instances_stay stored None value = refl
instances_stay stored (Some place) value = refl

pub put_missed : (f : Machine) (path : Path) (value : Value)
    → misses f.kept.client.catalog f.kept.client.store (full_path path) value ≡ true → IsMissed f (Put path value)
put_missed f path value e =
    let reaction = put_when f (full_path path) value in
    record { acted = ap (λ b. (reaction b).outputs) e; unchanged = ap (λ b. (reaction b).flat) e }

pub put_stores : (f : Machine) (path : Path) (value : Value)
    → misses f.kept.client.catalog f.kept.client.store (full_path path) value ≡ false
    → OnlyStores f (Put path value)
put_stores f path value e =
    let reaction = put_when f (full_path path) value in
    record {
      sent = ap (λ b. (reaction b).outputs) e;
      instances = ap (λ b. (reaction b).flat.kept.client.store.instances) e
          ∙ instances_stay f.kept.client.store (full_path path) value;
      accounts = ap (λ b. (reaction b).flat.kept.client.accounts) e;
      catalog = ap (λ b. (reaction b).flat.kept.client.catalog) e;
      attributes = ap (λ b. (reaction b).flat.kept.client.attributes) e;
      notify = ap (λ b. (reaction b).flat.kept.client.notify) e;
      observations = ap (λ b. (reaction b).flat.kept.observations) e;
      clock = ap (λ b. (reaction b).flat.kept.clock) e;
      next_id = ap (λ b. (reaction b).flat.kept.next_id) e;
      recorded = ap (λ b. (reaction b).flat.recorded) e;
    }

put_by : (f : Machine) (path : Path) (value : Value) (missed : Bool)
    → misses f.kept.client.catalog f.kept.client.store (full_path path) value ≡ missed
    → OnlyStores f (Put path value) ⊎ IsMissed f (Put path value)
put_by f path value true e = inr (put_missed f path value e)
put_by f path value false e = inl (put_stores f path value e)

pub puts : PutsSendNothing
puts f path value =
    put_by f path value (misses f.kept.client.catalog f.kept.client.store (full_path path) value) refl

firmware_stays : (stored after : Stored) (code : ℕ) → firmware_after stored (Ended code) ≡ Some after
    → after.instances ≡ stored.instances
firmware_stays stored after code e =
    let t = taken stored after (Ended code) e in
    ap (λ (s : Stored). s.instances) (sym t.1) ∙ same_instances stored (uri_of (Ended code))

pub end_missed : (f : Machine) (code : ℕ) → firmware_after f.kept.client.store (Ended code) ≡ None
    → IsMissed f (Firmware code)
end_missed f code e =
    record { acted = ap (λ o. (on_firmware f o).outputs) e; unchanged = ap (λ o. (on_firmware f o).flat) e }

pub end_stores : (f : Machine) (code : ℕ) (stored : Stored)
    → firmware_after f.kept.client.store (Ended code) ≡ Some stored → OnlyStores f (Firmware code)
end_stores f code stored e =
    record {
      sent = ap (λ o. (on_firmware f o).outputs) e;
      instances = ap (λ o. (on_firmware f o).flat.kept.client.store.instances) e
          ∙ firmware_stays f.kept.client.store stored code e;
      accounts = ap (λ o. (on_firmware f o).flat.kept.client.accounts) e;
      catalog = ap (λ o. (on_firmware f o).flat.kept.client.catalog) e;
      attributes = ap (λ o. (on_firmware f o).flat.kept.client.attributes) e;
      notify = ap (λ o. (on_firmware f o).flat.kept.client.notify) e;
      observations = ap (λ o. (on_firmware f o).flat.kept.observations) e;
      clock = ap (λ o. (on_firmware f o).flat.kept.clock) e;
      next_id = ap (λ o. (on_firmware f o).flat.kept.next_id) e;
      recorded = ap (λ o. (on_firmware f o).flat.recorded) e;
    }

firmware_by : (f : Machine) (code : ℕ) (after : Option Stored)
    → firmware_after f.kept.client.store (Ended code) ≡ after
    → OnlyStores f (Firmware code) ⊎ IsMissed f (Firmware code)
firmware_by f code None e = inr (end_missed f code e)
firmware_by f code (Some stored) e = inl (end_stores f code stored e)

pub firmware : FirmwareSendsNothing
firmware f code = firmware_by f code (firmware_after f.kept.client.store (Ended code)) refl
