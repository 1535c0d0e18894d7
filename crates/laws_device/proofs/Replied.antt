-- What a device replies are messages, and it stays sound.
use Rattle.std.proofs.Common.{◌≡◌, ℕ, ◌<◌, ◌≤◌, ◌==◌, Bool, true, false}
use Rattle.std.proofs.Common.{not, ◌&&◌, ◌⊎◌, inl, inr, List, [], ◌∷◌, length, cond, Option, None, Some}
use Rattle.std.proofs.Common.{Result, Ok, Err, option_map, slice_index, refl, sym, subst, arith}
use Rattle.std.specs.Bool.{if◌then◌else◌}
use Rattle.std.specs.List.{AllByRecursion, find}
use Rattle.std.proofs.lemmas.Bool.Decides.{nat_tests}
use Rattle.std.proofs.lemmas.Option.{none-some}
use Rattle.lemmas.proofs.Lists.{each_filtered, each_appended}
use Rattle.coap_codec.specs.Message.{IsWellFormed, Message, spelling}
use Rattle.coap_codec.specs.declared.kind.Kind.{Kind}
use Rattle.coap_codec.specs.declared.kind.Kind.TheVariants.{Con, Non, Ack, Rst}
use Rattle.coap_codec.proofs.OneReading.{read_spelling}
use Rattle.notifier.specs.Observed.{was_sent}
use Rattle.device_requests.specs.declared.answer.Answer.{Answer}
use Rattle.device_machine.specs.Reactions.{IsShort, answer_options, response}
use Rattle.device_machine.specs.State.{Machine}
use Rattle.coap_codec.specs.Reading.{reading_of}
use Rattle.coap_codec.specs.declared.fault.CoapFault.{CoapFault}
use Rattle.coap_codec.proofs.Soundness.{AreBytes, spelled_from_reading}
use Rattle.device_requests.specs.Client.{has_account, with_stored}
use Rattle.device_requests.specs.Request.{outcome_of}
use Rattle.device_requests.specs.declared.answer.Act.{Act as Deed}
use Rattle.device_machine.specs.Laws.{IsFresh}
use Rattle.device_machine.specs.Observing.{noted_by}
use Rattle.device_requests.specs.Observe.{interest_of}
use Rattle.device_requests.specs.Ruling.{code_of}
use Rattle.device_requests.specs.declared.observe.Interest.{Interest}
use Rattle.device_machine.specs.Reactions.{Reaction, again, claimed_mid, claims_confirmable, flat_after, outputs_of_act}
use Rattle.device_machine.specs.Reactions.{is_request, is_same, on_datagram, on_firmware, on_message, on_request}
use Rattle.device_machine.specs.Reactions.{on_acknowledgement, on_reset, reaction_to, record_of, repeat_of, reset}
use Rattle.device_machine.specs.Reactions.{sends, sent_to, silence}
use Rattle.device_machine.specs.State.{DeviceState, is_live, with_client}
use Rattle.device_machine.specs.declared.event.Event.{Event}
use Rattle.device_machine.specs.declared.event.Event.TheVariants.{Firmware, Put, Recv, Tick}
use Rattle.device_machine.specs.declared.output.Output.TheVariants.{Act}
use Rattle.device_requests.specs.declared.answer.Act.TheVariants.{Missed}
use Rattle.device_template.specs.Values.{misses, with_value_at}
use Rattle.device_firmware.specs.Firmware.{firmware_after}
use Rattle.device_firmware.specs.declared.event.FirmwareEvent.TheVariants.{Ended}
use Rattle.instance_store.specs.Stored.{Stored}
use Rattle.object_defs.specs.Path.{full_path}
use Rattle.device_machine.specs.declared.recorded.Recorded.{Recorded}
use Rattle.device_machine.proofs.Naming.{in_order}
use Rattle.laws_device.specs.Messages.{Arrives, DatagramsAreMessages, HasMessages, HasReply, IsReply}
use Rattle.laws_device.specs.Serving.{IsServed, Replies}
use Rattle.laws_device.specs.Serving.Replies.{acknowledges, answers, rejects}
use Rattle.laws_device.proofs.Each.{acknowledged_each, noted_each}
use Rattle.laws_device.proofs.Received.{observed}
use Rattle.laws_device.proofs.Served.{first, served}
use Rattle.laws_device.specs.Messages.{IsMessage, IsSound, SendsMessage}
use Rattle.laws_device.proofs.Spelled.{Keeps, id_fits, spelled, ticks}

-- ---- what arrives

answered : (kind : Kind) (mid : ℕ) (token : List ℕ) (number : Option ℕ) (answer : Answer) → mid < 65536
    → length token ≤ 8 → IsShort answer.location → IsMessage (spelling (response kind mid token number answer))
answered kind mid token number answer h k s =
    spelled kind (code_of answer.ruling) mid token
    (answer_options number answer.location answer.format) answer.payload h k
    (in_order number answer.location answer.format s)

-- an empty Reset
reset_is : (mid : ℕ) → mid < 65536 → IsMessage (spelling (reset mid))
reset_is mid h =
    let good : IsWellFormed (reset mid) = record {
      code = omega arith;
      mid = h;
      token = omega arith;
      options = tt;
      empty = λ z. (refl, refl, refl);
    } in
    (reset mid, record { well_formed = good; parts = refl }, read_spelling (reset mid) good)

byte_at : (bytes : List ℕ) → AreBytes bytes → (i : ℕ) → i < length bytes → slice_index bytes i < 256
byte_at bytes h i inside = h i 0 inside

claimed_fits : (bytes : List ℕ) → AreBytes bytes → claims_confirmable bytes ≡ true → claimed_mid bytes < 65536
claimed_fits bytes h c =
    let long : 4 ≤ length bytes = grind (arith, nat_tests) in
    let a : slice_index bytes 2 < 256 = byte_at bytes h 2 (omega (arith, long)) in
    let b : slice_index bytes 3 < 256 = byte_at bytes h 3 (omega (arith, long)) in
    omega (arith, a, b)

observed_fits : (k : DeviceState) (server : ℕ) (m : Message) (answer : Answer) (interest : Option Interest)
    → AllByRecursion HasMessages k.observations → length m.token ≤ 8
    → AllByRecursion HasMessages (noted_by k server m answer interest).left
observed_fits k server m answer interest h t =
    noted_each HasMessages k server m answer interest (λ o n f. record { token = f.token; open_is = f.open_is })
    (λ path accept. record { token = t; open_is = λ timer e. absurd (none-some timer e) }) h

reply_fits : (f : Machine) (m : Message) (number : Option ℕ) (answer : Answer) (reply : Option Message) (next : ℕ)
    → f.kept.next_id < 65536 → IsWellFormed m → IsShort answer.location → Replies f m number answer reply next
    → IsReply (option_map spelling reply) × (next < 65536)
reply_fits f m number answer reply next h good s (acknowledges k) =
    (answered Ack m.mid m.token number answer good.mid good.token s, h)
reply_fits f m number answer reply next h good s (answers k u) =
    (answered Non f.kept.next_id m.token number answer h good.token s, id_fits f.kept.next_id)
reply_fits f m number answer reply next h good s (rejects k u) = (tt, h)

sent_message : (server : ℕ) (reply : Option (List ℕ)) → IsReply reply
    → AllByRecursion SendsMessage (sent_to server reply)
sent_message server None h = tt
sent_message server (Some bytes) h = (h, tt)

acts : (act : Option Deed) → AllByRecursion SendsMessage (outputs_of_act act)
acts None = tt
acts (Some act) = (tt, tt)

silent : (f : Machine) → IsSound f → Keeps (silence f)
silent f h = record { sent = tt; sound = h }

served_fits : (f : Machine) (server : ℕ) (bytes : List ℕ) (m : Message) → IsSound f → IsWellFormed m
    → IsShort (outcome_of f.kept.client server m).answer.location → IsServed f server bytes m
    → Keeps (reaction_to f (Recv server bytes))
served_fits f server bytes m h good s served =
    let outcome = outcome_of f.kept.client server m in
    let fits = reply_fits f m served.number outcome.answer served.reply
    (flat_after f (Recv server bytes)).kept.next_id h.next_id good s served.replies in
    let bytes_sent = option_map spelling served.reply in
    let left = (observed (with_client f.kept outcome.client) server m outcome.answer served.number
    (flat_after f (Recv server bytes)).kept.observations served.observes).left_is in
    record {
      sent = subst (λ os. AllByRecursion SendsMessage os) (sym served.sent)
          (each_appended SendsMessage (sent_to server bytes_sent) (outputs_of_act outcome.answer.act)
          (sent_message server bytes_sent fits.0) (acts outcome.answer.act));
      sound = record {
        next_id = fits.1;
        observations = subst (λ os. AllByRecursion HasMessages os) (sym left)
            (observed_fits (with_client f.kept outcome.client) server m outcome.answer (interest_of m) h.observations
            good.token);
        replies = subst (λ rs. AllByRecursion HasReply rs) (sym served.recorded)
            (each_appended HasReply f.recorded (record_of f.kept server m bytes_sent ∷ []) h.replies (fits.0, tt));
      };
    }

one_of : (a b : Recorded) → Some a ≡ Some b → a ≡ b
one_of a b h = cc

found_in : (p : Recorded → Bool) (rs : List Recorded) (r : Recorded) → find p rs ≡ Some r → AllByRecursion HasReply rs
    → HasReply r
found_in p [] r e h = cc
found_in p (x ∷ rs) r e h =
    elim (p x) as (λ b. cond b (Some x) (find p rs) ≡ Some r → HasReply r) [
      | true ↦ λ k. subst (λ y. HasReply y) (one_of x r k) h.0
      | false ↦ λ k. found_in p rs r k h.1
    ] e

again_message : (server : ℕ) (kind : Kind) (reply : Option (List ℕ)) → IsReply reply
    → AllByRecursion SendsMessage (again server kind reply)
again_message server Con reply h = sent_message server reply h
again_message server Non reply h = tt
again_message server Ack reply h = tt
again_message server Rst reply h = tt

request_fits : (f : Machine) (server : ℕ) (bytes : List ℕ) (m : Message) (o : Option Recorded) → IsSound f
    → IsWellFormed m → IsShort (outcome_of f.kept.client server m).answer.location
    → has_account f.kept.client server ≡ true → reading_of bytes ≡ Ok m → is_request m.code ≡ true
    → (m.kind ≡ Con) ⊎ (m.kind ≡ Non) → repeat_of f server m ≡ o → Keeps (on_request f server m o)
request_fits f server bytes m None h good s a reading r k e =
    let fresh : IsFresh f server bytes m = record { account = a; reading = reading; request = r; first = e } in
    subst Keeps (first f server bytes m fresh k)
    (served_fits f server bytes m h good s (served f server bytes m fresh k))
request_fits f server bytes m (Some r) h good s a reading q k e =
    record {
      sent = again_message server m.kind r.reply
          (found_in (λ x. is_live f.kept.clock x && is_same server m x) f.recorded r e h.replies);
      sound = h;
    }

-- whichever of two it is
whichever : (b : Bool) (x y : Reaction) → (b ≡ true → Keeps x) → Keeps y → Keeps (if b then x else y)
whichever true x y h k = h refl
whichever false x y h k = k

message_fits : (f : Machine) (server : ℕ) (bytes : List ℕ) (m : Message) (kind : Kind) → IsSound f
    → IsWellFormed m → IsShort (outcome_of f.kept.client server m).answer.location
    → has_account f.kept.client server ≡ true → reading_of bytes ≡ Ok m → m.kind ≡ kind
    → Keeps (on_message f server m kind)
message_fits f server bytes m Con h good s a reading k =
    whichever (is_request m.code) (on_request f server m (repeat_of f server m)) (sends f server (reset m.mid))
    (λ r. request_fits f server bytes m (repeat_of f server m) h good s a reading r (inl k) refl)
    (record { sent = (reset_is m.mid good.mid, tt); sound = h })
message_fits f server bytes m Non h good s a reading k =
    whichever (is_request m.code) (on_request f server m (repeat_of f server m)) (silence f)
    (λ r. request_fits f server bytes m (repeat_of f server m) h good s a reading r (inr k) refl) (silent f h)
message_fits f server bytes m Ack h good s a reading k =
    whichever (m.code == 0) (on_acknowledgement f server m.mid) (silence f)
    (λ z. record {
      sent = tt;
      sound = record {
        next_id = h.next_id;
        observations = acknowledged_each HasMessages f.kept.observations server m.mid
            (λ o k. record { token = k.token; open_is = λ timer e. absurd (none-some timer e) }) h.observations;
        replies = h.replies;
      };
    }) (silent f h)
message_fits f server bytes m Rst h good s a reading k =
    whichever (m.code == 0) (on_reset f server m.mid) (silence f)
    (λ z. record {
      sent = tt;
      sound = record {
        next_id = h.next_id;
        observations = each_filtered HasMessages (λ o. not (was_sent server m.mid o)) f.kept.observations
            h.observations;
        replies = h.replies;
      };
    }) (silent f h)

datagram_fits : (f : Machine) (server : ℕ) (bytes : List ℕ) (r : Result Message CoapFault) → AreBytes bytes → IsSound f
    → ((m : Message) → reading_of bytes ≡ Ok m → IsShort (outcome_of f.kept.client server m).answer.location)
    → has_account f.kept.client server ≡ true → reading_of bytes ≡ r → Keeps (on_datagram f server bytes r)
datagram_fits f server bytes (Ok m) all h s a e =
    message_fits f server bytes m m.kind h (spelled_from_reading bytes m all e).well_formed (s m e) a e refl
datagram_fits f server bytes (Err fault) all h s a e =
    whichever (claims_confirmable bytes) (sends f server (reset (claimed_mid bytes))) (silence f)
    (λ c. record { sent = (reset_is (claimed_mid bytes) (claimed_fits bytes all c), tt); sound = h }) (silent f h)

firmware_fits : (f : Machine) (after : Option Stored) → IsSound f → Keeps (on_firmware f after)
firmware_fits f None h = record { sent = (tt, tt); sound = h }
firmware_fits f (Some stored) h =
    record {
      sent = tt;
      sound = record { next_id = h.next_id; observations = h.observations; replies = h.replies };
    }

event_fits : (f : Machine) (event : Event) → IsSound f → Arrives f event → Keeps (reaction_to f event)
event_fits f (Recv server bytes) h a =
    whichever (has_account f.kept.client server) (on_datagram f server bytes (reading_of bytes)) (silence f)
    (λ account. datagram_fits f server bytes (reading_of bytes) a.0 h a.1 account refl) (silent f h)
event_fits f (Put path value) h a =
    whichever (misses f.kept.client.catalog f.kept.client.store (full_path path) value)
    (record { outputs = Act Missed ∷ []; flat = f })
    (record {
      outputs = [];
      flat = record {
        kept = with_client f.kept (with_stored f.kept.client
            (with_value_at f.kept.client.store (full_path path) value));
        recorded = f.recorded;
      };
    })
    (λ missed. record { sent = (tt, tt); sound = h })
    (record {
      sent = tt;
      sound = record { next_id = h.next_id; observations = h.observations; replies = h.replies };
    })
event_fits f (Firmware code) h a = firmware_fits f (firmware_after f.kept.client.store (Ended code)) h
event_fits f (Tick n) h a = ticks f n h

pub messages : DatagramsAreMessages
messages f event h a = let fits = event_fits f event h a in (fits.sent, fits.sound)
