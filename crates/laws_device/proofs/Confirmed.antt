-- Where notifications are Non-confirmable none is open; a Confirmable one that nothing answers is sent five times.
use Rattle.std.proofs.Common.{◌≡◌, ℕ, zero, suc, ◌+◌, ◌==◌, Bool, true, false, not, ◌&&◌, ◌||◌, inr, List, [], ◌∷◌}
use Rattle.std.proofs.Common.{map, replicate, Option, None, Some, refl, sym, ap, subst, ◌∙◌}
use Rattle.std.specs.Bool.{if◌then◌else◌}
use Rattle.std.specs.List.{AllByRecursion, list_any}
use Rattle.std.specs.Option.{is_some}
use Rattle.std.proofs.Math.Bool.{and-false}
use Rattle.lemmas.proofs.Lists.{each_filtered, each_appended}
use Rattle.coap_codec.specs.Message.{Message, spelling}
use Rattle.coap_codec.specs.Reading.{reading_of}
use Rattle.coap_codec.specs.declared.kind.Kind.TheVariants.{Con, Non}
use Rattle.instance_store.specs.Stored.{Stored}
use Rattle.object_defs.specs.Path.{full_path}
use Rattle.notifier.specs.Observed.{is_awaited, next_number, was_sent}
use Rattle.notifier.specs.declared.observation.Observation.{Observation}
use Rattle.notifier.specs.declared.turn.Turn.TheVariants.{Resend}
use Rattle.device_firmware.specs.Firmware.{firmware_after}
use Rattle.device_firmware.specs.declared.event.FirmwareEvent.TheVariants.{Ended}
use Rattle.device_template.specs.Values.{misses, with_value_at}
use Rattle.device_requests.specs.Client.{Client, has_account, with_stored}
use Rattle.device_requests.specs.Observe.{interest_of}
use Rattle.device_requests.specs.Request.{outcome_of}
use Rattle.device_requests.specs.declared.answer.Act.TheVariants.{Missed}
use Rattle.device_notifications.specs.ConfirmableLaws.{IsClosed, SendsFiveTimesAtMost, resends_within}
use Rattle.device_notifications.specs.Message.{notification, resent_datagram}
use Rattle.device_notifications.specs.Second.{Sweep, next_notification, notified_kind, present_answer, second, seconds}
use Rattle.device_notifications.specs.Second.{turn_of}
use Rattle.device_notifications.specs.declared.datagram.Datagram.{Datagram}
use Rattle.device_notifications.proofs.Turns.{by_all}
use Rattle.device_machine.specs.Observing.{observe_result}
use Rattle.device_machine.specs.Reactions.{Reaction, on_datagram, on_firmware, reaction_to, reply_to}
use Rattle.device_machine.specs.Reactions.{send_of, silence, sweep_in}
use Rattle.device_machine.specs.State.{Machine, with_client, with_observations}
use Rattle.device_machine.specs.declared.event.Event.TheVariants.{Firmware, Put, Recv, Tick}
use Rattle.device_machine.specs.declared.output.Output.TheVariants.{Act}
use Rattle.device_machine.proofs.Closing.{others}
use Rattle.device_machine.proofs.Refusing.{observations_after}
use Rattle.device_machine.proofs.Repeating.{client_after}
use Rattle.laws_device.specs.Confirming.{HasNons, NonsIgnoreAcks, SendsNon, StartsWithNons, StaysWithNons}
use Rattle.laws_device.specs.Confirming.{TicksSendNons, UnansweredIsSentFiveTimes}
use Rattle.laws_device.specs.Receiving.{Arrival}
use Rattle.laws_device.specs.Receiving.Arrival.{ignored, rejected, empty_ack, empty_reset, repeated, fresh}
use Rattle.laws_device.proofs.Arrived.{arrival_of, reaction_on, reacts}
use Rattle.laws_device.proofs.Each.{acknowledged_each, noted_each}
use Rattle.laws_device.proofs.Notify.{keeps_notify}
use Rattle.laws_device.proofs.Sent.{not_resend, only_evaluated}

-- ---- seconds

abbrev IsNon : Datagram → Type 0
IsNon d = (m : Message) × (m.kind ≡ Non) × (d.bytes ≡ spelling m)

-- all that is sent is Non-confirmable, and no observation is open then
record Nons (t : Sweep) : Type 0 where
  sent : AllByRecursion IsNon t.sent
  left : AllByRecursion IsClosed t.left

turn_nons : (client : Client) (clock next_id : ℕ) (o : Observation) → client.notify ≡ 0 → IsClosed o
    → Nons (turn_of client clock next_id o)
turn_nons client clock next_id o non closed =
    by_all client clock next_id o Nons
    (λ is content due. record {
      sent = (
        (
          notification (notified_kind client) o next_id (Some (next_number o.number)) (present_answer client o),
          ap (λ n. if n == 0 then Non else Con) non,
          refl,
        ),
        tt,
      );
      left = (
        ap (λ n. if n == 0 then None else Some (record {
          bytes = (next_notification client next_id o (present_answer client o)).bytes;
          first = client.notify;
        })) non,
        tt,
      );
    })
    (λ is content rests. record { sent = tt; left = (closed, tt) })
    (λ is no_content. record {
      sent = ((notification Non o next_id None (present_answer client o), refl, refl), tt);
      left = tt;
    })
    (λ is. record { sent = tt; left = (closed, tt) })
    (λ is. absurd (not_resend (only_evaluated o clock Resend closed is)))
    (λ is. record { sent = tt; left = tt })

second_nons : (client : Client) (clock next_id : ℕ) (os : List Observation) → client.notify ≡ 0
    → AllByRecursion IsClosed os → Nons (second client clock next_id os)
second_nons client clock next_id [] non h = record { sent = tt; left = tt }
second_nons client clock next_id (o ∷ os) non h =
    let t = turn_of client clock next_id o in
    let u = second client clock t.next_id os in
    let a = turn_nons client clock next_id o non h.0 in
    let b = second_nons client clock t.next_id os non h.1 in
    record {
      sent = each_appended IsNon t.sent u.sent a.sent b.sent;
      left =
          each_appended IsClosed t.left u.left a.left b.left;
    }

seconds_nons : (client : Client) (clock n next_id : ℕ) (os : List Observation) → client.notify ≡ 0
    → AllByRecursion IsClosed os → Nons (seconds client clock n next_id os)
seconds_nons client clock zero next_id os non h = record { sent = tt; left = h }
seconds_nons client clock (suc n) next_id os non h =
    let t = second client (clock + 1) next_id os in
    let a = second_nons client (clock + 1) next_id os non h in
    let b = seconds_nons client (clock + 1) n t.next_id t.left non a.left in
    record {
      sent = each_appended IsNon t.sent (seconds client (clock + 1) n t.next_id t.left).sent a.sent b.sent;
      left = b.left;
    }

put_out : (ds : List Datagram) → AllByRecursion IsNon ds → AllByRecursion SendsNon (map send_of ds)
put_out [] h = tt
put_out (d ∷ ds) h = (h.0, put_out ds h.1)

in_tick : (f : Machine) (n : ℕ) → HasNons f → Nons (sweep_in f.kept n)
in_tick f n h = seconds_nons f.kept.client f.kept.clock n f.kept.next_id f.kept.observations h.notify h.closed

pub tick_sends_nons : TicksSendNons
tick_sends_nons f n h = put_out (sweep_in f.kept n).sent (in_tick f n h).sent

-- ---- events

pub starts_with_nons : StartsWithNons
starts_with_nons class non = record { notify = non; closed = tt }

stays_on : (f : Machine) (server : ℕ) (arrival : Arrival) → HasNons f → HasNons (reaction_on f server arrival).flat
stays_on f server ignored h = h
stays_on f server (rejected mid) h = h
stays_on f server (empty_ack mid) h =
    record {
      notify = h.notify;
      closed = acknowledged_each IsClosed f.kept.observations server mid (λ o k. refl) h.closed;
    }
stays_on f server (empty_reset mid) h =
    record {
      notify = h.notify;
      closed = each_filtered IsClosed (λ o. not (was_sent server mid o)) f.kept.observations h.closed;
    }
stays_on f server (repeated m r) h = h
stays_on f server (fresh m) h =
    let outcome = outcome_of f.kept.client server m in
    let before = with_client f.kept outcome.client in
    let told = observe_result before server m outcome.answer in
    let k = with_observations before told.left in
    let reply = reply_to f.kept.next_id m m.kind told.number outcome.answer in
    record {
      notify = ap (λ (c : Client). c.notify) (client_after k m.kind reply) ∙ keeps_notify f.kept.client server m
          ∙ h.notify;
      closed = subst (λ os. AllByRecursion IsClosed os) (sym (observations_after k m.kind reply))
          (noted_each IsClosed before server m outcome.answer (interest_of m) (λ o n c. c) (λ path accept. refl)
          h.closed);
    }

whichever : (b : Bool) (x y : Reaction) → HasNons x.flat → HasNons y.flat → HasNons (if b then x else y).flat
whichever true x y h k = h
whichever false x y h k = k

firmware_stays : (f : Machine) (after : Option Stored) → HasNons f → HasNons (on_firmware f after).flat
firmware_stays f None h = h
firmware_stays f (Some stored) h = record { notify = h.notify; closed = h.closed }

pub stays_with_nons : StaysWithNons
stays_with_nons f (Recv server bytes) h =
    subst (λ (r : Reaction). HasNons r.flat) (sym (reacts f server bytes))
    (stays_on f server (arrival_of f server bytes) h)
stays_with_nons f (Put path value) h =
    whichever (misses f.kept.client.catalog f.kept.client.store (full_path path) value)
    (record { outputs = Act Missed ∷ []; flat = f })
    (record {
      outputs = [];
      flat = record {
        kept = with_client f.kept (with_stored f.kept.client
            (with_value_at f.kept.client.store (full_path path) value));
        recorded = f.recorded;
      };
    })
    h (record { notify = h.notify; closed = h.closed })
stays_with_nons f (Firmware code) h = firmware_stays f (firmware_after f.kept.client.store (Ended code)) h
stays_with_nons f (Tick n) h = record { notify = h.notify; closed = (in_tick f n h).left }

none_awaits : (server mid : ℕ) (os : List Observation) → AllByRecursion IsClosed os
    → list_any (is_awaited server mid) os ≡ false
none_awaits server mid [] h = refl
none_awaits server mid (o ∷ os) h =
    ap (λ t. (server == o.server && (is_some t && o.mid == mid)) || list_any (is_awaited server mid) os) h.0
    ∙ ap (λ b. b || list_any (is_awaited server mid) os) (and-false (server == o.server))
    ∙ none_awaits server mid os h.1

pub nons_ignore_acks : NonsIgnoreAcks
nons_ignore_acks f server bytes m h reading k =
    elim (has_account f.kept.client server) as (λ b. has_account f.kept.client server ≡ b
    → reaction_to f (Recv server bytes) ≡ silence f) [
      | true ↦ λ a. others f server bytes m a reading k (inr (none_awaits server m.mid f.kept.observations h.closed))
      | false ↦ λ a. ap (λ b. if b then on_datagram f server bytes (reading_of bytes) else silence f) a
    ] refl

-- ---- a Confirmable notification

sent_each : (n : ℕ) (d : Datagram) → map send_of (replicate n d) ≡ replicate n (send_of d)
sent_each zero d = refl
sent_each (suc n) d = ap (λ os. send_of d ∷ os) (sent_each n d)

pub unanswered : SendsFiveTimesAtMost → UnansweredIsSentFiveTimes
unanswered five f o timer n one h =
    let all = (λ i. seconds f.kept.client (sym h.second i) n f.kept.next_id (one i))
    ∙ five f.kept.client o timer n f.kept.next_id h.is_open h.timed in
    record {
      sent = ap (λ (t : Sweep). map send_of t.sent) all
          ∙ sent_each (resends_within timer.first n) (resent_datagram o timer);
      left = ap (λ (t : Sweep). t.left) all;
    }
