-- The message IDs of what a device replies.
use Rattle.std.proofs.Common.{◌≡◌, ℕ, ◌*◌, ◌+◌, ◌/◌, ◌%◌, ◌≤◌, Bool, true, false, not, List, [], ◌∷◌, ◌++◌}
use Rattle.std.proofs.Common.{◌↔◌, length, Option, None, Some, Err, option_map, refl, sym, ap, subst, ◌∙◌, arith}
use Rattle.std.specs.Bool.{if◌then◌else◌}
use Rattle.std.specs.List.{AllByRecursion, Contains}
use Rattle.std.proofs.lemmas.List.Elements.{Contains-append_right}
use Rattle.std.proofs.lemmas.Option.{none-some}
use Rattle.lemmas.proofs.Lists.{each_filtered, each_appended}
use Rattle.coap_codec.specs.Message.{Message, Spells, kind_number, options_bytes, payload_bytes, spelling}
use Rattle.coap_codec.specs.declared.kind.Kind.{Kind}
use Rattle.coap_codec.specs.declared.kind.Kind.TheVariants.{Con, Non, Ack, Rst}
use Rattle.coap_codec.proofs.OneReading.{reading_of_spelled}
use Rattle.object_defs.specs.Path.{full_path}
use Rattle.object_defs.specs.declared.path.Path.{Path}
use Rattle.instance_store.specs.Stored.{Stored}
use Rattle.lwm2m_values.specs.declared.value.Value.{Value}
use Rattle.notifier.specs.Observed.{was_sent}
use Rattle.device_firmware.specs.Firmware.{firmware_after}
use Rattle.device_firmware.specs.declared.event.FirmwareEvent.TheVariants.{Ended}
use Rattle.device_template.specs.Values.{misses, with_value_at}
use Rattle.device_requests.specs.Client.{with_stored}
use Rattle.device_requests.specs.Observe.{interest_for, interest_of}
use Rattle.device_requests.specs.Options.{has_unrecognized_critical, path_of, segments_of}
use Rattle.device_requests.specs.Request.{outcome_of, request_on}
use Rattle.device_requests.specs.declared.answer.Act.{Act as Deed}
use Rattle.device_requests.specs.declared.answer.Act.TheVariants.{Missed}
use Rattle.device_requests.specs.declared.answer.Answer.{Answer}
use Rattle.device_requests.specs.declared.observe.Interest.{Interest}
use Rattle.device_requests.specs.declared.ruling.Ruling.TheVariants as rule
use Rattle.device_notifications.proofs.Turns.{first_of}
use Rattle.device_machine.specs.Laws.{IsFresh}
use Rattle.device_machine.specs.Observing.{noted_by, replies_non, reply_mid}
use Rattle.device_machine.specs.Reactions.{Reaction, again, on_firmware, outputs_of_act, reaction_to, record_of, reset}
use Rattle.device_machine.specs.Reactions.{response, sent_to}
use Rattle.device_machine.specs.State.{DeviceState, Machine, with_client}
use Rattle.device_machine.specs.declared.event.Event.{Event}
use Rattle.device_machine.specs.declared.event.Event.TheVariants.{Firmware, Put, Recv, Tick}
use Rattle.device_machine.specs.declared.output.Output.{Output}
use Rattle.device_machine.specs.declared.output.Output.TheVariants.{Act, Send}
use Rattle.device_machine.specs.declared.recorded.Recorded.{Recorded}
use Rattle.laws_device.specs.Numbering.{EventsNumberOn, Gives, HasSent, IsAcknowledged, NumbersOn, StartsUnsent}
use Rattle.laws_device.specs.Numbering.{WasSent}
use Rattle.laws_device.specs.Numbering.Gives.{none_to_ack, none_to_act, none_to_reset, to_non}
use Rattle.laws_device.specs.Receiving.{Arrival, BeginsConfirmable, IsArrival}
use Rattle.laws_device.specs.Receiving.Arrival.{rejected, empty_ack, empty_reset}
use Rattle.laws_device.specs.Receiving.IsArrival.{of_stranger, malformed, malformed_otherwise, confirmable_otherwise}
use Rattle.laws_device.specs.Receiving.IsArrival.{non_confirmable_otherwise, acknowledges, acknowledges_otherwise}
use Rattle.laws_device.specs.Receiving.IsArrival.{resets, resets_otherwise, asks_again, asks}
use Rattle.laws_device.specs.Serving.{IsServed, Replies}
use Rattle.laws_device.specs.Serving.Replies.{acknowledges as by_ack, answers as by_non, rejects as by_none}
use Rattle.laws_device.proofs.Arrived.{arrival_is, arrival_of, method_tested, reaction_on, reacts}
use Rattle.laws_device.proofs.Counted.{Given, given_both, given_free, given_none, given_own}
use Rattle.laws_device.proofs.Each.{acknowledged_each, noted_each}
use Rattle.laws_device.proofs.NumberedTicks.{all_still, tick_numbers}
use Rattle.laws_device.proofs.Received.{observed}
use Rattle.laws_device.proofs.Repeated.{no_repeat_found}
use Rattle.laws_device.proofs.Served.{served}

-- ---- the message ID of a confirmable message is that of its header

confirmable_bits : (kind token : ℕ) → kind ≡ 0 → token ≤ 8
    → ((64 + 16 * kind + token) / 64 ≡ 1) × ((64 + 16 * kind + token) / 16 % 4 ≡ 0)
confirmable_bits kind token h k = (omega (arith, h, k), omega (arith, h, k))

two_parts : (mid : ℕ) → mid ≡ 256 * (mid / 256) + mid % 256
two_parts mid = omega arith

begins_spelled : (bytes : List ℕ) (m : Message) → Spells bytes m → m.kind ≡ Con → BeginsConfirmable bytes m.mid
begins_spelled bytes m spells k =
    let bits = confirmable_bits (kind_number m.kind) (length m.token) (ap kind_number k) spells.well_formed.token in
    record {
      first = 64 + 16 * kind_number m.kind + length m.token;
      code = m.code;
      high = m.mid / 256;
      low = m.mid % 256;
      rest = m.token ++ (options_bytes 0 m.options ++ payload_bytes m.payload);
      header = spells.parts;
      version = bits.0;
      confirmable = bits.1;
      mid_is = two_parts m.mid;
    }

-- ---- a reaction

-- what a reaction sends has its message IDs, and what is kept is what was sent
record Numbers (event : Event) (before : List Output) (f : Machine) (r : Reaction) : Type 0 where
  given : Given event before f.kept.next_id r.outputs r.flat.kept.next_id
  has_sent : HasSent (before ++ r.outputs) r.flat

still : (before more : List Output) (f : Machine) → HasSent before f → HasSent (before ++ more) f
still before more f h =
    record { observations = all_still before more f.kept.observations h.observations; replies = h.replies }

nothing : (event : Event) (before : List Output) (f g : Machine) → HasSent before g
    → g.kept.next_id ≡ f.kept.next_id → Numbers event before f (record { outputs = []; flat = g })
nothing event before f g h is =
    record {
      given = subst (λ n. Given event before f.kept.next_id [] n) (sym is) (given_none event before f.kept.next_id);
      has_sent = still before [] g h;
    }

acts_given : (event : Event) (before : List Output) (next : ℕ) (act : Option Deed)
    → Given event before next (outputs_of_act act) next
acts_given event before next None = given_none event before next
acts_given event before next (Some act) = given_free event before next (Act act) (none_to_act act)

rejects_it : (before : List Output) (f : Machine) (server mid : ℕ) (bytes : List ℕ) → HasSent before f
    → BeginsConfirmable bytes mid
    → Numbers (Recv server bytes) before f (reaction_on f server (rejected mid))
rejects_it before f server mid bytes h b =
    record {
      given = given_free (Recv server bytes) before f.kept.next_id (Send server (spelling (reset mid)))
          (none_to_reset server (reset mid) refl (refl, b));
      has_sent = still before (Send server (spelling (reset mid)) ∷ []) f h;
    }

-- ---- a repeated request

middle : {X : Type 0} (P : X → Type 0) (before after : List X) (x : X) → AllByRecursion P (before ++ x ∷ after) → P x
middle P [] after x h = h.0
middle P (y ∷ before) after x h = middle P before after x h.1

again_given : (before : List Output) (next server : ℕ) (bytes : List ℕ) (m : Message) (r : Recorded) (kind : Kind)
    (reply : Option (List ℕ)) → m.kind ≡ kind → r.reply ≡ reply → r.kind ≡ m.kind → r.mid ≡ m.mid → IsAcknowledged r
    → (m.kind ≡ Con → BeginsConfirmable bytes m.mid)
    → Given (Recv server bytes) before next (again server kind reply) next
again_given before next server bytes m r Con None k e same mid h b = given_none (Recv server bytes) before next
again_given before next server bytes m r Con (Some reply) k e same mid h b =
    let ack = h reply (same ∙ k) e in
    let begins : BeginsConfirmable bytes ack.0.mid = subst (BeginsConfirmable bytes) (sym (ack.2 ∙ mid)) (b k) in
    given_free (Recv server bytes) before next (Send server reply)
    (subst (λ sent. Gives (Recv server bytes) before (Send server sent) []) (sym ack.3)
    (none_to_ack server ack.0 ack.1 (refl, begins)))
again_given before next server bytes m r Non reply k e same mid h b = given_none (Recv server bytes) before next
again_given before next server bytes m r Ack reply k e same mid h b = given_none (Recv server bytes) before next
again_given before next server bytes m r Rst reply k e same mid h b = given_none (Recv server bytes) before next

-- ---- a new request

reply_given : (before : List Output) (f : Machine) (server : ℕ) (bytes : List ℕ) (m : Message) (number : Option ℕ)
    (answer : Answer) (reply : Option Message) (next : ℕ) → Replies f m number answer reply next
    → (m.kind ≡ Con → BeginsConfirmable bytes m.mid)
    → Given (Recv server bytes) before f.kept.next_id (sent_to server (option_map spelling reply)) next
reply_given before f server bytes m number answer reply next (by_ack k) b =
    let r = response Ack m.mid m.token number answer in
    given_free (Recv server bytes) before f.kept.next_id (Send server (spelling r))
    (none_to_ack server r refl (refl, b k))
reply_given before f server bytes m number answer reply next (by_non k u) b =
    let r = response Non f.kept.next_id m.token number answer in
    given_own (Recv server bytes) before f.kept.next_id f.kept.next_id (Send server (spelling r))
    (to_non server r refl) refl
reply_given before f server bytes m number answer reply next (by_none k u) b =
    given_none (Recv server bytes) before f.kept.next_id

other : {P : Type 0} (kind : Kind) → kind ≡ Non → kind ≡ Con → P
other kind h k = absurd (differs (sym h ∙ k))
  where
    differs : Non ≡ Con → ⊥
    differs e = cc

the_bytes : (a b : List ℕ) → Some a ≡ Some b → b ≡ a
the_bytes a b h = cc

no_bytes : (a : List ℕ) → None ≡ Some a → ⊥
no_bytes a h = cc

recorded_reply : (f : Machine) (server : ℕ) (m : Message) (number : Option ℕ) (answer : Answer)
    (reply : Option Message) (next : ℕ) → Replies f m number answer reply next
    → IsAcknowledged (record_of f.kept server m (option_map spelling reply))
recorded_reply f server m number answer reply next (by_ack k) bytes con is =
    let r = response Ack m.mid m.token number answer in (r, refl, refl, the_bytes (spelling r) bytes is)
recorded_reply f server m number answer reply next (by_non k u) bytes con is = other m.kind k con
recorded_reply f server m number answer reply next (by_none k u) bytes con is = absurd (no_bytes bytes is)

-- a reply is among what is sent
is_first : (before : List Output) (server : ℕ) (r : Message) (rest : List Output)
    → Contains (before ++ (Send server (spelling r) ∷ rest)) (Send server (spelling r))
is_first before server r rest =
    let out = Send server (spelling r) in Contains-append_right before (out ∷ rest) out (first_of out rest)

not_non : Ack ≡ Non → ⊥
not_non h = cc

ack_for_con : (kind : Kind) → kind ≡ Con → (replies_non kind ≡ true) ↔ (Ack ≡ Non)
ack_for_con kind h =
    subst (λ (k : Kind). (replies_non k ≡ true) ↔ (Ack ≡ Non)) (sym h) (λ e. cc, λ e. absurd (not_non e))

non_for_non : (kind : Kind) → kind ≡ Non → (replies_non kind ≡ true) ↔ (Non ≡ Non)
non_for_non kind h = (λ e. refl, λ e. ap replies_non h)

asks_none : (m : Message) → has_unrecognized_critical m.options ≡ true → interest_of m ≡ None
asks_none m u =
    ap (λ b. interest_for (if b then Err rule.Options else request_on m (path_of (segments_of m.options)))) u

-- the observations that are left, the one that begins among them, were sent their last messages
noted_sent : (before : List Output) (f : Machine) (k : DeviceState) (server : ℕ) (m : Message) (number : Option ℕ)
    (answer : Answer) (reply : Option Message) (next : ℕ) (rest : List Output)
    → Replies f m number answer reply next → k.next_id ≡ f.kept.next_id
    → AllByRecursion (WasSent (before ++ (sent_to server (option_map spelling reply) ++ rest))) k.observations
    → AllByRecursion (WasSent (before ++ (sent_to server (option_map spelling reply) ++ rest)))
    (noted_by k server m answer (interest_of m)).left
noted_sent before f k server m number answer reply next rest (by_ack con) same h =
    let r = response Ack m.mid m.token number answer in
    let all = before ++ (Send server (spelling r) ∷ rest) in
    noted_each (WasSent all) k server m answer (interest_of m)
    (λ o n w. record {
      message = w.message;
      sent = w.sent;
      token = w.token;
      mid = w.mid;
      non = w.non;
      open_is = w.open_is;
    })
    (λ path accept. record {
      message = r;
      sent = is_first before server r rest;
      token = refl;
      mid = sym (ap (reply_mid k.next_id m) con);
      non = ack_for_con m.kind con;
      open_is = λ timer e. absurd (none-some timer e);
    }) h
noted_sent before f k server m number answer reply next rest (by_non non u) same h =
    let r = response Non f.kept.next_id m.token number answer in
    let all = before ++ (Send server (spelling r) ∷ rest) in
    noted_each (WasSent all) k server m answer (interest_of m)
    (λ o n w. record {
      message = w.message;
      sent = w.sent;
      token = w.token;
      mid = w.mid;
      non = w.non;
      open_is = w.open_is;
    })
    (λ path accept. record {
      message = r;
      sent = is_first before server r rest;
      token = refl;
      mid = sym (ap (reply_mid k.next_id m) non ∙ same);
      non = non_for_non m.kind non;
      open_is = λ timer e. absurd (none-some timer e);
    }) h
noted_sent before f k server m number answer reply next rest (by_none non u) same h =
    subst (λ (i : Option Interest). AllByRecursion (WasSent (before ++ ([] ++ rest)))
    (noted_by k server m answer i).left) (sym (asks_none m u)) h

served_numbers : (before : List Output) (f : Machine) (server : ℕ) (bytes : List ℕ) (m : Message) → HasSent before f
    → (m.kind ≡ Con → BeginsConfirmable bytes m.mid) → IsServed f server bytes m
    → Numbers (Recv server bytes) before f (reaction_to f (Recv server bytes))
served_numbers before f server bytes m h b s =
    let r = reaction_to f (Recv server bytes) in
    let outcome = outcome_of f.kept.client server m in
    let k = with_client f.kept outcome.client in
    let reply = sent_to server (option_map spelling s.reply) in
    let acts = outputs_of_act outcome.answer.act in
    let told = noted_sent before f k server m s.number outcome.answer s.reply r.flat.kept.next_id acts s.replies refl
    (all_still before (reply ++ acts) f.kept.observations h.observations) in
    let left = (observed k server m outcome.answer s.number r.flat.kept.observations s.observes).left_is in
    record {
      given = subst (λ os. Given (Recv server bytes) before f.kept.next_id os r.flat.kept.next_id) (sym s.sent)
          (given_both (Recv server bytes) before reply acts f.kept.next_id r.flat.kept.next_id r.flat.kept.next_id
          (reply_given before f server bytes m s.number outcome.answer s.reply r.flat.kept.next_id s.replies b)
          (acts_given (Recv server bytes) (before ++ reply) r.flat.kept.next_id outcome.answer.act));
      has_sent = record {
        observations = subst (λ os. AllByRecursion (WasSent (before ++ os)) r.flat.kept.observations) (sym s.sent)
            (subst (λ os. AllByRecursion (WasSent (before ++ (reply ++ acts))) os) (sym left) told);
        replies = subst (λ rs. AllByRecursion IsAcknowledged rs) (sym s.recorded)
            (each_appended IsAcknowledged f.recorded
            (record_of f.kept server m (option_map spelling s.reply) ∷ []) h.replies
            (recorded_reply f server m s.number outcome.answer s.reply r.flat.kept.next_id s.replies, tt));
      };
    }

-- ---- by what arrives

on_arrival : (before : List Output) (f : Machine) (server : ℕ) (bytes : List ℕ) (arrival : Arrival)
    → HasSent before f → reaction_to f (Recv server bytes) ≡ reaction_on f server arrival
    → IsArrival f server bytes arrival → Numbers (Recv server bytes) before f (reaction_to f (Recv server bytes))
on_arrival before f server bytes arrival h is (of_stranger a) =
    subst (Numbers (Recv server bytes) before f) (sym is) (nothing (Recv server bytes) before f f h refl)
on_arrival before f server bytes arrival h is (malformed mid n b) =
    subst (Numbers (Recv server bytes) before f) (sym is) (rejects_it before f server mid bytes h b)
on_arrival before f server bytes arrival h is (malformed_otherwise n b) =
    subst (Numbers (Recv server bytes) before f) (sym is) (nothing (Recv server bytes) before f f h refl)
on_arrival before f server bytes arrival h is (confirmable_otherwise m s k n) =
    subst (Numbers (Recv server bytes) before f) (sym is)
    (rejects_it before f server m.mid bytes h (begins_spelled bytes m s.spelled k))
on_arrival before f server bytes arrival h is (non_confirmable_otherwise m s k n) =
    subst (Numbers (Recv server bytes) before f) (sym is) (nothing (Recv server bytes) before f f h refl)
on_arrival before f server bytes arrival h is (acknowledges m s k n) =
    subst (Numbers (Recv server bytes) before f) (sym is)
    (nothing (Recv server bytes) before f (reaction_on f server (empty_ack m.mid)).flat (record {
      observations = acknowledged_each (WasSent before) f.kept.observations server m.mid
          (λ o w. record {
            message = w.message;
            sent = w.sent;
            token = w.token;
            mid = w.mid;
            non = w.non;
            open_is = λ timer e. absurd (none-some timer e);
          }) h.observations;
      replies = h.replies;
    }) refl)
on_arrival before f server bytes arrival h is (acknowledges_otherwise m s k n) =
    subst (Numbers (Recv server bytes) before f) (sym is) (nothing (Recv server bytes) before f f h refl)
on_arrival before f server bytes arrival h is (resets m s k n) =
    subst (Numbers (Recv server bytes) before f) (sym is)
    (nothing (Recv server bytes) before f (reaction_on f server (empty_reset m.mid)).flat (record {
      observations = each_filtered (WasSent before) (λ o. not (was_sent server m.mid o)) f.kept.observations
          h.observations;
      replies = h.replies;
    }) refl)
on_arrival before f server bytes arrival h is (resets_otherwise m s k n) =
    subst (Numbers (Recv server bytes) before f) (sym is) (nothing (Recv server bytes) before f f h refl)
on_arrival before f server bytes arrival h is (asks_again m r s o) =
    let own = middle IsAcknowledged o.before o.after r
    (subst (λ rs. AllByRecursion IsAcknowledged rs) o.parts h.replies) in
    subst (Numbers (Recv server bytes) before f) (sym is) (record {
      given = again_given before f.kept.next_id server bytes m r m.kind r.reply refl refl o.repeats.kind_is
          o.repeats.mid_is own (begins_spelled bytes m s.brings.spelled);
      has_sent = still before (again server m.kind r.reply) f h;
    })
on_arrival before f server bytes arrival h is (asks m s n) =
    let fresh_is : IsFresh f server bytes m = record {
      account = s.brings.account;
      reading = reading_of_spelled bytes m s.brings.spelled;
      request = method_tested m.code s.method;
      first = no_repeat_found f server m n;
    } in
    served_numbers before f server bytes m h (begins_spelled bytes m s.brings.spelled)
    (served f server bytes m fresh_is s.carries)

-- ---- the other events

missed : (event : Event) (before : List Output) (f : Machine) → HasSent before f
    → Numbers event before f (record { outputs = Act Missed ∷ []; flat = f })
missed event before f h =
    record {
      given = given_free event before f.kept.next_id (Act Missed) (none_to_act Missed);
      has_sent = still before (Act Missed ∷ []) f h;
    }

firmware_numbers : (event : Event) (before : List Output) (f : Machine) (after : Option Stored) → HasSent before f
    → Numbers event before f (on_firmware f after)
firmware_numbers event before f None h = missed event before f h
firmware_numbers event before f (Some stored) h =
    nothing event before f (on_firmware f (Some stored)).flat
    (record { observations = h.observations; replies = h.replies }) refl

either : (P : Reaction → Type 0) (b : Bool) (x y : Reaction) → P x → P y → P (if b then x else y)
either P true x y h k = h
either P false x y h k = k

put_numbers : (before : List Output) (f : Machine) (path : Path) (value : Value) → HasSent before f
    → Numbers (Put path value) before f (reaction_to f (Put path value))
put_numbers before f path value h =
    let g : Machine = record {
      kept = with_client f.kept (with_stored f.kept.client
          (with_value_at f.kept.client.store (full_path path) value));
      recorded = f.recorded;
    } in
    either (Numbers (Put path value) before f)
    (misses f.kept.client.catalog f.kept.client.store (full_path path) value)
    (record { outputs = Act Missed ∷ []; flat = f }) (record { outputs = []; flat = g })
    (missed (Put path value) before f h)
    (nothing (Put path value) before f g (record { observations = h.observations; replies = h.replies }) refl)

on_from : (event : Event) (before : List Output) (f : Machine) → Numbers event before f (reaction_to f event)
    → NumbersOn before f event
on_from event before f n =
    record { mids = n.given.mids; gives = n.given.gives; count = n.given.count; has_sent = n.has_sent }

pub starts_unsent : StartsUnsent
starts_unsent class = record { observations = tt; replies = tt }

pub events_number_on : EventsNumberOn
events_number_on before f (Recv server bytes) all h =
    on_from (Recv server bytes) before f
    (on_arrival before f server bytes (arrival_of f server bytes) h (reacts f server bytes)
    (arrival_is f server bytes all))
events_number_on before f (Put path value) all h =
    on_from (Put path value) before f (put_numbers before f path value h)
events_number_on before f (Firmware code) all h =
    on_from (Firmware code) before f
    (firmware_numbers (Firmware code) before f (firmware_after f.kept.client.store (Ended code)) h)
events_number_on before f (Tick n) all h = tick_numbers before f n h
