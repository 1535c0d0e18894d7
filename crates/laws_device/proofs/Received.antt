-- What a device does on a datagram, as its record says it.
use Rattle.std.proofs.Common.{◌≡◌, ℕ, Bool, true, false}
use Rattle.std.proofs.Common.{◌⊎◌, List, [], ◌∷◌, ◌++◌, Option, None, Some}
use Rattle.std.proofs.Common.{option_map, refl, sym, ap, subst, ◌∙◌}
use Rattle.std.specs.Bool.{if◌then◌else◌}
use Rattle.std.proofs.lemmas.List.{append-nil}
use Rattle.coap_codec.specs.Message.{Message, spelling}
use Rattle.coap_codec.specs.declared.kind.Kind.{Kind}
use Rattle.coap_codec.specs.declared.kind.Kind.TheVariants.{Con, Non, Ack, Rst}
use Rattle.coap_codec.proofs.Soundness.{AreBytes}
use Rattle.object_defs.specs.declared.path.Path.{Path}
use Rattle.notifier.specs.Observed.{number_for, with_registered, without_cancelled}
use Rattle.notifier.specs.declared.observation.Observation.{Observation}
use Rattle.device_requests.specs.Answer.{is_content}
use Rattle.device_requests.specs.Observe.{interest_of}
use Rattle.device_requests.specs.Request.{outcome_of}
use Rattle.device_requests.specs.declared.answer.Answer.{Answer}
use Rattle.device_requests.specs.declared.observe.Interest.{Interest}
use Rattle.device_requests.specs.declared.observe.Interest.TheVariants.{Cancel, Register}
use Rattle.device_machine.specs.Observing.{ObserveResult, lacks_place, new_observation, no_observe, noted_by}
use Rattle.device_machine.specs.Observing.{observe_result}
use Rattle.device_machine.specs.Reactions.{Reaction, again, kept_after, outputs_of_act, reaction_to, record_of}
use Rattle.device_machine.specs.Reactions.{reply_to, reset, response, sent_to}
use Rattle.device_machine.specs.State.{DeviceState, Machine, with_client, with_observations}
use Rattle.device_machine.specs.declared.event.Event.TheVariants.{Recv}
use Rattle.device_machine.specs.declared.output.Output.{Output}
use Rattle.device_machine.specs.declared.recorded.Recorded.{Recorded}
use Rattle.laws_device.specs.Receiving.{Arrival, ArrivalsAreOne}
use Rattle.laws_device.specs.Receiving.{IsArrival, IsReaction}
use Rattle.laws_device.specs.Receiving.{IsReactionTo, IsResponse, LeavesObservations, ReactionsAreOne}
use Rattle.laws_device.specs.Receiving.{ReactionsAreSaid, Responds, RespondsBy}
use Rattle.laws_device.specs.Receiving.{act_on, client_on, recorded_on, reply_again}
use Rattle.laws_device.specs.Receiving.Arrival.{ignored, rejected, empty_ack, empty_reset, repeated, fresh}
use Rattle.laws_device.specs.Receiving.IsArrival.{of_stranger, malformed, malformed_otherwise, confirmable_otherwise}
use Rattle.laws_device.specs.Receiving.IsArrival.{non_confirmable_otherwise, acknowledges, acknowledges_otherwise}
use Rattle.laws_device.specs.Receiving.IsArrival.{resets, resets_otherwise, asks_again, asks}
use Rattle.laws_device.specs.Receiving.RespondsBy.{piggybacks, sends_non, sends_none}
use Rattle.laws_device.specs.Serving.{Observes, Replies, id_after}
use Rattle.laws_device.specs.Serving.Observes.{asks_nothing, cancels, finds_no_place, is_refused, registers}
use Rattle.laws_device.proofs.Served.{serves}
use Rattle.laws_device.proofs.Arrived.{arrival_of, reaction_on, reacts, arrival_is, arrives_so}

-- ---- the reaction to it is what the record says

again_is : (server : ℕ) (kind : Kind) (reply : Option (List ℕ))
    → again server kind reply ≡ sent_to server (reply_again kind reply) ++ []
again_is server Con reply = sym (append-nil (sent_to server reply))
again_is server Non reply = refl
again_is server Ack reply = refl
again_is server Rst reply = refl

-- the message of a response is the one that has these parts
said_so : (kind : Kind) (mid : ℕ) (m : Message) (number : Option ℕ) (answer : Answer)
    → IsResponse kind mid m number answer (response kind mid m.token number answer)
said_so kind mid m number answer =
    record { kind_is = refl; mid_is = refl; token = refl; code = refl; options = refl; payload = refl }

alone_said : (kind : Kind) (mid : ℕ) (m : Message) (number : Option ℕ) (answer : Answer) (r : Message)
    → IsResponse kind mid m number answer r → r ≡ response kind mid m.token number answer
alone_said kind mid m number answer r h = λ j. record {
  kind = h.kind_is j;
  code = h.code j;
  mid = h.mid_is j;
  token = h.token j;
  options = h.options j;
  payload = h.payload j;
}

responds : (f : Machine) (m : Message) (number : Option ℕ) (answer : Answer) (reply : Option Message) (next_id : ℕ)
    → Replies f m number answer reply next_id → RespondsBy f m number answer reply next_id
responds f m number answer reply next_id (Replies.acknowledges k) =
    piggybacks (response Ack m.mid m.token number answer) k (said_so Ack m.mid m number answer)
responds f m number answer reply next_id (Replies.answers k u) =
    sends_non (response Non f.kept.next_id m.token number answer) k u (said_so Non f.kept.next_id m number answer)
responds f m number answer reply next_id (Replies.rejects k u) = sends_none k u

replies : (f : Machine) (m : Message) (number : Option ℕ) (answer : Answer) (reply : Option Message) (next_id : ℕ)
    → RespondsBy f m number answer reply next_id → Replies f m number answer reply next_id
replies f m number answer reply next_id (piggybacks r k h) =
    subst (λ o. Replies f m number answer (Some o) f.kept.next_id)
    (sym (alone_said Ack m.mid m number answer r h)) (Replies.acknowledges k)
replies f m number answer reply next_id (sends_non r k u h) =
    subst (λ o. Replies f m number answer (Some o) (id_after f.kept.next_id))
    (sym (alone_said Non f.kept.next_id m number answer r h)) (Replies.answers k u)
replies f m number answer reply next_id (sends_none k u) = Replies.rejects k u

fresh_reacts : (f : Machine) (server : ℕ) (m : Message) → (m.kind ≡ Con) ⊎ (m.kind ≡ Non)
    → IsReactionTo f server (fresh m) (reaction_on f server (fresh m))
fresh_reacts f server m k =
    let s = serves f server m (outcome_of f.kept.client server m) k in
    record {
      number = s.number;
      reply = option_map spelling s.reply;
      responds = (
        s.reply,
        responds f m s.number (outcome_of f.kept.client server m).answer s.reply
            (reaction_on f server (fresh m)).flat.kept.next_id s.replies,
        refl,
      );
      sent = s.sent;
      recorded = s.recorded;
      observations = s.observes;
      client = s.client;
      clock = s.clock;
    }

-- nothing changes
still : (f : Machine) (server : ℕ) (arrival : Arrival) (reply : Option (List ℕ)) (outputs : List Output)
    → Responds f server None arrival reply f.kept.next_id
    → outputs ≡ sent_to server reply ++ outputs_of_act (act_on f server arrival)
    → recorded_on f server reply arrival ≡ []
    → LeavesObservations f server None arrival f.kept.observations
    → f.kept.client ≡ client_on f server arrival
    → IsReactionTo f server arrival (record { outputs = outputs; flat = f })
still f server arrival reply outputs r s n o c =
    record {
      number = None;
      reply = reply;
      responds = r;
      sent = s;
      recorded = sym (append-nil f.recorded) ∙ ap (λ rs. f.recorded ++ rs) (sym n);
      observations = o;
      client = c;
      clock = refl;
    }

ignored_reacts : (f : Machine) (server : ℕ) → IsReactionTo f server ignored (reaction_on f server ignored)
ignored_reacts f server = still f server ignored None [] (refl, refl) refl refl refl refl

rejected_reacts : (f : Machine) (server mid : ℕ)
    → IsReactionTo f server (rejected mid) (reaction_on f server (rejected mid))
rejected_reacts f server mid =
    still f server (rejected mid) (Some (spelling (reset mid))) (sent_to server (Some (spelling (reset mid))))
    (refl, refl) refl refl refl refl

acknowledgement_reacts : (f : Machine) (server mid : ℕ)
    → IsReactionTo f server (empty_ack mid) (reaction_on f server (empty_ack mid))
acknowledgement_reacts f server mid =
    record {
      number = None;
      reply = None;
      responds = (refl, refl);
      sent = refl;
      recorded = sym (append-nil f.recorded);
      observations = refl;
      client = refl;
      clock = refl;
    }

reset_reacts : (f : Machine) (server mid : ℕ)
    → IsReactionTo f server (empty_reset mid) (reaction_on f server (empty_reset mid))
reset_reacts f server mid =
    record {
      number = None;
      reply = None;
      responds = (refl, refl);
      sent = refl;
      recorded = sym (append-nil f.recorded);
      observations = refl;
      client = refl;
      clock = refl;
    }

repeated_reacts : (f : Machine) (server : ℕ) (m : Message) (r : Recorded)
    → IsReactionTo f server (repeated m r) (reaction_on f server (repeated m r))
repeated_reacts f server m r =
    still f server (repeated m r) (reply_again m.kind r.reply) (again server m.kind r.reply) (refl, refl)
    (again_is server m.kind r.reply) refl refl refl

reacts_so : (f : Machine) (server : ℕ) (bytes : List ℕ) (arrival : Arrival) → IsArrival f server bytes arrival
    → IsReactionTo f server arrival (reaction_on f server arrival)
reacts_so f server bytes arrival (of_stranger a) = ignored_reacts f server
reacts_so f server bytes arrival (malformed mid n b) = rejected_reacts f server mid
reacts_so f server bytes arrival (malformed_otherwise n b) = ignored_reacts f server
reacts_so f server bytes arrival (confirmable_otherwise m h k r) = rejected_reacts f server m.mid
reacts_so f server bytes arrival (non_confirmable_otherwise m h k r) = ignored_reacts f server
reacts_so f server bytes arrival (acknowledges m h k z) = acknowledgement_reacts f server m.mid
reacts_so f server bytes arrival (acknowledges_otherwise m h k z) = ignored_reacts f server
reacts_so f server bytes arrival (resets m h k z) = reset_reacts f server m.mid
reacts_so f server bytes arrival (resets_otherwise m h k z) = ignored_reacts f server
reacts_so f server bytes arrival (asks_again m r h o) = repeated_reacts f server m r
reacts_so f server bytes arrival (asks m h n) = fresh_reacts f server m h.carries

-- ---- and no other reaction is

-- two reactions are one where their parts are
record AreParts (a b : Reaction) : Type 0 where
  outputs : a.outputs ≡ b.outputs
  recorded : a.flat.recorded ≡ b.flat.recorded
  client : a.flat.kept.client ≡ b.flat.kept.client
  observations : a.flat.kept.observations ≡ b.flat.kept.observations
  clock : a.flat.kept.clock ≡ b.flat.kept.clock
  next_id : a.flat.kept.next_id ≡ b.flat.kept.next_id

joined : (a b : Reaction) → AreParts a b → a ≡ b
joined a b h = λ j. record {
  outputs = h.outputs j;
  flat = record {
    kept = record {
      client = h.client j;
      observations = h.observations j;
      clock = h.clock j;
      next_id = h.next_id j;
    };
    recorded = h.recorded j;
  };
}

-- the Observe number and the observations are those that are noted
pub record IsNoted (number : Option ℕ) (left : List Observation) (told : ObserveResult) : Type 0 where
  pub number_is : number ≡ told.number
  pub left_is : left ≡ told.left

noted_as : (k : DeviceState) (server : ℕ) (m : Message) (answer : Answer) (interest : Option Interest)
    (number : Option ℕ)
    (left : List Observation) → interest_of m ≡ interest
    → IsNoted number left (noted_by k server m answer interest) → IsNoted number left (observe_result k server m answer)
noted_as k server m answer interest number left i h =
    subst (λ o. IsNoted number left (noted_by k server m answer o)) (sym i) h

abbrev told_by : DeviceState → ℕ → Message → Path → Option ℕ → Answer → Bool → Bool → ObserveResult
told_by k server m path accept answer c l =
    if c then (if l then no_observe k.observations
    else record {
      number = Some (number_for k.observations server m.token);
      left = with_registered k.observations (new_observation k server m path accept answer.payload);
    }) else no_observe (without_cancelled k.observations server m.token)

registers_as : (k : DeviceState) (server : ℕ) (m : Message) (path : Path) (accept : Option ℕ) (answer : Answer)
    (c l : Bool)
    → is_content answer ≡ c → lacks_place k.observations server m.token ≡ l
    → noted_by k server m answer (Some (Register path accept)) ≡ told_by k server m path accept answer c l
registers_as k server m path accept answer c l h e =
    ap (λ b. told_by k server m path accept answer b (lacks_place k.observations server m.token)) h
    ∙ ap (told_by k server m path accept answer c) e

told_as : (k : DeviceState) (server : ℕ) (m : Message) (path : Path) (accept : Option ℕ) (answer : Answer) (c l : Bool)
    (number : Option ℕ) (left : List Observation) → interest_of m ≡ Some (Register path accept)
    → is_content answer ≡ c → lacks_place k.observations server m.token ≡ l
    → IsNoted number left (told_by k server m path accept answer c l)
    → IsNoted number left (observe_result k server m answer)
told_as k server m path accept answer c l number left i h e is =
    noted_as k server m answer (Some (Register path accept)) number left i
    (subst (IsNoted number left) (sym (registers_as k server m path accept answer c l h e)) is)

pub observed : (k : DeviceState) (server : ℕ) (m : Message) (answer : Answer) (number : Option ℕ)
    (left : List Observation)
    → Observes k server m answer number left → IsNoted number left (observe_result k server m answer)
observed k server m answer number left (asks_nothing i) =
    noted_as k server m answer None None k.observations i (record { number_is = refl; left_is = refl })
observed k server m answer number left (cancels i) =
    noted_as k server m answer (Some Cancel) None (without_cancelled k.observations server m.token) i
    (record { number_is = refl; left_is = refl })
observed k server m answer number left (is_refused path accept i c) =
    told_as k server m path accept answer false (lacks_place k.observations server m.token) None
    (without_cancelled k.observations server m.token) i c refl (record { number_is = refl; left_is = refl })
observed k server m answer number left (finds_no_place path accept i c l) =
    told_as k server m path accept answer true true None k.observations i c l
    (record { number_is = refl; left_is = refl })
observed k server m answer number left (registers path accept i c l) =
    told_as k server m path accept answer true false (Some (number_for k.observations server m.token))
    (with_registered k.observations (new_observation k server m path accept answer.payload)) i c l
    (record { number_is = refl; left_is = refl })

-- the reply, and the next message ID then
record IsReplied (f : Machine) (m : Message) (number : Option ℕ) (answer : Answer) (kept : DeviceState)
    (response : Option Message) (next_id : ℕ) : Type 0 where
  reply_is : response ≡ reply_to f.kept.next_id m m.kind number answer
  next_id_is : next_id ≡ (kept_after kept m.kind (reply_to f.kept.next_id m m.kind number answer)).next_id

abbrev non_reply : Machine → Message → Option ℕ → Answer → Bool → Option Message
non_reply f m number answer refused =
    if refused then None else Some (response Non f.kept.next_id m.token number answer)

replied_as : (f : Machine) (m : Message) (number : Option ℕ) (answer : Answer) (kept : DeviceState) (kind : Kind)
    (to : Option Message) (response : Option Message) (next_id : ℕ) → m.kind ≡ kind
    → reply_to f.kept.next_id m kind number answer ≡ to → response ≡ to → next_id ≡ (kept_after kept kind to).next_id
    → IsReplied f m number answer kept response next_id
replied_as f m number answer kept kind to response next_id k e r n =
    let is : reply_to f.kept.next_id m m.kind number answer ≡ to =
    ap (λ kind. reply_to f.kept.next_id m kind number answer) k ∙ e in
    record {
      reply_is = r ∙ sym is;
      next_id_is = n ∙ ap (λ kind. (kept_after kept kind to).next_id) (sym k)
          ∙ ap (λ o. (kept_after kept m.kind o).next_id) (sym is);
    }

replied : (f : Machine) (m : Message) (number : Option ℕ) (answer : Answer) (kept : DeviceState)
    (response : Option Message)
    (next_id : ℕ) → kept.next_id ≡ f.kept.next_id → Replies f m number answer response next_id
    → IsReplied f m number answer kept response next_id
replied f m number answer kept response next_id same (Replies.acknowledges k) =
    replied_as f m number answer kept Con _ _ _ k refl refl (sym same)
replied f m number answer kept response next_id same (Replies.answers k u) =
    replied_as f m number answer kept Non _ _ _ k (ap (non_reply f m number answer) u) refl
    (ap id_after (sym same))
replied f m number answer kept response next_id same (Replies.rejects k u) =
    replied_as f m number answer kept Non _ _ _ k (ap (non_reply f m number answer) u) refl (sym same)

kept_parts : (k : DeviceState) (kind : Kind) (reply : Option Message)
    → ((kept_after k kind reply).client ≡ k.client) × ((kept_after k kind reply).observations ≡ k.observations)
    × ((kept_after k kind reply).clock ≡ k.clock)
kept_parts k Con reply = (refl, refl, refl)
kept_parts k Non None = (refl, refl, refl)
kept_parts k Non (Some reply) = (refl, refl, refl)
kept_parts k Ack reply = (refl, refl, refl)
kept_parts k Rst reply = (refl, refl, refl)

-- the parts of the reaction to a new request, where its Observe number is this
fresh_parts : (f : Machine) (server : ℕ) (m : Message) (reaction : Reaction)
    → IsReactionTo f server (fresh m) reaction → AreParts reaction (reaction_on f server (fresh m))
fresh_parts f server m reaction h =
    let outcome = outcome_of f.kept.client server m in
    let before = with_client f.kept outcome.client in
    let told = observe_result before server m outcome.answer in
    let k = with_observations before told.left in
    let reply = reply_to f.kept.next_id m m.kind told.number outcome.answer in
    let o = observed before server m outcome.answer h.number reaction.flat.kept.observations h.observations in
    let is = replied f m told.number outcome.answer k h.responds.0 reaction.flat.kept.next_id refl
    (subst (λ n. Replies f m n outcome.answer h.responds.0 reaction.flat.kept.next_id) o.number_is
    (replies f m h.number outcome.answer h.responds.0 reaction.flat.kept.next_id h.responds.1)) in
    let said : h.reply ≡ option_map spelling reply = h.responds.2 ∙ ap (λ r. option_map spelling r) is.reply_is in
    let kept = kept_parts k m.kind reply in
    record {
      outputs = h.sent ∙ ap (λ r. sent_to server r ++ outputs_of_act outcome.answer.act) said;
      recorded = h.recorded ∙ ap (λ r. f.recorded ++ record_of f.kept server m r ∷ []) said;
      client = h.client ∙ sym kept.0;
      observations = o.left_is ∙ sym kept.1;
      clock = h.clock ∙ sym kept.2;
      next_id = is.next_id_is;
    }

parts : (f : Machine) (server : ℕ) (arrival : Arrival) (reaction : Reaction)
    → IsReactionTo f server arrival reaction → AreParts reaction (reaction_on f server arrival)
parts f server ignored reaction h =
    record {
      outputs = h.sent ∙ ap (λ r. sent_to server r ++ []) h.responds.0;
      recorded = h.recorded ∙ append-nil f.recorded;
      client = h.client;
      observations = h.observations;
      clock = h.clock;
      next_id = h.responds.1;
    }
parts f server (rejected mid) reaction h =
    record {
      outputs = h.sent ∙ ap (λ r. sent_to server r ++ []) h.responds.0;
      recorded = h.recorded ∙ append-nil f.recorded;
      client = h.client;
      observations = h.observations;
      clock = h.clock;
      next_id = h.responds.1;
    }
parts f server (empty_ack mid) reaction h =
    record {
      outputs = h.sent ∙ ap (λ r. sent_to server r ++ []) h.responds.0;
      recorded = h.recorded ∙ append-nil f.recorded;
      client = h.client;
      observations = h.observations;
      clock = h.clock;
      next_id = h.responds.1;
    }
parts f server (empty_reset mid) reaction h =
    record {
      outputs = h.sent ∙ ap (λ r. sent_to server r ++ []) h.responds.0;
      recorded = h.recorded ∙ append-nil f.recorded;
      client = h.client;
      observations = h.observations;
      clock = h.clock;
      next_id = h.responds.1;
    }
parts f server (repeated m r) reaction h =
    record {
      outputs = h.sent ∙ ap (λ r. sent_to server r ++ []) h.responds.0 ∙ sym (again_is server m.kind r.reply);
      recorded = h.recorded ∙ append-nil f.recorded;
      client = h.client;
      observations = h.observations;
      clock = h.clock;
      next_id = h.responds.1;
    }
parts f server (fresh m) reaction h = fresh_parts f server m reaction h

-- ---- the laws

one_reaction : (f : Machine) (server : ℕ) (bytes : List ℕ) (reaction : Reaction) → AreBytes bytes
    → IsReaction f server bytes reaction → reaction ≡ reaction_to f (Recv server bytes)
one_reaction f server bytes reaction all h =
    joined reaction (reaction_on f server h.arrival) (parts f server h.arrival reaction h.reacts)
    ∙ ap (reaction_on f server) (sym (arrives_so f server bytes h.arrival all h.arrives))
    ∙ sym (reacts f server bytes)

is_reaction : (f : Machine) (server : ℕ) (bytes : List ℕ) → AreBytes bytes
    → IsReaction f server bytes (reaction_on f server (arrival_of f server bytes))
is_reaction f server bytes all =
    let arrival = arrival_of f server bytes in
    let is = arrival_is f server bytes all in
    record { arrival = arrival; arrives = is; reacts = reacts_so f server bytes arrival is }

pub reactions_are_said : ReactionsAreSaid
reactions_are_said f server bytes reaction all = (
  (λ e. subst (IsReaction f server bytes) (sym (e ∙ reacts f server bytes)) (is_reaction f server bytes all)),
  (λ h. one_reaction f server bytes reaction all h),
)

pub reactions_are_one : ReactionsAreOne
reactions_are_one f server bytes one other all h k =
    one_reaction f server bytes one all h ∙ sym (one_reaction f server bytes other all k)

pub arrivals_are_one : ArrivalsAreOne
arrivals_are_one f server bytes one other all h k =
    sym (arrives_so f server bytes one all h) ∙ arrives_so f server bytes other all k
