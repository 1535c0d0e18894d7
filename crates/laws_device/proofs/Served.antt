-- What a request leaves, answered or refused.
use Rattle.std.proofs.Common.{◌≡◌, ℕ, Bool, true, false, ◌⊎◌, inl, inr, List, [], ◌∷◌, ◌++◌, Option, None}
use Rattle.std.proofs.Common.{Some, option_map, is_some, refl, sym, ap, subst, ◌∙◌}
use Rattle.std.specs.Bool.{if◌then◌else◌}
use Rattle.coap_codec.specs.Message.{Message, spelling}
use Rattle.coap_codec.specs.declared.kind.Kind.{Kind}
use Rattle.coap_codec.specs.declared.kind.Kind.TheVariants.{Con, Non, Ack, Rst}
use Rattle.object_defs.specs.Lines.{first_line}
use Rattle.object_defs.specs.declared.path.Path.{Path}
use Rattle.notifier.specs.Observed.{number_for, with_registered, without_cancelled}
use Rattle.notifier.specs.declared.observation.Observation.{Observation}
use Rattle.device_requests.specs.Answer.{Outcome, code_byte, is_content}
use Rattle.std.proofs.lemmas.List.{append-nil}
use Rattle.std.proofs.lemmas.Option.{same_Some}
use Rattle.lemmas.proofs.Tests.{never_both}
use Rattle.device_requests.specs.Laws.{is_refusal, lines_on, request_lines}
use Rattle.device_requests.specs.Observe.{interest_of}
use Rattle.device_requests.specs.Options.{has_unrecognized_critical, path_of, segments_of}
use Rattle.device_requests.specs.Request.{outcome_of}
use Rattle.device_requests.specs.Ruling.{code_of}
use Rattle.device_requests.specs.declared.answer.Answer.{Answer}
use Rattle.device_requests.specs.declared.observe.Interest.{Interest}
use Rattle.device_requests.specs.declared.observe.Interest.TheVariants.{Cancel, Register}
use Rattle.device_requests.specs.declared.ruling.Ruling.{Ruling}
use Rattle.device_requests.specs.declared.ruling.Ruling.TheVariants as rule
use Rattle.device_requests.specs.declared.answer.Code.{Code}
use Rattle.device_requests.proofs.Answering.{says}
use Rattle.device_requests.proofs.Refusing.{refused_alone, refused_keeps}
use Rattle.device_machine.specs.Laws.{IsFresh}
use Rattle.device_machine.specs.Observing.{lacks_place, new_observation, no_observe, noted_by, observe_result}
use Rattle.device_machine.specs.Reactions.{answer_options, flat_after, kept_after, on_message, on_outcome, on_request}
use Rattle.device_machine.specs.Reactions.{outputs_of_act, reaction_to, Reaction, is_request, record_of, repeat_of}
use Rattle.device_machine.specs.Reactions.{reply_to, response, sent_to}
use Rattle.device_machine.specs.State.{DeviceState, Machine, with_client, with_observations}
use Rattle.device_machine.specs.declared.event.Event.TheVariants.{Recv}
use Rattle.device_machine.specs.declared.recorded.Recorded.{Recorded}
use Rattle.device_machine.proofs.Repeating.{client_after, reached}
use Rattle.device_machine.proofs.Refusing.{observations_after, not_content}
use Rattle.device_machine.proofs.Living.{clock_after}
use Rattle.laws_device.specs.Serving.{ConfirmableRefusals, IsRefused, IsServed, NonConfirmableRefusals}
use Rattle.laws_device.specs.Serving.{NonConfirmableRejects, Observes, Replies, RequestsAreServed, bare_reply, id_after}
use Rattle.laws_device.specs.Serving.Observes.{asks_nothing, cancels, finds_no_place, is_refused, registers}
use Rattle.laws_device.specs.Serving.Replies.{acknowledges, answers, rejects}

-- ---- a fresh request is answered

asked : (f : Machine) (server : ℕ) (m : Message) (o : Option Recorded) (kind : Kind) → (kind ≡ Con) ⊎ (kind ≡ Non)
    → is_request m.code ≡ true
    → repeat_of f server m ≡ o → on_message f server m kind ≡ on_request f server m o
asked f server m o Con h r e = rw r (ap (on_request f server m) e)
asked f server m o Non h r e = rw r (ap (on_request f server m) e)
asked f server m o Ack (inl h) r e = cc
asked f server m o Ack (inr h) r e = cc
asked f server m o Rst (inl h) r e = cc
asked f server m o Rst (inr h) r e = cc

pub first : (f : Machine) (server : ℕ) (bytes : List ℕ) (m : Message) → IsFresh f server bytes m
    → (m.kind ≡ Con) ⊎ (m.kind ≡ Non)
    → reaction_to f (Recv server bytes) ≡ on_outcome f server m (outcome_of f.kept.client server m)
first f server bytes m fresh k =
    reached f server bytes m fresh.account fresh.reading
    ∙ asked f server m None m.kind k fresh.request fresh.first

-- ---- what it leaves

-- the part that a reaction has in what a request leaves
pub record Serves (f : Machine) (server : ℕ) (m : Message) (outcome : Outcome) (reaction : Reaction) : Type 0 where
  pub number : Option ℕ
  pub reply : Option Message
  pub replies : Replies f m number outcome.answer reply reaction.flat.kept.next_id
  pub sent : reaction.outputs ≡ sent_to server (option_map spelling reply) ++ outputs_of_act outcome.answer.act
  pub recorded : reaction.flat.recorded ≡ f.recorded ++ record_of f.kept server m (option_map spelling reply) ∷ []
  pub observes : Observes (with_client f.kept outcome.client) server m outcome.answer number
      reaction.flat.kept.observations
  pub client : reaction.flat.kept.client ≡ outcome.client
  pub clock : reaction.flat.kept.clock ≡ f.kept.clock

non_reply : (f : Machine) (m : Message) (number : Option ℕ) (answer : Answer) (refused : Bool) → m.kind ≡ Non
    → has_unrecognized_critical m.options ≡ refused
    → (kept : DeviceState) → kept.next_id ≡ f.kept.next_id
    → Replies f m number answer
    (if refused then None else Some (response Non f.kept.next_id m.token number answer))
    (kept_after kept Non (if refused then None else Some (response Non f.kept.next_id m.token number answer))).next_id
non_reply f m number answer true k h kept same =
    subst (λ n. Replies f m number answer None n) (sym same) (rejects k h)
non_reply f m number answer false k h kept same =
    subst (λ n. Replies f m number answer (Some (response Non f.kept.next_id m.token number answer)) (id_after n))
    (sym same) (answers k h)

reply_by : (f : Machine) (m : Message) (number : Option ℕ) (answer : Answer) (kept : DeviceState) (kind : Kind)
    → m.kind ≡ kind → (kind ≡ Con) ⊎ (kind ≡ Non) → kept.next_id ≡ f.kept.next_id
    → Replies f m number answer (reply_to f.kept.next_id m kind number answer)
    (kept_after kept kind (reply_to f.kept.next_id m kind number answer)).next_id
reply_by f m number answer kept Con k h same =
    subst (λ n. Replies f m number answer (Some (response Ack m.mid m.token number answer)) n) (sym same)
    (acknowledges k)
reply_by f m number answer kept Non k h same =
    non_reply f m number answer (has_unrecognized_critical m.options) k refl kept same
reply_by f m number answer kept Ack k (inl h) same = cc
reply_by f m number answer kept Ack k (inr h) same = cc
reply_by f m number answer kept Rst k (inl h) same = cc
reply_by f m number answer kept Rst k (inr h) same = cc

register_by : (k : DeviceState) (server : ℕ) (m : Message) (answer : Answer) (path : Path) (accept : Option ℕ)
    (c l : Bool)
    → interest_of m ≡ Some (Register path accept) → is_content answer ≡ c
    → lacks_place k.observations server m.token ≡ l
    → let new = new_observation k server m path accept answer.payload in
    let told = if c then (if l then no_observe k.observations
    else record { number = Some (number_for k.observations server m.token); left = with_registered k.observations new })
    else no_observe (without_cancelled k.observations server m.token) in
    Observes k server m answer told.number told.left
register_by k server m answer path accept true true i c l = finds_no_place path accept i c l
register_by k server m answer path accept true false i c l = registers path accept i c l
register_by k server m answer path accept false l i c n = is_refused path accept i c

observes_by : (k : DeviceState) (server : ℕ) (m : Message) (answer : Answer) (interest : Option Interest)
    → interest_of m ≡ interest
    → Observes k server m answer (noted_by k server m answer interest).number (noted_by k server m answer interest).left
observes_by k server m answer None i = asks_nothing i
observes_by k server m answer (Some Cancel) i = cancels i
observes_by k server m answer (Some (Register path accept)) i =
    register_by k server m answer path accept (is_content answer) (lacks_place k.observations server m.token) i refl
    refl

pub serves : (f : Machine) (server : ℕ) (m : Message) (outcome : Outcome) → (m.kind ≡ Con) ⊎ (m.kind ≡ Non)
    → Serves f server m outcome (on_outcome f server m outcome)
serves f server m outcome h =
    let before = with_client f.kept outcome.client in
    let told = observe_result before server m outcome.answer in
    let k = with_observations before told.left in
    let reply = reply_to f.kept.next_id m m.kind told.number outcome.answer in
    record {
      number = told.number;
      reply = reply;
      replies = reply_by f m told.number outcome.answer k m.kind refl h refl;
      sent = refl;
      recorded = refl;
      observes = subst (λ os. Observes before server m outcome.answer told.number os)
          (sym (observations_after k m.kind reply))
          (observes_by before server m outcome.answer (interest_of m) refl);
      client = client_after k m.kind reply;
      clock = clock_after k m.kind reply;
    }

pub served : RequestsAreServed
served f server bytes m fresh k =
    let outcome = outcome_of f.kept.client server m in
    let s = subst (λ r. Serves f server m outcome r) (sym (first f server bytes m fresh k))
    (serves f server m outcome k) in
    record {
      number = s.number;
      reply = s.reply;
      replies = s.replies;
      sent = s.sent;
      recorded = s.recorded;
      observes = s.observes;
      client = s.client;
      clock = s.clock;
    }

-- ---- refusals

other_kind : (kind : Kind) → kind ≡ Con → kind ≡ Non → ⊥
other_kind kind h k = cc

-- what is not content has no Observe number, and leaves no observation of its name
unnumbered : (k : DeviceState) (server : ℕ) (m : Message) (answer : Answer) (number : Option ℕ)
    (left : List Observation)
    → is_content answer ≡ false → Observes k server m answer number left → number ≡ None
unnumbered k server m answer number left h (asks_nothing i) = refl
unnumbered k server m answer number left h (cancels i) = refl
unnumbered k server m answer number left h (is_refused path accept i c) = refl
unnumbered k server m answer number left h (finds_no_place path accept i c l) = refl
unnumbered k server m answer number left h (registers path accept i c l) = absurd (never_both (is_content answer) c h)

left_by : (k : DeviceState) (server : ℕ) (m : Message) (interest : Option Interest) → interest_of m ≡ interest
    → (if is_some interest then without_cancelled k.observations server m.token else k.observations)
    ≡ (if is_some (interest_of m) then without_cancelled k.observations server m.token else k.observations)
left_by k server m interest i =
    ap (λ o. if is_some o then without_cancelled k.observations server m.token else k.observations) (sym i)

left_then : (k : DeviceState) (server : ℕ) (m : Message) (answer : Answer) (number : Option ℕ) (left : List Observation)
    → is_content answer ≡ false → Observes k server m answer number left
    → left ≡ (if is_some (interest_of m) then without_cancelled k.observations server m.token else k.observations)
left_then k server m answer number left h (asks_nothing i) = left_by k server m None i
left_then k server m answer number left h (cancels i) = left_by k server m (Some Cancel) i
left_then k server m answer number left h (is_refused path accept i c) =
    left_by k server m (Some (Register path accept)) i
left_then k server m answer number left h (finds_no_place path accept i c l) =
    absurd (never_both (is_content answer) c h)
left_then k server m answer number left h (registers path accept i c l) = absurd (never_both (is_content answer) c h)

-- the reply of a refusal
bare_is : (kind : Kind) (mid : ℕ) (token : List ℕ) (number : Option ℕ) (answer : Answer) (code : Code)
    → number ≡ None → code_of answer.ruling ≡ code → answer.location ≡ None → answer.format ≡ None → answer.payload ≡ []
    → response kind mid token number answer ≡ bare_reply kind mid token code
bare_is kind mid token number answer code n c l f p = λ j. record {
  kind = kind;
  code = code_byte (c j);
  mid = mid;
  token = token;
  options = answer_options (n j) (l j) (f j);
  payload = p j;
}

-- what a request leaves that is refused, where its reply and the next message ID then are these
refused : (f : Machine) (server : ℕ) (bytes : List ℕ) (m : Message) (reply : Option Message) (next_id : ℕ)
    (s : IsServed f server bytes m) → is_refusal (code_of (outcome_of f.kept.client server m).answer.ruling) ≡ true
    → s.reply ≡ reply
    → (flat_after f (Recv server bytes)).kept.next_id ≡ next_id → IsRefused f server bytes m reply next_id
refused f server bytes m reply next_id s h same next =
    let outcome = outcome_of f.kept.client server m in
    let alone = refused_alone f.kept.client server m h in
    record {
      sent = s.sent ∙ ap (λ a. sent_to server (option_map spelling s.reply) ++ outputs_of_act a) alone.act
          ∙ append-nil (sent_to server (option_map spelling s.reply))
          ∙ ap (λ r. sent_to server (option_map spelling r)) same;
      recorded = s.recorded
          ∙ ap (λ r. f.recorded ++ record_of f.kept server m (option_map spelling r) ∷ []) same;
      next_id_is = next;
      observations = left_then (with_client f.kept outcome.client) server m outcome.answer s.number
          (flat_after f (Recv server bytes)).kept.observations
          (not_content (code_of outcome.answer.ruling) h) s.observes;
      client = s.client ∙ refused_keeps f.kept.client server m h;
      clock = s.clock;
    }

con_reply : (f : Machine) (m : Message) (number : Option ℕ) (answer : Answer) (reply : Option Message) (next : ℕ)
    → m.kind ≡ Con → Replies f m number answer reply next
    → (reply ≡ Some (response Ack m.mid m.token number answer)) × (next ≡ f.kept.next_id)
con_reply f m number answer reply next k (acknowledges c) = (refl, refl)
con_reply f m number answer reply next k (answers n h) = absurd (other_kind m.kind k n)
con_reply f m number answer reply next k (rejects n h) = absurd (other_kind m.kind k n)

non_answer : (f : Machine) (m : Message) (number : Option ℕ) (answer : Answer) (reply : Option Message) (next : ℕ)
    → m.kind ≡ Non → has_unrecognized_critical m.options ≡ false → Replies f m number answer reply next
    → (reply ≡ Some (response Non f.kept.next_id m.token number answer)) × (next ≡ id_after f.kept.next_id)
non_answer f m number answer reply next k u (acknowledges c) = absurd (other_kind m.kind c k)
non_answer f m number answer reply next k u (answers n h) = (refl, refl)
non_answer f m number answer reply next k u (rejects n h) =
    absurd (never_both (has_unrecognized_critical m.options) h u)

non_none : (f : Machine) (m : Message) (number : Option ℕ) (answer : Answer) (reply : Option Message) (next : ℕ)
    → m.kind ≡ Non → has_unrecognized_critical m.options ≡ true → Replies f m number answer reply next
    → (reply ≡ None) × (next ≡ f.kept.next_id)
non_none f m number answer reply next k u (acknowledges c) = absurd (other_kind m.kind c k)
non_none f m number answer reply next k u (answers n h) = absurd (never_both (has_unrecognized_critical m.options) u h)
non_none f m number answer reply next k u (rejects n h) = (refl, refl)

said : (f : Machine) (server : ℕ) (m : Message) (ruling : Ruling)
    → first_line (request_lines f.kept.client server m) ≡ Some ruling
    → code_of (outcome_of f.kept.client server m).answer.ruling ≡ code_of ruling
said f server m ruling h = ap code_of (same_Some _ ruling (sym (says f.kept.client server m) ∙ h))

bare_said : (f : Machine) (server : ℕ) (bytes : List ℕ) (m : Message) (code : Code) (kind : Kind) (mid : ℕ)
    (s : IsServed f server bytes m)
    → is_refusal (code_of (outcome_of f.kept.client server m).answer.ruling) ≡ true
    → code_of (outcome_of f.kept.client server m).answer.ruling ≡ code
    → response kind mid m.token s.number (outcome_of f.kept.client server m).answer
    ≡ bare_reply kind mid m.token code
bare_said f server bytes m code kind mid s r c =
    let outcome = outcome_of f.kept.client server m in
    let alone = refused_alone f.kept.client server m r in
    bare_is kind mid m.token s.number outcome.answer code
    (unnumbered (with_client f.kept outcome.client) server m outcome.answer s.number
    (flat_after f (Recv server bytes)).kept.observations (not_content (code_of outcome.answer.ruling) r) s.observes)
    c alone.location alone.format alone.payload

pub confirmable : ConfirmableRefusals
confirmable f server bytes m ruling fresh k line h =
    let outcome = outcome_of f.kept.client server m in
    let s = served f server bytes m fresh (inl k) in
    let c = said f server m ruling line in
    let r : is_refusal (code_of outcome.answer.ruling) ≡ true = ap is_refusal c ∙ h in
    let is = con_reply f m s.number outcome.answer s.reply
    (flat_after f (Recv server bytes)).kept.next_id k s.replies in
    refused f server bytes m (Some (bare_reply Ack m.mid m.token (code_of ruling))) f.kept.next_id s r
    (is.0 ∙ ap Some (bare_said f server bytes m (code_of ruling) Ack m.mid s r c)) is.1

pub non_confirmable : NonConfirmableRefusals
non_confirmable f server bytes m ruling fresh k understood line h =
    let outcome = outcome_of f.kept.client server m in
    let s = served f server bytes m fresh (inr k) in
    let c = said f server m ruling line in
    let r : is_refusal (code_of outcome.answer.ruling) ≡ true = ap is_refusal c ∙ h in
    let is = non_answer f m s.number outcome.answer s.reply (flat_after f (Recv server bytes)).kept.next_id k understood
    s.replies in
    refused f server bytes m (Some (bare_reply Non f.kept.next_id m.token (code_of ruling)))
    (id_after f.kept.next_id) s r
    (is.0 ∙ ap Some (bare_said f server bytes m (code_of ruling) Non f.kept.next_id s r c)) is.1

-- an option that is not understood is the first line
bad_option : (f : Machine) (server : ℕ) (m : Message) → has_unrecognized_critical m.options ≡ true
    → first_line (request_lines f.kept.client server m) ≡ Some rule.Options
bad_option f server m h =
    ap (λ b. first_line ((b, rule.Options) ∷ lines_on f.kept.client server m (path_of (segments_of m.options)))) h

pub rejected : NonConfirmableRejects
rejected f server bytes m fresh k u =
    let outcome = outcome_of f.kept.client server m in
    let s = served f server bytes m fresh (inr k) in
    let c = said f server m rule.Options (bad_option f server m u) in
    let r : is_refusal (code_of outcome.answer.ruling) ≡ true = ap is_refusal c in
    let is = non_none f m s.number outcome.answer s.reply (flat_after f (Recv server bytes)).kept.next_id k u s.replies
    in
    refused f server bytes m None f.kept.next_id s r is.0 is.1
