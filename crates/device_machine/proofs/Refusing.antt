-- A request that is refused is recorded, and changes nothing else.
use Rattle.std.proofs.Common.{◌≡◌, ℕ, Bool, true, false, not, cond, ◌⊎◌, inl, inr, List, [], ◌∷◌, Option, None}
use Rattle.std.proofs.Common.{Some, option_map, is_some, refl, sym, ap, subst, ◌∙◌}
use Rattle.std.specs.Bool.{if◌then◌else◌}
use Rattle.std.specs.List.{filter, list_any}
use Rattle.coap_codec.specs.Message.{Message, spelling}
use Rattle.coap_codec.specs.declared.kind.Kind.{Kind}
use Rattle.coap_codec.specs.declared.kind.Kind.TheVariants.{Con, Non, Ack, Rst}
use Rattle.device_machine.specs.declared.event.Event.TheVariants.{Recv}
use Rattle.notifier.specs.Observed.{has_name, is_named, was_sent, without_cancelled}
use Rattle.device_requests.specs.Answer.{Outcome, is_content_code}
use Rattle.device_requests.specs.Observe.{interest_of}
use Rattle.device_requests.specs.declared.answer.Answer.{Answer}
use Rattle.device_requests.specs.declared.answer.Code.{Code}
use Rattle.device_requests.specs.declared.answer.Code.TheVariants.{Created, Deleted, Changed, Content, BadRequest}
use Rattle.device_requests.specs.declared.answer.Code.TheVariants.{Unauthorized, BadOption, NotFound, MethodNotAllowed}
use Rattle.device_requests.specs.declared.answer.Code.TheVariants.{NotAcceptable, UnsupportedContentFormat}
use Rattle.device_requests.specs.declared.answer.Code.TheVariants.{InternalServerError}
use Rattle.device_requests.specs.declared.observe.Interest.{Interest}
use Rattle.device_requests.specs.declared.observe.Interest.TheVariants.{Register, Cancel}
use Rattle.device_machine.specs.Observing.{noted_by, observe_result}
use Rattle.device_requests.specs.Request.{outcome_of}
use Rattle.device_machine.specs.State.{Machine, DeviceState, with_client, with_observations}
use Rattle.device_requests.proofs.Refusing.{refused_keeps}
use Rattle.device_machine.specs.Reactions.{kept_after, on_message, on_outcome, on_reset, reaction_to, record_of}
use Rattle.device_machine.specs.Reactions.{reply_to}
use Rattle.device_machine.specs.Laws.{CancelsEnd, IsFresh, OnlyRecords, ResetsEnd}
use Rattle.device_requests.specs.Laws.{is_refusal}
use Rattle.device_requests.specs.Ruling.{code_of}
use Rattle.device_machine.proofs.Living.{clock_after}
use Rattle.device_machine.proofs.Repeating.{first_con, first_non, client_after, reached}

pub not_content : (code : Code) → is_refusal code ≡ true → is_content_code code ≡ false
not_content Created h = refl
not_content Deleted h = refl
not_content Changed h = refl
not_content Content h = cc
not_content BadRequest h = refl
not_content Unauthorized h = refl
not_content BadOption h = refl
not_content NotFound h = refl
not_content MethodNotAllowed h = refl
not_content NotAcceptable h = refl
not_content UnsupportedContentFormat h = refl
not_content InternalServerError h = refl

-- what a refusal leaves of the observations
refused_left : (k : DeviceState) (server : ℕ) (m : Message) (answer : Answer) (interest : Option Interest)
    → is_refusal (code_of answer.ruling) ≡ true
    → (noted_by k server m answer interest).left
    ≡ (if is_some interest then without_cancelled k.observations server m.token else k.observations)
refused_left k server m answer None h = refl
refused_left k server m answer (Some Cancel) h = refl
refused_left k server m answer (Some (Register path accept)) h = rw (not_content (code_of answer.ruling) h) refl

pub observations_after : (k : DeviceState) (kind : Kind) (reply : Option Message)
    → (kept_after k kind reply).observations ≡ k.observations
observations_after k Con reply = refl
observations_after k Non None = refl
observations_after k Non (Some reply) = refl
observations_after k Ack reply = refl
observations_after k Rst reply = refl

only_records : (f : Machine) (server : ℕ) (m : Message) (outcome : Outcome) → outcome.client ≡ f.kept.client
    → is_refusal (code_of outcome.answer.ruling) ≡ true
    → OnlyRecords f server m (on_outcome f server m outcome).flat
only_records f server m outcome h r =
    let before = with_client f.kept outcome.client in
    let told = observe_result before server m outcome.answer in
    let k = with_observations before told.left in
    let reply = reply_to f.kept.next_id m m.kind told.number outcome.answer in
    record {
      client = client_after k m.kind reply ∙ h;
      observations = observations_after k m.kind reply ∙ refused_left before server m outcome.answer (interest_of m) r;
      clock = clock_after k m.kind reply;
      one_more = record_of f.kept server m (option_map spelling reply);
      recorded = refl;
    }

-- a fresh request that is refused
pub refused : (f : Machine) (server : ℕ) (bytes : List ℕ) (m : Message) → IsFresh f server bytes m → (m.kind ≡ Con)
    ⊎ (m.kind ≡ Non)
    → is_refusal (code_of (outcome_of f.kept.client server m).answer.ruling) ≡ true
    → OnlyRecords f server m (reaction_to f (Recv server bytes)).flat
refused f server bytes m fresh (inl k) h =
    subst (λ r. OnlyRecords f server m r.flat) (sym (first_con f server bytes m fresh k))
    (only_records f server m _ (refused_keeps f.kept.client server m h) h)
refused f server bytes m fresh (inr k) h =
    subst (λ r. OnlyRecords f server m r.flat) (sym (first_non f server bytes m fresh k))
    (only_records f server m _ (refused_keeps f.kept.client server m h) h)

-- nothing that passes is left among those that do not
none_left : {X : Type 0} (p : X → Bool) (xs : List X) → list_any p (filter (λ x. not (p x)) xs) ≡ false
none_left p [] = refl
none_left p (x ∷ xs) =
    elim (p x) as (λ b. p x ≡ b
    → list_any p (cond (not b) (x ∷ filter (λ y. not (p y)) xs) (filter (λ y. not (p y)) xs)) ≡ false) [
      | true ↦ λ e. none_left p xs
      | false ↦ λ e. rw e (none_left p xs)
    ] refl

cancelled_left : (f : Machine) (server : ℕ) (m : Message) (outcome : Outcome) → interest_of m ≡ Some Cancel
    → has_name (on_outcome f server m outcome).flat.kept.observations server m.token ≡ false
cancelled_left f server m outcome h =
    let before = with_client f.kept outcome.client in
    let told = observe_result before server m outcome.answer in
    let k = with_observations before told.left in
    ap (λ os. has_name os server m.token)
    (observations_after k m.kind (reply_to f.kept.next_id m m.kind told.number outcome.answer)
    ∙ ap (λ i. (noted_by before server m outcome.answer i).left) h)
    ∙ none_left (is_named server m.token) f.kept.observations

-- a fresh request that cancels
pub cancels : CancelsEnd
cancels f server bytes m fresh (inl k) h =
    subst (λ r. has_name r.flat.kept.observations server m.token ≡ false) (sym (first_con f server bytes m fresh k))
    (cancelled_left f server m _ h)
cancels f server bytes m fresh (inr k) h =
    subst (λ r. has_name r.flat.kept.observations server m.token ≡ false) (sym (first_non f server bytes m fresh k))
    (cancelled_left f server m _ h)

reset_by : (f : Machine) (server : ℕ) (m : Message) → m.code ≡ 0 → on_message f server m Rst ≡ on_reset f server m.mid
reset_by f server m h = rw h refl

-- an empty Reset
pub resets : ResetsEnd
resets f server bytes m a reading k h =
    ap (λ r. list_any (was_sent server m.mid) r.flat.kept.observations)
    (reached f server bytes m a reading ∙ ap (on_message f server m) k ∙ reset_by f server m h)
    ∙ none_left (was_sent server m.mid) f.kept.observations
