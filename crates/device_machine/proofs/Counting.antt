-- A Read that registers is answered with the Observe number that its observation has then.
use Rattle.std.proofs.Common.{◌≡◌, ℕ, ◌==◌, true, false, cond, ◌⊎◌, inl, inr, List, [], ◌∷◌, ◌++◌, Option, None, Some}
use Rattle.std.proofs.Common.{option_map, find, Err, refl, sym, ap, subst, ◌∙◌}
use Rattle.std.specs.Bool.{if◌then◌else◌}
use Rattle.std.specs.Option.{option_map_or}
use Rattle.std.specs.Str.{bytes_eq}
use Rattle.std.proofs.lemmas.Bool.Decides.{Decides-eqb}
use Rattle.std.proofs.lemmas.Slice.Eq.{bytes_eq-Decides}
use Rattle.std.proofs.lemmas.Bool.{and_from}
use Rattle.coap_codec.specs.Message.{Message, spelling}
use Rattle.coap_codec.specs.declared.kind.Kind.TheVariants.{Con, Non, Ack}
use Rattle.notifier.specs.Observed.{is_named, next_number, number_for, with_registered, without_cancelled}
use Rattle.notifier.specs.declared.observation.Observation.{Observation}
use Rattle.object_defs.specs.declared.path.Path.{Path}
use Rattle.device_requests.specs.Answer.{Outcome, is_content}
use Rattle.device_requests.specs.Observe.{interest_for, interest_of}
use Rattle.device_requests.specs.Options.{has_unrecognized_critical, segments_of, path_of}
use Rattle.device_requests.specs.Request.{outcome_of, request_on}
use Rattle.device_requests.specs.declared.ruling.Ruling.TheVariants.{Options}
use Rattle.device_requests.specs.declared.answer.Answer.{Answer}
use Rattle.device_requests.specs.declared.observe.Interest.{Interest}
use Rattle.device_requests.specs.declared.observe.Interest.TheVariants.{Register}
use Rattle.device_notifications.specs.Message.{format_options, observe_options}
use Rattle.device_machine.specs.Observing.{ObserveResult, after_registration, lacks_place, new_observation, no_observe}
use Rattle.device_machine.specs.Observing.{noted_by, observe_result}
use Rattle.device_machine.specs.State.{Machine, DeviceState, with_client, with_observations}
use Rattle.device_machine.specs.Reactions.{location_options, on_noted, on_outcome, outputs_of_act, reply_to, response}
use Rattle.device_machine.specs.Reactions.{sent_to}
use Rattle.device_machine.specs.Laws.{IsCounted, RegistrationsCount, number_noted}
use Rattle.device_machine.proofs.Refusing.{observations_after}
use Rattle.device_machine.proofs.Repeating.{first_con, first_non}

pub named_self : (o : Observation) → is_named o.server o.token o ≡ true
named_self o = and_from (o.server == o.server) (bytes_eq o.token o.token) ((Decides-eqb o.server o.server).1 refl)
    ((bytes_eq-Decides o.token o.token).1 refl)

-- of the list that begins with an observation, the number of its name is its own
first_noted : (n : ℕ) (new : Observation) (os : List Observation)
    → number_noted (record new { number = n } ∷ os) new.server new.token ≡ Some n
first_noted n new os =
    ap (λ b. option_map (λ o. o.number) (cond b (Some (record new { number = n }))
    (find (is_named new.server new.token) os))) (named_self new)

-- a registration notes the number that it answers
registered_noted : (os : List Observation) (new : Observation)
    → number_noted (with_registered os new) new.server new.token ≡ Some (number_for os new.server new.token)
registered_noted [] new = first_noted 0 new []
registered_noted (o ∷ os) new =
    elim (is_named new.server new.token o) as (λ b. is_named new.server new.token o ≡ b
    → number_noted (if b then record new { number = next_number o.number } ∷ os else o ∷ with_registered os new)
    new.server
    new.token
    ≡ Some (option_map_or (λ p. next_number p.number) (cond b (Some o) (find (is_named new.server new.token) os)) 0)) [
      | true ↦ λ e. first_noted (next_number o.number) new os
      | false ↦ λ e. ap (λ b. option_map (λ p. p.number)
          (cond b (Some o) (find (is_named new.server new.token) (with_registered os new)))) e ∙ registered_noted os new
    ] refl

-- what is noted with the content of a Read that registers
noted_is : (k : DeviceState) (server : ℕ) (m : Message) (path : Path) (accept : Option ℕ) (answer : Answer)
    → interest_of m ≡ Some (Register path accept) → is_content answer ≡ true
    → lacks_place k.observations server m.token ≡ false
    → observe_result k server m answer
    ≡ record {
      number = Some (number_for k.observations server m.token);
      left =
          with_registered k.observations (new_observation k server m path accept answer.payload);
    }
noted_is k server m path accept answer i c l =
    let new = new_observation k server m path accept answer.payload in
    ap (λ o. noted_by k server m answer o) i
    ∙ ap (λ b. if b then after_registration k.observations new
    else no_observe (without_cancelled k.observations server m.token)) c
    ∙ ap (λ b. if b then no_observe k.observations
    else record { number = Some (number_for k.observations server m.token); left = with_registered k.observations new })
    l

understood : (m : Message) (i : Interest) → interest_of m ≡ Some i → has_unrecognized_critical m.options ≡ false
understood m i =
    elim (has_unrecognized_critical m.options) as
    (λ b. interest_for (if b then Err Options else request_on m (path_of (segments_of m.options))) ≡ Some i
    → b ≡ false) [
      | true ↦ λ h. cc
      | false ↦ λ h. refl
    ]

counted_con : (f : Machine) (server : ℕ) (m : Message) (outcome : Outcome) (told : ObserveResult) (n : ℕ) → m.kind ≡ Con
    → told.number ≡ Some n
    → number_noted told.left server m.token ≡ Some n → IsCounted (on_noted f server m outcome told) server m n
counted_con f server m outcome told n k number left =
    let answer = outcome.answer in
    let kept = with_observations (with_client f.kept outcome.client) told.left in
    record {
      left = ap (λ os. number_noted os server m.token)
          (observations_after kept m.kind (reply_to f.kept.next_id m m.kind told.number answer)) ∙ left;
      reply = response Ack m.mid m.token told.number answer;
      act = answer.act;
      sent = ap (λ kind. sent_to server (option_map spelling (reply_to f.kept.next_id m kind told.number answer))
          ++ outputs_of_act answer.act) k;
      options = location_options answer.location ++ format_options answer.format;
      observe = ap (λ o. observe_options o ++ (location_options answer.location ++ format_options answer.format))
          number;
    }

counted_non : (f : Machine) (server : ℕ) (m : Message) (outcome : Outcome) (told : ObserveResult) (n : ℕ) → m.kind ≡ Non
    → has_unrecognized_critical m.options ≡ false
    → told.number ≡ Some n → number_noted told.left server m.token ≡ Some n
    → IsCounted (on_noted f server m outcome told) server m n
counted_non f server m outcome told n k h number left =
    let answer = outcome.answer in
    let kept = with_observations (with_client f.kept outcome.client) told.left in
    let reply = response Non f.kept.next_id m.token told.number answer in
    record {
      left = ap (λ os. number_noted os server m.token)
          (observations_after kept m.kind (reply_to f.kept.next_id m m.kind told.number answer)) ∙ left;
      reply = reply;
      act = answer.act;
      sent = ap (λ kind. sent_to server (option_map spelling (reply_to f.kept.next_id m kind told.number answer))
          ++ outputs_of_act answer.act) k
          ∙ ap (λ b. sent_to server (option_map spelling (if b then None else Some reply)) ++ outputs_of_act answer.act)
          h;
      options = location_options answer.location ++ format_options answer.format;
      observe = ap (λ o. observe_options o ++ (location_options answer.location ++ format_options answer.format))
          number;
    }

counted_by : (f : Machine) (server : ℕ) (m : Message) (path : Path) (accept : Option ℕ) (outcome : Outcome)
    → (m.kind ≡ Con) ⊎ (m.kind ≡ Non)
    → interest_of m ≡ Some (Register path accept) → is_content outcome.answer ≡ true
    → lacks_place f.kept.observations server m.token ≡ false
    → IsCounted (on_outcome f server m outcome) server m (number_for f.kept.observations server m.token)
counted_by f server m path accept outcome (inl k) i c l =
    let before = with_client f.kept outcome.client in
    let is = noted_is before server m path accept outcome.answer i c l in
    counted_con f server m outcome _ _ k (ap (λ t. t.number) is)
    (ap (λ t. number_noted t.left server m.token) is
    ∙ registered_noted f.kept.observations (new_observation before server m path accept outcome.answer.payload))
counted_by f server m path accept outcome (inr k) i c l =
    let before = with_client f.kept outcome.client in
    let is = noted_is before server m path accept outcome.answer i c l in
    counted_non f server m outcome _ _ k (understood m (Register path accept) i) (ap (λ t. t.number) is)
    (ap (λ t. number_noted t.left server m.token) is
    ∙ registered_noted f.kept.observations (new_observation before server m path accept outcome.answer.payload))

-- a fresh Read that registers
pub registrations : RegistrationsCount
registrations f server bytes m path accept fresh (inl k) i c l =
    subst (λ r. IsCounted r server m (number_for f.kept.observations server m.token))
    (sym (first_con f server bytes m fresh k))
    (counted_by f server m path accept (outcome_of f.kept.client server m) (inl k) i c l)
registrations f server bytes m path accept fresh (inr k) i c l =
    subst (λ r. IsCounted r server m (number_for f.kept.observations server m.token))
    (sym (first_non f server bytes m fresh k))
    (counted_by f server m path accept (outcome_of f.kept.client server m) (inr k) i c l)
