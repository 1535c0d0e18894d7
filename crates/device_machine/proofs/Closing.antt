-- An Empty ACK closes the observations that awaited it, and a Read that says Observe 0 or 1 the one of its name.
use Rattle.std.proofs.Common.{◌≡◌, ◌≢◌, ℕ, ◌==◌, Bool, true, false, not, ◌&&◌, ◌||◌, cond, ◌⊎◌, inl, inr, List, []}
use Rattle.std.proofs.Common.{◌∷◌, Option, None, Some, find, map, nat_le, length, refl, sym, ap, subst, ◌∙◌, arith}
use Rattle.std.specs.Bool.{if◌then◌else◌}
use Rattle.std.specs.List.{filter, list_any, slice_get}
use Rattle.std.specs.Option.{option_and_then, option_map}
use Rattle.std.proofs.lemmas.Bool.Decides.{nat_tests}
use Rattle.std.proofs.lemmas.Option.{slice_get-map}
use Rattle.std.proofs.Math.Bool.{and-false}
use Rattle.lemmas.proofs.Lists.{none_found}
use Rattle.coap_codec.specs.Message.{Message}
use Rattle.coap_codec.specs.declared.kind.Kind.TheVariants.{Ack}
use Rattle.object_defs.specs.declared.path.Path.{Path}
use Rattle.notifier.specs.Observed.{as_closed, has_name, is_awaited, is_named, next_number, number_for}
use Rattle.notifier.specs.Observed.{with_acknowledged, with_registered, without_cancelled}
use Rattle.notifier.specs.declared.observation.Observation.{Observation}
use Rattle.device_requests.specs.Answer.{Outcome, is_content}
use Rattle.device_requests.specs.Observe.{interest_of}
use Rattle.device_requests.specs.Request.{outcome_of}
use Rattle.device_requests.specs.declared.answer.Answer.{Answer}
use Rattle.device_requests.specs.declared.observe.Interest.{Interest}
use Rattle.device_requests.specs.declared.observe.Interest.TheVariants.{Register, Cancel}
use Rattle.device_machine.specs.Observing.{after_registration, lacks_place, new_observation, no_observe, noted_by}
use Rattle.device_machine.specs.Observing.{observe_result}
use Rattle.device_machine.specs.State.{DeviceState, Machine, with_client, with_observations}
use Rattle.device_machine.specs.Reactions.{on_acknowledgement, on_message, on_outcome, reply_to, silence}
use Rattle.device_machine.specs.Laws.{AcknowledgementsClose, OnlyCloses, OthersAreIgnored, UpdatesClose, timer_noted}
use Rattle.device_machine.proofs.Counting.{named_self}
use Rattle.device_machine.proofs.Refusing.{observations_after}
use Rattle.device_machine.proofs.Repeating.{first_con, first_non, reached}

-- ---- an acknowledgement

-- an observation awaits nothing that was acknowledged
awaits_no_more : (server mid : ℕ) (o : Observation)
    → is_awaited server mid (if is_awaited server mid o then as_closed o else o) ≡ false
awaits_no_more server mid o =
    elim (is_awaited server mid o) as (λ b. is_awaited server mid o ≡ b
    → is_awaited server mid (if b then as_closed o else o) ≡ false) [
      | true ↦ λ e. and-false (server == o.server)
      | false ↦ λ e. e
    ] refl

none_awaits : (server mid : ℕ) (os : List Observation)
    → list_any (is_awaited server mid) (with_acknowledged os server mid) ≡ false
none_awaits server mid [] = refl
none_awaits server mid (o ∷ os) = rw (awaits_no_more server mid o) (none_awaits server mid os)

-- all but its timer is as it was
same_closed : (b : Bool) (o : Observation) → as_closed (if b then as_closed o else o) ≡ as_closed o
same_closed true o = refl
same_closed false o = refl

only_timers : (server mid : ℕ) (os : List Observation)
    → map as_closed (with_acknowledged os server mid) ≡ map as_closed os
only_timers server mid [] = refl
only_timers server mid (o ∷ os) =
    λ i. same_closed (is_awaited server mid o) o i ∷ only_timers server mid os i

-- one that awaits something else is as it was
stands : (server mid : ℕ) (os : List Observation) (place : ℕ) (o : Observation) → slice_get os place ≡ Some o
    → is_awaited server mid o ≡ false → slice_get (with_acknowledged os server mid) place ≡ Some o
stands server mid os place o there e =
    slice_get-map (λ p. if is_awaited server mid p then as_closed p else p) os place
    ∙ ap (option_map (λ p. if is_awaited server mid p then as_closed p else p)) there
    ∙ ap (λ b. Some (if b then as_closed o else o)) e

-- and so are all of them where none awaits it
unchanged : (server mid : ℕ) (os : List Observation) → list_any (is_awaited server mid) os ≡ false
    → with_acknowledged os server mid ≡ os
unchanged server mid [] h = refl
unchanged server mid (o ∷ os) h =
    elim (is_awaited server mid o) as (λ b. (b || list_any (is_awaited server mid) os) ≡ false
    → (if b then as_closed o else o) ∷ with_acknowledged os server mid ≡ o ∷ os) [
      | true ↦ λ k. cc
      | false ↦ λ k. ap (λ ps. o ∷ ps) (unchanged server mid os k)
    ] h

closes : (f : Machine) (server mid : ℕ) → OnlyCloses f server mid (on_acknowledgement f server mid)
closes f server mid =
    record {
      sent = refl;
      closed = none_awaits server mid f.kept.observations;
      timers = only_timers server mid f.kept.observations;
      others = stands server mid f.kept.observations;
      frame = refl;
    }

acknowledged_by : (f : Machine) (server : ℕ) (m : Message) → m.code ≡ 0
    → on_message f server m Ack ≡ on_acknowledgement f server m.mid
acknowledged_by f server m h = rw h refl

-- an Empty ACK
pub acknowledgements : AcknowledgementsClose
acknowledgements f server bytes m a reading k h =
    subst (OnlyCloses f server m.mid)
    (sym (reached f server bytes m a reading ∙ ap (on_message f server m) k ∙ acknowledged_by f server m h))
    (closes f server m.mid)

ignored_by : (f : Machine) (server : ℕ) (m : Message)
    → (m.code ≢ 0) ⊎ (list_any (is_awaited server m.mid) f.kept.observations ≡ false)
    → on_message f server m Ack ≡ silence f
ignored_by f server m (inl other) =
    let differs : (m.code == 0) ≡ false = grind (arith, nat_tests) in
    ap (λ b. if b then on_acknowledgement f server m.mid else silence f) differs
ignored_by f server m (inr idle) =
    elim (m.code == 0) as (λ b. (if b then on_acknowledgement f server m.mid else silence f) ≡ silence f) [
      | true ↦ ap (λ os. record {
        outputs = [];
        flat = record { kept = with_observations f.kept os; recorded = f.recorded };
      }) (unchanged server m.mid f.kept.observations idle)
      | false ↦ refl
    ]

-- any other
pub others : OthersAreIgnored
others f server bytes m a reading k h =
    reached f server bytes m a reading ∙ ap (on_message f server m) k ∙ ignored_by f server m h

-- ---- a Read that says Observe 0 or 1

none_of_them : {X : Type 0} (p : X → Bool) (xs : List X) → find p (filter (λ x. not (p x)) xs) ≡ None
none_of_them p [] = refl
none_of_them p (x ∷ xs) =
    elim (p x) as (λ b. p x ≡ b
    → find p (cond (not b) (x ∷ filter (λ y. not (p y)) xs) (filter (λ y. not (p y)) xs)) ≡ None) [
      | true ↦ λ e. none_of_them p xs
      | false ↦ λ e. rw e (none_of_them p xs)
    ] refl

cancelled_noted : (os : List Observation) (server : ℕ) (token : List ℕ)
    → timer_noted (without_cancelled os server token) server token ≡ None
cancelled_noted os server token =
    ap (option_and_then (λ o. o.timer)) (none_of_them (is_named server token) os)

first_closed : (n : ℕ) (new : Observation) (os : List Observation) → new.timer ≡ None
    → timer_noted (record new { number = n } ∷ os) new.server new.token ≡ None
first_closed n new os h =
    ap (λ b. option_and_then (λ o. o.timer) (cond b (Some (record new { number = n }))
    (find (is_named new.server new.token) os))) (named_self new) ∙ h

registered_closed : (os : List Observation) (new : Observation) → new.timer ≡ None
    → timer_noted (with_registered os new) new.server new.token ≡ None
registered_closed [] new h = first_closed 0 new [] h
registered_closed (o ∷ os) new h =
    elim (is_named new.server new.token o) as (λ b. is_named new.server new.token o ≡ b
    → timer_noted (if b then record new { number = next_number o.number } ∷ os else o ∷ with_registered os new)
    new.server
    new.token ≡ None) [
      | true ↦ λ e. first_closed (next_number o.number) new os h
      | false ↦ λ e. ap (λ b. option_and_then (λ p. p.timer)
          (cond b (Some o) (find (is_named new.server new.token) (with_registered os new)))) e
          ∙ registered_closed os new h
    ] refl

no_place : (named full : Bool) → (not named && full) ≡ true → named ≡ false
no_place true full h = cc
no_place false full h = refl

entered_closed : (os : List Observation) (new : Observation) → new.timer ≡ None
    → timer_noted (after_registration os new).left new.server new.token ≡ None
entered_closed os new h =
    elim (lacks_place os new.server new.token) as (λ b. lacks_place os new.server new.token ≡ b
    → timer_noted (if b then no_observe os
    else record { number = Some (number_for os new.server new.token); left = with_registered os new }).left new.server
    new.token ≡ None) [
      | true ↦ λ e. ap (option_and_then (λ o. o.timer)) (none_found (is_named new.server new.token) os
          (no_place (has_name os new.server new.token) (nat_le 32 (length os)) e))
      | false ↦ λ e. registered_closed os new h
    ] refl

closed_read : (k : DeviceState) (server : ℕ) (m : Message) (path : Path) (accept : Option ℕ) (answer : Answer)
    → timer_noted (noted_by k server m answer (Some (Register path accept))).left server m.token ≡ None
closed_read k server m path accept answer =
    let new = new_observation k server m path accept answer.payload in
    elim (is_content answer) as (λ b. timer_noted (if b then after_registration k.observations new
    else no_observe (without_cancelled k.observations server m.token)).left server m.token ≡ None) [
      | true ↦ entered_closed k.observations new refl
      | false ↦ cancelled_noted k.observations server m.token
    ]

closed_by : (k : DeviceState) (server : ℕ) (m : Message) (answer : Answer) (interest : Interest)
    → timer_noted (noted_by k server m answer (Some interest)).left server m.token ≡ None
closed_by k server m answer (Register path accept) = closed_read k server m path accept answer
closed_by k server m answer Cancel = cancelled_noted k.observations server m.token

closed_after : (f : Machine) (server : ℕ) (m : Message) (outcome : Outcome) (interest : Interest)
    → interest_of m ≡ Some interest
    → timer_noted (on_outcome f server m outcome).flat.kept.observations server m.token ≡ None
closed_after f server m outcome interest h =
    let before = with_client f.kept outcome.client in
    let told = observe_result before server m outcome.answer in
    let k = with_observations before told.left in
    ap (λ os. timer_noted os server m.token)
    (observations_after k m.kind (reply_to f.kept.next_id m m.kind told.number outcome.answer)
    ∙ ap (λ i. (noted_by before server m outcome.answer i).left) h)
    ∙ closed_by before server m outcome.answer interest

-- a fresh Read that says one of the two
pub updates : UpdatesClose
updates f server bytes m interest fresh (inl k) h =
    subst (λ r. timer_noted r.flat.kept.observations server m.token ≡ None) (sym (first_con f server bytes m fresh k))
    (closed_after f server m (outcome_of f.kept.client server m) interest h)
updates f server bytes m interest fresh (inr k) h =
    subst (λ r. timer_noted r.flat.kept.observations server m.token ≡ None) (sym (first_non f server bytes m fresh k))
    (closed_after f server m (outcome_of f.kept.client server m) interest h)
