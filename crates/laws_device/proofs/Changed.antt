-- What an event changes of a device.
use Rattle.std.proofs.Common.{◌≡◌, ◌≢◌, ℕ, Bool, true, false, cond, not, List, [], ◌∷◌, Option, None, Some}
use Rattle.std.proofs.Common.{Result, refl, sym, ap, subst, ◌∙◌}
use Rattle.std.specs.Bool.{if◌then◌else◌}
use Rattle.std.specs.List.{filter}
use Rattle.std.specs.Option.{option_map}
use Rattle.lemmas.proofs.Options.{some_from_test, none_from_test}
use Rattle.coap_codec.specs.Message.{Message}
use Rattle.lwm2m_values.specs.declared.value.Value.{Value}
use Rattle.object_defs.specs.Path.{full_path}
use Rattle.object_defs.specs.declared.path.FullPath.{FullPath}
use Rattle.object_defs.specs.declared.path.Path.{Path}
use Rattle.instance_store.specs.Stored.{Stored, value_at, with_value}
use Rattle.instance_store.proofs.SetValues.{value_elsewhere}
use Rattle.notifier.specs.Observed.{is_named, next_number, number_for, with_registered, without_cancelled}
use Rattle.notifier.specs.declared.observation.Observation.{Observation}
use Rattle.device_firmware.specs.Firmware.{firmware_after, outcome_in, uri_of, with_outcome, with_uri}
use Rattle.device_firmware.specs.declared.event.FirmwareEvent.TheVariants.{Ended}
use Rattle.device_template.specs.Values.{misses}
use Rattle.device_requests.specs.Answer.{is_content}
use Rattle.device_requests.specs.Client.{Client}
use Rattle.device_requests.specs.Observe.{interest_for, interest_in, interest_of, is_read}
use Rattle.device_requests.specs.Order.{Asks}
use Rattle.device_requests.specs.Request.{outcome_of, request_with}
use Rattle.device_requests.specs.declared.answer.Answer.{Answer}
use Rattle.device_requests.specs.declared.observe.Interest.{Interest}
use Rattle.device_requests.specs.declared.observe.Interest.TheVariants.{Cancel, Register}
use Rattle.device_requests.specs.declared.operation.Operation.{Operation}
use Rattle.device_requests.specs.declared.operation.Operation.TheVariants.{Read, Discover, WriteAttributes}
use Rattle.device_requests.specs.declared.operation.Operation.TheVariants.{WriteReplace, WritePartial, Create, Execute}
use Rattle.device_requests.specs.declared.operation.Operation.TheVariants.{Delete}
use Rattle.device_requests.specs.declared.request.Request.{Request}
use Rattle.device_requests.specs.declared.ruling.Ruling.{Ruling}
use Rattle.device_requests.proofs.ReadBack.{value_there}
use Rattle.laws_requests.specs.Done.{Changes, DoneIsChanged}
use Rattle.laws_requests.specs.Taken.{IsTaken}
use Rattle.laws_requests.proofs.Taking.{is_taken}
use Rattle.laws_requests.proofs.Asking.{asked}
use Rattle.device_machine.specs.Observing.{after_registration, lacks_place, new_observation, no_observe, noted_by}
use Rattle.device_machine.specs.Reactions.{flat_after, on_firmware}
use Rattle.device_machine.specs.State.{DeviceState, Machine, with_client}
use Rattle.device_machine.specs.declared.event.Event.TheVariants.{Put, Recv}
use Rattle.device_machine.proofs.Counting.{named_self}
use Rattle.laws_device.specs.Changing.{EndsAreTaken, EndsMiss, PutsMiss, PutsSetOne, RequestsAreDone}
use Rattle.laws_device.specs.Changing.{SetsOne}
use Rattle.laws_device.proofs.Received.{observed}
use Rattle.laws_device.proofs.Senders.{end_missed, end_stores, put_missed, put_stores, put_when}
use Rattle.laws_device.proofs.Served.{served}

-- ---- the observations of other names

filter_twice : {X : Type 0} (p : X → Bool) (xs : List X) → filter p (filter p xs) ≡ filter p xs
filter_twice p [] = refl
filter_twice p (x ∷ xs) = by (p x) refl (filter_twice p xs)
  where
    by : (b : Bool) → p x ≡ b → filter p (filter p xs) ≡ filter p xs
        → filter p (cond b (x ∷ filter p xs) (filter p xs)) ≡ cond b (x ∷ filter p xs) (filter p xs)
    by true e k =
        ap (λ b. cond b (x ∷ filter p (filter p xs)) (filter p (filter p xs))) e ∙ ap (λ ys. x ∷ ys) k
    by false e k = k

twice : (os : List Observation) (server : ℕ) (token : List ℕ)
    → without_cancelled (without_cancelled os server token) server token ≡ without_cancelled os server token
twice os server token = filter_twice (λ o. not (is_named server token o)) os

first_named : (new : Observation) (n : ℕ) (os : List Observation)
    → without_cancelled (record new { number = n } ∷ os) new.server new.token
    ≡ without_cancelled os new.server new.token
first_named new n os =
    let rest = without_cancelled os new.server new.token in
    ap (λ b. cond (not b) (record new { number = n } ∷ rest) rest) (named_self new)

registered_others : (os : List Observation) (new : Observation)
    → without_cancelled (with_registered os new) new.server new.token ≡ without_cancelled os new.server new.token
registered_others [] new = first_named new 0 []
registered_others (o ∷ os) new =
    let rest = without_cancelled os new.server new.token in
    elim (is_named new.server new.token o) as (λ b. is_named new.server new.token o ≡ b
    → without_cancelled (if b then record new { number = next_number o.number } ∷ os else o ∷ with_registered os new)
    new.server
    new.token
    ≡ cond (not b) (o ∷ rest) rest) [
      | true ↦ λ e. first_named new (next_number o.number) os
      | false ↦ λ e. ap (λ b. cond (not b) (o ∷ without_cancelled (with_registered os new) new.server new.token)
          (without_cancelled (with_registered os new) new.server new.token)) e
          ∙ ap (λ ps. o ∷ ps) (registered_others os new)
    ] refl

entered_others : (os : List Observation) (new : Observation)
    → without_cancelled (after_registration os new).left new.server new.token
    ≡ without_cancelled os new.server new.token
entered_others os new =
    elim (lacks_place os new.server new.token) as (λ b. without_cancelled (if b then no_observe os
    else record { number = Some (number_for os new.server new.token); left = with_registered os new }).left new.server
    new.token ≡ without_cancelled os new.server new.token) [
      | true ↦ refl
      | false ↦ registered_others os new
    ]

noted_others : (k : DeviceState) (server : ℕ) (m : Message) (answer : Answer) (interest : Option Interest)
    → without_cancelled (noted_by k server m answer interest).left server m.token
    ≡ without_cancelled k.observations server m.token
noted_others k server m answer None = refl
noted_others k server m answer (Some Cancel) = twice k.observations server m.token
noted_others k server m answer (Some (Register path accept)) =
    elim (is_content answer) as (λ b. without_cancelled (if b
    then after_registration k.observations (new_observation k server m path accept answer.payload)
    else no_observe (without_cancelled k.observations server m.token)).left server m.token
    ≡ without_cancelled k.observations server m.token) [
      | true ↦ entered_others k.observations (new_observation k server m path accept answer.payload)
      | false ↦ twice k.observations server m.token
    ]

-- ---- no other operation asks for one

not_read : (operation : Operation) → operation ≢ Read → is_read operation ≡ false
not_read Read h = absurd (h refl)
not_read Discover h = refl
not_read WriteAttributes h = refl
not_read WriteReplace h = refl
not_read WritePartial h = refl
not_read Create h = refl
not_read Execute h = refl
not_read Delete h = refl

asks_nothing : (m : Message) (path : Path) (operation : Operation) → Asks m path operation → operation ≢ Read
    → interest_of m ≡ None
asks_nothing m path operation asks h =
    let r = request_with m path operation in
    ap (λ (x : Result Request Ruling). interest_for x) (asked m path operation asks)
    ∙ ap (λ (b : Bool). if b then interest_in r.observe r.path r.accept else None) (not_read operation h)

-- ---- a request

pub are_done : DoneIsChanged → RequestsAreDone
are_done law f server bytes m path operation fresh kind asks code =
    let s = served f server bytes m fresh kind in
    let outcome = outcome_of f.kept.client server m in
    let k = with_client f.kept outcome.client in
    let left = (observed k server m outcome.answer s.number (flat_after f (Recv server bytes)).kept.observations
    s.observes).left_is in
    record {
      changes = subst (λ (c : Client). Changes f.kept.client server m path operation
          (record { answer = outcome.answer; client = c })) (sym s.client)
          (law f.kept.client server m path operation asks code);
      others = ap (λ os. without_cancelled os server m.token) left
          ∙ noted_others k server m outcome.answer (interest_of m);
      unasked = λ h. left
          ∙ ap (λ (i : Option Interest). (noted_by k server m outcome.answer i).left)
          (asks_nothing m path operation asks h);
      clock = s.clock;
    }

-- ---- a value

sets : (f : Machine) (path : Path) (value : Value) (place : Option FullPath) → full_path path ≡ place
    → misses f.kept.client.catalog f.kept.client.store place value ≡ false → SetsOne f path value
sets f path value None e h = cc
sets f path value (Some p) e h =
    let s = f.kept.client.store in
    let fits : misses f.kept.client.catalog s (full_path path) value ≡ false =
    ap (λ (o : Option FullPath). misses f.kept.client.catalog s o value) e ∙ h in
    let now : (flat_after f (Put path value)).kept.client.store ≡ with_value s p value =
    ap (λ (b : Bool). (put_when f (full_path path) value b).flat.kept.client.store) fits
    ∙ ap (λ (o : Option FullPath). (put_when f o value false).flat.kept.client.store) e in
    record {
      place = p;
      names = e;
      set = ap (λ (t : Stored). value_at t p) now ∙ value_there s p value;
      others = λ q other. ap (λ (t : Stored). value_at t q) now ∙ value_elsewhere s p q value other;
      rest = put_stores f path value fits;
    }

pub puts_set : PutsSetOne
puts_set f path value h = sets f path value (full_path path) refl h

pub puts_miss : PutsMiss
puts_miss f path value h = put_missed f path value h

-- ---- the firmware

pub ends_taken : EndsAreTaken
ends_taken f code h =
    let s = f.kept.client.store in
    let t = with_uri s (uri_of (Ended code)) in
    let o = some_from_test (outcome_in s (Ended code)) h in
    let after : firmware_after s (Ended code) ≡ Some (with_outcome t o.0) = ap (option_map (with_outcome t)) o.1 in
    record {
      taken = subst (λ (u : Stored). IsTaken s (Ended code) u)
          (sym (ap (λ (x : Option Stored). (on_firmware f x).flat.kept.client.store) after))
          (is_taken s (with_outcome t o.0) (Ended code) after);
      rest = end_stores f code (with_outcome t o.0) after;
    }

pub ends_miss : EndsMiss
ends_miss f code h =
    let s = f.kept.client.store in
    end_missed f code
    (ap (option_map (with_outcome (with_uri s (uri_of (Ended code))))) (none_from_test (outcome_in s (Ended code)) h))
