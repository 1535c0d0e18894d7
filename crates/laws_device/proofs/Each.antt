-- What holds of each observation holds of those that an arrival leaves.
use Rattle.std.proofs.Common.{ℕ, Bool, true, false, not, List, [], ◌∷◌, Option, None, Some}
use Rattle.std.specs.Bool.{if◌then◌else◌}
use Rattle.std.specs.List.{AllByRecursion}
use Rattle.lemmas.proofs.Lists.{each_filtered}
use Rattle.coap_codec.specs.Message.{Message}
use Rattle.object_defs.specs.declared.path.Path.{Path}
use Rattle.notifier.specs.Observed.{as_closed, is_awaited, is_named, next_number, number_for, with_acknowledged}
use Rattle.notifier.specs.Observed.{with_registered, without_cancelled}
use Rattle.notifier.specs.declared.observation.Observation.{Observation}
use Rattle.device_requests.specs.Answer.{is_content}
use Rattle.device_requests.specs.declared.answer.Answer.{Answer}
use Rattle.device_requests.specs.declared.observe.Interest.{Interest}
use Rattle.device_requests.specs.declared.observe.Interest.TheVariants.{Register, Cancel}
use Rattle.device_machine.specs.Observing.{after_registration, lacks_place, new_observation, no_observe, noted_by}
use Rattle.device_machine.specs.State.{DeviceState}

-- an observation with another number is so too
abbrev pub IsOfAnyNumber : (Observation → Type 0) → Type 0
IsOfAnyNumber P = (o : Observation) (n : ℕ) → P o → P (record o { number = n })

registered_each : (P : Observation → Type 0) (os : List Observation) (new : Observation) → IsOfAnyNumber P
    → AllByRecursion P os → P new → AllByRecursion P (with_registered os new)
registered_each P [] new any h k = (any new 0 k, tt)
registered_each P (o ∷ os) new any h k =
    elim (is_named new.server new.token o) as (λ b. AllByRecursion P
    (if b then record new { number = next_number o.number } ∷ os else o ∷ with_registered os new)) [
      | true ↦ (any new (next_number o.number) k, h.1)
      | false ↦ (h.0, registered_each P os new any h.1 k)
    ]

entered_each : (P : Observation → Type 0) (os : List Observation) (new : Observation) → IsOfAnyNumber P
    → AllByRecursion P os → P new → AllByRecursion P (after_registration os new).left
entered_each P os new any h k =
    elim (lacks_place os new.server new.token) as (λ b. AllByRecursion P (if b then no_observe os
    else record { number = Some (number_for os new.server new.token); left = with_registered os new }).left) [
      | true ↦ h
      | false ↦ registered_each P os new any h k
    ]

-- a request leaves those that were there, and the one that begins with its reply
pub noted_each : (P : Observation → Type 0) (kept : DeviceState) (server : ℕ) (m : Message) (answer : Answer)
    (interest : Option Interest) → IsOfAnyNumber P
    → ((path : Path) (accept : Option ℕ) → P (new_observation kept server m path accept answer.payload))
    → AllByRecursion P kept.observations → AllByRecursion P (noted_by kept server m answer interest).left
noted_each P kept server m answer None any new h = h
noted_each P kept server m answer (Some Cancel) any new h =
    each_filtered P (λ o. not (is_named server m.token o)) kept.observations h
noted_each P kept server m answer (Some (Register path accept)) any new h =
    elim (is_content answer) as (λ b. AllByRecursion P
    (if b then after_registration kept.observations (new_observation kept server m path accept answer.payload)
    else no_observe (without_cancelled kept.observations server m.token)).left) [
      | true ↦ entered_each P kept.observations (new_observation kept server m path accept answer.payload) any h
          (new path accept)
      | false ↦ each_filtered P (λ o. not (is_named server m.token o)) kept.observations h
    ]

closed_or_not : (P : Observation → Type 0) (b : Bool) (o : Observation) → ((p : Observation) → P p → P (as_closed p))
    → P o → P (if b then as_closed o else o)
closed_or_not P true o closes h = closes o h
closed_or_not P false o closes h = h

-- an acknowledgement leaves each of them, closed or as it was
pub acknowledged_each : (P : Observation → Type 0) (os : List Observation) (server mid : ℕ)
    → ((p : Observation) → P p → P (as_closed p)) → AllByRecursion P os
    → AllByRecursion P (with_acknowledged os server mid)
acknowledged_each P [] server mid closes h = tt
acknowledged_each P (o ∷ os) server mid closes h = (
  closed_or_not P (is_awaited server mid o) o closes h.0,
  acknowledged_each P os server mid closes h.1,
)
