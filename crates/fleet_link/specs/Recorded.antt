-- What is recorded of a device's steps: all of them, until one has no room.
use Rattle.std.specs.Prelude.{◌≡◌, ◌⊎◌, ℕ, ◌+◌, ◌-◌, ◌/◌, ◌^◌, ◌<◌, ◌≤◌, min, Bool, true, false, List, [], ◌++◌, length}
use Rattle.std.specs.Prelude.{Option, None, Some, slice_get}
use Rattle.std.specs.List.{sum_by}
use Rattle.device_machine.specs.declared.event.Event.{Event as Happening}
use Rattle.device_machine.specs.declared.event.Event.TheVariants.{Recv, Put, Firmware, Tick}
use Rattle.scenario_image.specs.declared.step.Step.{Step}
use Rattle.scenario_image.specs.declared.step.Step.TheVariants.{Event, Post, Need}
use Rattle.fleet_link.specs.declared.recording.Recording.{Recording}

-- how many bytes of an image are set aside for an event
abbrev pub size_of_event : Happening → ℕ
size_of_event (Recv server bytes) = min (length bytes + 8) (2 ^ 64 - 1)
size_of_event (Put path value) = 1500
size_of_event (Firmware code) = 8
size_of_event (Tick seconds) = 8

-- the same of a step: none for a post or a need, which are not recorded
abbrev pub size_of_step : Step → ℕ
size_of_step (Event event) = size_of_event event
size_of_step (Post group) = 0
size_of_step (Need group count) = 0

abbrev pub size_of_steps : List Step → ℕ
size_of_steps steps = sum_by size_of_step steps

-- how many bytes each of n devices may take, where they are saved: of 64 MiB an equal part
abbrev pub share_of : ℕ → Bool → ℕ
share_of rows true = 67108864 / rows
share_of rows false = 0

-- an event can be recorded
pub record HasRoom (recording : Recording) (event : Happening) : Type 0 where
  pub complete : recording.complete ≡ true
  pub few : length recording.steps.items < 4096
  pub fits : size_of_event event ≤ recording.left

-- there are 4,096 steps, or too few bytes are left for an event
abbrev pub HasNoRoom : Recording → Happening → Type 0
HasNoRoom recording event =
    (4096 ≤ length recording.steps.items) ⊎ (recording.left < size_of_event event)

-- there is a next step, and it would be the 4,097th, or all together would take more than the recording's share
abbrev pub IsFullFor : Recording → Option Step → Type 0
IsFullFor recording None = ⊥
IsFullFor recording (Some next) =
    (4096 ≤ length recording.steps.items)
    ⊎ (recording.share < size_of_steps recording.steps.items + size_of_step next)

-- What is recorded of steps: all of them while it is complete. Else a beginning, after which the next step had no room.
pub record IsRecorded (recording : Recording) (steps : List Step) : Type 0 where
  pub rest : List Step
  pub begins : steps ≡ recording.steps.items ++ rest
  pub whole : recording.complete ≡ true → rest ≡ []
  pub full : recording.complete ≡ false → IsFullFor recording (slice_get rest 0)
  pub room : recording.left + size_of_steps recording.steps.items ≡ recording.share
