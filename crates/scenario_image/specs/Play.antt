-- The states of a row's device, and what each of its steps outputs.
use Rattle.std.specs.Prelude.{◌≡◌, ◌≤◌, ◌⊎◌, ℕ, Bool, IsTrue, true, false, List, [], ◌∷◌, length, take, Option, None}
use Rattle.std.specs.Prelude.{Some, slice_get}
use Rattle.device_template.specs.Template.{Template}
use Rattle.device_machine.specs.declared.output.Output.{Output}
use Rattle.device_machine.specs.Template.{start_of}
use Rattle.device_machine.specs.State.{Machine, Device, Shows, with_live_records}
use Rattle.device_machine.specs.Reactions.{outputs_of, flat_after, is_refused}
use Rattle.scenario_image.specs.declared.step.Step.{Step}
use Rattle.scenario_image.specs.declared.step.Step.TheVariants.{Event, Post, Need}
use Rattle.scenario_image.specs.Scenario.{Scenario}

-- the flat state in which a device of the class starts
abbrev pub start : Template → Machine
start class = record { kept = start_of class; recorded = [] }

-- what a step outputs: an event what the device does, a post and a need nothing
abbrev pub step_outputs : Machine → Step → List Output
step_outputs f (Event event) = outputs_of f event
step_outputs f (Post group) = []
step_outputs f (Need group count) = []

-- the flat state after a step: a post and a need change nothing
abbrev pub step_after : Machine → Step → Machine
step_after f (Event event) = flat_after f event
step_after f (Post group) = f
step_after f (Need group count) = f

-- the flat state after steps, one after another
abbrev pub state_after : Machine → List Step → Machine
state_after f [] = f
state_after f (step ∷ steps) = state_after (step_after f step) steps

-- the flat state of a device of the class after its first k steps
abbrev pub state_at : Template → List Step → ℕ → Machine
state_at class steps k = state_after (start class) (take k steps)

-- step k, counted from 0, of a device that is in this flat state before step 0, puts this out
pub record PutsOut (f : Machine) (steps : List Step) (k : ℕ) (outputs : List Output) : Type 0 where
  pub step : Step
  pub stands : slice_get steps k ≡ Some step
  pub put_out : outputs ≡ step_outputs (state_after f (take k steps)) step

-- the class and the steps of a device's row
pub record IsRowOf (s : Scenario) (device : ℕ) (class : Template) (steps : List Step) : Type 0 where
  pub place : ℕ
  pub row : slice_get s.rows device ≡ Some (record { class = place; steps = steps })
  pub stated : slice_get s.classes place ≡ Some class

-- an event is refused as the device refuses it, a post and a need never
abbrev pub is_step_refused : Device → Step → Bool
is_step_refused device (Event event) = is_refused device event
is_step_refused device (Post group) = false
is_step_refused device (Need group count) = false

-- the device that shows this flat state
abbrev pub device_showing : Machine → Device
device_showing f = record { spent = false; flat = with_live_records f }

-- one of the steps, of a device that is in this flat state before step 0, is refused after those before it
pub record IsStopped (f : Machine) (steps : List Step) : Type 0 where
  pub place : ℕ
  pub step : Step
  pub stands : slice_get steps place ≡ Some step
  pub refused : is_step_refused (device_showing (state_after f (take place steps))) step ≡ true

-- the device hears of events alone
abbrev pub is_event : Step → Bool
is_event (Event event) = true
is_event (Post group) = false
is_event (Need group count) = false

-- what was output, nothing where the device was not asked
abbrev pub outputs_in : Option (List Output) → List Output
outputs_in None = []
outputs_in (Some outputs) = outputs

-- a device that was in this flat state is spent now, or was left after some of the steps
abbrev pub IsLeft : Device → Machine → List Step → Type 0
IsLeft device f steps =
    IsTrue device.spent ⊎ ((k : ℕ) × (k ≤ length steps) × Shows device (state_after f (take k steps)))
