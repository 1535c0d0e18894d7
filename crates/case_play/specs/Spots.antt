-- Where the items of a case stand: in which row of the scenario, and after which of its steps.
use Rattle.std.specs.Prelude.{◌≡◌, ℕ, ◌+◌, ◌<◌, ◌≤◌, false, List, [], ◌∷◌, ◌++◌, length, fold, take, Some}
use Rattle.device_template.specs.Template.{Template}
use Rattle.device_machine.specs.declared.event.Event.{Event}
use Rattle.device_machine.specs.declared.output.Output.{Output}
use Rattle.device_machine.specs.State.{Machine}
use Rattle.device_machine.specs.Reactions.{outputs_of, flat_after, is_refused}
use Rattle.scenario_image.specs.declared.step.Step.{Step}
use Rattle.scenario_image.specs.Scenario.{Scenario}
use Rattle.scenario_image.specs.Play.{state_at, device_showing, IsRowOf}
use Rattle.fleet_core.specs.Run.{step_at, out_at}
use Rattle.case_text.specs.declared.item.Item.{Item}
use Rattle.case_text.specs.declared.item.Part.{Part}
use Rattle.case_text.specs.declared.item.Part.TheVariants as parts

-- how many devices have begun, how many steps the last of them has made, and which events a copy of it has taken since
pub record Spot : Type 0 where
  pub begun : ℕ
  pub steps : ℕ
  pub asides : List Event

-- before the first item
abbrev pub first_spot : Spot
first_spot = record { begun = 0; steps = 0; asides = [] }

-- after an item: with a line of the text the copy is forgotten
abbrev pub spot_after : Spot → Part → Spot
spot_after spot parts.Start = spot
spot_after spot (parts.Device times) = record { begun = spot.begun + times; steps = 0; asides = [] }
spot_after spot (parts.Step times) = record { begun = spot.begun; steps = spot.steps + times; asides = [] }
spot_after spot parts.Line = record { begun = spot.begun; steps = spot.steps; asides = [] }
spot_after spot (parts.Ask must_not question) = spot
spot_after spot (parts.Aside event) =
    record { begun = spot.begun; steps = spot.steps; asides = spot.asides ++ event ∷ [] }
spot_after spot (parts.Recorded bytes) = spot

-- before item i
abbrev pub spot_at : List Item → ℕ → Spot
spot_at items i = fold (λ spot item. spot_after spot item.part) first_spot (take i items)

-- ---- what the rows say there

-- the device of this row is the last one that has begun
pub record IsLast (s : Scenario) (spot : Spot) (device : ℕ) : Type 0 where
  pub begun : spot.begun ≡ device + 1
  pub within : device < length s.rows

-- what is asked at a spot is a device in this flat state: that of the row's device after its steps, and after the
-- events of the copy
pub record IsAsked (s : Scenario) (spot : Spot) (f : Machine) : Type 0 where
  pub device : ℕ
  pub last : IsLast s spot device
  pub class : Template
  pub row : List Step
  pub is_row : IsRowOf s device class row
  pub state : f ≡ fold flat_after (state_at class row spot.steps) spot.asides

-- a line of the text is `times` steps of the row, and the last of them outputs this
pub record HasStepped (s : Scenario) (spot : Spot) (times : ℕ) (outputs : List Output) : Type 0 where
  pub device : ℕ
  pub last : IsLast s spot device
  pub place : ℕ
  pub count : place + 1 ≡ spot.steps + times
  pub some : 0 < times
  pub step : Step
  pub stands : step_at s device place ≡ Some step
  pub put_out : outputs ≡ out_at s device place

-- the copy takes the event, and outputs this
pub record HasTaken (s : Scenario) (spot : Spot) (event : Event) (outputs : List Output) : Type 0 where
  pub state : Machine
  pub asked : IsAsked s spot state
  pub taken : is_refused (device_showing state) event ≡ false
  pub put_out : outputs ≡ outputs_of state event

-- `times` devices begin: the scenario has a row for each
pub record HasBegun (s : Scenario) (spot : Spot) (times : ℕ) (outputs : List Output) : Type 0 where
  pub some : 0 < times
  pub rows : spot.begun + times ≤ length s.rows
  pub put_out : outputs ≡ []

-- what an item outputs at a spot: a line of the text that is no step outputs nothing, nor does a question or a
-- recorded trace
abbrev pub PutsOut : Scenario → Spot → Part → List Output → Type 0
PutsOut s spot parts.Start outputs = outputs ≡ []
PutsOut s spot (parts.Device times) outputs = HasBegun s spot times outputs
PutsOut s spot (parts.Step times) outputs = HasStepped s spot times outputs
PutsOut s spot parts.Line outputs = outputs ≡ []
PutsOut s spot (parts.Ask must_not question) outputs = outputs ≡ []
PutsOut s spot (parts.Aside event) outputs = HasTaken s spot event outputs
PutsOut s spot (parts.Recorded bytes) outputs = outputs ≡ []
