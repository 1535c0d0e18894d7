-- A walk along the items of a case, as clauses of private functions name it. No promise rests on it.
use Rattle.std.specs.Prelude.{◌≡◌, ℕ, ◌+◌, ◌-◌, ◌<◌, ◌≤◌, ◌⊎◌, Bool, true, false, List, [], length, Option, None, Some}
use Rattle.device_machine.specs.declared.event.Event.{Event}
use Rattle.device_machine.specs.declared.output.Output.{Output}
use Rattle.device_machine.specs.State.{Machine, Device, Shows}
use Rattle.device_machine.specs.Reactions.{outputs_of, flat_after, is_refused}
use Rattle.scenario_image.specs.declared.step.Step.{Step}
use Rattle.scenario_image.specs.Scenario.{Scenario}
use Rattle.scenario_image.specs.Play.{device_showing}
use Rattle.fleet_core.specs.Run.{step_at, out_at}
use Rattle.fleet_core.specs.Board.{ShowsAfter}
use Rattle.case_text.specs.declared.answer.Answer.{Answer}
use Rattle.case_text.specs.declared.item.Item.{Item}
use Rattle.case_text.specs.declared.item.Part.{Part}
use Rattle.case_text.specs.declared.question.Question.{Question}
use Rattle.case_play.specs.declared.came.Came.{Came}
use Rattle.case_play.specs.declared.came.Came.TheVariants as came
use Rattle.case_play.specs.declared.differences.ItemDifference.{ItemDifference}
use Rattle.case_play.specs.declared.walk.Walk.{Walk}
use Rattle.case_play.specs.Spots.{Spot, spot_after, IsAsked, PutsOut}
use Rattle.case_play.specs.Holds.{Hold, IsMet, Holds, IsWrongIn, IsNamed}
use Rattle.case_play.specs.Came.{CameThere, RepliesWith}

-- the last of the devices that have begun has made these steps of its row; before the first one there is none
abbrev pub IsMachine : Scenario → ℕ → ℕ → Option Device → Type 0
IsMachine s begun steps None = begun ≡ 0
IsMachine s begun steps (Some x) = (0 < begun) × ShowsAfter s (begun - 1) steps x

-- a copy that took events is there, and shows the state after them; else none was taken
abbrev pub IsCopy : Scenario → Spot → Option Device → Type 0
IsCopy s spot None = spot.asides ≡ []
IsCopy s spot (Some x) = (f : Machine) × IsAsked s spot f × Shows x f

-- the devices are as they are at the spot
pub record IsAt (s : Scenario) (spot : Spot) (walk : Walk) : Type 0 where
  pub begun : walk.begun ≡ spot.begun
  pub within : spot.begun ≤ length s.rows
  pub steps : walk.steps ≡ spot.steps
  pub machine : IsMachine s spot.begun spot.steps walk.machine
  pub copy : IsCopy s spot walk.copy

-- the same of a walk, wherever it is
abbrev pub IsSomewhere : Scenario → Walk → Type 0
IsSomewhere s walk = (spot : Spot) × IsAt s spot walk

-- this device is asked, or there is none
abbrev pub Asks : Scenario → Spot → Option Device → Type 0
Asks s spot None = (f : Machine) → IsAsked s spot f → ⊥
Asks s spot (Some x) = (f : Machine) × IsAsked s spot f × Shows x f

-- an event was taken, or refused
abbrev pub Takes : Machine → Event → Option (List Output) → Device → Type 0
Takes f event None x = is_refused (device_showing f) event ≡ true
Takes f event (Some outputs) x =
    (is_refused (device_showing f) event ≡ false) × (outputs ≡ outputs_of f event) × Shows x (flat_after f event)

-- the last of a row's first steps, which are this many, outputs this
pub record IsMadeLast (s : Scenario) (device to : ℕ) (outputs : List Output) : Type 0 where
  pub place : ℕ
  pub count : place + 1 ≡ to
  pub step : Step
  pub stands : step_at s device place ≡ Some step
  pub put_out : outputs ≡ out_at s device place

-- a device made steps up to this number, and the last of them output this; or its row has not as many
abbrev pub Advances : Scenario → ℕ → ℕ → Option (List Output) → Device → Type 0
Advances s device to None x = (place : ℕ) (step : Step) → place + 1 ≡ to → step_at s device place ≡ Some step → ⊥
Advances s device to (Some outputs) x = IsMadeLast s device to outputs × ShowsAfter s device to x

-- what an item outputs, and the walk after it; or the item outputs nothing that it may
abbrev pub Passes : Scenario → Spot → Part → Option (List Output) → Walk → Type 0
Passes s spot part None walk = (outputs : List Output) → PutsOut s spot part outputs → ⊥
Passes s spot part (Some outputs) walk = PutsOut s spot part outputs × IsAt s (spot_after spot part) walk

-- answers hold of what is output, or else this line is named: that of an answer, or the item's own one
abbrev pub IsCompared : ℕ → List Answer → List Output → Option ℕ → Type 0
IsCompared own answers outputs None = Hold answers outputs
IsCompared own answers outputs (Some line) =
    (Hold answers outputs → ⊥)
    × (IsWrongIn answers outputs line
    ⊎ (((other : ℕ) → IsWrongIn answers outputs other → ⊥) × (line ≡ own)))

-- an item holds, and the walk goes on after it; or this line of it is named
abbrev pub IsChecked : Scenario → Spot → Item → Option ℕ → Walk → Type 0
IsChecked s spot item None walk = Holds s spot item × IsAt s (spot_after spot item.part) walk
IsChecked s spot item (Some line) walk = (Holds s spot item → ⊥) × IsNamed s spot item line

-- an item holds, and the walk goes on after it; or this line of it is named, and this came of it
abbrev pub IsTold : Scenario → Spot → Item → Option ItemDifference → Walk → Type 0
IsTold s spot item None walk = IsChecked s spot item None walk
IsTold s spot item (Some d) walk = IsChecked s spot item (Some d.line) walk × CameThere s spot item.part d.came

-- what came of a question that is asked of this flat state, at which this is output
abbrev pub CameAsked : Bool → Question → Machine → List Output → Came → Type 0
CameAsked must_not question f outputs x =
    (IsMet must_not question f × (x ≡ came.Outputs outputs))
    ⊎ ((IsMet must_not question f → ⊥) × RepliesWith question f x)
