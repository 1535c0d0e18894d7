-- When an item of a case holds, and the first one that does not.
use Rattle.std.specs.Prelude.{◌≡◌, ℕ, ◌<◌, ◌⊎◌, Bool, true, false, not, ◌&&◌, List, Option, None, Some, slice_get}
use Rattle.std.specs.List.{list_any}
use Rattle.device_machine.specs.declared.output.Output.{Output}
use Rattle.device_machine.specs.State.{Machine}
use Rattle.scenario_image.specs.Scenario.{Scenario}
use Rattle.case_text.specs.declared.answer.Answer.{Answer}
use Rattle.case_text.specs.declared.item.Item.{Item}
use Rattle.case_text.specs.declared.item.Part.{Part}
use Rattle.case_text.specs.declared.item.Part.TheVariants as parts
use Rattle.case_text.specs.declared.question.Question.{Question}
use Rattle.case_text.specs.declared.stated.Stated.{Stated}
use Rattle.case_text.specs.declared.stated.Stated.TheVariants as states
use Rattle.case_play.specs.Outputs.{States, IsFirstWrong}
use Rattle.case_play.specs.Questions.{IsAnswer}
use Rattle.case_play.specs.Spots.{Spot, spot_at, IsAsked, PutsOut}

-- an answer is about outputs, and not about the whole scenario
abbrev pub is_of_outputs : Stated → Bool
is_of_outputs (states.Output output) = true
is_of_outputs stated = false

-- one of the answers about outputs must come, or must not come
abbrev pub has_right : List Answer → Bool
has_right answers = list_any (λ a. is_of_outputs a.stated && not a.must_not) answers

abbrev pub has_wrong : List Answer → Bool
has_wrong answers = list_any (λ a. is_of_outputs a.stated && a.must_not) answers

abbrev pub HoldBy : Bool → Bool → List Answer → List Output → Type 0
HoldBy right false answers outputs = States answers outputs
HoldBy false true answers outputs = States answers outputs → ⊥
HoldBy true true answers outputs = ⊥

-- the answers hold of what is output: they state it; or all of them must not come, and they do not
abbrev pub Hold : List Answer → List Output → Type 0
Hold answers outputs = HoldBy (has_right answers) (has_wrong answers) answers outputs

-- the answer to a question that is asked of this flat state comes, or does not where it must not
abbrev pub IsMet : Bool → Question → Machine → Type 0
IsMet false question f = IsAnswer question f
IsMet true question f = IsAnswer question f → ⊥

-- a question is asked of a device, and has its answer
abbrev pub IsAnswered : Scenario → Spot → Part → Type 0
IsAnswered s spot parts.Start = Unit {0}
IsAnswered s spot (parts.Device times) = Unit {0}
IsAnswered s spot (parts.Step times) = Unit {0}
IsAnswered s spot parts.Line = Unit {0}
IsAnswered s spot (parts.Ask must_not question) = (f : Machine) × IsAsked s spot f × IsMet must_not question f
IsAnswered s spot (parts.Aside event) = Unit {0}
IsAnswered s spot (parts.Recorded bytes) = Unit {0}

-- an item holds at a spot: it outputs what the answers below it say, and a question has its answer
pub record Holds (s : Scenario) (spot : Spot) (item : Item) : Type 0 where
  pub outputs : List Output
  pub put_out : PutsOut s spot item.part outputs
  pub hold : Hold item.answers outputs
  pub answered : IsAnswered s spot item.part

-- ---- the line that is named

-- answers that must come, and the first of them that is not so stands in this line
pub record IsWrongIn (answers : List Answer) (outputs : List Output) (line : ℕ) : Type 0 where
  pub right : has_wrong answers ≡ false
  pub place : ℕ
  pub answer : Answer
  pub stands : slice_get answers place ≡ Some answer
  pub first : IsFirstWrong answers outputs place
  pub named : line ≡ answer.line

-- a question has its answer, and this is the line of the first answer below that is not so
pub record IsWrongAnswer (s : Scenario) (spot : Spot) (item : Item) (line : ℕ) : Type 0 where
  pub answered : IsAnswered s spot item.part
  pub outputs : List Output
  pub put_out : PutsOut s spot item.part outputs
  pub wrong : IsWrongIn item.answers outputs line

abbrev pub line_or : ℕ → Option Answer → ℕ
line_or own None = own
line_or own (Some answer) = answer.line

-- an item that does not hold is named by the line of that answer, or where there is none by its own
abbrev pub IsNamed : Scenario → Spot → Item → ℕ → Type 0
IsNamed s spot item line =
    IsWrongAnswer s spot item line
    ⊎ (((other : ℕ) → IsWrongAnswer s spot item other → ⊥) × (line ≡ item.line))

-- item i is the first that does not hold, and is named by this line
pub record IsFirstDifference (s : Scenario) (items : List Item) (line : ℕ) : Type 0 where
  pub place : ℕ
  pub item : Item
  pub stands : slice_get items place ≡ Some item
  pub above : (k : ℕ) (other : Item) → k < place → slice_get items k ≡ Some other
      → Holds s (spot_at items k) other
  pub differs : Holds s (spot_at items place) item → ⊥
  pub named : IsNamed s (spot_at items place) item line
