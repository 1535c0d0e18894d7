-- When a case passes.
use Rattle.std.specs.Prelude.{◌≡◌, ℕ, ◌⊎◌, List, Option, None, Some, Result, Ok, Err, slice_get}
use Rattle.scenario_image.specs.Scenario.{Scenario}
use Rattle.trace_file.specs.declared.entry.Entry.{Entry}
use Rattle.fleet_core.specs.Run.{IsSerial}
use Rattle.scenario_asm.specs.Text.{scenario_of_text}
use Rattle.scenario_asm.specs.declared.fault.AsmFault.{AsmFault}
use Rattle.case_text.specs.declared.item.Item.{Item}
use Rattle.case_text.specs.declared.scenario_case.ScenarioCase.{ScenarioCase}
use Rattle.case_play.specs.declared.answer_place.AnswerPlace.{AnswerPlace}
use Rattle.case_play.specs.declared.came.Came.{Came}
use Rattle.case_play.specs.declared.differences.ItemDifference.{ItemDifference}
use Rattle.case_play.specs.declared.verdict.Verdict.{Verdict}
use Rattle.case_play.specs.declared.verdict.Verdict.TheVariants.{Passes, Differs, Refused}
use Rattle.case_play.specs.Spots.{spot_at}
use Rattle.case_play.specs.Holds.{Holds, IsFirstDifference}
use Rattle.case_play.specs.Ends.{AllEndsHold, IsFirstOfAll}
use Rattle.case_play.specs.Came.{CameThere, CameBelow}
use Rattle.case_play.specs.Refusals.{number_of, AreRefused}

-- each item holds in the scenario
abbrev pub AllHold : Scenario → List Item → Type 0
AllHold s items = (k : ℕ) (item : Item) → slice_get items k ≡ Some item → Holds s (spot_at items k) item

-- each item holds, and so does what is stated of the whole scenario, of which this is the serial run
pub record HoldsIn (s : Scenario) (items : List Item) : Type 0 where
  pub items_hold : AllHold s items
  pub run : List Entry
  pub serial : IsSerial s run
  pub ends_hold : AllEndsHold s run items

-- an item is the first that does not hold, this is the line that names it, and this came of it
pub record DiffersInItem (s : Scenario) (items : List Item) (line : ℕ) (came : Came) : Type 0 where
  pub first : IsFirstDifference s items line
  pub there : CameThere s (spot_at items first.place) first.item.part came

-- each item holds, or this is the first that does not
abbrev pub IsJudged : Scenario → List Item → Option ItemDifference → Type 0
IsJudged s items None = AllHold s items
IsJudged s items (Some d) = DiffersInItem s items d.line d.came

-- each item holds; of what is stated of the whole scenario or of a recorded trace, this is the first line that does
-- not, and this came instead
pub record DiffersAtEnd (s : Scenario) (items : List Item) (line : ℕ) (came : Came) : Type 0 where
  pub items_hold : AllHold s items
  pub run : List Entry
  pub serial : IsSerial s run
  pub place : AnswerPlace
  pub first : IsFirstOfAll s run items place
  pub named : line ≡ first.first.answer.line
  pub instead : CameBelow s run first.item.part first.first.answer.stated came

-- a case whose items are these, in this scenario
abbrev pub IsVerdictIn : Scenario → List Item → Verdict → Type 0
IsVerdictIn s items Passes = HoldsIn s items
IsVerdictIn s items (Differs line came) = DiffersInItem s items line came ⊎ DiffersAtEnd s items line came
IsVerdictIn s items (Refused line cause) = ⊥

abbrev pub line_of : Option ℕ → ℕ
line_of None = 0
line_of (Some number) = number

-- a case whose text has this fault
abbrev pub IsVerdictOn : AsmFault → ScenarioCase → Verdict → Type 0
IsVerdictOn fault case Passes = AreRefused case.numbers fault case.items
IsVerdictOn fault case (Differs line came) = ⊥
IsVerdictOn fault case (Refused line cause) =
    (AreRefused case.numbers fault case.items → ⊥)
    × (line ≡ line_of (number_of case.numbers fault.line)) × (cause ≡ fault.cause)

abbrev pub IsVerdictBy : Result Scenario AsmFault → ScenarioCase → Verdict → Type 0
IsVerdictBy (Ok s) case verdict = IsVerdictIn s case.items verdict
IsVerdictBy (Err fault) case verdict = IsVerdictOn fault case verdict

-- the verdict on a case. It passes exactly if all that it states holds of the scenario of its text; or if the text is
-- refused, and the case states just that. Else this is the first line that does not hold, and what came of it
abbrev pub IsVerdict : ScenarioCase → Verdict → Type 0
IsVerdict case verdict = IsVerdictBy (scenario_of_text case.text) case verdict
