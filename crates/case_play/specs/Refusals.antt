-- When a case passes whose text is refused.
use Rattle.std.specs.Prelude.{◌≡◌, ℕ, zero, suc, Bool, true, false, IsTrue, List, length, nat_lt, Option}
use Rattle.std.specs.Prelude.{None, Some, slice_get}
use Rattle.std.specs.List.{list_any}
use Rattle.scenario_asm.specs.declared.fault.AsmFault.{AsmFault}
use Rattle.case_text.specs.declared.answer.Answer.{Answer}
use Rattle.case_text.specs.declared.item.Item.{Item}
use Rattle.case_text.specs.declared.item.Part.{Part}
use Rattle.case_text.specs.declared.item.Part.TheVariants as parts
use Rattle.case_text.specs.declared.stated.EndStated.TheVariants.{Fault}
use Rattle.case_text.specs.declared.stated.Stated.{Stated}
use Rattle.case_text.specs.declared.stated.Stated.TheVariants.{End}

-- the number in the case of a line of its text, which is counted from 1
abbrev pub number_of : List ℕ → ℕ → Option ℕ
number_of numbers zero = None
number_of numbers (suc i) = slice_get numbers i

-- the answer states this fault, at the line of the case that is the text's line
abbrev pub StatesFault : List ℕ → AsmFault → Stated → Type 0
StatesFault numbers fault (End (Fault line cause)) =
    (number_of numbers fault.line ≡ Some line) × (fault.cause ≡ cause)
StatesFault numbers fault stated = ⊥

abbrev pub is_fault : Stated → Bool
is_fault (End (Fault line cause)) = true
is_fault stated = false

-- an answer to a text that is refused: it states the fault, or a fault that must not come is another one
abbrev pub FaultHoldsBy : Bool → List ℕ → AsmFault → Stated → Type 0
FaultHoldsBy false numbers fault stated = StatesFault numbers fault stated
FaultHoldsBy true numbers fault stated = (is_fault stated ≡ true) × (StatesFault numbers fault stated → ⊥)

abbrev pub FaultHolds : List ℕ → AsmFault → Answer → Type 0
FaultHolds numbers fault answer = FaultHoldsBy answer.must_not numbers fault answer.stated

-- it asks nothing, neither of a device nor of a recorded trace
abbrev pub is_plain : Part → Bool
is_plain parts.Start = true
is_plain (parts.Device times) = true
is_plain (parts.Step times) = true
is_plain parts.Line = true
is_plain (parts.Ask must_not question) = false
is_plain (parts.Aside event) = true
is_plain (parts.Recorded bytes) = false

abbrev pub AllFaultsHold : List ℕ → AsmFault → List Answer → Type 0
AllFaultsHold numbers fault answers =
    (i : ℕ) (answer : Answer) → slice_get answers i ≡ Some answer → FaultHolds numbers fault answer

-- below an item there is no other answer than the fault, and the item asks nothing
pub record FaultsHold (numbers : List ℕ) (fault : AsmFault) (item : Item) : Type 0 where
  pub plain : is_plain item.part ≡ true
  pub each : AllFaultsHold numbers fault item.answers

-- there is an answer
abbrev pub has_answer : List Item → Bool
has_answer items = list_any (λ i. nat_lt 0 (length i.answers)) items

-- a text that is refused so is stated to be: there is an answer, and no other than the fault
pub record AreRefused (numbers : List ℕ) (fault : AsmFault) (items : List Item) : Type 0 where
  pub some : IsTrue (has_answer items)
  pub each : (k : ℕ) (item : Item) → slice_get items k ≡ Some item → FaultsHold numbers fault item
