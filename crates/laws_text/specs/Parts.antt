-- What a text says of each class and of each device, by the statements that are about it, and not by what was made of
-- those before them.
use Rattle.std.specs.Prelude.{◌≡◌, ℕ, List, [], ◌∷◌, Option, None, Some, Ok}
use Rattle.device_template.specs.Template.{Template, empty_class}
use Rattle.device_machine.specs.declared.event.Event.TheVariants as event
use Rattle.scenario_image.specs.Scenario.{Row, Scenario}
use Rattle.scenario_image.specs.declared.step.Step.{Step}
use Rattle.scenario_image.specs.declared.step.Step.TheVariants as step
use Rattle.scenario_mnemonics.specs.Messages.{datagram_of}
use Rattle.scenario_statements.specs.declared.statement.Statement.{Statement}
use Rattle.scenario_statements.specs.declared.statement.Statement.TheVariants as says
use Rattle.scenario_asm.specs.ClassLines.{account_added, definition_added, instance_added, notify_set}
use Rattle.scenario_asm.specs.ClassLines.{object_added, value_added}
use Rattle.scenario_asm.specs.Reading.{said_by}
use Rattle.scenario_asm.specs.Text.{scenario_of_text}

-- ---- classes

-- up to the next `class` or `device`
abbrev pub open_part : List Statement → List Statement
open_part [] = []
open_part (says.Class ∷ ss) = []
open_part (says.Device class ∷ ss) = []
open_part (s ∷ ss) = s ∷ open_part ss

-- for each `class`, in their order, what follows it up to the next `class` or `device`
abbrev pub class_parts : List Statement → List (List Statement)
class_parts [] = []
class_parts (says.Class ∷ ss) = open_part ss ∷ class_parts ss
class_parts (s ∷ ss) = class_parts ss

-- a statement adds this to a class in which that object was stated last; one of a device adds nothing to it
abbrev pub Adds : Statement → Option ℕ → Template → Template → Type 0
Adds (says.Notify seconds) object c e = notify_set seconds c ≡ Ok e
Adds (says.Account server) object c e = account_added server c ≡ Ok e
Adds (says.Object id) object c e = object_added id c ≡ Ok e
Adds (says.Def d) object c e = (id : ℕ) × (object ≡ Some id) × (definition_added id d c ≡ Ok e)
Adds (says.Instance place) object c e = instance_added place c ≡ Ok e
Adds (says.Value p value) object c e = value_added p value c ≡ Ok e
Adds s object c e = c ≡ e

-- the object that was stated last, after a statement
abbrev pub object_since : Statement → Option ℕ → Option ℕ
object_since (says.Object id) object = Some id
object_since s object = object

-- statements make this of a class, one after another
abbrev pub MakeOf : Option ℕ → Template → List Statement → Template → Type 0
MakeOf object c [] e = c ≡ e
MakeOf object c (s ∷ ss) e = (next : Template) × Adds s object c next × MakeOf (object_since s object) next ss e

-- a class is made of the empty one by its own statements
abbrev pub IsMadeBy : List Statement → Template → Type 0
IsMadeBy part class = MakeOf None empty_class part class

-- ---- devices

-- the step of the device that was stated last
abbrev pub said_step : Statement → Option Step
said_step (says.Recv server bytes) = Some (step.Event (event.Recv server bytes))
said_step (says.Request server m) = Some (step.Event (event.Recv server (datagram_of m)))
said_step (says.Tick seconds) = Some (step.Event (event.Tick seconds))
said_step (says.Put p value) = Some (step.Event (event.Put p value))
said_step (says.Firmware code) = Some (step.Event (event.Firmware code))
said_step (says.Post group) = Some (step.Post group)
said_step (says.Need group count) = Some (step.Need group count)
said_step s = None

abbrev pub put_step : Option Step → List Step → List Step
put_step None steps = steps
put_step (Some x) steps = x ∷ steps

-- the steps up to the next `device`
abbrev pub said_steps : List Statement → List Step
said_steps [] = []
said_steps (says.Device class ∷ ss) = []
said_steps (s ∷ ss) = put_step (said_step s) (said_steps ss)

-- for each `device`, in their order, its class, and the steps from it up to the next `device`
abbrev pub said_rows : List Statement → List Row
said_rows [] = []
said_rows (says.Device class ∷ ss) = record { class = class; steps = said_steps ss } ∷ said_rows ss
said_rows (s ∷ ss) = said_rows ss

-- ---- the scenario

-- lists of one length, whose elements belong to one another, each to the one at its place
abbrev pub AreMatched : {A B : Type 0} → (A → B → Type 0) → List A → List B → Type 0
AreMatched P [] [] = Unit {0}
AreMatched P (x ∷ xs) (y ∷ ys) = P x y × AreMatched P xs ys
AreMatched P [] (y ∷ ys) = ⊥
AreMatched P (x ∷ xs) [] = ⊥

-- each class is made by its part, and each device is the row that is said
pub record IsSaid (ss : List Statement) (s : Scenario) : Type 0 where
  pub classes : AreMatched IsMadeBy (class_parts ss) s.classes
  pub rows : s.rows ≡ said_rows ss

abbrev pub PartsAreSaid : Type 0
PartsAreSaid =
    (text : List ℕ) (s : Scenario) → scenario_of_text text ≡ Ok s
    → (ss : List Statement) × (said_by text ≡ Ok ss) × IsSaid ss s

-- the parts say one scenario
abbrev pub PartsSayOne : Type 0
PartsSayOne = (ss : List Statement) (s : Scenario) (t : Scenario) → IsSaid ss s → IsSaid ss t → s ≡ t
