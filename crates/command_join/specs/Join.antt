-- What `join OUT IMAGE ..` comes to: the scenario that is printed of and written, and what is refused.
--
-- Two relations say what is known of the files: `holds path bytes`, the file at the path had these bytes when it was
-- read; `fails path`, it could not be read.
use Rattle.std.specs.Prelude.{⊤, ℕ, ◌≡◌, ◌≢◌, ◌+◌, ◌<◌, ◌⊎◌, List, [], ◌∷◌, ◌++◌, length, Option, None, Some, All}
use Rattle.std.specs.Prelude.{codes}
use Rattle.std.specs.Fmt.{decimal}
use Rattle.std.specs.List.{AllZip, flat_map}
use Rattle.std.specs.String.{string_bytes}
use Rattle.scenario_image.specs.declared.fault.ScenarioFault.TheVariants.{Limit}
use Rattle.scenario_image.specs.Image.{IsImageIn}
use Rattle.scenario_image.specs.Scenario.{Scenario, most_rows}
use Rattle.scenario_words.specs.Words.{ended_line}
use Rattle.command_files.specs.Answers.{files_of}
use Rattle.command_files.specs.Loading.{IsImageFault, IsScenarioAt}
use Rattle.command_files.specs.declared.answer.Answer.{Answer}
use Rattle.command_files.specs.declared.fault.Fault.{Fault}
use Rattle.command_files.specs.declared.fault.Fault.TheVariants.{Memory, OtherClasses, Session, Slices}
use Rattle.command_files.specs.declared.status.Status.TheVariants.{Done}
use Rattle.command_join.specs.Order.{IsOrder, IsOrderFault, SaysDevices}
use Rattle.command_join.specs.Slices.{AreSlices, first_of, last_of}
use Rattle.command_join.specs.declared.slice.Slice.{Slice}

-- ---- the images

-- a scenario has as many devices as the slice says, if it says that
abbrev pub HasCountOf : Slice → Scenario → Type 0
HasCountOf slice part = SaysDevices slice → length part.rows + first_of slice ≡ last_of slice + 1

-- the file of the slice is the image of this scenario, which has as many devices as the slice says
pub record IsImageOf (holds : List ℕ → List ℕ → Type 0) (slice : Slice) (part : Scenario) : Type 0 where
  pub found : IsScenarioAt holds slice.path.now part
  pub count : HasCountOf slice part

-- ---- the whole

-- the whole has the classes of each of its parts, and the rows of all of them, one after another
pub record IsWhole (parts : List Scenario) (whole : Scenario) : Type 0 where
  pub some : parts ≢ []
  pub classes : All (λ part. part.classes ≡ whole.classes) parts
  pub rows : whole.rows ≡ flat_map (λ part. part.rows) parts

-- the scenario is the whole of these slices
pub record IsJoined (holds : List ℕ → List ℕ → Type 0) (slices : List Slice) (whole : Scenario) : Type 0 where
  pub parts : List Scenario
  pub found : AllZip (IsImageOf holds) slices parts
  pub joined : IsWhole parts whole

-- the same where there may be no slice yet
abbrev pub IsJoinedSoFar : (List ℕ → List ℕ → Type 0) → List Slice → Option Scenario → Type 0
IsJoinedSoFar holds slices None = slices ≡ []
IsJoinedSoFar holds slices (Some whole) = IsJoined holds slices whole

-- ---- one part more

-- it has other classes than what was joined before it
pub record HasOtherClasses (so_far : Option Scenario) (part : Scenario) : Type 0 where
  pub whole : Scenario
  pub before : so_far ≡ Some whole
  pub other : part.classes ≢ whole.classes

-- it has the same classes, and with its rows there were more than a scenario may have
pub record HasTooManyRows (so_far : Option Scenario) (part : Scenario) : Type 0 where
  pub whole : Scenario
  pub before : so_far ≡ Some whole
  pub same : part.classes ≡ whole.classes
  pub many : most_rows < length whole.rows + length part.rows

-- what was joined, with this part after it
abbrev pub IsAdded : Option Scenario → Scenario → Scenario → Type 0
IsAdded None part more = more ≡ part
IsAdded (Some whole) part more =
    (part.classes ≡ whole.classes) × (more.classes ≡ whole.classes) × (more.rows ≡ whole.rows ++ part.rows)

-- no memory was left, or the part at this path cannot be added
abbrev pub IsUnadded : Option Scenario → Scenario → List ℕ → Option (List ℕ) → Fault → Type 0
IsUnadded so_far part path about Memory = ⊤
IsUnadded so_far part path about OtherClasses = HasOtherClasses so_far part × (about ≡ Some path)
IsUnadded so_far part path about (Session Limit) = HasTooManyRows so_far part × (about ≡ Some path)
IsUnadded so_far part path about _ = ⊥

-- ---- one slice more

-- the image of the slice does not have as many devices as it says
pub record HasOtherCount (holds : List ℕ → List ℕ → Type 0) (slice : Slice) : Type 0 where
  pub part : Scenario
  pub found : IsScenarioAt holds slice.path.now part
  pub other : HasCountOf slice part → ⊥

-- the image of the slice is to blame, or its word: how many devices it says
abbrev pub IsUnread : (List ℕ → List ℕ → Type 0) → (List ℕ → Type 0) → Slice → Option (List ℕ) → Fault → Type 0
IsUnread holds fails slice about Slices = HasOtherCount holds slice × (about ≡ Some slice.word.now)
IsUnread holds fails slice about fault = IsImageFault holds fails slice.path.now fault × (about ≡ Some slice.path.now)

-- what was joined, with this slice after it
pub record IsNext (holds : List ℕ → List ℕ → Type 0) (so_far : Option Scenario) (slice : Slice) (more : Scenario)
    : Type 0 where
  pub part : Scenario
  pub found : IsImageOf holds slice part
  pub added : IsAdded so_far part more

-- the slice has an image that cannot be added
pub record IsNotNext (holds : List ℕ → List ℕ → Type 0) (so_far : Option Scenario) (slice : Slice)
    (about : Option (List ℕ)) (fault : Fault) : Type 0 where
  pub part : Scenario
  pub found : IsImageOf holds slice part
  pub refused : IsUnadded so_far part slice.path.now about fault

-- first the image of the slice is to blame, and then what it is added to
abbrev pub IsRefusedNext : (List ℕ → List ℕ → Type 0) → (List ℕ → Type 0) → Option Scenario → Slice
    → Option (List ℕ) → Fault → Type 0
IsRefusedNext holds fails so_far slice about fault =
    IsUnread holds fails slice about fault ⊎ IsNotNext holds so_far slice about fault

-- ---- all slices

-- the first slice in this order that is refused, after those before it were joined
pub record IsFirstRefused (holds : List ℕ → List ℕ → Type 0) (fails : List ℕ → Type 0) (order : List Slice)
    (about : Option (List ℕ)) (fault : Fault) : Type 0 where
  pub before : List Slice
  pub slice : Slice
  pub others : List Slice
  pub stands : order ≡ before ++ slice ∷ others
  pub so_far : Option Scenario
  pub joined : IsJoinedSoFar holds before so_far
  pub refused : IsRefusedNext holds fails so_far slice about fault

-- there is no image, which is a fault of no word
pub record IsNone (order : List Slice) (about : Option (List ℕ)) (fault : Fault) : Type 0 where
  pub none : order ≡ []
  pub name : fault ≡ Slices
  pub no_word : about ≡ None

abbrev pub IsWholeFault : (List ℕ → List ℕ → Type 0) → (List ℕ → Type 0) → List Slice → Option (List ℕ) → Fault
    → Type 0
IsWholeFault holds fails order about fault = IsFirstRefused holds fails order about fault ⊎ IsNone order about fault

-- ---- the command

-- `joined N devices of M images`
abbrev pub joined_line : ℕ → ℕ → List ℕ
joined_line devices images =
    ended_line (codes "joined " ++ decimal devices ++ codes " devices of " ++ decimal images ++ codes " images")

-- `join OUT IMAGE ..`: the whole of the slices in their order, whose image of version 2 goes to OUT
pub record IsJoinDone (holds : List ℕ → List ℕ → Type 0) (output : List ℕ) (images : List (List ℕ)) (answer : Answer)
    : Type 0 where
  pub named : List Slice
  pub said : AreSlices images named
  pub order : List Slice
  pub ordered : IsOrder named order
  pub whole : Scenario
  pub joined : IsJoined holds order whole
  pub bytes : List ℕ
  pub image : IsImageIn 2 bytes whole
  pub text_is : string_bytes answer.text ≡ joined_line (length whole.rows) (length images)
  pub status_is : answer.status ≡ Done
  pub made_is : files_of answer.file ≡ (record { path = output; bytes = bytes }) ∷ []

-- the words have no order
pub record AreUnordered (images : List (List ℕ)) (about : Option (List ℕ)) (fault : Fault) : Type 0 where
  pub named : List Slice
  pub said : AreSlices images named
  pub refused : IsOrderFault named about fault

-- they have one, and one of the images is refused
pub record AreUnjoined (holds : List ℕ → List ℕ → Type 0) (fails : List ℕ → Type 0) (images : List (List ℕ))
    (about : Option (List ℕ)) (fault : Fault) : Type 0 where
  pub named : List Slice
  pub said : AreSlices images named
  pub order : List Slice
  pub ordered : IsOrder named order
  pub refused : IsWholeFault holds fails order about fault

-- no memory was left; else first the words are to blame, and then the images in their order
abbrev pub IsJoinFault : (List ℕ → List ℕ → Type 0) → (List ℕ → Type 0) → List (List ℕ) → Option (List ℕ) → Fault
    → Type 0
IsJoinFault holds fails images about Memory = ⊤
IsJoinFault holds fails images about fault =
    AreUnordered images about fault ⊎ AreUnjoined holds fails images about fault
