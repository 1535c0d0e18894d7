-- What `live IMAGE DEVICE PORT TURNS [--save FILE] [--show]` comes to: a device of the row's class goes on for a
-- session, then the line of the session is printed, and then its steps are saved as a scenario.
use Rattle.std.specs.Prelude.{⊤, ℕ, ◌≡◌, ◌⊎◌, Bool, true, false, List, [], ◌∷◌, ◌++◌, length, Option, None, Some, codes}
use Rattle.std.specs.Prelude.{option_map, slice_get}
use Rattle.std.specs.Fmt.{decimal}
use Rattle.std.specs.Io.KnownBytes.{Appends}
use Rattle.command_line.specs.declared.words.Live.{Live}
use Rattle.device_template.specs.Template.{Template}
use Rattle.scenario_image.specs.declared.step.Step.{Step}
use Rattle.scenario_image.specs.Image.{IsImageIn}
use Rattle.scenario_image.specs.Play.{IsRowOf}
use Rattle.scenario_image.specs.Scenario.{Scenario, one_row, IsFirstRefusal}
use Rattle.live_link.specs.declared.session.LiveEnd.{LiveEnd}
use Rattle.live_link.specs.declared.session.LiveEnd.TheVariants as end
use Rattle.live_link.specs.declared.session.LiveSession.{LiveSession}
use Rattle.live_link.specs.Served.{IsServed}
use Rattle.live_link.specs.Wire.{Traffic}
use Rattle.scenario_words.specs.Words.{ended_line}
use Rattle.command_files.specs.Fault.{IsWritingFault}
use Rattle.command_files.specs.Files.{Grows, MadeFile}
use Rattle.command_files.specs.Loading.{IsImageFault, IsScenarioAt, IsWorkFault}
use Rattle.command_files.specs.World.{FilesKnown, StreamFaults, Streams, World}
use Rattle.command_files.specs.declared.fault.Fault.{Fault}
use Rattle.command_files.specs.declared.fault.Fault.TheVariants as faults
use Rattle.command_files.specs.declared.files.FileFault.{FileFault}

-- what there was before a call, and what there is after it
pub record Transition (A : Type 0) : Type 0 where
  pub before : A
  pub after : A

-- ---- the session

-- the class of a device's row
abbrev pub IsClassOf : Scenario → ℕ → Template → Type 0
IsClassOf s device class = (steps : List Step) × IsRowOf s device class steps

abbrev pub HasNoRow : Scenario → ℕ → Type 0
HasNoRow s device = slice_get s.rows device ≡ None

-- a device of the row's class went on from its start, over a wire and by a clock of which nothing is known
pub record IsLiveSession (files : FilesKnown) (asked : Live) (class : Template) (session : LiveSession) : Type 0 where
  pub scenario : Scenario
  pub found : IsScenarioAt files.holds asked.image.now scenario
  pub row : IsClassOf scenario asked.device class
  pub served : IsServed class asked.turns session None None None None

-- what a wire tells whose datagrams are shown: what the other wire tells, until one could not be printed
abbrev pub told_while : Option FileFault → Option Traffic → Option Traffic
told_while None told = told
told_while (Some fault) told = None

-- while a session went on, nothing was printed to standard output, unless its datagrams are shown
abbrev pub IsShown : Bool → Transition (Option (List ℕ)) → Type 0
IsShown false output = output.after ≡ output.before
IsShown true output = ⊤

-- ---- its line

abbrev pub end_name : LiveEnd → List ℕ
end_name end.Turns = codes "turns"
end_name end.ReceiveFault = codes "receive fault"
end_name end.SendFault = codes "send fault"
end_name end.Memory = codes "memory"
end_name end.Spent = codes "spent"

-- `end NAME steps N sent M`
abbrev pub named_line : List ℕ → ℕ → ℕ → List ℕ
named_line name steps sent =
    ended_line (codes "end " ++ name ++ codes " steps " ++ decimal steps ++ codes " sent " ++ decimal sent)

abbrev pub session_line : LiveEnd → ℕ → ℕ → List ℕ
session_line ended steps sent = named_line (end_name ended) steps sent

-- how a session ended, how many steps its device took, and how many datagrams it sent
abbrev pub line_of : LiveSession → List ℕ
line_of session = session_line session.end (length session.steps.items) (length session.sent.items)

-- ---- its scenario

-- the image of the scenario that has one device of the class, with these steps, was made at the path, in version 2, and
-- no other file
abbrev pub IsSavedAt : Transition (Option (List MadeFile)) → List ℕ → Template → List Step → Type 0
IsSavedAt made path class steps =
    (bytes : List ℕ) × IsImageIn 2 bytes (one_row class steps)
    × Grows made.before made.after ((record { path = path; bytes = bytes }) ∷ [])

-- the same where there is a path; else no file was made
abbrev pub IsSaved : Transition (Option (List MadeFile)) → Option (List ℕ) → Template → List Step → Type 0
IsSaved made None class steps = made.after ≡ made.before
IsSaved made (Some path) class steps = IsSavedAt made path class steps

-- no memory was left for the image, or there is none: the first step that a scenario refuses is refused so
abbrev pub IsUnfit : Template → List Step → Fault → Type 0
IsUnfit class steps faults.Memory = ⊤
IsUnfit class steps (faults.Session fault) = IsFirstRefusal class steps fault
IsUnfit class steps _ = ⊥

-- there is no image, or no file could be made at the path
abbrev pub IsSaveFault : (List ℕ → Type 0) → List ℕ → Template → List Step → Fault → Type 0
IsSaveFault refuses path class steps fault = IsUnfit class steps fault ⊎ IsWritingFault (refuses path) fault

abbrev pub IsUnsaved : (List ℕ → Type 0) → Option (List ℕ) → Template → List Step → Fault → Type 0
IsUnsaved refuses None class steps fault = ⊥
IsUnsaved refuses (Some path) class steps fault = IsSaveFault refuses path class steps fault

-- ---- its conclusion

-- the session's line was printed, and its steps were saved, if they are to be
pub record IsConcluded (before after : World) (path : Option (List ℕ)) (class : Template) (session : LiveSession)
    : Type 0 where
  pub printed : Appends before.streams.output after.streams.output (line_of session)
  pub saved : IsSaved (record { before = before.made; after = after.made }) path class session.steps.items

-- the session's line was not printed; or it was, and then the steps were not saved
abbrev pub IsUnconcluded : (List ℕ → Type 0) → StreamFaults → Streams → Streams → Option (List ℕ) → Template
    → LiveSession → Fault → Type 0
IsUnconcluded refuses faults before after path class session fault =
    IsWritingFault (faults.output_refuses (line_of session)) fault
    ⊎ (Appends before.output after.output (line_of session)
    × IsUnsaved refuses path class session.steps.items fault)

-- ---- the command

-- a session went on and was concluded
pub record IsLiveDone (files : FilesKnown) (before after : World) (asked : Live) : Type 0 where
  pub class : Template
  pub session : LiveSession
  pub ran : IsLiveSession files asked class session
  -- the files and the streams when the session had ended
  pub between : World
  pub none_made : between.made ≡ before.made
  pub shown : IsShown asked.show (record { before = before.streams.output; after = between.streams.output })
  pub concluded : IsConcluded between after (option_map (λ p. p.now) asked.save) class session

-- the device has no row; or it has one, and its port could not be had; or no memory was left
abbrev pub IsUnstarted : Live → Scenario → Fault → Type 0
IsUnstarted asked s faults.Memory = ⊤
IsUnstarted asked s faults.NoDevice = HasNoRow s asked.device
IsUnstarted asked s faults.Bind = (class : Template) × IsClassOf s asked.device class
IsUnstarted asked s _ = ⊥

-- a session was cut short by no memory for its device, or by a datagram that was to be shown and was not printed
abbrev pub IsUnheld : Bool → Fault → Type 0
IsUnheld show faults.Memory = ⊤
IsUnheld show faults.Write = show ≡ true
IsUnheld show _ = ⊥

-- there was no session: first the image is to blame, and then the device or the port; and nothing was printed
pub record IsNoSession (files : FilesKnown) (before after : Streams) (asked : Live) (fault : Fault) : Type 0 where
  pub why :
      IsImageFault files.holds files.fails asked.image.now fault
      ⊎ IsWorkFault files.holds asked.image.now (λ s. IsUnstarted asked s fault)
  pub silent : after.output ≡ before.output

-- there was no whole session, of a device that has a row
pub record IsSessionCut (files : FilesKnown) (before after : Streams) (asked : Live) (fault : Fault) : Type 0 where
  pub scenario : Scenario
  pub found : IsScenarioAt files.holds asked.image.now scenario
  pub class : Template
  pub row : IsClassOf scenario asked.device class
  pub why : IsUnheld asked.show fault
  pub shown : IsShown asked.show (record { before = before.output; after = after.output })

-- a session went on, and was not concluded
pub record IsSessionLost (files : FilesKnown) (faults : StreamFaults) (before after : Streams) (asked : Live)
    (fault : Fault) : Type 0 where
  pub class : Template
  pub session : LiveSession
  pub ran : IsLiveSession files asked class session
  -- the streams when the session had ended
  pub between : Streams
  pub shown : IsShown asked.show (record { before = before.output; after = between.output })
  pub why :
      IsUnconcluded files.refuses faults between after (option_map (λ p. p.now) asked.save) class session fault

abbrev pub IsLiveFault : FilesKnown → StreamFaults → Streams → Streams → Live → Fault → Type 0
IsLiveFault files faults before after asked fault =
    IsNoSession files before after asked fault
    ⊎ (IsSessionCut files before after asked fault ⊎ IsSessionLost files faults before after asked fault)
