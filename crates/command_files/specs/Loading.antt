-- What the files that commands read hold: a scenario's image, a trace file; and why one of them is refused.
--
-- Two relations say what is known of the files: `holds path bytes`, the file at the path had these bytes when it was
-- read; `fails path`, it could not be read.
use Rattle.std.specs.Prelude.{⊤, ℕ, ◌⊎◌, List}
use Rattle.std.specs.Str.{IsUtf8}
use Rattle.byte_layout.specs.declared.fault.LayoutFault.{LayoutFault}
use Rattle.byte_layout.specs.Whole.{HasFault}
use Rattle.scenario_image.specs.Scenario.{Scenario}
use Rattle.scenario_image.specs.Image.{IsImage, HasImageFault}
use Rattle.trace_file.specs.declared.entry.Entry.{Entry}
use Rattle.trace_file.specs.Layout.{trace_file, IsTraceFile}
use Rattle.command_files.specs.Fault.{IsReadingFault}
use Rattle.command_files.specs.declared.fault.Fault.{Fault}
use Rattle.command_files.specs.declared.fault.Fault.TheVariants as faults

-- the paths of a scenario's image and of the trace of a run
pub record RunPaths : Type 0 where
  pub image : List ℕ
  pub trace : List ℕ

-- the file at the path had bytes of which this holds
pub record IsHeld (holds : List ℕ → List ℕ → Type 0) (path : List ℕ) (over : List ℕ → Type 0) : Type 0 where
  pub bytes : List ℕ
  pub held : holds path bytes
  pub so : over bytes

-- ---- what is read

-- the file at the path is a scenario's image, in either version
pub record IsScenarioAt (holds : List ℕ → List ℕ → Type 0) (path : List ℕ) (s : Scenario) : Type 0 where
  pub bytes : List ℕ
  pub held : holds path bytes
  pub image : IsImage bytes s

-- the file at the path is these entries' trace file
pub record IsTraceAt (holds : List ℕ → List ℕ → Type 0) (path : List ℕ) (es : List Entry) : Type 0 where
  pub bytes : List ℕ
  pub held : holds path bytes
  pub file : IsTraceFile bytes es

-- ---- what is refused

-- the file at the path is not a text: its bytes are not valid UTF-8
pub record IsNotTextAt (holds : List ℕ → List ℕ → Type 0) (path : List ℕ) : Type 0 where
  pub bytes : List ℕ
  pub held : holds path bytes
  pub broken : IsUtf8 bytes → ⊥

-- no text was had from the file at the path: it could not be read, or it is not a text
abbrev pub IsTextUnread : (List ℕ → List ℕ → Type 0) → (List ℕ → Type 0) → List ℕ → Fault → Type 0
IsTextUnread holds fails path fault = IsReadingFault (fails path ⊎ IsNotTextAt holds path) fault

-- why bytes are not the image of a scenario: their first fault from the left
abbrev pub IsNoImage : List ℕ → Fault → Type 0
IsNoImage bytes faults.Memory = ⊤
IsNoImage bytes (faults.Layout fault) = HasImageFault bytes fault
IsNoImage bytes _ = ⊥

-- the file at the path had bytes with this fault
pub record IsBrokenAt (holds : List ℕ → List ℕ → Type 0) (broken : List ℕ → LayoutFault → Type 0) (path : List ℕ)
    (fault : LayoutFault) : Type 0 where
  pub bytes : List ℕ
  pub held : holds path bytes
  pub faulty : broken bytes fault

-- the file at the path could not be read, or had bytes with such a fault
abbrev pub IsFileFault : (List ℕ → List ℕ → Type 0) → (List ℕ → Type 0) → (List ℕ → LayoutFault → Type 0) → List ℕ
    → Fault → Type 0
IsFileFault holds fails broken path faults.Memory = ⊤
IsFileFault holds fails broken path faults.Read = fails path
IsFileFault holds fails broken path (faults.Layout fault) = IsBrokenAt holds broken path fault
IsFileFault holds fails broken path _ = ⊥

abbrev pub IsImageFault : (List ℕ → List ℕ → Type 0) → (List ℕ → Type 0) → List ℕ → Fault → Type 0
IsImageFault holds fails path fault = IsFileFault holds fails HasImageFault path fault

abbrev pub IsTraceFault : (List ℕ → List ℕ → Type 0) → (List ℕ → Type 0) → List ℕ → Fault → Type 0
IsTraceFault holds fails path fault = IsFileFault holds fails (HasFault trace_file) path fault

-- first the image is to blame, and then the work on its scenario
pub record IsWorkFault (holds : List ℕ → List ℕ → Type 0) (image : List ℕ) (faulty : Scenario → Type 0) : Type 0 where
  pub scenario : Scenario
  pub found : IsScenarioAt holds image scenario
  pub fault : faulty scenario

-- first the image is to blame, and then the trace file
abbrev pub IsCheckRefused : (List ℕ → List ℕ → Type 0) → (List ℕ → Type 0) → RunPaths → Fault → Type 0
IsCheckRefused holds fails paths fault =
    IsImageFault holds fails paths.image fault
    ⊎ IsWorkFault holds paths.image (λ s. IsTraceFault holds fails paths.trace fault)
