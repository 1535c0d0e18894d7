-- Files of cases that were read, or that were refused.
--
-- Two relations say what is known of the files: `holds path bytes`, the file at the path had these bytes when it was
-- read; `fails path`, it could not be read. `cases_in text` are the cases of a text, or its first fault.
use Rattle.std.specs.Prelude.{⊤, ℕ, ◌≡◌, ◌⊎◌, List, ◌∷◌, ◌++◌, Option, Some, All, Result, Ok, Err}
use Rattle.std.specs.Prelude.{map}
use Rattle.case_text.specs.declared.fault.CaseFault.{CaseFault}
use Rattle.command_files.specs.Loading.{IsNotTextAt}
use Rattle.command_files.specs.declared.fault.Fault.{Fault}
use Rattle.command_files.specs.declared.fault.Fault.TheVariants.{Cases, Memory, Read}
use Rattle.test_reports.specs.declared.case_file.CaseFile.{CaseFile}

-- the file at the path had this text, and the text has these cases
pub record IsCaseFile {C : Type 0} (cases_in : List ℕ → Result (List C) CaseFault)
    (holds : List ℕ → List ℕ → Type 0) (file : CaseFile C) : Type 0 where
  pub held : holds file.path.now file.text
  pub found : cases_in file.text ≡ Ok file.cases.items

-- the files at these paths, in their order
pub record AreRead {C : Type 0} (cases_in : List ℕ → Result (List C) CaseFault)
    (holds : List ℕ → List ℕ → Type 0) (paths : List (List ℕ)) (files : List (CaseFile C)) : Type 0 where
  pub paths_are : map (λ f. f.path.now) files ≡ paths
  pub all_are : All (IsCaseFile cases_in holds) files

-- no memory was left, or this is the first fault of a text that should have cases
abbrev pub IsCasesFault : {C : Type 0} → (List ℕ → Result (List C) CaseFault) → List ℕ → Fault → Type 0
IsCasesFault cases_in text Memory = ⊤
IsCasesFault cases_in text (Cases fault) = cases_in text ≡ Err fault
IsCasesFault cases_in text _ = ⊥

-- the file at the path has no cases, for this fault
pub record HasNoCasesAt {C : Type 0} (cases_in : List ℕ → Result (List C) CaseFault)
    (holds : List ℕ → List ℕ → Type 0) (path : List ℕ) (fault : Fault) : Type 0 where
  pub bytes : List ℕ
  pub held : holds path bytes
  pub wrong : IsCasesFault cases_in bytes fault

-- no text was had from the file at the path, or its text is refused
abbrev pub IsFileRefused : {C : Type 0} → (List ℕ → Result (List C) CaseFault) → (List ℕ → List ℕ → Type 0)
    → (List ℕ → Type 0) → List ℕ → Fault → Type 0
IsFileRefused cases_in holds fails path Memory = ⊤
IsFileRefused cases_in holds fails path Read = fails path ⊎ IsNotTextAt holds path
IsFileRefused cases_in holds fails path (Cases fault) = HasNoCasesAt cases_in holds path (Cases fault)
IsFileRefused cases_in holds fails path _ = ⊥

-- the file that is named is the first of the files that is refused, and this is why; those before it were read
pub record IsFirstRefused {C : Type 0} (cases_in : List ℕ → Result (List C) CaseFault)
    (holds : List ℕ → List ℕ → Type 0) (fails : List ℕ → Type 0) (paths : List (List ℕ)) (about : Option (List ℕ))
    (fault : Fault) : Type 0 where
  pub before : List (List ℕ)
  pub path : List ℕ
  pub others : List (List ℕ)
  pub stands : paths ≡ before ++ path ∷ others
  pub named : about ≡ Some path
  pub files : List (CaseFile C)
  pub read : AreRead cases_in holds before files
  pub refused : IsFileRefused cases_in holds fails path fault

-- no memory was left, or one of the files is refused, which is named
abbrev pub IsRefusalOf : {C : Type 0} → (List ℕ → Result (List C) CaseFault) → (List ℕ → List ℕ → Type 0)
    → (List ℕ → Type 0) → List (List ℕ) → Option (List ℕ) → Fault → Type 0
IsRefusalOf cases_in holds fails paths about Memory = ⊤
IsRefusalOf cases_in holds fails paths about fault = IsFirstRefused cases_in holds fails paths about fault
