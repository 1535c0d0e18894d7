-- From the faults of a file's parts to those of the file.
use Rattle.std.proofs.Common.{ℕ, ◌≡◌, ◌≢◌, List, Result, Err, rules}
use Rattle.case_text.specs.declared.fault.CaseFault.{CaseFault}
use Rattle.case_text.specs.declared.fault.Why.{Why}
use Rattle.case_text.specs.declared.fault.Why.TheVariants as why
use Rattle.command_files.specs.Fault.{case_fault, refused_cases}
use Rattle.command_files.specs.Loading.{IsTextUnread}
use Rattle.command_files.specs.declared.fault.Fault.{Fault}
use Rattle.command_files.specs.declared.fault.Fault.TheVariants as faults
use Rattle.test_reports.specs.Reading.{IsCasesFault, IsFileRefused}

-- a file of which no text was had
pub unread_text : {C : Type 0} (cases_in : List ℕ → Result (List C) CaseFault) (holds : List ℕ → List ℕ → Type 0)
    (fails : List ℕ → Type 0) (path : List ℕ) (f : Fault) → IsTextUnread holds fails path f
    → IsFileRefused cases_in holds fails path f
unread_text cases_in holds fails path faults.Memory h = tt
unread_text cases_in holds fails path faults.Read h = h
unread_text cases_in holds fails path _ h = absurd h

-- a text that has no cases
pub wrong : {C : Type 0} (cases_in : List ℕ → Result (List C) CaseFault) (holds : List ℕ → List ℕ → Type 0)
    (fails : List ℕ → Type 0) (path text : List ℕ) (f : Fault) → holds path text → IsCasesFault cases_in text f
    → IsFileRefused cases_in holds fails path f
wrong cases_in holds fails path text faults.Memory held h = tt
wrong cases_in holds fails path text (faults.Cases fault) held h = record { bytes = text; held = held; wrong = h }
wrong cases_in holds fails path text _ held h = absurd h

refused_as : {C : Type 0} (cases_in : List ℕ → Result (List C) CaseFault) (text : List ℕ) (w : Why) (fault : CaseFault)
    → (w ≢ why.Memory → cases_in text ≡ Err fault) → IsCasesFault cases_in text (refused_cases w fault)
refused_as cases_in text why.Memory fault h = tt
refused_as cases_in text _ fault h = h (search rules)

pub wrong_cases : {C : Type 0} (cases_in : List ℕ → Result (List C) CaseFault) (text : List ℕ) (fault : CaseFault)
    → (fault.why ≢ why.Memory → cases_in text ≡ Err fault) → IsCasesFault cases_in text (case_fault fault)
wrong_cases cases_in text fault h = refused_as cases_in text fault.why fault h
