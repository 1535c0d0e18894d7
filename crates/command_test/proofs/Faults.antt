-- From the faults of the parts to those of the whole.
use Rattle.std.proofs.Common.{ℕ, ◌≡◌, List, Option, length, map, subst, sym, ap, ◌∙◌}
use Rattle.std.proofs.lemmas.List.{nil_from_length}
use Rattle.case_text.specs.Cases.{cases_in}
use Rattle.case_text.specs.Checks.{title_of_case}
use Rattle.case_text.specs.declared.case.Case.{Case}
use Rattle.command_files.specs.declared.fault.Fault.{Fault}
use Rattle.command_files.specs.declared.fault.Fault.TheVariants as faults
use Rattle.test_reports.specs.Choice.{AreChosen, case_of_file}
use Rattle.test_reports.specs.Reading.{AreRead, IsRefusalOf}
use Rattle.test_reports.specs.declared.case_file.CaseFile.{CaseFile}
use Rattle.test_reports.specs.declared.choice.ChosenCase.{ChosenCase}
use Rattle.command_test.specs.Jobs.{IsTestFault}

-- one of the files is refused
pub unread : (holds : List ℕ → List ℕ → Type 0) (fails : List ℕ → Type 0) (paths : List (List ℕ))
    (only about : Option (List ℕ)) (f : Fault) → IsRefusalOf cases_in holds fails paths about f
    → IsTestFault holds fails paths only f
unread holds fails paths only about faults.Memory h = tt
unread holds fails paths only about faults.NoSuchCase h = absurd h.refused
unread holds fails paths only about _ h = (about, h)

-- no case is chosen
pub unchosen : (holds : List ℕ → List ℕ → Type 0) (fails : List ℕ → Type 0) (paths : List (List ℕ))
    (only : Option (List ℕ)) (files : List (CaseFile Case)) (cases : List (ChosenCase Case)) (f : Fault)
    → AreRead cases_in holds paths files → AreChosen title_of_case only files cases → length cases ≡ 0
    → f ≡ faults.NoSuchCase → IsTestFault holds fails paths only f
unchosen holds fails paths only files cases f read chosen none same =
    subst (IsTestFault holds fails paths only) (sym same) (record {
      files = files;
      read = read;
      none = sym chosen ∙ ap (map case_of_file) (nil_from_length cases none);
    })

-- no memory is left
pub memory : (holds : List ℕ → List ℕ → Type 0) (fails : List ℕ → Type 0) (paths : List (List ℕ))
    (only : Option (List ℕ)) (f : Fault) → f ≡ faults.Memory → IsTestFault holds fails paths only f
memory holds fails paths only f same = subst (IsTestFault holds fails paths only) (sym same) tt
