-- What `lint` answers.
use Rattle.std.proofs.Common.{◌≡◌, ◌⊎◌, ℕ, List, ◌++◌, inl, inr, ap, subst, sym}
use Rattle.std.specs.Prelude.{Option, None, Some, find}
use Rattle.std.specs.String.{string_bytes}
use Rattle.command_files.specs.Answers.{files_of}
use Rattle.command_files.specs.declared.answer.Answer.{Answer}
use Rattle.command_files.specs.declared.status.Status.TheVariants.{Usage}
use Rattle.command_lint.specs.Choice.{chosen_rules, is_unknown}
use Rattle.command_lint.specs.Lines.{unknown_line}
use Rattle.command_files.specs.declared.fault.Fault.{Fault}
use Rattle.command_files.specs.declared.fault.Fault.TheVariants as faults
use Rattle.command_lint.specs.declared.form.LintForm.{LintForm}
use Rattle.command_lint.specs.Lint.{AreRulesTold, IsFileLinted, IsLintDone, IsLintFault, IsUnread}

pub unknown_rule : (holds : List ℕ → List ℕ → Type 0) (path : Option (List ℕ)) (form : LintForm)
    (only excluded : List (List ℕ)) (answer : Answer) (word : List ℕ) → find is_unknown (only ++ excluded) ≡ Some word
    → string_bytes answer.text ≡ unknown_line word → answer.status ≡ Usage → answer.file ≡ None
    → IsLintDone holds path form only excluded answer
unknown_rule holds path form only excluded answer word first text status file =
    inl (record {
      word = word;
      first = first;
      text_is = text;
      status_is = status;
      made_is = ap files_of file;
    })

pub told : (holds : List ℕ → List ℕ → Type 0) (form : LintForm) (only excluded : List (List ℕ)) (answer : Answer)
    → find is_unknown (only ++ excluded) ≡ None → AreRulesTold (chosen_rules only excluded) answer
    → IsLintDone holds None form only excluded answer
told holds form only excluded answer known so = inr (record { known = known; answered = so })

pub linted : (holds : List ℕ → List ℕ → Type 0) (path : List ℕ) (form : LintForm) (only excluded : List (List ℕ))
    (answer : Answer) → find is_unknown (only ++ excluded) ≡ None
    → IsFileLinted holds path form (chosen_rules only excluded) answer
    → IsLintDone holds (Some path) form only excluded answer
linted holds path form only excluded answer known so = inr (record { known = known; answered = so })

blamed : (holds : List ℕ → List ℕ → Type 0) (fails : List ℕ → Type 0) (path : Option (List ℕ))
    (only excluded : List (List ℕ)) (fault : Fault) → find is_unknown (only ++ excluded) ≡ None
    → IsUnread holds fails path fault → IsLintFault holds fails path only excluded fault
blamed holds fails path only excluded faults.Memory known so = tt
blamed holds fails path only excluded _ known so = (known, so)

pub unread : (holds : List ℕ → List ℕ → Type 0) (fails : List ℕ → Type 0) (path : List ℕ)
    (only excluded : List (List ℕ)) (fault : Fault) → find is_unknown (only ++ excluded) ≡ None
    → (fault ≡ faults.Memory) ⊎ IsUnread holds fails (Some path) fault
    → IsLintFault holds fails (Some path) only excluded fault
unread holds fails path only excluded fault known (inl is) =
    subst (IsLintFault holds fails (Some path) only excluded) (sym is) tt
unread holds fails path only excluded fault known (inr so) = blamed holds fails (Some path) only excluded fault known so
