-- What is found, in other words: exactly what is a finding.
use Rattle.std.specs.Prelude.{ℕ, List, length}
use Rattle.std.specs.List.{Contains}
use Rattle.server_lint.specs.declared.finding.Finding.{Finding}
use Rattle.server_lint.specs.declared.rule.Rule.{Rule}
use Rattle.server_lint.specs.Findings.{AreThose, IsFinding, candidates}
use Rattle.server_lint.specs.History.{Transmission}

-- all that is found in a history
abbrev pub AreFound : List Rule → List Transmission → ℕ → List Finding → Type 0
AreFound chosen history end found = AreThose (IsFinding chosen history end) (candidates (length history)) found

-- what is found is a finding
abbrev pub AllAreFindings : Type 0
AllAreFindings =
    (chosen : List Rule) (history : List Transmission) (end : ℕ) (found : List Finding) (f : Finding)
    → AreFound chosen history end found → Contains found f → IsFinding chosen history end f

-- each finding is found
abbrev pub AllFindingsAreThere : Type 0
AllFindingsAreThere =
    (chosen : List Rule) (history : List Transmission) (end : ℕ) (found : List Finding) (f : Finding)
    → AreFound chosen history end found → IsFinding chosen history end f → Contains found f
