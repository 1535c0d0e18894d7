-- What the checker says of a list of entries.
use Rattle.std.specs.Prelude.{ℕ, ◌+◌, ◌<◌, List, length, take}
use Rattle.scenario_image.specs.Scenario.{Scenario}
use Rattle.trace_file.specs.declared.entry.Entry.{Entry}
use Rattle.fleet_core.specs.declared.verdict.Verdict.{Verdict}
use Rattle.fleet_core.specs.declared.verdict.Verdict.TheVariants as verdicts
use Rattle.fleet_core.specs.Run.{IsRun}

-- the entries before the place are a run, and with the entry at it they are none
pub record BreaksAt (s : Scenario) (es : List Entry) (at : ℕ) : Type 0 where
  pub within : at < length es
  pub before : IsRun s (take at es)
  pub broken : IsRun s (take (at + 1) es) → ⊥

-- the verdict is right
abbrev pub Judges : Scenario → List Entry → Verdict → Type 0
Judges s es verdicts.Run = IsRun s es
Judges s es (verdicts.NotRun at) = BreaksAt s es at
