-- What clauses of private functions and ghost items of private types name. No promise rests on it.
use Rattle.std.specs.Prelude.{◌≡◌, ℕ, false, List, length}
use Rattle.trace_file.specs.declared.entry.Entry.{Entry}
use Rattle.fleet_core.specs.declared.verdict.Verdict.{Verdict}
use Rattle.fleet_core.specs.declared.verdict.Verdict.TheVariants as verdicts
use Rattle.fleet_core.specs.Board.{FleetModel}
use Rattle.fleet_core.specs.Verdict.{Judges}

-- the entries that a checker has taken, how many they are, and their verdict; while they are a run its replay has
-- taken the same ones
pub record IsChecking (replay : FleetModel) (es : List Entry) (count : ℕ) (verdict : Verdict) : Type 0 where
  pub counted : count ≡ length es
  pub judged : Judges replay.scenario es verdict
  pub ready : verdict ≡ verdicts.Run → replay.spent ≡ false
  pub replayed : verdict ≡ verdicts.Run → replay.entries ≡ es
