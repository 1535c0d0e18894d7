-- What the workers under the lowest numbers of a pass do together.
use Rattle.std.specs.Prelude.{◌≡◌, ◌≢◌, ℕ, zero, suc, ◌+◌, ◌<◌, ◌≤◌, ◌||◌, Bool, true, false, if◌then◌else◌, List, []}
use Rattle.std.specs.Prelude.{◌∷◌}
use Rattle.std.specs.Prelude.{◌++◌, Some}
use Rattle.std.specs.List.{AllByRecursion}
use Rattle.scenario_image.specs.Scenario.{Scenario}
use Rattle.trace_file.specs.declared.entry.Entry.{Entry}
use Rattle.fleet_core.specs.Run.{IsRun}
use Rattle.ticket_lock.specs.declared.rule.TheConstants.{NUMBERS}
use Rattle.ticket_lock.specs.declared.logged.Share.{Share}
use Rattle.ticket_lock.specs.Lock.{HasNumber}
use Rattle.shared_trace.specs.declared.work.OpenWork.{OpenWork}
use Rattle.worker_visits.specs.Blocks.{HasPut}
use Rattle.worker_visits.specs.Knowing.{PassView, Follows, EndsAs, has_stopped}
use Rattle.worker_visits.specs.declared.ends.LoopEnd.{LoopEnd}
use Rattle.worker_visits.specs.declared.ends.LoopEnd.TheVariants.{Done, Stalled, Stopped, Memory, Spent}

-- the entry is under a number of the lock; of the pass's own, it is one of the n lowest
abbrev pub IsByCrew : ℕ → PassView → Entry → Type 0
IsByCrew n v e = (1 ≤ e.worker) × (e.worker < NUMBERS + 1) × (HasNumber v e.worker → e.worker < v.low + n)

-- the pass is the same, and has seen more of the log: other workers' entries, and those under its n lowest numbers. If
-- it had seen a run, it has seen a run
pub record CrewFollows (n : ℕ) (v w : PassView) : Type 0 where
  pub low : w.low ≡ v.low
  pub count : w.count ≡ v.count
  pub subject : w.subject ≡ v.subject
  pub added : List Entry
  pub front : w.front ≡ v.front ++ added
  pub workers : AllByRecursion (IsByCrew n v) added
  pub run : (s : Scenario) → v.subject ≡ Some s → IsRun s v.front → IsRun s w.front

-- each of n workers, from this number on, has put its own entries in blocks
abbrev pub HavePut : (ℕ → ℕ → Type 0) → Scenario → ℕ → ℕ → ℕ → List Entry → List Entry → Type 0
HavePut came s low n batch old new = (w : ℕ) → low ≤ w → w < low + n → HasPut came s w batch old new

-- ---- whether they stop the trace

-- one of the first n of these numbers has stopped the trace
abbrev pub is_any_stopped : ℕ → List (Share Entry OpenWork) → Bool
is_any_stopped zero shares = false
is_any_stopped (suc n) [] = false
is_any_stopped (suc n) (x ∷ shares) = x.work.stopped || is_any_stopped n shares

-- ---- how it ends

abbrev pub has_run_out : LoopEnd → Bool
has_run_out Memory = true
has_run_out _ = false

abbrev pub was_stopped : LoopEnd → Bool
was_stopped Stopped = true
was_stopped _ = false

abbrev pub is_spent : LoopEnd → Bool
is_spent Spent = true
is_spent _ = false

-- how workers end together, of which the first and the others ended so: memory comes before the tickets, and both
-- before the end of the run
abbrev pub joint_end : LoopEnd → LoopEnd → LoopEnd
joint_end first others =
    if has_run_out first || has_run_out others then Memory
    else if was_stopped first || was_stopped others then Stopped
    else if is_spent first || is_spent others then Spent
    else first

-- what a pass knows at the end of a crew of the n lowest of its numbers: as at the end of a worker's loop, but that one
-- of them has stopped the trace where memory ran out
abbrev pub CrewEndsAs : ℕ → PassView → LoopEnd → Type 0
CrewEndsAs n v Done = EndsAs v Done
CrewEndsAs n v Stalled = EndsAs v Stalled
CrewEndsAs n v Stopped = Unit {0}
CrewEndsAs n v Memory = v.end ≡ false → is_any_stopped n v.shares ≡ true
CrewEndsAs n v Spent = v.end ≡ true

-- what came of a worker that began with the pass v and ended with w: see the clauses of `worker_loop`
pub record HasWorked (came : ℕ → ℕ → Type 0) (s : Scenario) (batch : ℕ) (v w : PassView) (end : LoopEnd) : Type 0 where
  pub follows : Follows v w
  pub blocks : HasPut came s v.low batch v.front w.front
  pub ends : EndsAs w end
  pub going : end ≢ Memory → has_stopped w ≡ has_stopped v

-- the same of a crew of n: see those of `run_crew`
pub record HaveWorked (came : ℕ → ℕ → Type 0) (s : Scenario) (batch n : ℕ) (v w : PassView)
    (end : LoopEnd) : Type 0 where
  pub follows : CrewFollows n v w
  pub blocks : HavePut came s v.low n batch v.front w.front
  pub ends : CrewEndsAs n w end
  pub going : end ≢ Memory → is_any_stopped n w.shares ≡ is_any_stopped n v.shares
