-- What a worker knows by its pass, which has seen the log of a trace.
use Rattle.std.specs.Prelude.{◌≡◌, ◌≢◌, ℕ, ◌+◌, ◌<◌, ◌≤◌, ◌⊎◌, Bool, true, false, List, [], ◌++◌, Some, Contains}
use Rattle.std.specs.Prelude.{Result, Err, IfOk, IfErr, IsOkAnd}
use Rattle.std.specs.List.{AllByRecursion}
use Rattle.scenario_image.specs.Scenario.{Scenario}
use Rattle.trace_file.specs.declared.entry.Entry.{Entry}
use Rattle.fleet_core.specs.Run.{IsRun, IsComplete}
use Rattle.fleet_core.specs.Waiting.{is_waiting}
use Rattle.ticket_lock.specs.declared.rule.TheConstants.{NUMBERS}
use Rattle.ticket_lock.specs.declared.rule.View.{View}
use Rattle.ticket_lock.specs.Log.{Begins}
use Rattle.ticket_lock.specs.Lock.{HasNumber}
use Rattle.ticket_lock.specs.Names.{lowest_work}
use Rattle.shared_trace.specs.declared.claims.Claim.{Claim}
use Rattle.shared_trace.specs.declared.claims.Claim.TheVariants as claims
use Rattle.shared_trace.specs.declared.work.OpenWork.{OpenWork}
use Rattle.shared_trace.specs.Trace.{TraceModel, no_work}
use Rattle.shared_trace.specs.Job.{Task, StandsIn}
use Rattle.worker_visits.specs.declared.ends.LoopEnd.{LoopEnd}
use Rattle.worker_visits.specs.declared.ends.LoopEnd.TheVariants as ends

-- what a pass knows of a trace
abbrev pub PassView : Type 0
PassView = View TraceModel Entry Scenario OpenWork

-- whether the trace was stopped under the pass's lowest number
abbrev pub has_stopped : PassView → Bool
has_stopped v = (lowest_work v no_work).stopped

-- the entry is under a number of the lock; of the pass's own, it is the lowest
abbrev pub IsByOne : PassView → Entry → Type 0
IsByOne v e = (1 ≤ e.worker) × (e.worker < NUMBERS + 1) × (HasNumber v e.worker → e.worker ≡ v.low)

-- the pass is the same, and has seen more of the log: other workers' entries, and those under its lowest number. If it
-- had seen a run, it has seen a run
pub record Follows (v w : PassView) : Type 0 where
  pub low : w.low ≡ v.low
  pub count : w.count ≡ v.count
  pub subject : w.subject ≡ v.subject
  pub added : List Entry
  pub front : w.front ≡ v.front ++ added
  pub workers : AllByRecursion (IsByOne v) added
  pub run : (s : Scenario) → v.subject ≡ Some s → IsRun s v.front → IsRun s w.front

-- the device is out under the pass's lowest number
abbrev pub IsOut : PassView → ℕ → Type 0
IsOut v d = (made : ℕ) × Contains (lowest_work v no_work).out (d, made)

-- the claim got the device
abbrev pub Gets : Claim → ℕ → Type 0
Gets (claims.Got job) d = job.device ≡ d
Gets claims.Busy d = ⊥
Gets claims.Done d = ⊥
Gets claims.Stalled d = ⊥
Gets claims.Stopped d = ⊥

-- the job was claimed under the pass's lowest number, and the pass has left the lock since
pub record Knows (v : PassView) (job : Task) : Type 0 where
  pub front : Begins job.front v.front
  pub subject : v.subject ≡ Some job.subject
  pub worker : job.worker ≡ v.low
  pub stands : StandsIn (lowest_work v no_work).out job

-- the run is complete, and each row is at its end
pub record IsDone (s : Scenario) (es : List Entry) : Type 0 where
  pub complete : IsComplete s es
  pub ended : (d : ℕ) → is_waiting s es d ≡ false

-- the run is complete, and a row is not at its end
pub record IsStalled (s : Scenario) (es : List Entry) : Type 0 where
  pub complete : IsComplete s es
  pub device : ℕ
  pub waits : is_waiting s es device ≡ true

-- what a pass knows after a claim
abbrev pub HasClaimed : PassView → Claim → Type 0
HasClaimed v (claims.Got job) = Knows v job × (job.entries ≡ []) × (job.spent ≡ false)
HasClaimed v claims.Busy = Unit {0}
HasClaimed v claims.Done = (s : Scenario) → v.subject ≡ Some s → IsDone s v.front
HasClaimed v claims.Stalled = (s : Scenario) → v.subject ≡ Some s → IsStalled s v.front
HasClaimed v claims.Stopped = Unit {0}

-- what a pass knows at the end of its worker's loop. One whose memory ran out has stopped the trace, unless no ticket
-- was left for it
abbrev pub EndsAs : PassView → LoopEnd → Type 0
EndsAs v ends.Done = (s : Scenario) → v.subject ≡ Some s → IsDone s v.front
EndsAs v ends.Stalled = (s : Scenario) → v.subject ≡ Some s → IsStalled s v.front
EndsAs v ends.Stopped = Unit {0}
EndsAs v ends.Memory = v.end ≡ false → has_stopped v ≡ true
EndsAs v ends.Spent = v.end ≡ true

-- what came of a worker's visit to the trace, before which its pass was v, and since which it is w: the next claim, or
-- why the worker ends
pub record IsVisit (v w : PassView) (next : Result Claim LoopEnd) : Type 0 where
  -- the pass is the same, and has seen more of the log
  pub follows : Follows v w
  -- it knows of the claim what the trace said
  pub claimed : IfOk next (λ claim. HasClaimed w claim)
  -- it knows what the end says
  pub end : IfErr next (λ e. EndsAs w e)
  -- unless its worker's memory ran out, it has not stopped the trace
  pub going : next ≢ Err ends.Memory → has_stopped w ≡ has_stopped v
  -- no device is out under it that was not before, but the one that the claim got
  pub out : (d : ℕ) → IsOut w d → IsOut v d ⊎ IsOkAnd next (λ claim. Gets claim d)
