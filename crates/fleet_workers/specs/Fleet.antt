-- The run that workers make together.
use Rattle.std.specs.Prelude.{◌≡◌, ℕ, ◌≤◌, ◌⊎◌, true, false, List, [], Result, Err, IsOk, IfOk, IfErr}
use Rattle.std.specs.List.{AllByRecursion}
use Rattle.scenario_image.specs.Scenario.{Scenario}
use Rattle.trace_file.specs.declared.entry.Entry.{Entry}
use Rattle.fleet_core.specs.Run.{IsRun, IsComplete, IsSerial, IsSame}
use Rattle.fleet_core.specs.Waiting.{is_waiting, waiting_devices}
use Rattle.ticket_lock.specs.declared.rule.TheConstants.{NUMBERS}
use Rattle.ticket_lock.specs.Log.{shares}
use Rattle.ticket_lock.specs.Changes.{opening_view}
use Rattle.shared_trace.specs.Trace.{TraceModel, trace_log}
use Rattle.worker_visits.specs.Knowing.{PassView, IsDone, IsStalled}
use Rattle.fleet_workers.specs.Crew.{HavePut, HaveWorked}
use Rattle.worker_visits.specs.declared.ends.LoopEnd.{LoopEnd}
use Rattle.worker_visits.specs.declared.ends.LoopEnd.TheVariants as loops
use Rattle.fleet_workers.specs.declared.fleet.FleetRun.{FleetRun}
use Rattle.fleet_workers.specs.declared.fleet.FleetEnd.{FleetEnd}
use Rattle.fleet_workers.specs.declared.fleet.FleetEnd.TheVariants as ends
use Rattle.fleet_workers.specs.declared.fleet.RunFault.{RunFault}
use Rattle.fleet_workers.specs.declared.fleet.RunFault.TheVariants as faults

-- how many workers there may be
abbrev pub AreWorkers : ℕ → Type 0
AreWorkers workers = (1 ≤ workers) × (workers ≤ 64)

-- how many steps of a device a worker may make at a time
abbrev pub IsBatch : ℕ → Type 0
IsBatch batch = (1 ≤ batch) × (batch ≤ 64)

-- the entry is under the number of one of this many workers
abbrev pub IsByWorker : ℕ → Entry → Type 0
IsByWorker workers e = (1 ≤ e.worker) × (e.worker ≤ workers)

-- these devices, in ascending order, are not at the end of their rows; there is one
pub record IsUnfinished (s : Scenario) (es : List Entry) (devices : List ℕ) : Type 0 where
  pub exactly : devices ≡ waiting_devices s es
  pub device : ℕ
  pub waits : is_waiting s es device ≡ true

-- at the end of the run each row is at its end, or exactly these devices are not at the end of theirs
abbrev pub IsEndOf : Scenario → List Entry → FleetEnd → Type 0
IsEndOf s es ends.Done = (d : ℕ) → is_waiting s es d ≡ false
IsEndOf s es (ends.Stalled devices) = IsUnfinished s es devices.items

-- the devices that are not at the end of their rows
abbrev pub left_by : FleetEnd → List ℕ
left_by ends.Done = []
left_by (ends.Stalled devices) = devices.items

-- the run is complete, and each entry is a worker's. Whatever the order in which the workers took the lock, each device
-- has as many entries as in the serial run, and these output the same, one after another
pub record IsFleetRun (s : Scenario) (workers : ℕ) (r : FleetRun) : Type 0 where
  pub complete : IsComplete s r.entries
  pub by_workers : AllByRecursion (IsByWorker workers) r.entries
  pub serial : (es : List Entry) → IsSerial s es → (d : ℕ) → IsSame d r.entries es
  pub end : IsEndOf s r.entries r.end
  pub waiting : left_by r.end ≡ waiting_devices s r.entries

-- each of this many workers has put its own entries in blocks, once and in its order; they make all of the run
pub record AreByBlocks (came : ℕ → ℕ → Type 0) (s : Scenario) (workers batch : ℕ) (es : List Entry) : Type 0 where
  pub by_workers : AllByRecursion (IsByWorker workers) es
  pub each : HavePut came s 1 workers batch [] es

-- what the workers made until memory or the tickets ran out is a run
abbrev pub Leaves : Scenario → RunFault → Type 0
Leaves s (faults.Memory es) = IsRun s es
Leaves s (faults.Spent es) = IsRun s es
Leaves s faults.Workers = Unit {0}
Leaves s faults.Batch = Unit {0}

-- and it is made of blocks
abbrev pub LeavesBlocks : (ℕ → ℕ → Type 0) → Scenario → ℕ → ℕ → RunFault → Type 0
LeavesBlocks came s workers batch (faults.Memory es) = AreByBlocks came s workers batch es
LeavesBlocks came s workers batch (faults.Spent es) = AreByBlocks came s workers batch es
LeavesBlocks came s workers batch faults.Workers = Unit {0}
LeavesBlocks came s workers batch faults.Batch = Unit {0}

-- ---- what workers leave

-- what workers that ended so together say of the whole run
abbrev pub HasEnded : Scenario → List Entry → LoopEnd → Type 0
HasEnded s es loops.Done = IsDone s es
HasEnded s es loops.Stalled = IsStalled s es
HasEnded s es loops.Stopped = Unit {0}
HasEnded s es loops.Memory = Unit {0}
HasEnded s es loops.Spent = Unit {0}

pub record IsLeft (s : Scenario) (workers : ℕ) (es : List Entry) (end : LoopEnd) : Type 0 where
  pub run : IsRun s es
  pub by_workers : AllByRecursion (IsByWorker workers) es
  pub ended : HasEnded s es end

-- what is answered where workers left these entries and ended so together: all of the entries come with it. Where a
-- worker ran out of memory, or was stopped by one that did, that is Memory; Spent comes only where none did
abbrev pub IsOutcome : List Entry → LoopEnd → Result FleetRun RunFault → Type 0
IsOutcome es loops.Done answer = IsOk answer × IfOk answer (λ r. r.entries ≡ es)
IsOutcome es loops.Stalled answer = IfOk answer (λ r. r.entries ≡ es) × IfErr answer (λ e. e ≡ faults.Memory es)
IsOutcome es loops.Stopped answer = answer ≡ Err (faults.Memory es)
IsOutcome es loops.Memory answer = answer ≡ Err (faults.Memory es)
IsOutcome es loops.Spent answer = answer ≡ Err (faults.Spent es)

-- a new trace of the scenario: without entries, and nobody has stopped it
pub record IsNew (s : Scenario) (t : TraceModel) : Type 0 where
  pub subject : t.subject ≡ s
  pub entries : t.entries ≡ []
  pub going : t.stopped_by ≡ []

-- how the workers of the numbers from 1 on worked over a new trace, by the first pass of its lock, and ended together
-- so: by what the pass that came back in the end had seen, which was all of these entries, and of each number what the
-- trace, when the lock gave it back, had of it
pub record HaveRun (came : ℕ → ℕ → Type 0) (s : Scenario) (workers batch : ℕ) (es : List Entry) (end : LoopEnd)
    : Type 0 where
  pub opened : TraceModel
  pub new : IsNew s opened
  pub last : PassView
  pub worked : HaveWorked came s batch workers (opening_view trace_log opened 0) last end
  pub closed : TraceModel
  pub entries : closed.entries ≡ es
  pub front : last.front ≡ closed.entries
  pub shares : last.shares ≡ shares trace_log closed 1 NUMBERS

-- what came of a run: these entries, and how the workers ended together, where each has put its own in blocks
pub record IsMade (came : ℕ → ℕ → Type 0) (s : Scenario) (workers batch : ℕ) (es : List Entry) (end : LoopEnd)
    : Type 0 where
  pub left : IsLeft s workers es end
  pub blocks : AreByBlocks came s workers batch es
  pub run : HaveRun came s workers batch es end

-- the answer has the entries that the workers left; or it is Memory without any, where there are none to have: the run
-- could not begin, a worker could not be started, or there was no memory for a list of the entries
abbrev pub IsAnswer : (ℕ → ℕ → Type 0) → Scenario → ℕ → ℕ → Result FleetRun RunFault → Type 0
IsAnswer came s workers batch answer =
    (answer ≡ Err (faults.Memory []))
    ⊎ ((es : List Entry) × (end : LoopEnd) × IsMade came s workers batch es end × IsOutcome es end answer)
