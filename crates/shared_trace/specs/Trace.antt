-- What contracts see of a trace, and how a lock reads it.
use Rattle.std.specs.Prelude.{◌≡◌, ℕ, ◌+◌, ◌==◌, Bool, true, false, if◌then◌else◌, List, [], ◌∷◌, ◌++◌, length}
use Rattle.std.specs.Prelude.{Some, slice_get, slice_set}
use Rattle.scenario_image.specs.Scenario.{Scenario, IsValid}
use Rattle.trace_file.specs.declared.entry.Entry.{Entry}
use Rattle.fleet_core.specs.Run.{made_by, is_enabled, IsRun}
use Rattle.fleet_core.specs.Waiting.{is_waiting}
use Rattle.fleet_core.specs.Board.{HoldsAfter, Holding}
use Rattle.ticket_lock.specs.Log.{Reading}
use Rattle.device_stations.specs.declared.station.Place.{Place}
use Rattle.device_stations.specs.declared.station.Place.TheVariants.{Parked, Out}
use Rattle.shared_trace.specs.declared.work.OpenWork.{OpenWork}
use Rattle.shared_trace.specs.Stops.{is_any, is_among}

-- what contracts see of a trace: its scenario, its entries, where each device is, and the numbers of the workers that
-- have stopped it, from the last one on
pub record TraceModel : Type 0 where
  pub subject : Scenario
  pub entries : List Entry
  pub places : List Place
  pub stopped_by : List ℕ

-- a parked device shows the state after the steps that it has made, also where it is yet to be started, or its memory
-- was let go of (`HoldsAfter`); one that is out has a step left
abbrev pub IsPlaced : Scenario → List Entry → ℕ → Place → Type 0
IsPlaced s es d (Parked x) = HoldsAfter s d (made_by d es) x
IsPlaced s es d (Out worker) = is_waiting s es d ≡ true

-- the entries are a run of the scenario, and each device has its place
pub record IsShared (t : TraceModel) : Type 0 where
  pub valid : IsValid t.subject
  pub run : IsRun t.subject t.entries
  pub count : length t.places ≡ length t.subject.rows
  pub placed : (d : ℕ) (p : Place) → slice_get t.places d ≡ Some p → IsPlaced t.subject t.entries d p

-- the device is parked, and an entry of it may come next
pub record IsReady (t : TraceModel) (d : ℕ) : Type 0 where
  pub held : Holding
  pub parked : slice_get t.places d ≡ Some (Parked held)
  pub enabled : is_enabled t.subject t.entries d ≡ true

-- ---- changes

-- the device is out under the worker
abbrev pub with_out : TraceModel → ℕ → ℕ → TraceModel
with_out t d worker = record t { places = slice_set t.places d (Out worker) }

-- the device is parked, after these entries more
abbrev pub with_block : TraceModel → ℕ → Holding → List Entry → TraceModel
with_block t d x block = record t { entries = t.entries ++ block; places = slice_set t.places d (Parked x) }

-- the worker has stopped it
abbrev pub stopped_under : TraceModel → ℕ → TraceModel
stopped_under t worker = record t { stopped_by = worker ∷ t.stopped_by }

-- ---- the open work

abbrev pub is_out : ℕ → Place → Bool
is_out worker (Parked x) = false
is_out worker (Out w) = w == worker

-- the devices that are out under the worker, each with the count of its entries; the first place is that of device i
abbrev pub open_from : ℕ → List Place → List Entry → ℕ → List (ℕ × ℕ)
open_from worker [] es i = []
open_from worker (p ∷ ps) es i =
    if is_out worker p then (i, made_by i es) ∷ open_from worker ps es (i + 1) else open_from worker ps es (i + 1)

-- the worker's open work: the devices that are out under it, in ascending order, each with the count of its entries
abbrev pub open_by : TraceModel → ℕ → List (ℕ × ℕ)
open_by t worker = open_from worker t.places t.entries 0

-- whether a worker has stopped the trace
abbrev pub is_stopped : TraceModel → Bool
is_stopped t = is_any t.stopped_by

-- whether this worker has stopped it
abbrev pub has_stopped : TraceModel → ℕ → Bool
has_stopped t worker = is_among worker t.stopped_by

-- what the lock's rule reads for a worker: its open work, and whether it has stopped the trace
abbrev pub work_by : TraceModel → ℕ → OpenWork
work_by t worker = record { out = open_by t worker; stopped = has_stopped t worker }

abbrev pub no_work : OpenWork
no_work = record { out = []; stopped = false }

-- how a lock reads a trace
abbrev pub trace_log : Reading TraceModel Entry Scenario OpenWork
trace_log = record { entries = λ t. t.entries; worker = λ e. e.worker; subject = λ t. t.subject; work = work_by }
