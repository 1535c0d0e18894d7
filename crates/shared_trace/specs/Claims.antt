-- What a claim answers.
use Rattle.std.specs.Prelude.{◌≡◌, ℕ, ◌≤◌, true, false, [], Some, slice_get}
use Rattle.fleet_core.specs.Run.{made_by, is_enabled, IsComplete}
use Rattle.fleet_core.specs.Waiting.{is_waiting}
use Rattle.fleet_core.specs.Board.{ShowsAfter}
use Rattle.device_stations.specs.declared.station.Place.TheVariants.{Parked, Out}
use Rattle.shared_trace.specs.declared.claims.Claim.{Claim}
use Rattle.shared_trace.specs.declared.claims.Claim.TheVariants.{Got, Busy, Done, Stalled, Stopped}
use Rattle.shared_trace.specs.Trace.{TraceModel, IsReady, with_out, is_stopped, open_by}
use Rattle.shared_trace.specs.Job.{Task, StandsIn}

-- the device that was parked, and can step, is out under the worker, and the job has it, which shows the state at its
-- next step
pub record IsTaken (old new : TraceModel) (w : ℕ) (job : Task) : Type 0 where
  pub parked : slice_get old.places job.device ≡ Some (Parked job.held)
  pub enabled : is_enabled old.subject old.entries job.device ≡ true
  pub subject : job.subject ≡ old.subject
  pub worker : job.worker ≡ w
  pub front : job.front ≡ old.entries
  pub entries : job.entries ≡ []
  pub ready : job.spent ≡ false
  pub shows : ShowsAfter old.subject job.device (made_by job.device old.entries) job.held.shown
  pub left : new ≡ with_out old job.device w

-- it is the lowest such device
pub record IsGot (old new : TraceModel) (w : ℕ) (job : Task) : Type 0 where
  pub going : is_stopped old ≡ false
  pub taken : IsTaken old new w job
  pub lowest : (d : ℕ) → IsReady old d → job.device ≤ d

-- nothing changed, and no device is parked and can step
pub record IsIdle (old new : TraceModel) : Type 0 where
  pub going : is_stopped old ≡ false
  pub same : new ≡ old
  pub none : (d : ℕ) → IsReady old d → ⊥

-- a device is out, and has a step left
pub record IsAnyOut (t : TraceModel) : Type 0 where
  pub device : ℕ
  pub worker : ℕ
  pub place : slice_get t.places device ≡ Some (Out worker)
  pub waits : is_waiting t.subject t.entries device ≡ true

-- a row is not at its end
pub record IsAnyLeft (t : TraceModel) : Type 0 where
  pub device : ℕ
  pub waits : is_waiting t.subject t.entries device ≡ true

-- each row is at its end
abbrev pub AreAllAtEnd : TraceModel → Type 0
AreAllAtEnd t = (d : ℕ) → is_waiting t.subject t.entries d ≡ false

-- the answer is right
abbrev pub Claims : TraceModel → TraceModel → ℕ → Claim → Type 0
Claims old new worker (Got job) = IsGot old new worker job
Claims old new worker Busy = IsIdle old new × IsAnyOut old
Claims old new worker Done = IsIdle old new × IsComplete old.subject old.entries × AreAllAtEnd old
Claims old new worker Stalled = IsIdle old new × IsComplete old.subject old.entries × IsAnyLeft old
Claims old new worker Stopped = (is_stopped old ≡ true) × (new ≡ old)

-- a job that was got stands in the worker's open work
abbrev pub ClaimStands : TraceModel → ℕ → Claim → Type 0
ClaimStands new worker (Got job) = StandsIn (open_by new worker) job
ClaimStands new worker Busy = Unit {0}
ClaimStands new worker Done = Unit {0}
ClaimStands new worker Stalled = Unit {0}
ClaimStands new worker Stopped = Unit {0}
