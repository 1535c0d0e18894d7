-- What contracts see of a job, and what may be done with it.
use Rattle.std.specs.Prelude.{◌≡◌, ℕ, ◌<◌, ◌≤◌, Bool, true, false, List, ◌∷◌, ◌++◌, [], length, Contains}
use Rattle.scenario_image.specs.Scenario.{Scenario}
use Rattle.trace_file.specs.declared.entry.Entry.{Entry}
use Rattle.fleet_core.specs.Run.{made_by, posts_of, is_enabled, entry_of}
use Rattle.fleet_core.specs.Board.{Holding}
use Rattle.shared_trace.specs.Trace.{TraceModel, open_by}

-- what contracts see of a job: the scenario, the worker, the device, the trace's entries at the claim, the entries made
-- since, what is held of the device, and whether memory ran out in a step
pub record Task : Type 0 where
  pub subject : Scenario
  pub worker : ℕ
  pub device : ℕ
  pub front : List Entry
  pub entries : List Entry
  pub held : Holding
  pub spent : Bool

-- the entry is the worker's, of the device
abbrev pub IsOf : ℕ → ℕ → Entry → Type 0
IsOf worker d e = (e.worker ≡ worker) × (e.device ≡ d)

-- the entries at the claim, and those made since
abbrev pub seen_by : Task → List Entry
seen_by job = job.front ++ job.entries

-- the device may step, by the posts at the claim and the job's own
abbrev pub can_step : Task → Bool
can_step job = is_enabled job.subject (seen_by job) job.device

-- the next entry of the device, as the job sees it
abbrev pub entry_next : Task → Entry
entry_next job = entry_of job.subject job.worker job.device (seen_by job)

-- the job's device stands in this open work, with the count of its entries at the claim
abbrev pub StandsIn : List (ℕ × ℕ) → Task → Type 0
StandsIn work job = Contains work (job.device, made_by job.device job.front)

-- what a put asks of the trace: the scenario is the trace's; the device is out under the worker, with as many entries
-- as at the claim; and the trace has at least the posts that the job saw at its claim
pub record MayPut (t : TraceModel) (w : ℕ) (job : Task) : Type 0 where
  pub subject : job.subject ≡ t.subject
  pub worker : job.worker ≡ w
  pub stands : StandsIn (open_by t w) job
  pub posts : (g : ℕ) → posts_of t.subject g job.front ≤ posts_of t.subject g t.entries
  pub ready : job.spent ≡ false

-- what a job keeps whatever it does
pub record IsSameJob (old new : Task) : Type 0 where
  pub subject : new.subject ≡ old.subject
  pub worker : new.worker ≡ old.worker
  pub device : new.device ≡ old.device
  pub front : new.front ≡ old.front

-- the device has made these steps more
pub record Advances (old new : Task) (batch : ℕ) : Type 0 where
  pub same : IsSameJob old new
  pub added : List Entry
  pub entries : new.entries ≡ old.entries ++ added
  pub most : length added ≤ batch
  pub stops : length added < batch → can_step new ≡ false
  pub ready : new.spent ≡ false

-- the device has made exactly this many steps more
pub record IsGrown (old new : Task) (n : ℕ) : Type 0 where
  pub same : IsSameJob old new
  pub added : List Entry
  pub entries : new.entries ≡ old.entries ++ added
  pub exact : length added ≡ n
  pub ready : new.spent ≡ false
  pub first : n ≡ 0 → can_step new ≡ can_step old

-- one step was made; or the device can't step by what the job knows
pub record IsStepped (old new : Task) : Type 0 where
  pub same : IsSameJob old new
  pub able : can_step old ≡ true
  pub entries : new.entries ≡ old.entries ++ entry_next old ∷ []
  pub ready : new.spent ≡ false

abbrev pub Steps : Task → Task → Bool → Type 0
Steps old new true = IsStepped old new
Steps old new false = (new ≡ old) × (can_step old ≡ false)
