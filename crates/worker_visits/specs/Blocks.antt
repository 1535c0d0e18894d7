-- What each worker puts into the log: blocks of steps, one after another.
use Rattle.std.specs.Prelude.{◌≡◌, ℕ, ◌<◌, ◌≤◌, ◌==◌, false, List, [], ◌∷◌, ◌++◌, length, filter, flat_map}
use Rattle.std.specs.List.{AllByRecursion}
use Rattle.scenario_image.specs.Scenario.{Scenario}
use Rattle.trace_file.specs.declared.entry.Entry.{Entry}
use Rattle.fleet_core.specs.Run.{IsRun, is_enabled}
use Rattle.ticket_lock.specs.Log.{Begins}
use Rattle.shared_trace.specs.Job.{IsOf}

-- the worker's own entries, in order
abbrev pub own_entries : ℕ → List Entry → List Entry
own_entries worker es = filter (λ e. e.worker == worker) es

-- of a gate that does nothing: it is not known who came to it
abbrev pub anyone : ℕ → ℕ → Type 0
anyone worker device = Unit {0}

-- the block was made after these entries, which the worker had seen: with them it is a run. It has at least one entry
-- and at most `batch`, all of one device and under the worker's number; fewer only where the device can't step then.
-- The worker came to the gate with the device
pub record IsBlock (came : ℕ → ℕ → Type 0) (s : Scenario) (worker batch : ℕ) (seen block : List Entry) : Type 0 where
  pub run : IsRun s (seen ++ block)
  pub least : 1 ≤ length block
  pub most : length block ≤ batch
  pub device : ℕ
  pub each : AllByRecursion (IsOf worker device) block
  pub stops : length block < batch → is_enabled s (seen ++ block) device ≡ false
  pub gate : came worker device

-- the block stands at the end of the new log, after all that was in the old one; what came before it is of others
pub record IsPut (worker : ℕ) (old block new : List Entry) : Type 0 where
  pub before : List Entry
  pub begins : Begins old before
  pub others : own_entries worker before ≡ own_entries worker old
  pub ends : new ≡ before ++ block

-- the log has grown by a block, which the worker made after a beginning of the log
pub record HasMade (came : ℕ → ℕ → Type 0) (s : Scenario) (worker batch : ℕ) (old block new : List Entry) : Type 0 where
  pub put : IsPut worker old block new
  pub seen : List Entry
  pub begins : Begins seen put.before
  pub made : IsBlock came s worker batch seen block

-- from the old log to the new one the worker has put these blocks, one after another, and no other entry
abbrev pub AreMade : (ℕ → ℕ → Type 0) → Scenario → ℕ → ℕ → List Entry → List (List Entry) → List Entry → Type 0
AreMade came s worker batch old [] new = Begins old new × (own_entries worker new ≡ own_entries worker old)
AreMade came s worker batch old (block ∷ blocks) new =
    (next : List Entry) × HasMade came s worker batch old block next × AreMade came s worker batch next blocks new

-- the worker's own entries are those of the old log, and then the blocks that it has put, each once and in their order
pub record HasPut (came : ℕ → ℕ → Type 0) (s : Scenario) (worker batch : ℕ) (old new : List Entry) : Type 0 where
  pub blocks : List (List Entry)
  pub own : own_entries worker new ≡ own_entries worker old ++ flat_map (λ block. block) blocks
  pub made : AreMade came s worker batch old blocks new
