-- When the run that workers made of a scenario and its trace file are an answer.
use Rattle.std.specs.Prelude.{⊤, ℕ, ◌≡◌, List, [], ◌∷◌, length, Option, None, Some}
use Rattle.std.specs.String.{string_bytes}
use Rattle.scenario_image.specs.Scenario.{Scenario}
use Rattle.trace_file.specs.declared.entry.Entry.{Entry}
use Rattle.trace_file.specs.Layout.{IsTraceFile}
use Rattle.fleet_core.specs.Waiting.{waiting_devices}
use Rattle.fleet_workers.specs.declared.fleet.FleetRun.{FleetRun}
use Rattle.fleet_workers.specs.declared.fleet.RunFault.{RunFault}
use Rattle.fleet_workers.specs.declared.fleet.RunFault.TheVariants as runs
use Rattle.worker_visits.specs.Blocks.{anyone}
use Rattle.fleet_workers.specs.Fleet.{IsFleetRun, AreByBlocks, AreWorkers, IsBatch}
use Rattle.command_files.specs.Answers.{files_of}
use Rattle.command_files.specs.Files.{MadeFile}
use Rattle.command_files.specs.declared.answer.Answer.{Answer}
use Rattle.command_scenarios.specs.Runs.{end_status}
use Rattle.command_texts.specs.Endings.{end_line}
use Rattle.command_files.specs.declared.fault.Fault.{Fault}
use Rattle.command_files.specs.declared.fault.Fault.TheVariants.{Batch, Memory, Spent, TooLarge, Workers}

-- the options of `run` that say how the run is made
pub record RunOptions : Type 0 where
  -- by how many workers
  pub workers : ℕ
  -- how many steps of a device a worker makes at a time, at most
  pub batch : ℕ

-- the trace file of these entries is made at the path, if there is one, and no other file
abbrev pub IsSavedAs : Option (List ℕ) → List Entry → List MadeFile → Type 0
IsSavedAs None es made = made ≡ []
IsSavedAs (Some path) es made =
    (bytes : List ℕ) × IsTraceFile bytes es × (made ≡ (record { path = path; bytes = bytes }) ∷ [])

-- no memory was left, or these entries have no trace file
abbrev pub IsSavingFault : List Entry → Fault → Type 0
IsSavingFault es Memory = ⊤
IsSavingFault es TooLarge = (bytes : List ℕ) → IsTraceFile bytes es → ⊥
IsSavingFault es _ = ⊥

-- a run by the workers of the options, none of which made more steps of a device at a time than the batch; both numbers
-- are in their range
pub record IsRunBy (s : Scenario) (options : RunOptions) (run : FleetRun) : Type 0 where
  pub workers_are : AreWorkers options.workers
  pub batch_is : IsBatch options.batch
  pub right : IsFleetRun s options.workers run
  pub blocks : AreByBlocks anyone s options.workers options.batch run.entries

-- such a run, its trace file where one is asked for, the line of its end, and the status
pub record IsRunAnswer (s : Scenario) (options : RunOptions) (trace : Option (List ℕ)) (answer : Answer) : Type 0 where
  pub run : FleetRun
  pub right : IsRunBy s options run
  pub saved : IsSavedAs trace run.entries (files_of answer.file)
  pub text_is : string_bytes answer.text ≡ end_line (length run.entries) (waiting_devices s run.entries)
  pub status_is : answer.status ≡ end_status (waiting_devices s run.entries)

-- there are 1 to 64 workers, and the batch is not one of 1 to 64 steps
abbrev pub IsWrongBatch : RunOptions → Type 0
IsWrongBatch options = AreWorkers options.workers × (IsBatch options.batch → ⊥)

-- the workers or the batch are refused; or no memory or no ticket was left; or the run has no trace file
abbrev pub IsRunFault : Scenario → RunOptions → Fault → Type 0
IsRunFault s options Memory = ⊤
IsRunFault s options Spent = ⊤
IsRunFault s options Workers = AreWorkers options.workers → ⊥
IsRunFault s options Batch = IsWrongBatch options
IsRunFault s options TooLarge =
    (run : FleetRun) × IsRunBy s options run × ((bytes : List ℕ) → IsTraceFile bytes run.entries → ⊥)
IsRunFault s options _ = ⊥

-- the fault of a run that the workers did not end
abbrev pub run_fault : RunFault → Fault
run_fault (runs.Memory entries) = Memory
run_fault (runs.Spent entries) = Spent
run_fault runs.Workers = Workers
run_fault runs.Batch = Batch
