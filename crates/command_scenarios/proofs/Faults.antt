-- From the faults of the parts to those of the whole.
use Rattle.std.proofs.Common.{ℕ, ◌≡◌, ◌↔◌, List, refl}
use Rattle.scenario_image.specs.Scenario.{Scenario}
use Rattle.trace_file.specs.declared.entry.Entry.{Entry}
use Rattle.trace_file.specs.declared.fault.WriteFault.{WriteFault}
use Rattle.trace_file.specs.declared.fault.WriteFault.TheVariants as trace
use Rattle.trace_file.specs.Layout.{IsTraceFile}
use Rattle.fleet_workers.specs.declared.fleet.FleetRun.{FleetRun}
use Rattle.fleet_workers.specs.declared.fleet.RunFault.{RunFault}
use Rattle.fleet_workers.specs.declared.fleet.RunFault.TheVariants as runs
use Rattle.fleet_workers.specs.Fleet.{AreWorkers}
use Rattle.command_files.specs.declared.fault.Fault.{Fault}
use Rattle.command_files.specs.declared.fault.Fault.TheVariants as faults
use Rattle.command_files.specs.Fault.{trace_fault}
use Rattle.command_scenarios.specs.RunAnswer.{run_fault, IsRunBy, IsRunFault, IsSavingFault, IsWrongBatch, RunOptions}

-- entries that got no trace file
pub unsaved : (es : List Entry) (e : WriteFault)
    → ((e ≡ trace.TooLarge) ↔ ((bytes : List ℕ) → IsTraceFile bytes es → ⊥)) → IsSavingFault es (trace_fault e)
unsaved es trace.TooLarge h = h.0 refl
unsaved es trace.Memory h = tt

-- a run that was not saved
pub unsaved_run : (s : Scenario) (options : RunOptions) (r : FleetRun) → IsRunBy s options r → (f : Fault)
    → IsSavingFault r.entries f
    → IsRunFault s options f
unsaved_run s options r right faults.Memory h = tt
unsaved_run s options r right faults.TooLarge h = (r, right, h)
unsaved_run s options r right faults.Write h = absurd h
unsaved_run s options r right faults.Hex h = absurd h
unsaved_run s options r right faults.Read h = absurd h
unsaved_run s options r right (faults.Layout fault) h = absurd h
unsaved_run s options r right (faults.Text fault) h = absurd h
unsaved_run s options r right (faults.Template fault) h = absurd h
unsaved_run s options r right faults.Workers h = absurd h
unsaved_run s options r right faults.Batch h = absurd h
unsaved_run s options r right faults.Spent h = absurd h
unsaved_run s options r right faults.NoDevice h = absurd h
unsaved_run s options r right faults.PastEnd h = absurd h
unsaved_run s options r right faults.Range h = absurd h
unsaved_run s options r right faults.TooLong h = absurd h
unsaved_run s options r right faults.Bind h = absurd h
unsaved_run s options r right faults.Wire h = absurd h
unsaved_run s options r right (faults.Session fault) h = absurd h
unsaved_run s options r right (faults.Cases fault) h = absurd h
unsaved_run s options r right faults.NoSuchCase h = absurd h
unsaved_run s options r right faults.NoDatagram h = absurd h
unsaved_run s options r right faults.OtherClasses h = absurd h
unsaved_run s options r right faults.Slices h = absurd h

-- a run that was refused, or not ended
pub run_fault_is : (s : Scenario) (options : RunOptions) (f : RunFault)
    → (f ≡ runs.Workers → AreWorkers options.workers → ⊥) → (f ≡ runs.Batch → IsWrongBatch options)
    → IsRunFault s options (run_fault f)
run_fault_is s options (runs.Memory es) others batches = tt
run_fault_is s options (runs.Spent es) others batches = tt
run_fault_is s options runs.Workers others batches = others refl
run_fault_is s options runs.Batch others batches = batches refl
