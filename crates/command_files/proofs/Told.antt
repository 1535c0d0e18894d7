-- What was said of a fault, put together from its parts.
use Rattle.std.proofs.Common.{◌≡◌, ℕ, List, Option, inl, inr}
use Rattle.std.specs.Io.KnownBytes.{Appends}
use Rattle.command_files.specs.FaultLine.{fault_line}
use Rattle.command_files.specs.Refusals.{IsAbout, IsReported, IsTold}
use Rattle.command_files.specs.World.{StreamFaults, Streams}
use Rattle.command_files.specs.declared.fault.Fault.{Fault}

pub silent : (faults : StreamFaults) (before after : Streams) (about : Option (List ℕ)) → after.errors ≡ before.errors
    → IsReported faults before after about
silent faults before after about same = inl same

pub reported : (faults : StreamFaults) (before after : Streams) (about : Option (List ℕ)) (text : List ℕ)
    → IsAbout about text → Appends before.errors after.errors text → IsReported faults before after about
reported faults before after about text right printed = inr (text, right, inl printed)

pub unreported : (faults : StreamFaults) (before after : Streams) (about : Option (List ℕ)) (text : List ℕ)
    → IsAbout about text → faults.errors_refuse text → IsReported faults before after about
unreported faults before after about text right refused = inr (text, right, inr refused)

pub told : (faults : StreamFaults) (before after : Streams) (about : Option (List ℕ)) (fault : Fault)
    → Appends before.output after.output (fault_line fault) → IsReported faults before after about
    → IsTold faults before after about fault
told faults before after about fault printed reported = inl (printed, reported)

pub untold : (faults : StreamFaults) (before after : Streams) (about : Option (List ℕ)) (fault : Fault)
    → faults.output_refuses (fault_line fault) → after.errors ≡ before.errors
    → IsTold faults before after about fault
untold faults before after about fault refused same = inr (refused, same)
