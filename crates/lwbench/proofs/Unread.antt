-- What the program came to where its words could not be had, put together from its parts.
use Rattle.std.proofs.Common.{◌≡◌, ◌≢◌, ℕ, List, Option, inl, inr, refl}
use Rattle.std.specs.Io.KnownBytes.{Appends}
use Rattle.std.specs.declared.io.ErrorKind.{ErrorKind}
use Rattle.std.specs.declared.io.ErrorKind.TheVariants.{OutOfMemory}
use Rattle.command_files.specs.Fault.{IsWritingFault}
use Rattle.command_files.specs.Refusals.{IsTold}
use Rattle.command_files.specs.World.{OnlySays, StreamFaults, Streams, World}
use Rattle.command_files.specs.declared.fault.Fault.{Fault}
use Rattle.command_files.specs.declared.fault.Fault.TheVariants.{Memory}
use Rattle.command_files.specs.declared.status.Status.{Status}
use Rattle.command_files.specs.declared.status.Status.TheVariants as ends
use Rattle.lwbench.specs.Unread.{EndsUnread, IsToldUnread}

pub used : (faults : StreamFaults) (before after : Streams) (text : List ℕ) (why : ErrorKind) (status : Status)
    → status ≡ ends.Usage → why ≢ OutOfMemory → Appends before.output after.output text
    → after.errors ≡ before.errors → IsToldUnread faults before after text why status
used faults before after text why status ended other printed silent = inl (ended, other, printed, silent)

pub no_memory : (faults : StreamFaults) (before after : Streams) (about : Option (List ℕ)) (text : List ℕ)
    (why : ErrorKind) (fault : Fault) (status : Status) → status ≡ ends.Fault → why ≡ OutOfMemory → fault ≡ Memory
    → IsTold faults before after about fault → IsToldUnread faults before after text why status
no_memory faults before after about text why fault status ended out memory told =
    inr (
      ended,
      record {
        fault = fault;
        between = before;
        cause = inl (out, memory, refl);
        silent = refl;
        about = about;
        told = told;
      },
    )

pub lost : (faults : StreamFaults) (before between after : Streams) (about : Option (List ℕ)) (text : List ℕ)
    (why : ErrorKind) (fault : Fault) (status : Status) → status ≡ ends.Fault
    → IsTold faults between after about fault → IsWritingFault (faults.output_refuses text) fault
    → between.errors ≡ before.errors → IsToldUnread faults before after text why status
lost faults before between after about text why fault status ended told refused silent =
    inr (
      ended,
      record {
        fault = fault;
        between = between;
        cause = inr refused;
        silent = silent;
        about = about;
        told = told;
      },
    )

-- and nothing was read of standard input, and no file made
pub ends_unread : (faults : StreamFaults) (before after : World) (text : List ℕ) (why : ErrorKind) (status : Status)
    → IsToldUnread faults before.streams after.streams text why status → OnlySays before after
    → EndsUnread faults before after text why status
ends_unread faults before after text why status told says =
    record { told = told; none_made = says.0; none_read = says.1 }
