-- What fits the fields of the trace file.
use Rattle.std.specs.Prelude.{◌≡◌, ℕ, ◌<◌, length, Some, slice_get}
use Rattle.device_machine.specs.declared.output.Output.{Output}
use Rattle.device_machine.specs.declared.output.Output.TheVariants as outputs
use Rattle.trace_file.specs.declared.entry.Entry.{Entry}

-- a server's number and a datagram's length fit two bytes; each act fits
abbrev pub FitsOutput : Output → Type 0
FitsOutput (outputs.Send server bytes) = (server < 65536) × (length bytes < 65536)
FitsOutput (outputs.Act a) = Unit {0}

-- the numbers of a worker and a device fit two bytes, that of a step and the count of the outputs four, and each output
-- fits
pub record FitsEntry (e : Entry) : Type 0 where
  pub worker : e.worker < 65536
  pub device : e.device < 65536
  pub step : e.step < 4294967296
  pub count : length e.outputs < 4294967296
  pub outputs : (i : ℕ) (o : Output) → slice_get e.outputs i ≡ Some o → FitsOutput o
