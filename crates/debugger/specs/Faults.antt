-- What is said of each fault.
use Rattle.std.specs.Prelude.{ℕ, List, ◌++◌, codes}
use Rattle.std.specs.Fmt.{decimal}
use Rattle.debugger.specs.declared.fault.OpenFault.{OpenFault}
use Rattle.debugger.specs.declared.fault.OpenFault.TheVariants as open_faults
use Rattle.debugger.specs.declared.fault.ForwardFault.{ForwardFault}
use Rattle.debugger.specs.declared.fault.ForwardFault.TheVariants as forward_faults
use Rattle.debugger.specs.declared.fault.BackFault.{BackFault}
use Rattle.debugger.specs.declared.fault.BackFault.TheVariants as back_faults
use Rattle.debugger.specs.declared.fault.AddFault.{AddFault}
use Rattle.debugger.specs.declared.fault.AddFault.TheVariants as add_faults
use Rattle.debugger.specs.declared.fault.RemoveFault.{RemoveFault}
use Rattle.debugger.specs.declared.fault.RemoveFault.TheVariants as remove_faults
use Rattle.debugger.specs.declared.fault.DeviceFault.{DeviceFault}
use Rattle.debugger.specs.declared.fault.DeviceFault.TheVariants as device_faults

abbrev pub open_words : OpenFault → List ℕ
open_words (open_faults.NotRun at) = codes "not a run from entry " ++ decimal at ++ codes " on"
open_words open_faults.Memory = codes "out of memory"

abbrev pub forward_words : ForwardFault → List ℕ
forward_words forward_faults.PastEnd = codes "past end"
forward_words forward_faults.Memory = codes "out of memory"

abbrev pub back_words : BackFault → List ℕ
back_words back_faults.PastStart = codes "past start"
back_words back_faults.Memory = codes "out of memory"

abbrev pub add_words : AddFault → List ℕ
add_words add_faults.Full = codes "full"

abbrev pub remove_words : RemoveFault → List ℕ
remove_words remove_faults.NoSuch = codes "no such"

abbrev pub device_words : DeviceFault → List ℕ
device_words device_faults.NoDevice = codes "no device"
