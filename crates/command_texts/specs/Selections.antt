-- Entries that are asked for, and that a run does not have.
use Rattle.trace_text.specs.declared.selection.SelectionFault.{SelectionFault}
use Rattle.trace_text.specs.declared.selection.SelectionFault.TheVariants as selection
use Rattle.command_files.specs.declared.fault.Fault.{Fault}
use Rattle.command_files.specs.declared.fault.Fault.TheVariants as faults

-- the fault of entries that a trace does not have: a lack of memory is not the trace's fault
abbrev pub selection_fault : SelectionFault → Fault
selection_fault selection.NoDevice = faults.NoDevice
selection_fault selection.PastEnd = faults.PastEnd
selection_fault selection.Range = faults.Range
selection_fault selection.Memory = faults.Memory
