-- How a device ends that refuses a step.
use Rattle.device_machine.specs.declared.fault.StepFault.{StepFault}
use Rattle.device_machine.specs.declared.fault.StepFault.TheVariants as faults
use Rattle.fleet_link.specs.declared.slot.DeviceEnd.{DeviceEnd}
use Rattle.fleet_link.specs.declared.slot.DeviceEnd.TheVariants.{Memory, Spent}

abbrev pub end_at : StepFault → DeviceEnd
end_at faults.Memory = Memory
end_at faults.Spent = Spent
