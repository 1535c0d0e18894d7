-- What a device does beside sending, by its name.
use Rattle.std.specs.Prelude.{ℕ, List, codes}
use Rattle.device_requests.specs.declared.answer.Act.{Act}
use Rattle.device_requests.specs.declared.answer.Act.TheVariants.{Reboot, FactoryReset, RegUpdate, Disable, Missed}

-- the name of an act, as traces, answers of the debugger and cases print it
abbrev pub act_name : Act → List ℕ
act_name Reboot = codes "reboot"
act_name FactoryReset = codes "factory reset"
act_name RegUpdate = codes "reg update"
act_name Disable = codes "disable"
act_name Missed = codes "missed"
