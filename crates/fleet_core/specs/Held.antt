-- What is held of a device, as contracts see it.
use Rattle.std.specs.Prelude.{true, false}
use Rattle.scenario_image.specs.Play.{start, device_showing}
use Rattle.fleet_core.specs.declared.held.State.{State}
use Rattle.fleet_core.specs.declared.held.State.TheVariants.{Fresh, Here, Gone}
use Rattle.fleet_core.specs.Board.{Holding}

-- one that is yet to be started is the start of its class; of one whose memory was let go of there is the very device
abbrev pub holding_of : State → Holding
holding_of (Fresh class) = record { shown = device_showing (start class.value); fresh = true; gone = false }
holding_of (Here device) = record { shown = device; fresh = false; gone = false }
holding_of (Gone device) = record { shown = device.value; fresh = false; gone = true }
