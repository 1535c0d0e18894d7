-- What a wire and a clock in memory do, by their scripts, and what they tell.
use Rattle.std.specs.Prelude.{ℕ, zero, suc, List, [], ◌∷◌, ◌++◌, Option, None, Some, Result, Ok, Err}
use Rattle.std.specs.Vec.Iter.{into_iter_items}
use Rattle.live_link.specs.declared.calls.Calls.{Calls, Begun, Received', Unsent'}
use Rattle.live_link.specs.declared.calls.Readings.{Readings, Unread, Read'}
use Rattle.live_link.specs.declared.memory.Receipt.{Receipt}
use Rattle.live_link.specs.declared.memory.Receipt.TheVariants.{Arrived, Nothing, Failure}
use Rattle.live_link.specs.declared.memory.ScriptedClock.{ScriptedClock}
use Rattle.live_link.specs.declared.memory.ScriptedWire.{ScriptedWire}
use Rattle.live_link.specs.declared.packet.Packet.{Packet}
use Rattle.live_link.specs.declared.wire.WireFault.{WireFault}
use Rattle.live_link.specs.declared.wire.WireFault.TheVariants.{Failed, Memory}
use Rattle.live_link.specs.Wire.{Traffic, traffic_and, traffic_of_receive}

-- ---- what they tell

-- what calls of `send` add that took nothing in
abbrev pub traffic_of_fault : WireFault → Traffic
traffic_of_fault Failed = record { received = []; taken = []; failures = 1; refusals = 0 }
traffic_of_fault Memory = record { received = []; taken = []; failures = 0; refusals = 1 }

-- what calls added, but for what was taken in
abbrev pub traffic_in : Calls → Traffic
traffic_in Begun = record { received = []; taken = []; failures = 0; refusals = 0 }
traffic_in (Received' at before given) = traffic_and (traffic_in before) (traffic_of_receive given.value)
traffic_in (Unsent' at before fault) = traffic_and (traffic_in before) (traffic_of_fault fault.value)

-- what a wire tells
abbrev pub traffic_by : ScriptedWire → Traffic
traffic_by wire =
    record {
      received = (traffic_in wire.calls).received;
      taken = wire.taken.items;
      failures = (traffic_in wire.calls).failures;
      refusals = (traffic_in wire.calls).refusals;
    }

abbrev pub readings_in : Readings → List ℕ
readings_in Unread = []
readings_in (Read' at before reading) = readings_in before ++ reading.value ∷ []

-- what a clock tells
abbrev pub read_by : ScriptedClock → List ℕ
read_by clock = readings_in clock.read

-- ---- what they do

-- what is left of a wire's script: what its next calls of `receive` give, and after how many calls of `send` one fails
pub record WireScript : Type 0 where
  pub receipts : List Receipt
  pub failing : Option ℕ

abbrev pub script_of : ScriptedWire → WireScript
script_of wire = record { receipts = into_iter_items wire.receipts; failing = wire.failing }

-- what the next call of `receive` gives: the first receipt that is left; after the last one, nothing has arrived
abbrev pub given_first : List Receipt → Result (Option Packet) WireFault
given_first [] = Ok None
given_first (Arrived packet ∷ rest) = Ok (Some packet)
given_first (Nothing ∷ rest) = Ok None
given_first (Failure ∷ rest) = Err Failed

-- the call of `send` that fails comes one call sooner; after it none fails
abbrev pub one_sooner : Option ℕ → Option ℕ
one_sooner None = None
one_sooner (Some zero) = None
one_sooner (Some (suc n)) = Some n

-- what is left of a clock's script
abbrev pub shown_by : ScriptedClock → List ℕ
shown_by clock = into_iter_items clock.shown

-- the first second that is left; after the last one, 0
abbrev pub shown_first : List ℕ → ℕ
shown_first [] = 0
shown_first (second ∷ rest) = second
