-- When it is settled what servers have to send to the devices of a session.
use Rattle.std.specs.Prelude.{ℕ, ◌≤◌, List, length}
use Rattle.std.specs.List.{All}
use Rattle.expectations.specs.Arrivals.{arrivals_from}
use Rattle.expectations.specs.Settling.{IsSettled}
use Rattle.expectations.specs.declared.arrival.Arrival.{Arrival}
use Rattle.expectations.specs.declared.expectation.ExpectedCase.{ExpectedCase}
use Rattle.fleet_link.specs.declared.slot.Slot.{Slot}
use Rattle.scenario_image.specs.Scenario.{most_steps}

-- no later datagram changes whether a case is met, by these up to this second
unfoldable pub IsCaseSettled : List Arrival → ℕ → ExpectedCase → Type 0
IsCaseSettled arrivals second case = IsSettled case.lines arrivals second

-- the same of each case, by what a device received, as it is recorded
unfoldable pub IsDeviceSettled : List ExpectedCase → ℕ → Slot → Type 0
IsDeviceSettled goal second slot =
    All (IsCaseSettled (arrivals_from 0 slot.recording.steps.items) second) goal

-- the same of all devices
abbrev pub AreSettled : List ExpectedCase → ℕ → List Slot → Type 0
AreSettled goal second slots = All (IsDeviceSettled goal second) slots

-- a device has no more recorded steps than a row may have
abbrev pub IsFew : Slot → Type 0
IsFew slot = length slot.recording.steps.items ≤ most_steps

abbrev pub AreFew : List Slot → Type 0
AreFew slots = All IsFew slots
