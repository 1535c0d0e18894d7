-- A session: the steps that a device took on a wire, what it sent, and how that ended.
use Rattle.std.specs.Prelude.{◌≡◌, ℕ, zero, suc, ◌+◌, ◌-◌, ◌<◌, ◌≤◌, ◌⊎◌, ⊤, min, true, List, [], ◌∷◌, ◌++◌}
use Rattle.std.specs.Prelude.{length, take, sum, slice_index, Option, None, Some}
use Rattle.std.specs.List.{filter_map}
use Rattle.device_machine.specs.declared.event.Event.TheVariants.{Recv, Put, Firmware, Tick}
use Rattle.device_machine.specs.declared.fault.StepFault.{StepFault}
use Rattle.device_machine.specs.declared.fault.StepFault.TheVariants as faults
use Rattle.device_machine.specs.declared.output.Output.{Output}
use Rattle.device_machine.specs.declared.output.Output.TheVariants.{Send, Act}
use Rattle.device_machine.specs.State.{Machine}
use Rattle.device_machine.specs.Reactions.{passes_end}
use Rattle.scenario_image.specs.declared.step.Step.{Step}
use Rattle.scenario_image.specs.declared.step.Step.TheVariants.{Event, Post, Need}
use Rattle.scenario_image.specs.Play.{step_outputs, step_after, state_after}
use Rattle.live_link.specs.declared.packet.Packet.{Packet}
use Rattle.live_link.specs.declared.session.LiveEnd.{LiveEnd}
use Rattle.live_link.specs.declared.session.LiveEnd.TheVariants.{Turns, ReceiveFault, SendFault, Memory, Spent}

-- ---- turns

-- the seconds that pass at a reading are a tick, where some pass
abbrev pub tick_steps : ℕ → List Step
tick_steps zero = []
tick_steps (suc n) = Event (Tick (suc n)) ∷ []

-- what a call of `receive` gave is received, where it gave a datagram
abbrev pub heard_steps : Option Packet → List Step
heard_steps None = []
heard_steps (Some packet) = Event (Recv packet.server packet.bytes) ∷ []

-- the steps of turns: in each the seconds of its reading pass, and then what its call of `receive` gave is received. In
-- the last one that call may not have been made
abbrev pub turn_steps : List ℕ → List (Option Packet) → List Step
turn_steps [] received = []
turn_steps (s ∷ seconds) [] = tick_steps s ++ turn_steps seconds []
turn_steps (s ∷ seconds) (r ∷ received) = tick_steps s ++ heard_steps r ++ turn_steps seconds received

-- n seconds pass at each reading: those from the first reading to this one, without those that have passed
-- before, and at most a day. Where the clock stood or went back, none pass
pub record ArePassed (readings seconds : List ℕ) : Type 0 where
  pub count : length seconds ≡ length readings
  pub each : (k : ℕ) → k < length readings → slice_index seconds k
      ≡ min 86400 (slice_index readings k - (slice_index readings 0 + sum (take k seconds)))

-- in n turns the clock was read and `receive` called this often: in each turn, or in some, and in the last turn the
-- reading may have been made alone
abbrev pub AreCountsAt : LiveEnd → ℕ → ℕ → ℕ → Type 0
AreCountsAt Turns turns readings calls = (readings ≡ turns) × (calls ≡ turns)
AreCountsAt ReceiveFault turns readings calls = (readings ≤ turns) × (calls ≡ readings)
AreCountsAt SendFault turns readings calls = (readings ≤ turns) × ((calls ≡ readings) ⊎ (calls + 1 ≡ readings))
AreCountsAt Memory turns readings calls = (readings ≤ turns) × ((calls ≡ readings) ⊎ (calls + 1 ≡ readings))
AreCountsAt Spent turns readings calls = (readings ≤ turns) × ((calls ≡ readings) ⊎ (calls + 1 ≡ readings))

-- a datagram is received, or 1 to 86,400 seconds pass: a session has no other steps
abbrev pub IsLiveStep : Step → Type 0
IsLiveStep (Event (Recv server bytes)) = ⊤
IsLiveStep (Event (Put path value)) = ⊥
IsLiveStep (Event (Firmware code)) = ⊥
IsLiveStep (Event (Tick seconds)) = (1 ≤ seconds) × (seconds ≤ 86400)
IsLiveStep (Post group) = ⊥
IsLiveStep (Need group count) = ⊥

-- ---- what steps output

-- the datagram that an output sends
abbrev pub packet_in : Output → Option Packet
packet_in (Send server bytes) = Some (record { server = server; bytes = bytes })
packet_in (Act deed) = None

-- the datagrams among outputs, in order
abbrev pub packets_in : List Output → List Packet
packets_in outputs = filter_map packet_in outputs

-- the datagrams that steps output, one step after another, of a device that is in this flat state before them
abbrev pub sent_by : Machine → List Step → List Packet
sent_by f [] = []
sent_by f (step ∷ steps) = packets_in (step_outputs f step) ++ sent_by (step_after f step) steps

-- sending failed at a datagram of the last step: what was sent is all before that one
pub record IsSendStopped (f : Machine) (steps : List Step) (sent : List Packet) : Type 0 where
  pub before : List Step
  pub last : Step
  pub steps_are : steps ≡ before ++ last ∷ []
  pub gone : List Packet
  pub failed : Packet
  pub rest : List Packet
  pub output : packets_in (step_outputs (state_after f before) last) ≡ gone ++ failed ∷ rest
  pub sent_is : sent ≡ sent_by f before ++ gone

-- of what the steps output this was sent, where the session ended so and no memory was left for the wire so often: all,
-- or all before a datagram of the last step
abbrev pub IsSentAt : LiveEnd → ℕ → Machine → List Step → List Packet → Type 0
IsSentAt Turns refusals f steps sent = sent ≡ sent_by f steps
IsSentAt ReceiveFault refusals f steps sent = sent ≡ sent_by f steps
IsSentAt SendFault refusals f steps sent = IsSendStopped f steps sent
IsSentAt Memory zero f steps sent = sent ≡ sent_by f steps
IsSentAt Memory (suc n) f steps sent = (sent ≡ sent_by f steps) ⊎ IsSendStopped f steps sent
IsSentAt Spent refusals f steps sent = sent ≡ sent_by f steps

-- of all that was output this was sent, where a session ended so: all, or all before one datagram, or a beginning
abbrev pub IsSentOf : LiveEnd → List Packet → List Packet → Type 0
IsSentOf Turns sent all = sent ≡ all
IsSentOf ReceiveFault sent all = sent ≡ all
IsSentOf SendFault sent all = (failed : Packet) × (rest : List Packet) × (all ≡ sent ++ failed ∷ rest)
IsSentOf Memory sent all = (rest : List Packet) × (all ≡ sent ++ rest)
IsSentOf Spent sent all = sent ≡ all

-- ---- how it ended

-- how often the wire failed
abbrev pub failures_at : LiveEnd → ℕ
failures_at Turns = 0
failures_at ReceiveFault = 1
failures_at SendFault = 1
failures_at Memory = 0
failures_at Spent = 0

-- how often no memory was left for the wire, at most
abbrev pub most_refusals : LiveEnd → ℕ
most_refusals Turns = 0
most_refusals ReceiveFault = 0
most_refusals SendFault = 0
most_refusals Memory = 1
most_refusals Spent = 0

-- how many steps were refused, where no memory was left for the wire so often: the step for which no memory was left,
-- unless that was the wire's, and the tick that passes the last second
abbrev pub refused_at : LiveEnd → ℕ → ℕ
refused_at Turns refusals = 0
refused_at ReceiveFault refusals = 0
refused_at SendFault refusals = 0
refused_at Memory refusals = 1 - refusals
refused_at Spent refusals = 1

-- what the device's refusal ends
abbrev pub end_at : StepFault → LiveEnd
end_at faults.Memory = Memory
end_at faults.Spent = Spent

-- the refused step is a tick that would take the device's clock past its last second
pub record IsPastEnd (f : Machine) (steps refused : List Step) : Type 0 where
  pub seconds : ℕ
  pub refused_is : refused ≡ Event (Tick seconds) ∷ []
  pub passes : passes_end (state_after f steps).kept.clock (Tick seconds) ≡ true
