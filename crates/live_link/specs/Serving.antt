-- A session that goes on, and one that is broken off.
use Rattle.std.specs.Prelude.{◌≡◌, ℕ, ◌+◌, ◌-◌, ◌≤◌, ⊤, min, true, List, [], ◌∷◌, ◌++◌, length, sum, unwrap_or}
use Rattle.std.specs.Prelude.{Option, None, Some}
use Rattle.std.specs.List.{AllByRecursion}
use Rattle.device_machine.specs.State.{Machine, Device, Shows}
use Rattle.scenario_image.specs.declared.step.Step.{Step}
use Rattle.scenario_image.specs.Play.{state_after}
use Rattle.live_link.specs.declared.packet.Packet.{Packet}
use Rattle.live_link.specs.declared.session.LiveEnd.{LiveEnd}
use Rattle.live_link.specs.declared.session.LiveEnd.TheVariants.{Turns, ReceiveFault, SendFault, Memory, Spent}
use Rattle.live_link.specs.Wire.{Traffic, Carries, AreRead}
use Rattle.live_link.specs.Live.{failures_at, most_refusals, refused_at, sent_by, turn_steps, ArePassed, IsLiveStep}
use Rattle.live_link.specs.Live.{IsPastEnd, IsSentAt}

-- ---- sending

-- these packets were sent: they were noted, and the wire took them in
pub record AreSent (gone : List Packet) (failures refusals : ℕ) (old new : List Packet)
    (before after : Option Traffic) : Type 0 where
  pub noted : new ≡ old ++ gone
  pub told : Carries before after
      (record { received = []; taken = gone; failures = failures; refusals = refusals })

-- a call of `send` ends so
abbrev pub IsSendEnd : LiveEnd → Type 0
IsSendEnd Turns = ⊥
IsSendEnd ReceiveFault = ⊥
IsSendEnd SendFault = ⊤
IsSendEnd Memory = ⊤
IsSendEnd Spent = ⊥

-- the packets before one of them were sent, which was not
pub record AreCutShort (end : LiveEnd) (all old new : List Packet) (before after : Option Traffic) : Type 0 where
  pub sending : IsSendEnd end
  pub gone : List Packet
  pub failed : Packet
  pub rest : List Packet
  pub all_are : all ≡ gone ++ failed ∷ rest
  pub sent : AreSent gone (failures_at end) (most_refusals end) old new before after

-- ---- the steps

-- a session that this device began, on a wire that told this, goes on: this was received, and the device has taken
-- these steps, and all that they output was sent
pub record IsServing (first : Device) (before : Option Traffic) (received : List (Option Packet)) (device : Device)
    (steps : List Step) (sent : List Packet) (after : Option Traffic) : Type 0 where
  pub shows : (f : Machine) → Shows first f → Shows device (state_after f steps)
  pub deaf : first.spent ≡ true → (device.spent ≡ true) × (steps ≡ [])
  pub put_out : (f : Machine) → Shows first f → sent ≡ sent_by f steps
  pub told : Carries before after (record { received = received; taken = sent; failures = 0; refusals = 0 })
  pub live : AllByRecursion IsLiveStep steps

-- it was broken off, at a step or before one
abbrev pub IsEarlyEnd : LiveEnd → Type 0
IsEarlyEnd Turns = ⊥
IsEarlyEnd ReceiveFault = ⊤
IsEarlyEnd SendFault = ⊤
IsEarlyEnd Memory = ⊤
IsEarlyEnd Spent = ⊤

-- it was broken off at a step
abbrev pub IsStepEnd : LiveEnd → Type 0
IsStepEnd Turns = ⊥
IsStepEnd ReceiveFault = ⊥
IsStepEnd SendFault = ⊤
IsStepEnd Memory = ⊤
IsStepEnd Spent = ⊤

-- of the steps that were given it has these, and the last one was refused, unless the session was broken off otherwise
pub record IsBroken (end : LiveEnd) (first : Device) (before : Option Traffic) (received : List (Option Packet))
    (given steps : List Step) (sent : List Packet) (after : Option Traffic) : Type 0 where
  pub early : IsEarlyEnd end
  pub refusals : ℕ
  pub few : refusals ≤ most_refusals end
  pub told : Carries before after
      (record { received = received; taken = sent; failures = failures_at end; refusals = refusals })
  pub refused : List Step
  pub given_are : given ≡ steps ++ refused
  pub refused_count : length refused ≡ refused_at end refusals
  pub live : AllByRecursion IsLiveStep steps
  pub put_out : (f : Machine) → Shows first f → IsSentAt end refusals f steps sent
  pub past_end : (f : Machine) → Shows first f → end ≡ Spent → IsPastEnd f steps refused
  pub deaf : first.spent ≡ true → steps ≡ []

-- ---- the clock

-- the second to which seconds were counted: the first reading, and those that passed
abbrev pub counted_to : List ℕ → List ℕ → Option ℕ
counted_to [] seconds = None
counted_to (first ∷ readings) seconds = Some (first + sum seconds)

-- the seconds that pass at a reading, where they have passed to this second
abbrev pub passed_at : Option ℕ → ℕ → ℕ
passed_at counted now = min 86400 (now - unwrap_or counted now)

-- these pass at these readings, and to this second they count
pub record IsTimed (readings : List ℕ) (counted : Option ℕ) (seconds : List ℕ) : Type 0 where
  pub passed : ArePassed readings seconds
  pub counted_is : counted ≡ counted_to readings seconds

-- ---- turns

-- n turns were made
pub record IsUnderWay (first : Device) (before : Option Traffic) (read_before : Option (List ℕ)) (turns : ℕ)
    (device : Device) (counted : Option ℕ) (steps : List Step) (sent : List Packet) (after : Option Traffic)
    (read_after : Option (List ℕ)) : Type 0 where
  pub received : List (Option Packet)
  pub calls : length received ≡ turns
  pub serving : IsServing first before received device steps sent after
  pub readings : List ℕ
  pub count : length readings ≡ turns
  pub read : AreRead read_before read_after readings
  pub seconds : List ℕ
  pub timed : IsTimed readings counted seconds
  pub given : steps ≡ turn_steps seconds received
