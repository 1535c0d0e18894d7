-- What a wire tells of its traffic, and what its calls add to that; and what a clock tells of its readings.
use Rattle.std.specs.Prelude.{◌≡◌, ℕ, ◌+◌, ⊤, List, [], ◌∷◌, ◌++◌, Option, None, Some, Result, Ok, Err}
use Rattle.live_link.specs.declared.packet.Packet.{Packet}
use Rattle.live_link.specs.declared.wire.WireFault.{WireFault}
use Rattle.live_link.specs.declared.wire.WireFault.TheVariants.{Failed, Memory}

-- what went over a wire: what each call of `receive` gave, in order, none where nothing had arrived or the call failed;
-- what `send` took in, in order; how often the wire failed, and how often no memory was left for it
pub record Traffic : Type 0 where
  pub received : List (Option Packet)
  pub taken : List Packet
  pub failures : ℕ
  pub refusals : ℕ

-- the one, and then the other
abbrev pub traffic_and : Traffic → Traffic → Traffic
traffic_and a b =
    record {
      received = a.received ++ b.received;
      taken = a.taken ++ b.taken;
      failures = a.failures + b.failures;
      refusals = a.refusals + b.refusals;
    }

-- this holds of what an object told before a call and after it. It may stop telling; what tells has told before
abbrev pub WhereTold : {A : Type 0} → (A → A → Type 0) → Option A → Option A → Type 0
WhereTold holds before None = ⊤
WhereTold holds None (Some after) = ⊥
WhereTold holds (Some before) (Some after) = holds before after

-- so much more went over a wire
abbrev pub Carries : Option Traffic → Option Traffic → Traffic → Type 0
Carries before after more = WhereTold (λ old new. new ≡ traffic_and old more) before after

-- a clock was read so, one time after another
abbrev pub AreRead : Option (List ℕ) → Option (List ℕ) → List ℕ → Type 0
AreRead before after readings = WhereTold (λ old new. new ≡ old ++ readings) before after

-- what a call of `receive` adds
abbrev pub traffic_of_receive : Result (Option Packet) WireFault → Traffic
traffic_of_receive (Ok received) = record { received = received ∷ []; taken = []; failures = 0; refusals = 0 }
traffic_of_receive (Err Failed) = record { received = None ∷ []; taken = []; failures = 1; refusals = 0 }
traffic_of_receive (Err Memory) = record { received = None ∷ []; taken = []; failures = 0; refusals = 1 }

-- what a call of `send` adds
abbrev pub traffic_of_send : {A : Type 0} → Packet → Result A WireFault → Traffic
traffic_of_send packet (Ok done) = record { received = []; taken = packet ∷ []; failures = 0; refusals = 0 }
traffic_of_send packet (Err Failed) = record { received = []; taken = []; failures = 1; refusals = 0 }
traffic_of_send packet (Err Memory) = record { received = []; taken = []; failures = 0; refusals = 1 }
