-- What ports over UDP tell of their calls, and what they count of them.
use Rattle.std.specs.Prelude.{◌≡◌, ℕ, ◌+◌, ◌-◌, ◌^◌, ◌==◌, ◌⊎◌, min, Bool, true, false, List, [], ◌∷◌, ◌++◌, length}
use Rattle.std.specs.Prelude.{Option, None, Some, Result, Ok, Err, IfSome, if◌then◌else◌}
use Rattle.std.specs.List.{filter_map}
use Rattle.fleet_link.specs.declared.history.History.{History, Begun, Received', Sent'}
use Rattle.fleet_link.specs.declared.history.SeenBytes.{SeenBytes, Empty, Longer'}
use Rattle.fleet_link.specs.declared.memory.Sending.{Sending}
use Rattle.fleet_link.specs.declared.ports.PortsFault.{PortsFault}
use Rattle.fleet_link.specs.declared.ports.Receipt.{Receipt}
use Rattle.fleet_link.specs.declared.ports.Receipt.TheVariants.{Arrived, Dropped, Failed, Nothing}
use Rattle.fleet_link.specs.declared.udp.Counts.{Counts}
use Rattle.fleet_link.specs.Memory.{sent_in}
use Rattle.fleet_link.specs.Traffic.{ReceivedPacket, Traffic, at_port, no_traffic, sent_all, traffic_and}
use Rattle.fleet_link.specs.Traffic.{traffic_of_receipt}

-- ---- counts

abbrev pub none_counted : Counts
none_counted = record { received = 0; sent = 0; dropped = 0; lost = 0 }

-- one more, of a count of 64 bits, which stays at its greatest number
abbrev pub one_more : ℕ → ℕ
one_more n = min (n + 1) (2 ^ 64 - 1)

-- after a call of `receive` that gave this
abbrev pub counts_after : Counts → Result Receipt PortsFault → Counts
counts_after counts (Ok Nothing) = counts
counts_after counts (Ok (Arrived arrival)) = record counts { received = one_more counts.received }
counts_after counts (Ok Dropped) = record counts { dropped = one_more counts.dropped }
counts_after counts (Ok (Failed device)) = counts
counts_after counts (Err fault) = counts

-- a datagram was sent, or lost
abbrev pub IsSentOrLost : Counts → Counts → Type 0
IsSentOrLost before after =
    (after ≡ record before { sent = one_more before.sent }) ⊎ (after ≡ record before { lost = one_more before.lost })

-- after one that was sent, or lost
abbrev pub counts_sent : Counts → Bool → Counts
counts_sent counts true = record counts { sent = one_more counts.sent }
counts_sent counts false = record counts { lost = one_more counts.lost }

-- a count of 64 bits, which stays at its greatest number
abbrev pub saturated_count : ℕ → ℕ
saturated_count n = min n (2 ^ 64 - 1)

-- ---- calls

abbrev pub bytes_seen : SeenBytes → List ℕ
bytes_seen Empty = []
bytes_seen (Longer' at before byte) = bytes_seen before ++ byte.value ∷ []

-- what went through the port of a device in calls
abbrev pub traffic_by : History → ℕ → Traffic
traffic_by Begun e = no_traffic
traffic_by (Received' at before second given) e =
    traffic_and (traffic_by before e) (traffic_of_receipt second.value given.value e)
traffic_by (Sent' at before device server bytes taken) e =
    traffic_and (traffic_by before e)
    (at_port device.value e (sent_all (record { server = server.value; bytes = bytes_seen bytes.value } ∷ [])))

-- the seconds at which they were asked
abbrev pub seconds_by : History → List ℕ
seconds_by Begun = []
seconds_by (Received' at before second given) = seconds_by before ++ second.value ∷ []
seconds_by (Sent' at before device server bytes taken) = seconds_by before

-- what is counted of them
abbrev pub counts_by : History → Counts
counts_by Begun = none_counted
counts_by (Received' at before second given) = counts_after (counts_by before) given.value
counts_by (Sent' at before device server bytes taken) = counts_sent (counts_by before) taken.value

-- ---- what is counted

-- a datagram that was handed out, and the device at whose port it had arrived
pub record Handing : Type 0 where
  pub device : ℕ
  pub heard : ReceivedPacket

-- those of a device, in order
abbrev pub handed_if : ℕ → Handing → Option ReceivedPacket
handed_if e handing = if handing.device == e then Some handing.heard else None

abbrev pub handed_in : List Handing → ℕ → List ReceivedPacket
handed_in handings e = filter_map (handed_if e) handings

-- These are the counts of ports that tell this: there is a list of all datagrams that were handed out, of which each
-- device's are its part, and so many are in it; and one of all that were sent, each of which is counted as sent or lost
pub record AreCountsOf (told : ℕ → Option Traffic) (counts : Counts) : Type 0 where
  pub handed : List Handing
  pub handed_are : (e : ℕ) → IfSome (told e) (λ t. t.handed ≡ handed_in handed e)
  pub received : counts.received ≡ saturated_count (length handed)
  pub sent : List Sending
  pub sent_are : (e : ℕ) → IfSome (told e) (λ t. t.sent ≡ sent_in sent e)
  pub taken_or_lost : saturated_count (counts.sent + counts.lost) ≡ saturated_count (length sent)
