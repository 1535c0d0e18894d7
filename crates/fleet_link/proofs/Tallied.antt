-- What is counted of calls is what was handed out and sent in them.
use Rattle.std.proofs.Common.{◌≡◌, ℕ, ◌+◌, ◌⊎◌, inl, inr, cond, Bool, true, false, List, [], ◌∷◌, ◌++◌, length}
use Rattle.std.proofs.Common.{None, Some, Result, Ok, Err, refl, sym, ap, ◌∙◌, append-nil, arith, length-append}
use Rattle.std.specs.List.{filter_map}
use Rattle.std.proofs.lemmas.Bool.{cases_eq, eq-eqb, ne_eqb}
use Rattle.std.proofs.lemmas.List.Elements.{filter_map-append}
use Rattle.live_link.specs.declared.packet.Packet.{Packet}
use Rattle.fleet_link.specs.declared.udp.Counts.{Counts}
use Rattle.fleet_link.specs.declared.memory.Sending.{Sending}
use Rattle.fleet_link.specs.declared.history.History.{History, Begun, Received', Sent'}
use Rattle.fleet_link.specs.declared.ports.PortsFault.{PortsFault}
use Rattle.fleet_link.specs.declared.ports.Receipt.{Receipt}
use Rattle.fleet_link.specs.declared.ports.Receipt.TheVariants.{Arrived, Dropped, Failed, Nothing}
use Rattle.fleet_link.specs.Counting.{bytes_seen, counts_after, counts_by, counts_sent, handed_if, handed_in}
use Rattle.fleet_link.specs.Counting.{saturated_count, traffic_by, AreCountsOf, Handing}
use Rattle.fleet_link.specs.Memory.{sent_if, sent_in}
use Rattle.fleet_link.specs.Traffic.{ReceivedPacket, Traffic, at_port, no_traffic, sent_all, traffic_of_receipt}

abbrev traffic_of : List ReceivedPacket → List Packet → ℕ → Traffic
traffic_of handed sent failures = record { handed = handed; sent = sent; failures = failures }

abbrev port_if : Bool → Traffic → Traffic
port_if here traffic = cond here traffic no_traffic

-- ---- what was handed out

-- what a call of `receive` handed out
abbrev pub handing_of : ℕ → Result Receipt PortsFault → List Handing
handing_of second (Ok Nothing) = []
handing_of second (Ok (Arrived arrival)) =
    record { device = arrival.device; heard = record { second = second; packet = arrival.packet } } ∷ []
handing_of second (Ok Dropped) = []
handing_of second (Ok (Failed device)) = []
handing_of second (Err fault) = []

abbrev pub handings_by : History → List Handing
handings_by Begun = []
handings_by (Received' at before second given) = handings_by before ++ handing_of second.value given.value
handings_by (Sent' at before device server bytes taken) = handings_by before

one_handed : (d e : ℕ) (heard : ReceivedPacket) → (d ≡ e) ⊎ (d ≡ e → ⊥)
    → (at_port d e (traffic_of (heard ∷ []) [] 0)).handed ≡ handed_in (record { device = d; heard = heard } ∷ []) e
one_handed d e heard (inl same) =
    let b = eq-eqb d e same in
    ap (λ x. (port_if x (traffic_of (heard ∷ []) [] 0)).handed) b
    ∙ sym (ap (λ x. filter_map (λ (h : Handing). cond x (Some h.heard) None)
    (record { device = d; heard = heard } ∷ [])) b)
one_handed d e heard (inr other) =
    let b = ne_eqb d e other in
    ap (λ x. (port_if x (traffic_of (heard ∷ []) [] 0)).handed) b
    ∙ sym (ap (λ x. filter_map (λ (h : Handing). cond x (Some h.heard) None)
    (record { device = d; heard = heard } ∷ [])) b)

none_handed : (d e : ℕ) (sent : List Packet) (n : ℕ) → (d ≡ e) ⊎ (d ≡ e → ⊥)
    → (at_port d e (traffic_of [] sent n)).handed ≡ []
none_handed d e sent n (inl same) = ap (λ x. (port_if x (traffic_of [] sent n)).handed) (eq-eqb d e same)
none_handed d e sent n (inr other) = ap (λ x. (port_if x (traffic_of [] sent n)).handed) (ne_eqb d e other)

handed_of : (second : ℕ) (given : Result Receipt PortsFault) (e : ℕ)
    → (traffic_of_receipt second given e).handed ≡ handed_in (handing_of second given) e
handed_of second (Ok Nothing) e = refl
handed_of second (Ok (Arrived arrival)) e =
    one_handed arrival.device e (record { second = second; packet = arrival.packet }) (cases_eq arrival.device e)
handed_of second (Ok Dropped) e = refl
handed_of second (Ok (Failed device)) e = none_handed device e [] 1 (cases_eq device e)
handed_of second (Err fault) e = refl

handed_are : (calls : History) (e : ℕ) → (traffic_by calls e).handed ≡ handed_in (handings_by calls) e
handed_are Begun e = refl
handed_are (Received' at before second given) e =
    ap (λ l. l ++ (traffic_of_receipt second.value given.value e).handed) (handed_are before e)
    ∙ ap (λ l. handed_in (handings_by before) e ++ l) (handed_of second.value given.value e)
    ∙ sym (filter_map-append (handed_if e) (handings_by before) (handing_of second.value given.value))
handed_are (Sent' at before device server bytes taken) e =
    ap (λ l. (traffic_by before e).handed ++ l)
    (none_handed device.value e (record { server = server.value; bytes = bytes_seen bytes.value } ∷ []) 0
    (cases_eq device.value e))
    ∙ append-nil (traffic_by before e).handed ∙ handed_are before e

received_one : (counts : Counts) (second : ℕ) (given : Result Receipt PortsFault) (handings : List Handing)
    → counts.received ≡ saturated_count (length handings)
    → (counts_after counts given).received ≡ saturated_count (length (handings ++ handing_of second given))
received_one counts second given handings h = by_case given
  where
    none : counts.received ≡ saturated_count (length (handings ++ []))
    none = h ∙ ap (λ l. saturated_count (length l)) (sym (append-nil handings))

    by_case : (g : Result Receipt PortsFault)
        → (counts_after counts g).received ≡ saturated_count (length (handings ++ handing_of second g))
    by_case (Ok Nothing) = none
    by_case (Ok (Arrived arrival)) =
        let more = length-append handings (handing_of second (Ok (Arrived arrival))) in omega (arith, h, more)
    by_case (Ok Dropped) = none
    by_case (Ok (Failed device)) = none
    by_case (Err fault) = none

still_received : (counts : Counts) (taken : Bool) (n : ℕ) → counts.received ≡ saturated_count n
    → (counts_sent counts taken).received ≡ saturated_count n
still_received counts true n h = h
still_received counts false n h = h

received_are : (calls : History) → (counts_by calls).received ≡ saturated_count (length (handings_by calls))
received_are Begun = refl
received_are (Received' at before second given) =
    received_one (counts_by before) second.value given.value (handings_by before) (received_are before)
received_are (Sent' at before device server bytes taken) =
    still_received (counts_by before) taken.value (length (handings_by before)) (received_are before)

-- ---- what was sent

abbrev pub sendings_by : History → List Sending
sendings_by Begun = []
sendings_by (Received' at before second given) = sendings_by before
sendings_by (Sent' at before device server bytes taken) =
    sendings_by before
    ++ record { device = device.value; packet = record { server = server.value; bytes = bytes_seen bytes.value } } ∷ []

one_sent : (d e : ℕ) (packet : Packet) → (d ≡ e) ⊎ (d ≡ e → ⊥)
    → (at_port d e (sent_all (packet ∷ []))).sent ≡ sent_in (record { device = d; packet = packet } ∷ []) e
one_sent d e packet (inl same) =
    let b = eq-eqb d e same in
    ap (λ x. (port_if x (sent_all (packet ∷ []))).sent) b
    ∙ sym (ap (λ x. filter_map (λ (s : Sending). cond x (Some s.packet) None)
    (record { device = d; packet = packet } ∷ [])) b)
one_sent d e packet (inr other) =
    let b = ne_eqb d e other in
    ap (λ x. (port_if x (sent_all (packet ∷ []))).sent) b
    ∙ sym (ap (λ x. filter_map (λ (s : Sending). cond x (Some s.packet) None)
    (record { device = d; packet = packet } ∷ [])) b)

none_sent_at : (d e : ℕ) (handed : List ReceivedPacket) (n : ℕ) → (d ≡ e) ⊎ (d ≡ e → ⊥)
    → (at_port d e (traffic_of handed [] n)).sent ≡ []
none_sent_at d e handed n (inl same) = ap (λ x. (port_if x (traffic_of handed [] n)).sent) (eq-eqb d e same)
none_sent_at d e handed n (inr other) = ap (λ x. (port_if x (traffic_of handed [] n)).sent) (ne_eqb d e other)

none_sent_by : (second : ℕ) (given : Result Receipt PortsFault) (e : ℕ) → (traffic_of_receipt second given e).sent ≡ []
none_sent_by second (Ok Nothing) e = refl
none_sent_by second (Ok (Arrived arrival)) e =
    none_sent_at arrival.device e (record { second = second; packet = arrival.packet } ∷ []) 0
    (cases_eq arrival.device e)
none_sent_by second (Ok Dropped) e = refl
none_sent_by second (Ok (Failed device)) e = none_sent_at device e [] 1 (cases_eq device e)
none_sent_by second (Err fault) e = refl

sent_are : (calls : History) (e : ℕ) → (traffic_by calls e).sent ≡ sent_in (sendings_by calls) e
sent_are Begun e = refl
sent_are (Received' at before second given) e =
    ap (λ l. (traffic_by before e).sent ++ l) (none_sent_by second.value given.value e)
    ∙ append-nil (traffic_by before e).sent ∙ sent_are before e
sent_are (Sent' at before device server bytes taken) e =
    let packet : Packet = record { server = server.value; bytes = bytes_seen bytes.value } in
    ap (λ l. l ++ (at_port device.value e (sent_all (packet ∷ []))).sent) (sent_are before e)
    ∙ ap (λ l. sent_in (sendings_by before) e ++ l)
    (one_sent device.value e packet (cases_eq device.value e))
    ∙ sym (filter_map-append (sent_if e) (sendings_by before)
    (record { device = device.value; packet = packet } ∷ []))

taken_one : (counts : Counts) (taken : Bool) (sendings more : List Sending)
    → length more ≡ length sendings + 1
    → saturated_count (counts.sent + counts.lost) ≡ saturated_count (length sendings)
    → saturated_count ((counts_sent counts taken).sent + (counts_sent counts taken).lost)
    ≡ saturated_count (length more)
taken_one counts true sendings more grown h = omega (arith, grown, h)
taken_one counts false sendings more grown h = omega (arith, grown, h)

same_sums : (counts : Counts) (given : Result Receipt PortsFault)
    → (counts_after counts given).sent + (counts_after counts given).lost ≡ counts.sent + counts.lost
same_sums counts (Ok Nothing) = refl
same_sums counts (Ok (Arrived arrival)) = refl
same_sums counts (Ok Dropped) = refl
same_sums counts (Ok (Failed device)) = refl
same_sums counts (Err fault) = refl

taken_are : (calls : History)
    → saturated_count ((counts_by calls).sent + (counts_by calls).lost) ≡ saturated_count (length (sendings_by calls))
taken_are Begun = refl
taken_are (Received' at before second given) =
    ap saturated_count (same_sums (counts_by before) given.value) ∙ taken_are before
taken_are (Sent' at before device server bytes taken) =
    let packet : Packet = record { server = server.value; bytes = bytes_seen bytes.value } in
    taken_one (counts_by before) taken.value (sendings_by before) _
    (length-append (sendings_by before) (record { device = device.value; packet = packet } ∷ [])) (taken_are before)

-- ---- both

pub are_counted : (calls : History) (counts : Counts) → counts ≡ counts_by calls
    → AreCountsOf (λ e. Some (traffic_by calls e)) counts
are_counted calls counts is = record {
  handed = handings_by calls;
  handed_are = handed_are calls;
  received = ap (λ (c : Counts). c.received) is ∙ received_are calls;
  sent = sendings_by calls;
  sent_are = sent_are calls;
  taken_or_lost = ap (λ (c : Counts). saturated_count (c.sent + c.lost)) is ∙ taken_are calls;
}
