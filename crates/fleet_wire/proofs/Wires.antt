-- A wire, where a datagram comes or goes on at one of its ends.
use Rattle.std.proofs.Common.{◌≡◌, ℕ, ◌+◌, ◌≤◌, ◌==◌, Bool, true, false, cond, List, [], ◌∷◌, ◌++◌, Option, map, Result}
use Rattle.std.proofs.Common.{Ok, Err, IfErr, OnOk}
use Rattle.std.proofs.Common.{refl, sym, ap, subst, ◌∙◌, append-nil, add-zero, arith}
use Rattle.live_link.specs.declared.packet.Packet.{Packet}
use Rattle.fleet_link.specs.Traffic.{Carries, ReceivedPacket, Traffic, at_port, failed_once, handed_at, no_traffic}
use Rattle.fleet_link.specs.Traffic.{sent_all, traffic_and}
use Rattle.fleet_link.proofs.Told.{carries_both, carries_none, carries_same}
use Rattle.fleet_link.specs.declared.ports.PortsFault.{PortsFault}
use Rattle.fleet_link.specs.declared.ports.Receipt.{Receipt}
use Rattle.fleet_link.specs.declared.ports.Receipt.TheVariants.{Arrived, Dropped, Failed, Nothing}
use Rattle.fleet_wire.specs.declared.lane.Lane.{Lane}
use Rattle.fleet_wire.proofs.Lanes.{lanes_later}
use Rattle.fleet_wire.specs.declared.plan.Direction.TheVariants.{In, Out}
use Rattle.fleet_wire.specs.declared.plan.Plan.{Plan}
use Rattle.fleet_wire.specs.declared.wire.Wire.{Wire}
use Rattle.fleet_wire.specs.Lane.{came_by, of_device, went_by, AreLanes, ForwardedPacket, IsIdle}
use Rattle.fleet_wire.specs.declared.note.Note.{Note}
use Rattle.fleet_wire.specs.Noting.{noted_with, notes_by, notes_going}
use Rattle.fleet_wire.specs.Wire.{all_notes, failures_by, far_end, packet_of, AreNoted, IsQuietUnless, IsWhole, IsWired}
use Rattle.fleet_wire.proofs.Notes.{noted_in, noted_out, noted_same}

-- ---- traffic

abbrev parts : List ReceivedPacket → List Packet → ℕ → Traffic
parts h s f = record { handed = h; sent = s; failures = f }

same_parts : (h k : List ReceivedPacket) (s t : List Packet) (f g : ℕ) → h ≡ k → s ≡ t → f ≡ g
    → parts h s f ≡ parts k t g
same_parts h k s t f g a b c = cc

and_handed : (b : Bool) (h : List ReceivedPacket) (s : List Packet) (f second : ℕ) (packet : Packet)
    → traffic_and (parts h s f) (cond b (handed_at second packet) no_traffic)
    ≡ parts (h ++ cond b (record { second = second; packet = packet } ∷ []) []) s f
and_handed true h s f second packet =
    let one : ReceivedPacket = record { second = second; packet = packet } in
    same_parts (h ++ one ∷ []) (h ++ one ∷ []) (s ++ []) s (f + 0) f refl (append-nil s) (add-zero f)
and_handed false h s f second packet =
    same_parts (h ++ []) (h ++ []) (s ++ []) s (f + 0) f refl (append-nil s) (add-zero f)

and_sent : (b : Bool) (h : List ReceivedPacket) (s : List Packet) (f : ℕ) (packet : Packet)
    → traffic_and (parts h s f) (cond b (sent_all (packet ∷ [])) no_traffic) ≡ parts h (s ++ cond b (packet ∷ []) []) f
and_sent true h s f packet =
    same_parts (h ++ []) h (s ++ packet ∷ []) (s ++ packet ∷ []) (f + 0) f (append-nil h) refl (add-zero f)
and_sent false h s f packet =
    same_parts (h ++ []) h (s ++ []) (s ++ []) (f + 0) f (append-nil h) refl (add-zero f)

and_failed : (b : Bool) (h : List ReceivedPacket) (s : List Packet) (f : ℕ)
    → traffic_and (parts h s f) (cond b failed_once no_traffic) ≡ parts h s (f + cond b 1 0)
and_failed true h s f = same_parts (h ++ []) h (s ++ []) s (f + 1) (f + 1) (append-nil h) (append-nil s) refl
and_failed false h s f = same_parts (h ++ []) h (s ++ []) s (f + 0) (f + 0) (append-nil h) (append-nil s) refl

map_more : (b : Bool) (went : List ForwardedPacket) (w : ForwardedPacket)
    → map packet_of (went ++ cond b (w ∷ []) []) ≡ map packet_of went ++ cond b (w.packet ∷ []) []
map_more true [] w = refl
map_more false [] w = refl
map_more b (x ∷ went) w = ap (λ t. x.packet ∷ t) (map_more b went w)

-- ---- the other end

pub far_same : (wire new : Wire) (e : ℕ) → came_by new.incoming.log e ≡ came_by wire.incoming.log e
    → went_by new.outgoing.log e ≡ went_by wire.outgoing.log e → new.calls ≡ wire.calls
    → far_end wire e ≡ far_end new e
far_same wire new e came went calls =
    same_parts (came_by wire.incoming.log e) (came_by new.incoming.log e) (map packet_of (went_by wire.outgoing.log e))
    (map packet_of (went_by new.outgoing.log e)) (failures_by wire.calls e) (failures_by new.calls e) (sym came)
    (ap (map packet_of) (sym went)) (ap (λ k. failures_by k e) (sym calls))

pub far_came : (wire new : Wire) (d second : ℕ) (packet : Packet) (e : ℕ)
    → came_by new.incoming.log e
    ≡ came_by wire.incoming.log e ++ of_device d e (record { second = second; packet = packet })
    → went_by new.outgoing.log e ≡ went_by wire.outgoing.log e → new.calls ≡ wire.calls
    → traffic_and (far_end wire e) (at_port d e (handed_at second packet)) ≡ far_end new e
far_came wire new d second packet e came went calls =
    and_handed (d == e) (came_by wire.incoming.log e) (map packet_of (went_by wire.outgoing.log e))
    (failures_by wire.calls e) second packet
    ∙ same_parts (came_by wire.incoming.log e ++ of_device d e (record { second = second; packet = packet }))
    (came_by new.incoming.log e) (map packet_of (went_by wire.outgoing.log e))
    (map packet_of (went_by new.outgoing.log e)) (failures_by wire.calls e) (failures_by new.calls e) (sym came)
    (ap (map packet_of) (sym went)) (ap (λ k. failures_by k e) (sym calls))

pub far_went : (wire new : Wire) (d : ℕ) (w : ForwardedPacket) (e : ℕ)
    → came_by new.incoming.log e ≡ came_by wire.incoming.log e
    → went_by new.outgoing.log e ≡ went_by wire.outgoing.log e ++ of_device d e w → new.calls ≡ wire.calls
    → traffic_and (far_end wire e) (at_port d e (sent_all (w.packet ∷ []))) ≡ far_end new e
far_went wire new d w e came went calls =
    and_sent (d == e) (came_by wire.incoming.log e) (map packet_of (went_by wire.outgoing.log e))
    (failures_by wire.calls e) w.packet
    ∙ same_parts (came_by wire.incoming.log e) (came_by new.incoming.log e)
    (map packet_of (went_by wire.outgoing.log e) ++ of_device d e w.packet)
    (map packet_of (went_by new.outgoing.log e)) (failures_by wire.calls e) (failures_by new.calls e) (sym came)
    (sym (ap (map packet_of) went ∙ map_more (d == e) (went_by wire.outgoing.log e) w))
    (ap (λ k. failures_by k e) (sym calls))

pub far_failed : (wire new : Wire) (d e : ℕ) → came_by new.incoming.log e ≡ came_by wire.incoming.log e
    → went_by new.outgoing.log e ≡ went_by wire.outgoing.log e
    → failures_by new.calls e ≡ failures_by wire.calls e + cond (d == e) 1 0
    → traffic_and (far_end wire e) (at_port d e failed_once) ≡ far_end new e
far_failed wire new d e came went calls =
    and_failed (d == e) (came_by wire.incoming.log e) (map packet_of (went_by wire.outgoing.log e))
    (failures_by wire.calls e)
    ∙ same_parts (came_by wire.incoming.log e) (came_by new.incoming.log e)
    (map packet_of (went_by wire.outgoing.log e)) (map packet_of (went_by new.outgoing.log e))
    (failures_by wire.calls e + cond (d == e) 1 0) (failures_by new.calls e) (sym came)
    (ap (map packet_of) (sym went)) (sym calls)

-- nothing yet
far_none : (wire : Wire) (e : ℕ) → came_by wire.incoming.log e ≡ [] → went_by wire.outgoing.log e ≡ []
    → failures_by wire.calls e ≡ 0 → no_traffic ≡ far_end wire e
far_none wire e came went failures =
    same_parts [] (came_by wire.incoming.log e) [] (map packet_of (went_by wire.outgoing.log e)) 0
    (failures_by wire.calls e) (sym came) (ap (map packet_of) (sym went)) (sym failures)

-- ---- a wire

pub whole_new : (plan : Plan) (devices : ℕ) (before : ℕ → Option Traffic) (wire : Wire) → wire.plan ≡ plan
    → AreLanes plan In devices wire.second wire.incoming → AreLanes plan Out devices wire.second wire.outgoing
    → IsIdle plan.late_by wire.second wire.outgoing → ((e : ℕ) → came_by wire.incoming.log e ≡ [])
    → ((e : ℕ) → went_by wire.outgoing.log e ≡ []) → ((e : ℕ) → failures_by wire.calls e ≡ 0)
    → all_notes wire ≡ [] → notes_by plan In devices wire.incoming.log ≡ []
    → notes_by plan Out devices wire.outgoing.log ≡ [] → IsWhole plan devices before before wire
whole_new plan devices before wire plans incoming outgoing idle came went failures notes none_in none_out =
    record {
      wired = record {
        plan_is = plans;
        incoming = incoming;
        outgoing = outgoing;
        carried = λ e.
            carries_same (before e) (before e) no_traffic (far_end wire e) (carries_none (before e))
            (far_none wire e (came e) (went e) (failures e));
        noted = record {
          incoming = ap (notes_going In) notes ∙ sym none_in;
          outgoing = ap (notes_going Out) notes ∙ sym none_out;
        };
      };
      sent = idle;
    }

-- it is asked at a later second, and nothing has gone on yet
pub wired_later : (plan : Plan) (devices : ℕ) (before after : ℕ → Option Traffic) (wire new : Wire)
    → IsWired plan devices before after wire → wire.second ≤ new.second → new.plan ≡ wire.plan
    → new.incoming ≡ wire.incoming → new.outgoing ≡ wire.outgoing
    → ((e : ℕ) → failures_by new.calls e ≡ failures_by wire.calls e) → all_notes new ≡ all_notes wire
    → IsWired plan devices before after new
wired_later plan devices before after wire new w later plans incoming outgoing failures notes =
    record {
      plan_is = plans ∙ w.plan_is;
      incoming = lanes_later plan In devices wire.second new.second wire.incoming new.incoming w.incoming later
          (ap (λ (l : Lane). l.direction) incoming) (ap (λ (l : Lane). l.counts.items) incoming)
          (ap (λ (l : Lane). l.held.items) incoming) (ap (λ (l : Lane). l.free) incoming)
          (ap (λ (l : Lane). l.log) incoming);
      outgoing = lanes_later plan Out devices wire.second new.second wire.outgoing new.outgoing w.outgoing later
          (ap (λ (l : Lane). l.direction) outgoing) (ap (λ (l : Lane). l.counts.items) outgoing)
          (ap (λ (l : Lane). l.held.items) outgoing) (ap (λ (l : Lane). l.free) outgoing)
          (ap (λ (l : Lane). l.log) outgoing);
      carried = λ e.
          carries_same (before e) (after e) (far_end wire e) (far_end new e) (w.carried e)
          (same_parts (came_by wire.incoming.log e) (came_by new.incoming.log e)
          (map packet_of (went_by wire.outgoing.log e)) (map packet_of (went_by new.outgoing.log e))
          (failures_by wire.calls e) (failures_by new.calls e) (ap (λ (l : Lane). came_by l.log e) (sym incoming))
          (ap (λ (l : Lane). map packet_of (went_by l.log e)) (sym outgoing)) (sym (failures e)));
      noted = noted_same plan devices wire new w.noted notes
          (ap (λ (l : Lane). notes_by plan In devices l.log) incoming)
          (ap (λ (l : Lane). notes_by plan Out devices l.log) outgoing);
    }

pub idle_at : (plan a : Plan) (m n : ℕ) (lane : Lane) → a ≡ plan → n ≡ m → IsIdle a.late_by m lane
    → IsIdle plan.late_by n lane
idle_at plan a m n lane plans seconds idle =
    subst (λ p. IsIdle p.late_by n lane) plans (subst (λ k. IsIdle a.late_by k lane) (sym seconds) idle)

-- what comes of a datagram that is taken in
pub taken_in : (r : Result Receipt PortsFault) (old new : Bool) (P W : Type 0) → IfErr r (λ _. new ≡ false)
    → OnOk r (new ≡ old) → (old ≡ true → W) → (W → OnOk r P) → new ≡ true → P
taken_in (Ok x) old new P W broken same w f h = f (w (sym same ∙ h))
taken_in (Err e) old new P W broken same w f h =
    let both : true ≡ false = sym h ∙ broken in
    let no : ⊥ = cc in
    absurd no

-- it goes on, and the ports below it carry this
pub wired_on : (plan : Plan) (devices : ℕ) (before between after : ℕ → Option Traffic) (wire new : Wire)
    (more : ℕ → Traffic) → IsWired plan devices before between wire → new.plan ≡ wire.plan
    → AreLanes plan In devices new.second new.incoming → AreLanes plan Out devices new.second new.outgoing
    → ((e : ℕ) → Carries (between e) (after e) (more e))
    → ((e : ℕ) → traffic_and (far_end wire e) (more e) ≡ far_end new e) → AreNoted plan devices new
    → IsWired plan devices before after new
wired_on plan devices before between after wire new more w plans incoming outgoing carries ends noted =
    record {
      plan_is = plans ∙ w.plan_is;
      incoming = incoming;
      outgoing = outgoing;
      carried = λ e.
          carries_both (before e) (between e) (after e) (far_end wire e) (more e) (far_end new e) (w.carried e)
          (carries e) (ends e);
      noted = noted;
    }

-- it goes on, and they carry nothing
pub wired_still : (plan : Plan) (devices : ℕ) (before after : ℕ → Option Traffic) (wire new : Wire)
    → IsWired plan devices before after wire → new.plan ≡ wire.plan
    → AreLanes plan In devices new.second new.incoming → AreLanes plan Out devices new.second new.outgoing
    → ((e : ℕ) → far_end wire e ≡ far_end new e) → AreNoted plan devices new → IsWired plan devices before after new
wired_still plan devices before after wire new w plans incoming outgoing ends noted =
    record {
      plan_is = plans ∙ w.plan_is;
      incoming = incoming;
      outgoing = outgoing;
      carried = λ e.
          carries_same (before e) (after e) (far_end wire e) (far_end new e) (w.carried e) (ends e);
      noted = noted;
    }

abbrev pub Comes : Plan → ℕ → Wire → Wire → Type 0
Comes plan devices wire new =
    AreLanes plan In devices wire.second wire.incoming → wire.second ≤ wire.second
    → IsIdle plan.late_by wire.second wire.incoming → AreLanes plan In devices wire.second new.incoming

-- and it is noted
abbrev pub IsNotedIn : Plan → ℕ → Wire → Wire → Note → Type 0
IsNotedIn plan devices wire new note =
    AreLanes plan In devices wire.second wire.incoming
    → notes_by plan In devices new.incoming.log ≡ notes_by plan In devices wire.incoming.log ++ noted_with note

-- a datagram has come for a device
pub wired_in : (plan : Plan) (devices : ℕ) (before between after : ℕ → Option Traffic) (wire new : Wire) (d : ℕ)
    (packet : Packet) → IsWhole plan devices before between wire
    → IsIdle wire.plan.late_by wire.second wire.incoming → Comes wire.plan devices wire new → new.plan ≡ wire.plan
    → new.second ≡ wire.second → new.outgoing ≡ wire.outgoing → new.calls ≡ wire.calls
    → ((e : ℕ) → came_by new.incoming.log e
    ≡ came_by wire.incoming.log e ++ of_device d e (record { second = wire.second; packet = packet }))
    → ((e : ℕ) → Carries (between e) (after e) (at_port d e (handed_at wire.second packet))) → (note : Note)
    → note.direction ≡ In → all_notes new ≡ all_notes wire ++ noted_with note
    → IsNotedIn wire.plan devices wire new note → IsWhole plan devices before after new
wired_in plan devices before between after wire new d packet w idle comes plans seconds outgoing calls came carries note
    way notes noted =
    record {
      wired = wired_on plan devices before between after wire new (λ e. at_port d e (handed_at wire.second packet))
          w.wired plans
          (subst (λ n. AreLanes plan In devices n new.incoming) (sym seconds)
          (subst (λ p. Comes p devices wire new) w.wired.plan_is comes w.wired.incoming (omega arith)
          (subst (λ p. IsIdle p.late_by wire.second wire.incoming) w.wired.plan_is idle)))
          (subst (λ n. AreLanes plan Out devices n new.outgoing) (sym seconds)
          (subst (AreLanes plan Out devices wire.second) (sym outgoing) w.wired.outgoing)) carries
          (λ e. far_came wire new d wire.second packet e (came e) (ap (λ l. went_by l.log e) outgoing) calls)
          (noted_in plan devices wire new note w.wired.noted way notes
          (subst (λ p. IsNotedIn p devices wire new note) w.wired.plan_is noted w.wired.incoming) outgoing);
      sent = subst (λ n. IsIdle plan.late_by n new.outgoing) (sym seconds)
          (subst (IsIdle plan.late_by wire.second) (sym outgoing) w.sent);
    }

abbrev pub ComesOut : Plan → ℕ → Wire → Wire → Type 0
ComesOut plan devices wire new =
    AreLanes plan Out devices wire.second wire.outgoing → wire.second ≤ wire.second
    → IsIdle plan.late_by wire.second wire.outgoing → AreLanes plan Out devices wire.second new.outgoing

-- and it is noted
abbrev pub IsNotedOut : Plan → ℕ → Wire → Wire → Note → Type 0
IsNotedOut plan devices wire new note =
    AreLanes plan Out devices wire.second wire.outgoing
    → notes_by plan Out devices new.outgoing.log ≡ notes_by plan Out devices wire.outgoing.log ++ noted_with note

-- a datagram has come from a device
pub wired_out : (plan : Plan) (devices : ℕ) (before after : ℕ → Option Traffic) (wire new : Wire)
    → IsWhole plan devices before after wire → ComesOut wire.plan devices wire new → new.plan ≡ wire.plan
    → new.second ≡ wire.second → new.incoming ≡ wire.incoming → new.calls ≡ wire.calls
    → ((e : ℕ) → went_by new.outgoing.log e ≡ went_by wire.outgoing.log e) → (note : Note)
    → note.direction ≡ Out → all_notes new ≡ all_notes wire ++ noted_with note
    → IsNotedOut wire.plan devices wire new note → IsWired plan devices before after new
wired_out plan devices before after wire new w comes plans seconds incoming calls went note way notes noted =
    wired_still plan devices before after wire new w.wired plans
    (subst (λ n. AreLanes plan In devices n new.incoming) (sym seconds)
    (subst (AreLanes plan In devices wire.second) (sym incoming) w.wired.incoming))
    (subst (λ n. AreLanes plan Out devices n new.outgoing) (sym seconds)
    (subst (λ p. ComesOut p devices wire new) w.wired.plan_is comes w.wired.outgoing (omega arith) w.sent))
    (λ e. far_same wire new e (ap (λ l. came_by l.log e) incoming) (went e) calls)
    (noted_out plan devices wire new note w.wired.noted way notes
    (subst (λ p. IsNotedOut p devices wire new note) w.wired.plan_is noted w.wired.outgoing) incoming)

-- nothing changes at the other end
pub whole_from : (plan : Plan) (devices : ℕ) (before after : ℕ → Option Traffic) (wire new : Wire)
    → IsWhole plan devices before after wire → IsWired plan devices before after new → new.second ≡ wire.second
    → new.outgoing ≡ wire.outgoing → IsWhole plan devices before after new
whole_from plan devices before after wire new w is seconds outgoing =
    record {
      wired = is;
      sent = subst (λ n. IsIdle plan.late_by n new.outgoing) (sym seconds)
          (subst (IsIdle plan.late_by wire.second) (sym outgoing) w.sent);
    }

-- what holds in any case holds where nothing was handed out and nothing failed
pub quiet_if : (r : Result Receipt PortsFault) (claim : Type 0) → claim → IsQuietUnless r claim
quiet_if (Ok Nothing) claim h = h
quiet_if (Ok (Arrived arrival)) claim h = tt
quiet_if (Ok Dropped) claim h = h
quiet_if (Ok (Failed device)) claim h = h
quiet_if (Err fault) claim h = tt

pub if_ok : {T E : Type 0} (r : Result T E) (P Q : Type 0) → OnOk r Q → (Q → P) → OnOk r P
if_ok (Ok x) P Q q f = f q
if_ok (Err e) P Q q f = tt
