-- What holds of seconds holds of ticks.
use Rattle.std.proofs.Common.{◌≡◌, ℕ, zero, suc, List, [], ◌∷◌, map, refl, sym, ap, subst, arith}
use Rattle.std.specs.List.{AllByRecursion, Contains}
use Rattle.lemmas.proofs.Lists.{contains_later}
use Rattle.device_notifications.specs.Second.{quiet_sweep as still}
use Rattle.device_notifications.specs.declared.datagram.Datagram.{Datagram}
use Rattle.device_machine.specs.Reactions.{flat_after, send_of, sweep_in}
use Rattle.device_machine.specs.State.{Machine}
use Rattle.device_machine.specs.declared.event.Event.TheVariants.{Firmware, Put, Recv, Tick}
use Rattle.laws_device.specs.Notifying.{IsSettled}
use Rattle.laws_device.specs.Ticking.{IsQuiet, SettledRowsAreQuiet, SettledTicksAreQuiet, TicksNotifyForCause}
use Rattle.laws_device.specs.Ticking.{TicksSendAgain, TicksSendCaused}
use Rattle.laws_device.proofs.Causes.{seconds_for_cause}
use Rattle.laws_device.proofs.Sent.{seconds_send_again, seconds_send_caused}
use Rattle.laws_device.proofs.Settled.{settled_are_quiet}

pub for_cause : TicksNotifyForCause
for_cause f n =
    record {
      datagrams = (sweep_in f.kept n).sent;
      sent = refl;
      each = seconds_for_cause f.kept.client f.kept.clock n f.kept.next_id f.kept.observations;
    }

-- what is among the datagrams is among what is output
among : (ds : List Datagram) (d : Datagram) → Contains ds d → Contains (map send_of ds) (send_of d)
among [] d h = absurd (omega (arith, h.1))
among (e ∷ ds) d (zero, inside, is) = (0, omega arith, ap send_of is)
among (e ∷ ds) d (suc k, inside, is) =
    contains_later (send_of e) (send_of d) (map send_of ds) (among ds d (k, omega arith, is))

pub send_caused : TicksSendCaused
send_caused f n k o within there due =
    let told =
    seconds_send_caused f.kept.client f.kept.clock n k f.kept.next_id f.kept.observations o within there due in
    (told.0, among (sweep_in f.kept n).sent told.0 told.1, told.2)

pub send_again : TicksSendAgain
send_again f n k o within there is =
    let again =
    seconds_send_again f.kept.client f.kept.clock n k f.kept.next_id f.kept.observations o within there is in
    (again.0, among (sweep_in f.kept n).sent again.0 again.1, again.2)

-- a tick is quiet whose seconds send nothing and change nothing
pub by_seconds : (f : Machine) (n : ℕ) → sweep_in f.kept n ≡ still f.kept.next_id f.kept.observations → IsQuiet f n
by_seconds f n same =
    record {
      sent = ap (λ t. map send_of t.sent) same;
      client = refl;
      observations = ap (λ t. t.left) same;
      clock = refl;
      next_id = ap (λ t. t.next_id) same;
      recorded = refl;
    }

pub quiet : SettledTicksAreQuiet
quiet f n h =
    by_seconds f n (settled_are_quiet f.kept.client f.kept.clock n f.kept.next_id f.kept.observations h)

-- ---- rows

carried : (f g : Machine) → AllByRecursion (IsSettled f.kept.client) f.kept.observations
    → g.kept.client ≡ f.kept.client → g.kept.observations ≡ f.kept.observations
    → AllByRecursion (IsSettled g.kept.client) g.kept.observations
carried f g h client observations =
    subst (λ c. AllByRecursion (IsSettled c) g.kept.observations) (sym client)
    (subst (λ os. AllByRecursion (IsSettled f.kept.client) os) (sym observations) h)

pub rows_quiet : SettledRowsAreQuiet
rows_quiet f [] h still = tt
rows_quiet f (Tick n ∷ events) h still =
    let q = quiet f n h in
    let g = flat_after f (Tick n) in
    (q.sent, rows_quiet g events (carried f g h q.client q.observations) still.1)
rows_quiet f (Recv server bytes ∷ events) h still =
    let g = flat_after f (Recv server bytes) in
    (tt, rows_quiet g events (carried f g h still.0.client still.0.observations) still.1)
rows_quiet f (Put path value ∷ events) h still =
    let g = flat_after f (Put path value) in
    (tt, rows_quiet g events (carried f g h still.0.client still.0.observations) still.1)
rows_quiet f (Firmware code ∷ events) h still =
    let g = flat_after f (Firmware code) in
    (tt, rows_quiet g events (carried f g h still.0.client still.0.observations) still.1)
