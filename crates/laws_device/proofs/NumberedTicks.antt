-- The message IDs of what observations send.
use Rattle.std.proofs.Common.{◌≡◌, ℕ, zero, suc, ◌+◌, Bool, true, false, List, [], ◌∷◌, ◌++◌, map, Option, None, Some}
use Rattle.std.proofs.Common.{◌↔◌, is_none, option_map, refl, sym, ap, subst, ◌∙◌}
use Rattle.std.specs.Bool.{if◌then◌else◌}
use Rattle.std.specs.List.{AllByRecursion}
use Rattle.std.specs.Option.{option_to_list}
use Rattle.std.proofs.lemmas.List.{append_assoc, map-append}
use Rattle.std.proofs.lemmas.List.Elements.{Contains-append_left, Contains-append_right}
use Rattle.std.proofs.lemmas.Option.{none-some, same_Some}
use Rattle.lemmas.proofs.Lists.{each_appended, each_weaker}
use Rattle.coap_codec.specs.Message.{Message, spelling}
use Rattle.coap_codec.specs.declared.kind.Kind.TheVariants.{Con, Non}
use Rattle.notifier.specs.Observed.{next_number}
use Rattle.notifier.specs.declared.observation.Observation.{Observation}
use Rattle.notifier.specs.declared.observation.Timer.{Timer}
use Rattle.device_requests.specs.Client.{Client}
use Rattle.device_requests.specs.declared.answer.Answer.{Answer}
use Rattle.device_notifications.specs.Message.{notification, open_notification, resent_datagram}
use Rattle.device_notifications.specs.Second.{Sweep, after_next_notification, next_notification, notified_kind}
use Rattle.device_notifications.specs.Second.{present_answer, second, seconds, sends_nons, turn_of}
use Rattle.device_notifications.specs.declared.datagram.Datagram.{Datagram}
use Rattle.device_notifications.proofs.Turns.{by_all, first_of}
use Rattle.device_machine.specs.Reactions.{send_of}
use Rattle.device_machine.specs.State.{Machine}
use Rattle.device_machine.specs.declared.event.Event.{Event}
use Rattle.device_machine.specs.declared.event.Event.TheVariants.{Tick}
use Rattle.device_machine.specs.declared.output.Output.{Output}
use Rattle.device_machine.specs.declared.output.Output.TheVariants.{Send}
use Rattle.laws_device.specs.Numbering.{Gives, HasSent, NumbersOn, WasSent}
use Rattle.laws_device.specs.Numbering.Gives.{none_again, to_con, to_non}
use Rattle.laws_device.proofs.Counted.{Given, given_both, given_free, given_none, given_own}

-- ---- what was sent stays sent

pub sent_still : (before more : List Output) (o : Observation) → WasSent before o → WasSent (before ++ more) o
sent_still before more o h =
    record {
      message = h.message;
      sent = Contains-append_left before more (Send o.server (spelling h.message)) h.sent;
      token = h.token;
      mid = h.mid;
      non = h.non;
      open_is = h.open_is;
    }

pub all_still : (before more : List Output) (os : List Observation) → AllByRecursion (WasSent before) os
    → AllByRecursion (WasSent (before ++ more)) os
all_still before more os h = each_weaker (WasSent before) (WasSent (before ++ more)) (sent_still before more) os h

-- ---- a turn

-- what turns send has message IDs from this one on, and the observations keep those of their last messages
record Numbers (event : Event) (before : List Output) (next : ℕ) (t : Sweep) : Type 0 where
  given : Given event before next (map send_of t.sent) t.next_id
  left : AllByRecursion (WasSent (before ++ map send_of t.sent)) t.left

own_kind : (event : Event) (before : List Output) (server : ℕ) (m : Message) (non : Bool)
    → m.kind ≡ (if non then Non else Con) → Gives event before (Send server (spelling m)) (m.mid ∷ [])
own_kind event before server m true h = to_non server m h
own_kind event before server m false h = to_con server m h

con_not_non : Con ≡ Non → ⊥
con_not_non h = cc

non_when : (non : Bool) (timer : Timer)
    → (is_none (if non then None else Some timer) ≡ true) ↔ ((if non then Non else Con) ≡ Non)
non_when true timer = (λ h. refl, λ h. refl)
non_when false timer = (λ h. cc, λ h. absurd (con_not_non h))

open_when : (non : Bool) (bytes : List ℕ) (first : ℕ) (timer : Timer)
    → (if non then None else Some (record { bytes = bytes; first = first })) ≡ Some timer
    → ((if non then Non else Con) ≡ Con) × (timer.bytes ≡ bytes)
open_when true bytes first timer h = absurd (none-some timer h)
open_when false bytes first timer h =
    (refl, sym (ap (λ (t : Timer). t.bytes) (same_Some (record { bytes = bytes; first = first }) timer h)))

told_sent : (before : List Output) (client : Client) (clock next_id : ℕ) (o : Observation) (answer : Answer)
    → WasSent (before ++ send_of (next_notification client next_id o answer) ∷ [])
    (after_next_notification client clock next_id o answer)
told_sent before client clock next_id o answer =
    let m = notification (notified_kind client) o next_id (Some (next_number o.number)) answer in
    let out = Send o.server (spelling m) in
    record {
      message = m;
      sent = Contains-append_right before (out ∷ []) out (first_of out []);
      token = refl;
      mid = refl;
      non = non_when (sends_nons client) (record { bytes = spelling m; first = client.notify });
      open_is = λ timer is. open_when (sends_nons client) (spelling m) client.notify timer is;
    }

resend_given : (event : Event) (before : List Output) (next : ℕ) (o : Observation) (timer : Option Timer)
    → WasSent before o → o.timer ≡ timer
    → Given event before next (map send_of (option_to_list (option_map (resent_datagram o) timer))) next
resend_given event before next o None h is = given_none event before next
resend_given event before next o (Some timer) h is =
    let sent = h.open_is timer is in
    given_free event before next (Send o.server timer.bytes)
    (subst (λ bytes. Gives event before (Send o.server bytes) []) (sym sent.1)
    (none_again o.server h.message sent.0 h.sent))

turn_numbers : (event : Event) (before : List Output) (client : Client) (clock next_id : ℕ) (o : Observation)
    → WasSent before o → Numbers event before next_id (turn_of client clock next_id o)
turn_numbers event before client clock next_id o h =
    let quiet_left = sent_still before [] o h in
    let m = notification (notified_kind client) o next_id (Some (next_number o.number)) (present_answer client o) in
    let last = notification Non o next_id None (present_answer client o) in
    by_all client clock next_id o (Numbers event before next_id)
    (λ is content due. record {
      given = given_own event before next_id next_id (Send o.server (spelling m))
          (own_kind event before o.server m (sends_nons client) refl) refl;
      left = (told_sent before client clock next_id o (present_answer client o), tt);
    })
    (λ is content rests. record { given = given_none event before next_id; left = (quiet_left, tt) })
    (λ is no_content. record {
      given = given_own event before next_id next_id (Send o.server (spelling last)) (to_non o.server last refl) refl;
      left = tt;
    })
    (λ is. record { given = given_none event before next_id; left = (quiet_left, tt) })
    (λ is. record {
      given = resend_given event before next_id o o.timer h refl;
      left = (sent_still before (map send_of (option_to_list (open_notification o))) o h, tt);
    })
    (λ is. record { given = given_none event before next_id; left = tt })

-- ---- seconds

all_of : (before : List Output) (a b : List Datagram)
    → before ++ map send_of a ++ map send_of b ≡ before ++ map send_of (a ++ b)
all_of before a b =
    append_assoc before (map send_of a) (map send_of b) ∙ ap (λ os. before ++ os) (sym (map-append send_of a b))

given_in_all : (event : Event) (before : List Output) (a b : List Datagram) (x y z : ℕ)
    → Given event before x (map send_of a) y → Given event (before ++ map send_of a) y (map send_of b) z
    → Given event before x (map send_of (a ++ b)) z
given_in_all event before a b x y z h k =
    subst (λ os. Given event before x os z) (sym (map-append send_of a b))
    (given_both event before (map send_of a) (map send_of b) x y z h k)

second_numbers : (event : Event) (before : List Output) (client : Client) (clock next_id : ℕ) (os : List Observation)
    → AllByRecursion (WasSent before) os → Numbers event before next_id (second client clock next_id os)
second_numbers event before client clock next_id [] h =
    record { given = given_none event before next_id; left = tt }
second_numbers event before client clock next_id (o ∷ os) h =
    let t = turn_of client clock next_id o in
    let u = second client clock t.next_id os in
    let first = map send_of t.sent in
    let a = turn_numbers event before client clock next_id o h.0 in
    let b = second_numbers event (before ++ first) client clock t.next_id os (all_still before first os h.1) in
    record {
      given = given_in_all event before t.sent u.sent next_id t.next_id u.next_id a.given b.given;
      left = subst (λ sent. AllByRecursion (WasSent sent) (t.left ++ u.left)) (all_of before t.sent u.sent)
          (each_appended (WasSent (before ++ first ++ map send_of u.sent)) t.left u.left
          (all_still (before ++ first) (map send_of u.sent) t.left a.left) b.left);
    }

seconds_number : (event : Event) (before : List Output) (client : Client) (clock n next_id : ℕ)
    (os : List Observation)
    → AllByRecursion (WasSent before) os → Numbers event before next_id (seconds client clock n next_id os)
seconds_number event before client clock zero next_id os h =
    record { given = given_none event before next_id; left = all_still before [] os h }
seconds_number event before client clock (suc n) next_id os h =
    let t = second client (clock + 1) next_id os in
    let u = seconds client (clock + 1) n t.next_id t.left in
    let a = second_numbers event before client (clock + 1) next_id os h in
    let b = seconds_number event (before ++ map send_of t.sent) client (clock + 1) n t.next_id t.left a.left in
    record {
      given = given_in_all event before t.sent u.sent next_id t.next_id u.next_id a.given b.given;
      left = subst (λ sent. AllByRecursion (WasSent sent) u.left) (all_of before t.sent u.sent) b.left;
    }

pub tick_numbers : (before : List Output) (f : Machine) (n : ℕ) → HasSent before f → NumbersOn before f (Tick n)
tick_numbers before f n h =
    let s = seconds_number (Tick n) before f.kept.client f.kept.clock n f.kept.next_id f.kept.observations
    h.observations in
    record {
      mids = s.given.mids;
      gives = s.given.gives;
      count = s.given.count;
      has_sent = record { observations = s.left; replies = h.replies };
    }
