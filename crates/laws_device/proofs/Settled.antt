-- With nothing changed and no pmax nothing is sent.
use Rattle.std.proofs.Common.{◌≡◌, ℕ, zero, suc, ◌+◌, ◌*◌, ◌==◌, nat_le, nat_lt, Bool, true, false, not, cond, ℤ, pos}
use Rattle.std.proofs.Common.{negsuc, ◌-ℤ◌, nat_abs, int_le, int_lt, List, [], ◌∷◌, Option, None, Some, refl}
use Rattle.std.proofs.Common.{ap, ◌∙◌, arith}
use Rattle.std.specs.Bool.{if◌then◌else◌}
use Rattle.std.specs.List.{AllByRecursion}
use Rattle.std.specs.Str.{bytes_eq}
use Rattle.std.proofs.lemmas.Bool.Decides.{nat_tests}
use Rattle.std.proofs.lemmas.Int.{ints}
use Rattle.std.proofs.lemmas.Slice.Eq.{bytes_eq-Decides}
use Rattle.lemmas.proofs.Tests.{never_both}
use Rattle.notifier.specs.Trigger.{crosses_gt, crosses_lt, differ, has_condition, is_above, is_below, is_due}
use Rattle.notifier.specs.Trigger.{is_triggered, number_triggers, steps_st}
use Rattle.notifier.specs.declared.attribute.Name.TheVariants as name
use Rattle.notifier.specs.declared.observation.Observation.{Observation}
use Rattle.notifier.specs.declared.turn.Turn.TheVariants.{Resend, Expire}
use Rattle.device_requests.specs.Client.{Client}
use Rattle.device_notifications.specs.Period.{pmin_of}
use Rattle.device_notifications.specs.Report.{number_at}
use Rattle.device_notifications.specs.Second.{age_of, and_then, is_due_now, next_notification, present_answer}
use Rattle.device_notifications.specs.Second.{quiet_sweep, second, seconds, sweep_of_both, triggers_now, turn_of}
use Rattle.device_notifications.proofs.Turns.{by_all}
use Rattle.laws_device.specs.Notifying.{IsSettled, JustReportedIsSettled, SettledAreQuiet, condition}
use Rattle.laws_device.proofs.Sent.{not_expire, not_resend, only_evaluated}

same_bytes : (p : List ℕ) → not (bytes_eq p p) ≡ false
same_bytes p = ap not ((bytes_eq-Decides p p).1 refl)

alike : (a : Bool) → differ a a ≡ false
alike true = refl
alike false = refl

gt_rests : (gt : Option ℤ) (z : ℤ) → crosses_gt gt z z ≡ false
gt_rests None z = refl
gt_rests (Some g) z = alike (is_above g z)

lt_rests : (lt : Option ℤ) (z : ℤ) → crosses_lt lt z z ≡ false
lt_rests None z = refl
lt_rests (Some l) z = alike (is_below l z)

no_step : (z : ℤ) → nat_abs (z -ℤ z) * 1000 ≡ 0
no_step z = omega (arith, ints)

above_zero : (n : ℕ) → nat_lt 0 n ≡ true → nat_le n 0 ≡ false
above_zero n h = grind (arith, nat_tests)

above : (s : ℤ) → int_lt (pos 0) s ≡ true → int_le s (pos 0) ≡ false
above (pos n) h = above_zero n h
above (negsuc n) h = cc

st_rests : (st : Option ℤ) (z : ℤ) → ((s : ℤ) → st ≡ Some s → int_lt (pos 0) s ≡ true) → steps_st st z z ≡ false
st_rests None z h = refl
st_rests (Some s) z h = ap (λ n. int_le s (pos n)) (no_step z) ∙ above s (h s refl)

number_rests : (gt lt st : Option ℤ) (z : ℤ) → ((s : ℤ) → st ≡ Some s → int_lt (pos 0) s ≡ true)
    → number_triggers gt lt st z z ≡ false
number_rests gt lt st z h = rw (gt_rests gt z, lt_rests lt z, st_rests st z h) refl

both_ways : (c a b : Bool) → a ≡ false → b ≡ false → cond c a b ≡ false
both_ways true a b h k = h
both_ways false a b h k = k

not_triggered : (gt lt st : Option ℤ) (a : Option ℤ) (p : List ℕ)
    → ((s : ℤ) → st ≡ Some s → int_lt (pos 0) s ≡ true)
    → is_triggered gt lt st a a p p ≡ false
not_triggered gt lt st None p h = same_bytes p
not_triggered gt lt st (Some z) p h =
    both_ways (has_condition gt lt st) (number_triggers gt lt st z z) (not (bytes_eq p p)) (number_rests gt lt st z h)
    (same_bytes p)

not_due : (age pmin : ℕ) → is_due age pmin None false ≡ false
not_due age pmin = grind (arith, nat_tests)

rests : (client : Client) (clock : ℕ) (o : Observation) → IsSettled client o
    → is_due_now client clock o (present_answer client o).payload ≡ false
rests client clock o h =
    ap (λ p. is_due (age_of clock o) (pmin_of client o.server o.path) p
    (triggers_now client o (present_answer client o).payload)) h.no_pmax
    ∙ ap (λ r. is_due (age_of clock o) (pmin_of client o.server o.path) None
    (is_triggered (condition client o name.Gt) (condition client o name.Lt) (condition client o name.St) r.number
    (number_at client o.path) r.payload (present_answer client o).payload)) h.reported
    ∙ ap (is_due (age_of clock o) (pmin_of client o.server o.path) None)
    (not_triggered (condition client o name.Gt) (condition client o name.Lt) (condition client o name.St)
    (number_at client o.path) (present_answer client o).payload h.st_above_0)
    ∙ not_due (age_of clock o) (pmin_of client o.server o.path)

quiet_turn : (client : Client) (clock next_id : ℕ) (o : Observation) → IsSettled client o
    → turn_of client clock next_id o ≡ quiet_sweep next_id (o ∷ [])
quiet_turn client clock next_id o h =
    by_all client clock next_id o (λ t. t ≡ quiet_sweep next_id (o ∷ []))
    (λ is content due. absurd (never_both _ due (rests client clock o h)))
    (λ is content rest. refl)
    (λ is no_content. absurd (never_both _ h.content no_content))
    (λ is. refl)
    (λ is. absurd (not_resend (only_evaluated o clock Resend h.closed is)))
    (λ is. absurd (not_expire (only_evaluated o clock Expire h.closed is)))

quiet_second : (client : Client) (clock next_id : ℕ) (os : List Observation) → AllByRecursion (IsSettled client) os
    → second client clock next_id os ≡ quiet_sweep next_id os
quiet_second client clock next_id [] h = refl
quiet_second client clock next_id (o ∷ os) h =
    ap (λ t. sweep_of_both t (second client clock t.next_id os)) (quiet_turn client clock next_id o h.0)
    ∙ ap (sweep_of_both (quiet_sweep next_id (o ∷ []))) (quiet_second client clock next_id os h.1)

pub settled_are_quiet : SettledAreQuiet
settled_are_quiet client clock zero next_id os h = refl
settled_are_quiet client clock (suc n) next_id os h =
    ap (λ t. and_then t (seconds client (clock + 1) n t.next_id t.left)) (quiet_second client (clock + 1) next_id os h)
    ∙ ap (and_then (quiet_sweep next_id os)) (settled_are_quiet client (clock + 1) n next_id os h)

pub just_reported : JustReportedIsSettled
just_reported client clock mid o content no_pmax st =
    record {
      of_a_non = λ non. record {
        closed = ap (λ n. if n == 0 then None else Some (record {
          bytes = (next_notification client mid o (present_answer client o)).bytes;
          first = client.notify;
        })) non;
        content = content;
        reported = refl;
        no_pmax = no_pmax;
        st_above_0 = st;
      };
      acknowledged = record {
        closed = refl;
        content = content;
        reported = refl;
        no_pmax = no_pmax;
        st_above_0 = st;
      };
    }
