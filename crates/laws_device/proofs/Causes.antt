-- Each notification has its cause.
use Rattle.std.proofs.Common.{◌≡◌, ◌≢◌, ℕ, zero, suc, ◌+◌, ◌<◌, ◌≤◌, Bool, true, false, not, cond}
use Rattle.std.proofs.Common.{◌||◌, ℤ, List, [], ◌∷◌, Option, None, Some}
use Rattle.std.proofs.Common.{refl, sym, ap, subst, ◌∙◌, arith, inl, inr}
use Rattle.std.specs.List.{AllByRecursion}
use Rattle.std.specs.Str.{bytes_eq}
use Rattle.std.proofs.lemmas.Bool.Decides.{nat_tests}
use Rattle.std.proofs.lemmas.Slice.Eq.{bytes_eq-Decides}
use Rattle.std.proofs.lemmas.Bool.{or_left, or_right, not-true, not_from_false}
use Rattle.lemmas.proofs.Lists.{each_appended, each_weaker, contains_later}
use Rattle.notifier.specs.Trigger.{differ, has_condition, is_above, is_below, is_due, is_triggered}
use Rattle.notifier.specs.Trigger.{crosses_gt as crossed_gt, crosses_lt as crossed_lt, number_triggers}
use Rattle.notifier.specs.Trigger.{steps_st as stepped_st}
use Rattle.notifier.specs.declared.attribute.Name.TheVariants as name
use Rattle.notifier.specs.declared.observation.Observation.{Observation}
use Rattle.device_requests.specs.Client.{Client}
use Rattle.device_notifications.specs.Period.{pmin_of, pmax_of}
use Rattle.device_notifications.specs.Report.{number_at}
use Rattle.device_notifications.specs.Message.{open_notification}
use Rattle.device_notifications.specs.Second.{age_of, is_due_now, present_answer, second, seconds, triggers_now}
use Rattle.device_notifications.specs.Second.{turn_of}
use Rattle.device_notifications.specs.declared.datagram.Datagram.{Datagram}
use Rattle.device_notifications.proofs.Turns.{by_all, first_of, of_option, due_waits}
use Rattle.laws_device.specs.Notifying.{IsCaused, IsCausedBy, IsCausedInOneOf, NotifiesForCause, Passes}
use Rattle.laws_device.specs.Notifying.{SecondsNotifyForCause, condition}
use Rattle.laws_device.specs.Notifying.IsCaused.{elapsed, passed, changed}
use Rattle.laws_device.specs.Notifying.Passes.{crosses_gt, crosses_lt, steps_st}

-- ---- thresholds

differ_true : (a b : Bool) → differ a b ≡ true → a ≢ b
differ_true true true h e = cc
differ_true true false h e = cc
differ_true false true h e = cc
differ_true false false h e = cc

true_differ : (a b : Bool) → a ≢ b → differ a b ≡ true
true_differ true true h = absurd (h refl)
true_differ true false h = refl
true_differ false true h = refl
true_differ false false h = absurd (h refl)

one_of : (a b : Bool) (P : Type 0) → (a || b) ≡ true → (a ≡ true → P) → (b ≡ true → P) → P
one_of true b P h l r = l refl
one_of false b P h l r = r h

gt_passes : (gt lt st : Option ℤ) (old now : ℤ) → crossed_gt gt old now ≡ true → Passes gt lt st old now
gt_passes None lt st old now h = cc
gt_passes (Some z) lt st old now h = crosses_gt z refl (differ_true (is_above z old) (is_above z now) h)

lt_passes : (gt lt st : Option ℤ) (old now : ℤ) → crossed_lt lt old now ≡ true → Passes gt lt st old now
lt_passes gt None st old now h = cc
lt_passes gt (Some z) st old now h = crosses_lt z refl (differ_true (is_below z old) (is_below z now) h)

st_passes : (gt lt st : Option ℤ) (old now : ℤ) → stepped_st st old now ≡ true → Passes gt lt st old now
st_passes gt lt None old now h = cc
st_passes gt lt (Some z) old now h = steps_st z refl h

passes : (gt lt st : Option ℤ) (old now : ℤ) → number_triggers gt lt st old now ≡ true → Passes gt lt st old now
passes gt lt st old now h =
    one_of (crossed_gt gt old now) (crossed_lt lt old now || stepped_st st old now) (Passes gt lt st old now) h
    (gt_passes gt lt st old now)
    (λ r. one_of (crossed_lt lt old now) (stepped_st st old now) (Passes gt lt st old now) r
    (lt_passes gt lt st old now) (st_passes gt lt st old now))

passing : (gt lt st : Option ℤ) (old now : ℤ) → Passes gt lt st old now → number_triggers gt lt st old now ≡ true
passing gt lt st old now (crosses_gt z is h) =
    or_left (crossed_gt gt old now) (crossed_lt lt old now || stepped_st st old now)
    (ap (λ g. crossed_gt g old now) is ∙ true_differ (is_above z old) (is_above z now) h)
passing gt lt st old now (crosses_lt z is h) =
    or_right (crossed_gt gt old now) (crossed_lt lt old now || stepped_st st old now)
    (or_left (crossed_lt lt old now) (stepped_st st old now)
    (ap (λ l. crossed_lt l old now) is ∙ true_differ (is_below z old) (is_below z now) h))
passing gt lt st old now (steps_st z is h) =
    or_right (crossed_gt gt old now) (crossed_lt lt old now || stepped_st st old now)
    (or_right (crossed_lt lt old now) (stepped_st st old now) (ap (λ s. stepped_st s old now) is ∙ h))

-- ---- triggers

unlike : (p q : List ℕ) → bytes_eq p q ≡ false → q ≢ p
unlike p q h e = let k : bytes_eq p q ≡ true = (bytes_eq-Decides p q).1 (sym e) in cc

unequal : (p q : List ℕ) → q ≢ p → bytes_eq p q ≡ false
unequal p q h =
    elim (bytes_eq p q) as (λ b. bytes_eq p q ≡ b → b ≡ false) [
      | true ↦ λ e. absurd (h (sym ((bytes_eq-Decides p q).0 e)))
      | false ↦ λ e. refl
    ] refl

chosen : (b : Bool) (x y : Bool) (P : Type 0) → cond b x y ≡ true → (b ≡ true → x ≡ true → P)
    → (b ≡ false → y ≡ true → P) → P
chosen true x y P h l r = l refl h
chosen false x y P h l r = r refl h

-- a trigger is one of two, each under its conditions
by_trigger : (gt lt st a b : Option ℤ) (p q : List ℕ) (P : Type 0)
    → ((x y : ℤ) → a ≡ Some x → b ≡ Some y → has_condition gt lt st ≡ true → number_triggers gt lt st x y ≡ true → P)
    → (((x y : ℤ) → has_condition gt lt st ≡ true → a ≡ Some x → b ≡ Some y → ⊥) → bytes_eq p q ≡ false → P)
    → is_triggered gt lt st a b p q ≡ true → P
by_trigger gt lt st None b p q P l r h = r (λ x y c e f. cc) (not-true (bytes_eq p q) h)
by_trigger gt lt st (Some x) None p q P l r h = r (λ x y c e f. cc) (not-true (bytes_eq p q) h)
by_trigger gt lt st (Some x) (Some y) p q P l r h =
    chosen (has_condition gt lt st) (number_triggers gt lt st x y) (not (bytes_eq p q)) P h
    (λ c t. l x y refl refl c t) (λ c n. r (λ v w d e f. cc) (not-true (bytes_eq p q) n))

trigger_of_numbers : (gt lt st a b : Option ℤ) (p q : List ℕ) (x y : ℤ) → a ≡ Some x → b ≡ Some y
    → has_condition gt lt st ≡ true → number_triggers gt lt st x y ≡ true → is_triggered gt lt st a b p q ≡ true
trigger_of_numbers gt lt st a b p q x y e f c t =
    ap (λ v. is_triggered gt lt st v b p q) e ∙ ap (λ v. is_triggered gt lt st (Some x) v p q) f
    ∙ ap (λ v. cond v (number_triggers gt lt st x y) (not (bytes_eq p q))) c ∙ t

unless : (c n : Bool) → (c ≡ true → ⊥) → n ≡ true → (m : Bool) → cond c m n ≡ true
unless true n h k m = absurd (h refl)
unless false n h k m = k

trigger_of_payloads : (gt lt st a b : Option ℤ) (p q : List ℕ)
    → ((x y : ℤ) → has_condition gt lt st ≡ true → a ≡ Some x → b ≡ Some y → ⊥)
    → bytes_eq p q ≡ false → is_triggered gt lt st a b p q ≡ true
trigger_of_payloads gt lt st None b p q h e = not_from_false (bytes_eq p q) e
trigger_of_payloads gt lt st (Some x) None p q h e = not_from_false (bytes_eq p q) e
trigger_of_payloads gt lt st (Some x) (Some y) p q h e =
    unless (has_condition gt lt st) (not (bytes_eq p q)) (λ c. h x y c refl refl) (not_from_false (bytes_eq p q) e)
    (number_triggers gt lt st x y)

-- ---- what is due

over_now : (age pmin pmax : ℕ) → is_due age pmin (Some pmax) false ≡ true
    → (0 < pmax) × (pmin ≤ pmax) × (pmax ≤ age)
over_now age pmin pmax h = (grind (arith, nat_tests), grind (arith, nat_tests), grind (arith, nat_tests))

not_due : (age pmin : ℕ) → is_due age pmin None false ≡ true → ⊥
not_due age pmin h = grind (arith, nat_tests)

-- what is due was triggered, or its pmax is over
by_due : (age pmin : ℕ) (pmax : Option ℕ) (t : Bool) (P : Type 0) → is_due age pmin pmax t ≡ true → (t ≡ true → P)
    → ((m : ℕ) → pmax ≡ Some m → 0 < m → pmin ≤ m → m ≤ age → P) → P
by_due age pmin pmax true P h l r = l refl
by_due age pmin None false P h l r = absurd (not_due age pmin h)
by_due age pmin (Some m) false P h l r = let o = over_now age pmin m h in r m refl o.0 o.1 o.2

waited_due : (age pmin : ℕ) (pmax : Option ℕ) → pmin ≤ age → is_due age pmin pmax true ≡ true
waited_due age pmin None w = grind (arith, nat_tests)
waited_due age pmin (Some m) w = grind (arith, nat_tests)

over_due : (age pmin pmax : ℕ) (t : Bool) → pmin ≤ age → 0 < pmax → pmin ≤ pmax → pmax ≤ age
    → is_due age pmin (Some pmax) t ≡ true
over_due age pmin pmax true w a f o = grind (arith, nat_tests)
over_due age pmin pmax false w a f o = grind (arith, nat_tests)

cause_of : (client : Client) (clock : ℕ) (o : Observation)
    → is_due_now client clock o (present_answer client o).payload ≡ true → IsCaused client clock o
cause_of client clock o due =
    let gt = condition client o name.Gt in
    let lt = condition client o name.Lt in
    let st = condition client o name.St in
    by_due (age_of clock o) (pmin_of client o.server o.path) (pmax_of client o.server o.path)
    (triggers_now client o (present_answer client o).payload) (IsCaused client clock o) due
    (by_trigger gt lt st o.report.number (number_at client o.path) o.report.payload (present_answer client o).payload
    (IsCaused client clock o)
    (λ x y e f c t. passed x y (record { condition_is_set = c; reported = e; present_is = f })
    (passes gt lt st x y t))
    (λ none n. changed (λ x y c. none x y c.condition_is_set c.reported c.present_is)
    (unlike o.report.payload (present_answer client o).payload n)))
    (λ m is above follows over. elapsed m is above follows over)

pub due_of : (client : Client) (clock : ℕ) (o : Observation) → pmin_of client o.server o.path ≤ age_of clock o
    → IsCaused client clock o
    → is_due_now client clock o (present_answer client o).payload ≡ true
due_of client clock o w (elapsed m is above follows over) =
    ap (λ p. is_due (age_of clock o) (pmin_of client o.server o.path) p
    (triggers_now client o (present_answer client o).payload)) is
    ∙ over_due (age_of clock o) (pmin_of client o.server o.path) m
    (triggers_now client o (present_answer client o).payload) w
    above follows over
due_of client clock o w (passed x y c p) =
    ap (is_due (age_of clock o) (pmin_of client o.server o.path) (pmax_of client o.server o.path))
    (trigger_of_numbers (condition client o name.Gt) (condition client o name.Lt) (condition client o name.St)
    o.report.number (number_at client o.path) o.report.payload
    (present_answer client o).payload x y c.reported c.present_is
    c.condition_is_set
    (passing (condition client o name.Gt) (condition client o name.Lt) (condition client o name.St) x y p))
    ∙ waited_due (age_of clock o) (pmin_of client o.server o.path) (pmax_of client o.server o.path) w
due_of client clock o w (changed none n) =
    ap (is_due (age_of clock o) (pmin_of client o.server o.path) (pmax_of client o.server o.path))
    (trigger_of_payloads (condition client o name.Gt) (condition client o name.Lt) (condition client o name.St)
    o.report.number (number_at client o.path) o.report.payload (present_answer client o).payload
    (λ x y c e f. none x y (record { condition_is_set = c; reported = e; present_is = f }))
    (unequal o.report.payload (present_answer client o).payload n))
    ∙ waited_due (age_of clock o) (pmin_of client o.server o.path) (pmax_of client o.server o.path) w

-- ---- each datagram of a second, and of more

sent_by : (client : Client) (clock next_id : ℕ) (o : Observation) (os : List Observation)
    → AllByRecursion (IsCausedBy client clock (o ∷ os)) (turn_of client clock next_id o).sent
sent_by client clock next_id o os =
    by_all client clock next_id o (λ t. AllByRecursion (IsCausedBy client clock (o ∷ os)) t.sent)
    (λ is content due. (
      (
        o,
        first_of o os,
        inl (
          record {
            mid = next_id;
            evaluated = is;
            message = refl;
            content = content;
            waited =
                due_waits (age_of clock o) (pmin_of client o.server o.path) (pmax_of client o.server o.path)
                (triggers_now client o (present_answer client o).payload) due;
          },
          cause_of client clock o due,
        ),
      ),
      tt,
    ))
    (λ is content rests. tt)
    (λ is no_content. (
      (
        o,
        first_of o os,
        inr (inl (record { mid = next_id; evaluated = is; message = refl; no_content = no_content })),
      ),
      tt,
    ))
    (λ is. tt)
    (λ is. of_option (open_notification o) (IsCausedBy client clock (o ∷ os))
    (λ d is_open. (o, first_of o os, inr (inr (record { resends = is; message = is_open })))))
    (λ is. tt)

pub for_cause : NotifiesForCause
for_cause client clock next_id [] = tt
for_cause client clock next_id (o ∷ os) =
    each_appended _ (turn_of client clock next_id o).sent _ (sent_by client clock next_id o os)
    (each_weaker (IsCausedBy client clock os) (IsCausedBy client clock (o ∷ os))
    (λ d h. (h.0, contains_later o h.0 os h.1, h.2)) _
    (for_cause client clock (turn_of client clock next_id o).next_id os))

in_first : (client : Client) (clock n next_id : ℕ) (os : List Observation) (d : Datagram)
    → IsCausedBy client (clock + 1) os d → IsCausedInOneOf client clock (suc n) next_id os d
in_first client clock n next_id os d h =
    let at : clock + 1 ≡ clock + (0 + 1) = omega arith in
    (0, omega arith, subst (λ c. IsCausedBy client c os d) at h)

in_later : (client : Client) (clock n next_id : ℕ) (os : List Observation) (d : Datagram)
    → IsCausedInOneOf client (clock + 1) n (second client (clock + 1) next_id os).next_id
    (second client (clock + 1) next_id os).left d
    → IsCausedInOneOf client clock (suc n) next_id os d
in_later client clock n next_id os d h =
    let at : clock + 1 + (h.0 + 1) ≡ clock + (suc h.0 + 1) = omega arith in (
      suc h.0,
      omega (arith, h.1),
      subst (λ c. IsCausedBy client c (seconds client clock (suc h.0) next_id os).left d) at h.2,
    )

pub seconds_for_cause : SecondsNotifyForCause
seconds_for_cause client clock zero next_id os = tt
seconds_for_cause client clock (suc n) next_id os =
    let t = second client (clock + 1) next_id os in
    each_appended (IsCausedInOneOf client clock (suc n) next_id os) t.sent
    (seconds client (clock + 1) n t.next_id t.left).sent
    (each_weaker (IsCausedBy client (clock + 1) os) (IsCausedInOneOf client clock (suc n) next_id os)
    (in_first client clock n next_id os) t.sent (for_cause client (clock + 1) next_id os))
    (each_weaker (IsCausedInOneOf client (clock + 1) n t.next_id t.left)
    (IsCausedInOneOf client clock (suc n) next_id os)
    (in_later client clock n next_id os)
    (seconds client (clock + 1) n t.next_id t.left).sent
    (seconds_for_cause client (clock + 1) n t.next_id t.left))
