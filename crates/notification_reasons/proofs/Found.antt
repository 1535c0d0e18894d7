-- The reason that is found is the one reason, and there is none where nothing is done.
use Rattle.std.proofs.Common.{◌≡◌, ℕ, ◌<◌, ◌≤◌, ◌⊎◌, inl, inr, Bool, true, false}
use Rattle.std.proofs.Common.{[], ◌∷◌, Option, None, Some, if◌then◌else◌, refl, sym, ap, subst, ◌∙◌, arith}
use Rattle.std.specs.Option.{MatchOption, option_map, option_to_list}
use Rattle.std.proofs.lemmas.Bool.Decides.{nat_tests}
use Rattle.notification_times.specs.Timeouts.{after_timeouts}
use Rattle.notifier.specs.Resending.{turn_at}
use Rattle.notifier.specs.Trigger.{is_due}
use Rattle.notifier.specs.declared.observation.Observation.{Observation}
use Rattle.notifier.specs.declared.pending.Outlook.{Outlook}
use Rattle.notifier.specs.declared.pending.Pending.TheVariants.{Idle, Changed}
use Rattle.notifier.specs.declared.pending.Pending.TheVariants as pending
use Rattle.notifier.specs.declared.turn.Turn.{Turn}
use Rattle.notifier.specs.declared.turn.Turn.TheVariants.{Evaluate, Wait, Resend, Expire}
use Rattle.device_requests.specs.Answer.{code_byte, is_content}
use Rattle.device_requests.specs.Client.{Client}
use Rattle.device_requests.specs.Ruling.{code_of}
use Rattle.device_notifications.specs.declared.datagram.Datagram.{Datagram}
use Rattle.device_notifications.specs.declared.evaluation.Evaluation.TheVariants.{Quiet, Sends, Gone}
use Rattle.device_notifications.specs.Message.{resent_datagram}
use Rattle.device_notifications.specs.Period.{pmin_of, pmax_of}
use Rattle.device_notifications.specs.Report.{number_at}
use Rattle.device_notifications.specs.Second.{age_of, evaluation_of, is_due_now, present_answer, triggers_now, turn_as}
use Rattle.device_notifications.specs.Second.{quiet_sweep, turn_by, turn_of}
use Rattle.device_notifications.proofs.Turns.{due_waits}
use Rattle.notification_reasons.specs.Finding.{reason_at, reason_by, reason_in, resent_reason, times_of, trigger_of}
use Rattle.notification_reasons.specs.Laws.{DoesFor}
use Rattle.notification_reasons.specs.Reasons.{DoesNothing, IsDueBy, IsEnd, IsGivenUp, IsNotificationReason, IsReady}
use Rattle.notification_reasons.specs.Reasons.{IsResending}
use Rattle.notification_reasons.specs.Reasons.{gt_of, lt_of, st_of}
use Rattle.notification_reasons.specs.declared.reasons.DueBy.{DueBy}
use Rattle.notification_reasons.specs.declared.reasons.DueBy.TheVariants.{Gt, Lt, St, Payload, Pmax}
use Rattle.notification_reasons.specs.declared.reasons.NotificationReason.{NotificationReason}
use Rattle.notification_reasons.specs.declared.reasons.NotificationReason.TheVariants.{Due, Resent, Ended, Unacknowledged}
use Rattle.notification_reasons.proofs.Timing.{given_up, sent_again, times_are}
use Rattle.notification_reasons.proofs.Triggers.{IsBy, choose, gt_is, lt_is, payload_is, st_is, trigger_found}

-- ---- what is due, over plain values

-- what is said of content that triggers or not, and of another answer
abbrev said_of : Bool → Bool → ℕ → Option ℕ → ℕ → Outlook
said_of c t pmin pmax code =
    if c then record { pending = if t then Changed else Idle; pmin = pmin; pmax = pmax }
    else record { pending = pending.Gone code; pmin = pmin; pmax = pmax }

never_due : (age pmin : ℕ) → is_due age pmin None false ≡ true → ⊥
never_due age pmin h = grind (arith, nat_tests)

-- pmax applies, and has elapsed
abbrev IsElapsed : ℕ → ℕ → ℕ → Type 0
IsElapsed age pmin m = (0 < m) × (pmin ≤ m) × (m ≤ age)

elapsed : (age pmin m : ℕ) → is_due age pmin (Some m) false ≡ true → IsElapsed age pmin m
elapsed age pmin m h = (grind (arith, nat_tests), grind (arith, nat_tests), grind (arith, nat_tests))

due_triggered : (age pmin : ℕ) (pmax : Option ℕ) → pmin ≤ age → is_due age pmin pmax true ≡ true
due_triggered age pmin pmax h = grind (arith, nat_tests)

due_elapsed : (age pmin m : ℕ) → pmin ≤ age → IsElapsed age pmin m → is_due age pmin (Some m) false ≡ true
due_elapsed age pmin m h e =
    let above = e.0 in
    let low = e.1 in
    let over = e.2 in
    grind (arith, nat_tests)

-- the reason by whether the answer is content and triggers
by_outlook : (c t : Bool) (age pmin : ℕ) (pmax : Option ℕ) (code : ℕ) (by : DueBy)
    (P : Option NotificationReason → Type 0)
    → (c ≡ true → is_due age pmin pmax t ≡ false → P None)
    → (c ≡ true → t ≡ true → is_due age pmin pmax t ≡ true → pmin ≤ age → P (Some (Due by age pmin)))
    → ((m : ℕ) → c ≡ true → t ≡ false → is_due age pmin pmax t ≡ true → pmax ≡ Some m → pmin ≤ age
    → IsElapsed age pmin m → P (Some (Due (Pmax m) age pmin)))
    → (c ≡ false → P (Some (Ended code)))
    → P (reason_by (said_of c t pmin pmax code) by age)
by_outlook true true age pmin pmax code by P n d m g =
    choose (is_due age pmin pmax true) _ _ P (λ h. d refl refl h (due_waits age pmin pmax true h)) (λ h. n refl h)
by_outlook true false age pmin None code by P n d m g =
    choose (is_due age pmin None false) _ _ P (λ h. absurd (never_due age pmin h)) (λ h. n refl h)
by_outlook true false age pmin (Some k) code by P n d m g =
    choose (is_due age pmin (Some k) false) _ _ P
    (λ h. m k refl refl h refl (due_waits age pmin (Some k) false h) (elapsed age pmin k h)) (λ h. n refl h)
by_outlook false t age pmin pmax code by P n d m g = g refl

-- ---- what is found

-- what the turn does, by the reason that is found
abbrev Tells : Client → ℕ → Observation → Turn → Option NotificationReason → Type 0
Tells client clock o turn found =
    MatchOption found ((next_id : ℕ) → turn_as client clock next_id o turn ≡ quiet_sweep next_id (o ∷ []))
    (λ r. IsNotificationReason client clock o r
    × ((next_id : ℕ) → DoesFor r (turn_as client clock next_id o turn)))

quiet_by : (client : Client) (clock : ℕ) (o : Observation) → is_content (present_answer client o) ≡ true
    → is_due_now client clock o (present_answer client o).payload ≡ false → evaluation_of client clock o ≡ Quiet
quiet_by client clock o c d = rw (c, d) refl

sends_by : (client : Client) (clock : ℕ) (o : Observation) → is_content (present_answer client o) ≡ true
    → is_due_now client clock o (present_answer client o).payload ≡ true
    → evaluation_of client clock o ≡ Sends (present_answer client o)
sends_by client clock o c d = rw (c, d) refl

gone_by : (client : Client) (clock : ℕ) (o : Observation) → is_content (present_answer client o) ≡ false
    → evaluation_of client clock o ≡ Gone (present_answer client o)
gone_by client clock o c = rw c refl

sent_by : (client : Client) (clock next_id : ℕ) (o : Observation) → is_content (present_answer client o) ≡ true
    → is_due_now client clock o (present_answer client o).payload ≡ true
    → (d : Datagram) × ((turn_as client clock next_id o Evaluate).sent ≡ d ∷ [])
sent_by client clock next_id o c d =
    (_, ap (λ v. (turn_by client clock next_id o v).sent) (sends_by client clock o c d))

ready : (client : Client) (clock : ℕ) (o : Observation) → turn_at o clock ≡ Evaluate
    → is_content (present_answer client o) ≡ true → pmin_of client o.server o.path ≤ age_of clock o
    → IsReady client clock o (age_of clock o) (pmin_of client o.server o.path)
ready client clock o is c waited =
    record { evaluated = is; content = c; age_is = refl; pmin_is = refl; waited = waited }

-- what triggers, as the reason has it
due_by : (client : Client) (o : Observation) (age pmin : ℕ)
    → triggers_now client o (present_answer client o).payload ≡ true
    → IsDueBy client o age pmin (trigger_of client o)
due_by client o age pmin h =
    trigger_found (gt_of client o) (lt_of client o) (st_of client o) o.report.number (number_at client o.path)
    o.report.payload (present_answer client o).payload (IsDueBy client o age pmin) h
    (λ a b g old now is holds. (record { old_is = old; now_is = now }, is, holds))
    (λ a b l old now is holds no_gt. (record { old_is = old; now_is = now }, is, holds, no_gt))
    (λ a b s old now is holds no_gt no_lt. (record { old_is = old; now_is = now }, is, holds, no_gt, no_lt))
    (λ which differ. (which, differ))

evaluated_found : (client : Client) (clock : ℕ) (o : Observation) → turn_at o clock ≡ Evaluate
    → Tells client clock o Evaluate (reason_in client clock o Evaluate)
evaluated_found client clock o is =
    by_outlook (is_content (present_answer client o)) (triggers_now client o (present_answer client o).payload)
    (age_of clock o)
    (pmin_of client o.server o.path) (pmax_of client o.server o.path)
    (code_byte (code_of (present_answer client o).ruling))
    (trigger_of client o) (Tells client clock o Evaluate)
    (λ c d next_id. ap (λ v. turn_by client clock next_id o v) (quiet_by client clock o c d))
    (λ c t d waited. (
      (
        ready client clock o is c waited,
        due_by client o (age_of clock o) (pmin_of client o.server o.path) t,
      ),
      λ next_id. let p = sent_by client clock next_id o c d in inl (refl, p.0, p.1),
    ))
    (λ m c t d at waited over. (
      (ready client clock o is c waited, (t, at, over.0, over.1, over.2)),
      λ next_id. let p = sent_by client clock next_id o c d in inl (refl, p.0, p.1),
    ))
    (λ c. (
      record { evaluated = is; no_content = c; code_is = refl },
      λ next_id. inl (refl, _, ap (λ v. (turn_by client clock next_id o v).sent) (gone_by client clock o c)),
    ))

resent_found : (client : Client) (clock : ℕ) (o : Observation) → turn_at o clock ≡ Resend
    → Tells client clock o Resend (reason_in client clock o Resend)
resent_found client clock o is =
    let there = sent_again o.second o.timer clock is in
    let found : Some (Resent (times_of there.0.first (age_of clock o)) (age_of clock o))
    ≡ reason_in client clock o Resend = ap (λ t. resent_reason t (age_of clock o)) (sym there.1) in
    subst (Tells client clock o Resend) found (
      record {
        timer = there.0;
        open_by = there.1;
        resends = is;
        some = there.2.low;
        most = there.2.high;
        second_of = there.2.at;
        after_is = there.2.after;
      },
      λ next_id. inl (
        refl,
        resent_datagram o there.0,
        ap (λ t. option_to_list (option_map (resent_datagram o) t)) there.1,
      ),
    )

given_up_found : (client : Client) (clock : ℕ) (o : Observation) → turn_at o clock ≡ Expire
    → Tells client clock o Expire (reason_in client clock o Expire)
given_up_found client clock o is =
    let there = given_up o.second o.timer clock is in (
      record {
        timer = there.0;
        open_by = there.1;
        expires = is;
        over = there.2.over;
        after_is = there.2.after;
      },
      λ next_id. inr (refl, refl, refl),
    )

found_as : (client : Client) (clock : ℕ) (o : Observation) (turn : Turn) → turn_at o clock ≡ turn
    → Tells client clock o turn (reason_in client clock o turn)
found_as client clock o Evaluate is = evaluated_found client clock o is
found_as client clock o Wait is = λ next_id. refl
found_as client clock o Resend is = resent_found client clock o is
found_as client clock o Expire is = given_up_found client clock o is

-- what the turn of an observation does, and why
pub told : (client : Client) (clock : ℕ) (o : Observation)
    → MatchOption (reason_at client clock o) (DoesNothing client clock o)
    (λ r. IsNotificationReason client clock o r
    × ((next_id : ℕ) → DoesFor r (turn_of client clock next_id o)))
told client clock o = found_as client clock o (turn_at o clock) refl

weaker : (found : Option NotificationReason) (N : Type 0) (P Q : NotificationReason → Type 0)
    → ((r : NotificationReason) → P r → Q r) → MatchOption found N P → MatchOption found N Q
weaker None N P Q f h = h
weaker (Some r) N P Q f h = f r h

pub reason_told : (client : Client) (clock : ℕ) (o : Observation) (found : Option NotificationReason)
    → found ≡ reason_at client clock o
    → MatchOption found (DoesNothing client clock o) (IsNotificationReason client clock o)
reason_told client clock o found is =
    subst (λ r. MatchOption r (DoesNothing client clock o) (IsNotificationReason client clock o)) (sym is)
    (weaker (reason_at client clock o) (DoesNothing client clock o) _ (IsNotificationReason client clock o)
    (λ r h. h.0) (told client clock o))

-- ---- there is no other

due_of : (age pmin : ℕ) (pmax : Option ℕ) (code : ℕ) (by : DueBy) → pmin ≤ age
    → reason_by (said_of true true pmin pmax code) by age ≡ Some (Due by age pmin)
due_of age pmin pmax code by h = rw (due_triggered age pmin pmax h) refl

elapsed_of : (age pmin m : ℕ) (code : ℕ) (by : DueBy) → pmin ≤ age → IsElapsed age pmin m
    → reason_by (said_of true false pmin (Some m) code) by age ≡ Some (Due (Pmax m) age pmin)
elapsed_of age pmin m code by h e = rw (due_elapsed age pmin m h e) refl

-- the reason of one that is evaluated
abbrev reason_from : Client → ℕ → Observation → Bool → Bool → ℕ → ℕ → Option ℕ → DueBy → Option NotificationReason
reason_from client clock o c t age pmin pmax by =
    reason_by (said_of c t pmin pmax (code_byte (code_of (present_answer client o).ruling))) by age

reason_is : (client : Client) (clock : ℕ) (o : Observation) → turn_at o clock ≡ Evaluate
    → reason_at client clock o
    ≡ reason_from client clock o (is_content (present_answer client o))
    (triggers_now client o (present_answer client o).payload)
    (age_of clock o) (pmin_of client o.server o.path) (pmax_of client o.server o.path) (trigger_of client o)
reason_is client clock o is = ap (reason_in client clock o) is

triggered_alone : (client : Client) (clock : ℕ) (o : Observation) (age pmin : ℕ) (by : DueBy)
    → IsReady client clock o age pmin
    → IsBy (gt_of client o) (lt_of client o) (st_of client o) o.report.number (number_at client o.path) o.report.payload
    (present_answer client o).payload by
    → reason_at client clock o ≡ Some (Due by age pmin)
triggered_alone client clock o age pmin by h is =
    reason_is client clock o h.evaluated
    ∙ (λ i. reason_from client clock o (h.content i) (is.triggers i) (h.age_is i) (h.pmin_is i)
    (pmax_of client o.server o.path) (is.found i))
    ∙ due_of age pmin (pmax_of client o.server o.path)
    (code_byte (code_of (present_answer client o).ruling)) by h.waited

elapsed_alone : (client : Client) (clock : ℕ) (o : Observation) (age pmin m : ℕ) → IsReady client clock o age pmin
    → triggers_now client o (present_answer client o).payload ≡ false → pmax_of client o.server o.path ≡ Some m
    → IsElapsed age pmin m → reason_at client clock o ≡ Some (Due (Pmax m) age pmin)
elapsed_alone client clock o age pmin m h none is over =
    reason_is client clock o h.evaluated
    ∙ (λ i. reason_from client clock o (h.content i) (none i) (h.age_is i) (h.pmin_is i) (is i) (trigger_of client o))
    ∙ elapsed_of age pmin m (code_byte (code_of (present_answer client o).ruling)) (trigger_of client o) h.waited over

due_alone : (client : Client) (clock : ℕ) (o : Observation) (age pmin : ℕ) (by : DueBy)
    → IsReady client clock o age pmin → IsDueBy client o age pmin by
    → reason_at client clock o ≡ Some (Due by age pmin)
due_alone client clock o age pmin (Gt a b g) ready h =
    triggered_alone client clock o age pmin (Gt a b g) ready
    (gt_is (gt_of client o) (lt_of client o) (st_of client o) o.report.number (number_at client o.path) o.report.payload
    (present_answer client o).payload a b g h.0.old_is h.0.now_is h.1 h.2)
due_alone client clock o age pmin (Lt a b l) ready h =
    triggered_alone client clock o age pmin (Lt a b l) ready
    (lt_is (gt_of client o) (lt_of client o) (st_of client o) o.report.number (number_at client o.path) o.report.payload
    (present_answer client o).payload a b l h.0.old_is h.0.now_is h.1 h.2 h.3)
due_alone client clock o age pmin (St a b s) ready h =
    triggered_alone client clock o age pmin (St a b s) ready
    (st_is (gt_of client o) (lt_of client o) (st_of client o) o.report.number (number_at client o.path) o.report.payload
    (present_answer client o).payload a b s h.0.old_is h.0.now_is h.1 h.2 h.3 h.4)
due_alone client clock o age pmin Payload ready h =
    triggered_alone client clock o age pmin Payload ready
    (payload_is (gt_of client o) (lt_of client o) (st_of client o) o.report.number (number_at client o.path)
    o.report.payload (present_answer client o).payload h.0 h.1)
due_alone client clock o age pmin (Pmax m) ready h =
    elapsed_alone client clock o age pmin m ready h.0 h.1 (h.2, h.3, h.4)

resent_alone : (client : Client) (clock : ℕ) (o : Observation) (times after : ℕ) → IsResending clock o times after
    → reason_at client clock o ≡ Some (Resent times after)
resent_alone client clock o times after h =
    let there = sent_again o.second o.timer clock h.resends in
    let age : age_of clock o ≡ after = omega (arith, h.after_is) in
    let first : Some h.timer ≡ Some there.0 = sym h.open_by ∙ there.1 in
    let same : h.timer ≡ there.0 = cc in
    let at = subst (λ t. clock ≡ after_timeouts o.second t.first times) same h.second_of in
    let count : times_of there.0.first (age_of clock o) ≡ times =
    times_are o.second there.0.first clock times there.2.some (h.some, h.most, at) in
    ap (reason_in client clock o) h.resends ∙ ap (λ t. resent_reason t (age_of clock o)) there.1
    ∙ (λ i. Some (Resent (count i) (age i)))

ended_alone : (client : Client) (clock : ℕ) (o : Observation) (code : ℕ) → IsEnd client clock o code
    → reason_at client clock o ≡ Some (Ended code)
ended_alone client clock o code h =
    reason_is client clock o h.evaluated
    ∙ ap (λ c. reason_from client clock o c (triggers_now client o (present_answer client o).payload) (age_of clock o)
    (pmin_of client o.server o.path) (pmax_of client o.server o.path) (trigger_of client o)) h.no_content
    ∙ ap (λ n. Some (Ended n)) h.code_is

given_up_alone : (client : Client) (clock : ℕ) (o : Observation) (after : ℕ) → IsGivenUp clock o after
    → reason_at client clock o ≡ Some (Unacknowledged after)
given_up_alone client clock o after h =
    let age : age_of clock o ≡ after = omega (arith, h.after_is) in
    ap (reason_in client clock o) h.expires ∙ ap (λ n. Some (Unacknowledged n)) age

pub alone : (client : Client) (clock : ℕ) (o : Observation) (reason : NotificationReason)
    → IsNotificationReason client clock o reason → reason_at client clock o ≡ Some reason
alone client clock o (Due by age pmin) h = due_alone client clock o age pmin by h.0 h.1
alone client clock o (Resent times after) h = resent_alone client clock o times after h
alone client clock o (Ended code) h = ended_alone client clock o code h
alone client clock o (Unacknowledged after) h = given_up_alone client clock o after h
