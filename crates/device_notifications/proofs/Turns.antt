-- What a turn does, by the four turns and the three evaluations, and what a second does by its turns.
use Rattle.std.proofs.Common.{◌≡◌, ◌≢◌, ℕ, zero, suc, ◌+◌, ◌-◌, ◌*◌, ◌%◌, ◌<◌, ◌≤◌, Bool, true, false, List, [], ◌∷◌}
use Rattle.std.proofs.Common.{◌++◌, ◌==◌, nat_le, Option, None, Some, refl, sym, ap, subst, ◌∙◌, arith}
use Rattle.std.specs.Bool.{if◌then◌else◌}
use Rattle.std.specs.List.{AllByRecursion, Contains}
use Rattle.std.specs.Option.{option_map, option_to_list}
use Rattle.std.proofs.lemmas.Bool.{leb-true}
use Rattle.std.proofs.lemmas.Bool.Decides.{nat_tests}
use Rattle.std.proofs.Math.Logic.{◌⊎◌, inl, inr}
use Rattle.lemmas.proofs.Lists.{each_appended, each_weaker, contains_later}
use Rattle.notifier.specs.Resending.{turn_at, turn_with}
use Rattle.notifier.specs.Trigger.{is_due}
use Rattle.notifier.specs.declared.observation.Observation.{Observation}
use Rattle.notifier.specs.declared.observation.Timer.{Timer}
use Rattle.notifier.specs.declared.turn.Turn.{Turn}
use Rattle.notifier.specs.declared.turn.Turn.TheVariants.{Evaluate, Wait, Resend, Expire}
use Rattle.notifier.proofs.Timeouts.{not_evaluated, timed_out}
use Rattle.device_requests.specs.Answer.{is_content}
use Rattle.device_requests.specs.Client.{Client}
use Rattle.device_requests.specs.declared.answer.Answer.{Answer}
use Rattle.device_notifications.specs.declared.datagram.Datagram.{Datagram}
use Rattle.device_notifications.specs.declared.evaluation.Evaluation.{Evaluation}
use Rattle.device_notifications.specs.declared.evaluation.Evaluation.TheVariants.{Quiet, Sends, Gone}
use Rattle.device_notifications.specs.Laws.{IsOf, IsYoung, StayInOrder}
use Rattle.device_notifications.specs.Laws.Stays.{as_it_was, notified_of}
use Rattle.device_notifications.specs.Laws.StayInOrder.{none, stays, goes, expires}
use Rattle.device_notifications.specs.Message.{datagram_of, open_notification, resent_datagram}
use Rattle.device_notifications.specs.Period.{pmin_of, pmax_of}
use Rattle.device_notifications.specs.Second.{Sweep, age_of, evaluation_of, is_due_now, next_notification}
use Rattle.device_notifications.specs.Second.{notified_kind, present_answer, quiet_sweep, second, seconds, triggers_now}
use Rattle.device_notifications.specs.Second.{turn_as, turn_by, turn_of, turn_of_evaluated}

choose : (c d : Bool) (a : Answer) (P : Evaluation → Type 0) → (c ≡ true → d ≡ true → P (Sends a))
    → (c ≡ true → d ≡ false → P Quiet) → (c ≡ false → P (Gone a))
    → P (if c then (if d then Sends a else Quiet) else Gone a)
choose true true a P s q g = s refl refl
choose true false a P s q g = q refl refl
choose false d a P s q g = g refl

-- the evaluation of an observation is one of three, each under its conditions
pub by_evaluation : (client : Client) (clock : ℕ) (o : Observation) (P : Evaluation → Type 0)
    → (is_content (present_answer client o) ≡ true → is_due_now client clock o (present_answer client o).payload ≡ true
    → P (Sends (present_answer client o)))
    → (is_content (present_answer client o) ≡ true → is_due_now client clock o (present_answer client o).payload ≡ false
    → P Quiet)
    → (is_content (present_answer client o) ≡ false → P (Gone (present_answer client o)))
    → P (evaluation_of client clock o)
by_evaluation client clock o P s q g =
    choose (is_content (present_answer client o)) (is_due_now client clock o (present_answer client o).payload)
    (present_answer client o) P s q g

pick : (client : Client) (clock next_id : ℕ) (o : Observation) (P : Sweep → Type 0) (t : Turn)
    → (t ≡ Evaluate → P (turn_of_evaluated client clock next_id o))
    → (t ≡ Wait → P (quiet_sweep next_id (o ∷ [])))
    → (t ≡ Resend → P (record { sent = option_to_list (open_notification o); left = o ∷ []; next_id = next_id }))
    → (t ≡ Expire → P (quiet_sweep next_id []))
    → P (turn_as client clock next_id o t)
pick client clock next_id o P Evaluate e w r x = e refl
pick client clock next_id o P Wait e w r x = w refl
pick client clock next_id o P Resend e w r x = r refl
pick client clock next_id o P Expire e w r x = x refl

-- the turn of an observation is its evaluation, or one of three while it is open
pub by_turn : (client : Client) (clock next_id : ℕ) (o : Observation) (P : Sweep → Type 0)
    → (turn_at o clock ≡ Evaluate → P (turn_of_evaluated client clock next_id o))
    → (turn_at o clock ≡ Wait → P (quiet_sweep next_id (o ∷ [])))
    → (turn_at o clock ≡ Resend
    → P (record { sent = option_to_list (open_notification o); left = o ∷ []; next_id = next_id }))
    → (turn_at o clock ≡ Expire → P (quiet_sweep next_id []))
    → P (turn_of client clock next_id o)
by_turn client clock next_id o P e w r x = pick client clock next_id o P (turn_at o clock) e w r x

-- each_appended together
pub by_all : (client : Client) (clock next_id : ℕ) (o : Observation) (P : Sweep → Type 0)
    → (turn_at o clock ≡ Evaluate → is_content (present_answer client o) ≡ true
    → is_due_now client clock o (present_answer client o).payload ≡ true
    → P (turn_by client clock next_id o (Sends (present_answer client o))))
    → (turn_at o clock ≡ Evaluate → is_content (present_answer client o) ≡ true
    → is_due_now client clock o (present_answer client o).payload ≡ false → P (quiet_sweep next_id (o ∷ [])))
    → (turn_at o clock ≡ Evaluate → is_content (present_answer client o) ≡ false
    → P (turn_by client clock next_id o (Gone (present_answer client o))))
    → (turn_at o clock ≡ Wait → P (quiet_sweep next_id (o ∷ [])))
    → (turn_at o clock ≡ Resend
    → P (record { sent = option_to_list (open_notification o); left = o ∷ []; next_id = next_id }))
    → (turn_at o clock ≡ Expire → P (quiet_sweep next_id []))
    → P (turn_of client clock next_id o)
by_all client clock next_id o P s q g w r x =
    by_turn client clock next_id o P
    (λ e. by_evaluation client clock o (λ v. P (turn_by client clock next_id o v)) (s e) (q e) (g e)) w r x

-- ---- the open notification

open_when : (second : ℕ) (timer : Option Timer) (clock : ℕ) → turn_with second timer clock ≢ Evaluate
    → (t : Timer) × (timer ≡ Some t)
open_when second None clock h = absurd (h refl)
open_when second (Some t) clock h = (t, refl)

not_that : (t u v : Turn) → t ≡ u → u ≢ v → t ≢ v
not_that t u v is other h = other (sym is ∙ h)

-- an observation that is not evaluated has something open
pub has_open : (o : Observation) (clock : ℕ) → turn_at o clock ≢ Evaluate
    → (d : Datagram) × (open_notification o ≡ Some d)
has_open o clock h =
    let there = open_when o.second o.timer clock h in
    (resent_datagram o there.0, ap (λ t. option_map (resent_datagram o) t) there.1)

resend_is_open : Resend ≢ Evaluate
resend_is_open h = cc

expire_is_open : Expire ≢ Evaluate
expire_is_open h = cc

pub resends_one : (o : Observation) (clock : ℕ) → turn_at o clock ≡ Resend
    → (d : Datagram) × (open_notification o ≡ Some d)
resends_one o clock is = has_open o clock (not_that (turn_at o clock) Resend Evaluate is resend_is_open)

pub ends_one : (o : Observation) (clock : ℕ) → turn_at o clock ≡ Expire
    → (d : Datagram) × (open_notification o ≡ Some d)
ends_one o clock is = has_open o clock (not_that (turn_at o clock) Expire Evaluate is expire_is_open)

pub of_option : {X : Type 0} (x : Option X) (Q : X → Type 0) → ((y : X) → x ≡ Some y → Q y)
    → AllByRecursion Q (option_to_list x)
of_option None Q h = tt
of_option (Some y) Q h = (h y refl, tt)

pub due_waits : (age pmin : ℕ) (pmax : Option ℕ) (t : Bool) → is_due age pmin pmax t ≡ true → pmin ≤ age
due_waits age pmin None t h = grind (arith, nat_tests)
due_waits age pmin (Some m) t h = grind (arith, nat_tests)

not_over : (age pmin pmax : ℕ) (t : Bool) → is_due age pmin (Some pmax) t ≡ false → 0 < pmax → pmin ≤ pmax → age < pmax
not_over age pmin pmax true h above follows = grind (arith, nat_tests)
not_over age pmin pmax false h above follows = grind (arith, nat_tests)

not_due : (age pmin : ℕ) (m : Option ℕ) (t : Bool) (pmax : ℕ) → m ≡ Some pmax → is_due age pmin m t ≡ false → 0 < pmax
    → pmin ≤ pmax → age < pmax
not_due age pmin m t pmax is h above follows =
    not_over age pmin pmax t (ap (λ x. is_due age pmin x t) (sym is) ∙ h) above follows

-- ---- lists

pub first_of : {X : Type 0} (x : X) (xs : List X) → Contains (x ∷ xs) x
first_of x xs = (0, omega arith, refl)

-- ---- each datagram is some observation's

sent_by : (client : Client) (clock next_id : ℕ) (o : Observation) (os : List Observation)
    → AllByRecursion (IsOf client clock (o ∷ os)) (turn_of client clock next_id o).sent
sent_by client clock next_id o os =
    by_all client clock next_id o (λ t. AllByRecursion (IsOf client clock (o ∷ os)) t.sent)
    (λ is content due. (
      (
        o,
        first_of o os,
        inl (record {
          mid = next_id;
          evaluated = is;
          message = refl;
          content = content;
          waited =
              due_waits (age_of clock o) (pmin_of client o.server o.path) (pmax_of client o.server o.path)
              (triggers_now client o (present_answer client o).payload) due;
        }),
      ),
      tt,
    ))
    (λ is content rests. tt)
    (λ is no_content. (
      (
        o,
        first_of o os,
        inr (inl (record { mid = next_id; evaluated = is; message = refl; no_content = no_content })),
      ),
      tt,
    ))
    (λ is. tt)
    (λ is. of_option (open_notification o) (IsOf client clock (o ∷ os))
    (λ d is_open. (o, first_of o os, inr (inr (record { resends = is; message = is_open })))))
    (λ is. tt)

pub sends_after_pmin : (client : Client) (clock next_id : ℕ) (os : List Observation)
    → AllByRecursion (IsOf client clock os) (second client clock next_id os).sent
sends_after_pmin client clock next_id [] = tt
sends_after_pmin client clock next_id (o ∷ os) =
    each_appended _ (turn_of client clock next_id o).sent _ (sent_by client clock next_id o os)
    (each_weaker (IsOf client clock os) (IsOf client clock (o ∷ os)) (λ d h. (h.0, contains_later o h.0 os h.1, h.2)) _
    (sends_after_pmin client clock (turn_of client clock next_id o).next_id os))

-- ---- no observation is left over its pmax

none_old : (clock pmax : ℕ) → 0 < pmax → clock - clock < pmax
none_old clock pmax above = omega (arith, above)

under_by : (a b : ℕ) (past : Bool) → nat_le b a ≡ past → (b ≤ a → ⊥) → a < b
under_by a b true is never = absurd (never (leb-true b a is))
under_by a b false is never = grind (arith, nat_tests)

under : (a b : ℕ) → (b ≤ a → ⊥) → a < b
under a b never = under_by a b (nat_le b a) refl never

soon : (clock first : ℕ) → 0 < first → clock < clock + 31 * first
soon clock first some = omega (arith, some)

abbrev first_in : Option Timer → ℕ → ℕ
first_in None n = n
first_in (Some timer) n = timer.first

above_zero : (a b : ℕ) → (a == 0) ≡ false → a ≡ b → 0 < b
above_zero a b some same = grind (arith, nat_tests)

-- an observation that is evaluated has nothing open
never_open : (o : Observation) (clock : ℕ) (timer : Timer) → turn_at o clock ≡ Evaluate → o.timer ≡ Some timer → ⊥
never_open o clock timer is is_open =
    not_evaluated o.second timer.first clock (sym (ap (λ t. turn_with o.second t clock) is_open) ∙ is)

-- one that is open and stays has its last timeout to come
to_come : (o : Observation) (clock : ℕ) (timer : Timer) → turn_at o clock ≢ Expire → o.timer ≡ Some timer
    → clock < o.second + 31 * timer.first
to_come o clock timer stays_ is_open =
    under clock (o.second + 31 * timer.first)
    (λ past. stays_ (ap (λ t. turn_with o.second t clock) is_open
    ∙ (timed_out o.second timer.first clock).1 past))

-- one that is closed is evaluated
never_waits : (o : Observation) (clock : ℕ) → turn_at o clock ≢ Evaluate → o.timer ≡ None → ⊥
never_waits o clock waits closed = waits (ap (λ t. turn_with o.second t clock) closed)

wait_is_no_end : Wait ≢ Expire
wait_is_no_end h = cc

resend_is_no_end : Resend ≢ Expire
resend_is_no_end h = cc

wait_is_open : Wait ≢ Evaluate
wait_is_open h = cc

-- one that stays while it is open
young_by : (client : Client) (clock : ℕ) (o : Observation) → turn_at o clock ≢ Expire → turn_at o clock ≢ Evaluate
    → IsYoung client clock o
young_by client clock o stays_ waits =
    record {
      closed = λ pmax closed is above follows. absurd (never_waits o clock waits closed);
      open_yet = λ timer is_open. to_come o clock timer stays_ is_open;
    }

-- a timer has a first timeout above 0
timed : (first : ℕ) (b : Bool) (bytes : List ℕ) (timer : Timer) → (first == 0) ≡ b
    → (if b then None else Some (record { bytes = bytes; first = first })) ≡ Some timer → 0 < timer.first
timed first true bytes timer is h = let f : ⊥ = cc in absurd f
timed first false bytes timer is h =
    let same : first ≡ timer.first = ap (λ (t : Option Timer). first_in t first) h in
    above_zero first timer.first is same

fresh_by : (client : Client) (clock next_id : ℕ) (o : Observation)
    → AllByRecursion (IsYoung client clock) (turn_of client clock next_id o).left
fresh_by client clock next_id o =
    by_all client clock next_id o (λ t. AllByRecursion (IsYoung client clock) t.left)
    (λ is content due. (
      record {
        closed = λ pmax closed is above follows. none_old clock pmax above;
        open_yet = λ timer is_open. soon clock timer.first
            (timed client.notify (client.notify == 0)
            (next_notification client next_id o (present_answer client o)).bytes timer refl is_open);
      },
      tt,
    ))
    (λ is content rests. (
      record {
        closed = λ pmax closed has above follows. not_due (age_of clock o) (pmin_of client o.server o.path)
            (pmax_of client o.server o.path) (triggers_now client o (present_answer client o).payload) pmax has rests
            above
            follows;
        open_yet = λ timer is_open. absurd (never_open o clock timer is is_open);
      },
      tt,
    ))
    (λ is no_content. tt)
    (λ is. (
      young_by client clock o (not_that (turn_at o clock) Wait Expire is wait_is_no_end)
          (not_that (turn_at o clock) Wait Evaluate is wait_is_open),
      tt,
    ))
    (λ is. (
      young_by client clock o (not_that (turn_at o clock) Resend Expire is resend_is_no_end)
          (not_that (turn_at o clock) Resend Evaluate is resend_is_open),
      tt,
    ))
    (λ is. tt)

pub sends_before_pmax : (client : Client) (clock next_id : ℕ) (os : List Observation)
    → AllByRecursion (IsYoung client clock) (second client clock next_id os).left
sends_before_pmax client clock next_id [] = tt
sends_before_pmax client clock next_id (o ∷ os) =
    each_appended _ (turn_of client clock next_id o).left _ (fresh_by client clock next_id o)
    (sends_before_pmax client clock (turn_of client clock next_id o).next_id os)

later : (client : Client) (clock n next_id : ℕ) (os : List Observation)
    → AllByRecursion (IsYoung client (clock + suc n)) (seconds client clock (suc n) next_id os).left
later client clock zero next_id os = sends_before_pmax client (clock + 1) next_id os
later client clock (suc n) next_id os =
    let at : clock + 1 + suc n ≡ clock + suc (suc n) = omega arith in
    let t = second client (clock + 1) next_id os in
    subst (λ c. AllByRecursion (IsYoung client c) (seconds client (clock + 1) (suc n) t.next_id t.left).left) at
    (later client (clock + 1) n t.next_id t.left)

pub seconds_send_before_pmax : (client : Client) (clock n next_id : ℕ) (os : List Observation)
    → AllByRecursion (IsYoung client (clock + (n + 1))) (seconds client clock (n + 1) next_id os).left
seconds_send_before_pmax client clock n next_id os =
    let same : suc n ≡ n + 1 = omega arith in
    subst (λ m. AllByRecursion (IsYoung client (clock + m)) (seconds client clock m next_id os).left) same
    (later client clock n next_id os)

-- ---- order

order_by : (client : Client) (clock next_id : ℕ) (o : Observation) (os ps : List Observation)
    → StayInOrder client clock os ps → StayInOrder client clock (o ∷ os) ((turn_of client clock next_id o).left ++ ps)
order_by client clock next_id o os ps rest =
    by_all client clock next_id o (λ t. StayInOrder client clock (o ∷ os) (t.left ++ ps))
    (λ is content due. stays o _ os ps (notified_of next_id is
    (due_waits (age_of clock o) (pmin_of client o.server o.path) (pmax_of client o.server o.path)
    (triggers_now client o (present_answer client o).payload) due)) rest)
    (λ is content rests. stays o o os ps as_it_was rest)
    (λ is no_content. goes o os ps is no_content rest)
    (λ is. stays o o os ps as_it_was rest)
    (λ is. stays o o os ps as_it_was rest)
    (λ is. expires o os ps is rest)

pub keeps_order : (client : Client) (clock next_id : ℕ) (os : List Observation)
    → StayInOrder client clock os (second client clock next_id os).left
keeps_order client clock next_id [] = none
keeps_order client clock next_id (o ∷ os) =
    order_by client clock next_id o os _ (keeps_order client clock (turn_of client clock next_id o).next_id os)

-- ---- numbers

one_of : {X : Type 0} (x y : X) → x ∷ [] ≡ y ∷ [] → x ≡ y
one_of x y h = cc

no_more : {X : Type 0} (y : X) → [] ≡ y ∷ [] → ⊥
no_more y h = cc

pub counts_observe_numbers : (client : Client) (clock next_id : ℕ) (o p : Observation)
    → (turn_of client clock next_id o).left ≡ p ∷ []
    → ((((turn_of client clock next_id o).sent ≡ [])
    ⊎ ((turn_of client clock next_id o).sent ≡ option_to_list (open_notification o))) × (p ≡ o))
    ⊎ (((turn_of client clock next_id o).sent
    ≡ datagram_of (notified_kind client) o next_id (Some p.number) (present_answer client o) ∷ [])
    × (p.number ≡ (o.number + 1) % 16777216))
counts_observe_numbers client clock next_id o p =
    by_all client clock next_id o (λ t. t.left ≡ p ∷ []
    → (((t.sent ≡ []) ⊎ (t.sent ≡ option_to_list (open_notification o))) × (p ≡ o))
    ⊎ ((t.sent ≡ datagram_of (notified_kind client) o next_id (Some p.number) (present_answer client o) ∷ [])
    × (p.number ≡ (o.number + 1) % 16777216)))
    (λ is content due h. let same = ap (λ (x : Observation). x.number) (one_of _ p h) in
    inr (ap (λ n. datagram_of (notified_kind client) o next_id (Some n) (present_answer client o) ∷ []) same, sym same))
    (λ is content rests h. inl (inl refl, sym (one_of o p h)))
    (λ is no_content h. absurd (no_more p h))
    (λ is h. inl (inl refl, sym (one_of o p h)))
    (λ is h. inl (inr refl, sym (one_of o p h)))
    (λ is h. absurd (no_more p h))
