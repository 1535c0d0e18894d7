-- Seconds, as far as they have come, where the clock jumps over those in which nothing is due.
use Rattle.std.proofs.Common.{◌≡◌, ◌≢◌, ℕ, zero, suc, ◌+◌, ◌-◌, ◌<◌, ◌≤◌, ◌∙◌, true, List, [], ◌∷◌}
use Rattle.std.proofs.Common.{◌++◌, length, refl, sym, ap, subst, arith}
use Rattle.std.proofs.Math.Logic.{inl, inr}
use Rattle.std.proofs.lemmas.Bool.Decides.{nat_tests}
use Rattle.std.proofs.lemmas.List.{append-nil, append_assoc}
use Rattle.notifier.specs.Due.{IsFirstDue, is_one_due}
use Rattle.notifier.specs.declared.observation.Observation.{Observation}
use Rattle.notifier.specs.declared.pending.Outlook.{Outlook}
use Rattle.device_requests.specs.Client.{Client}
use Rattle.device_notifications.specs.declared.datagram.Datagram.{Datagram}
use Rattle.device_notifications.specs.Outbox.{Outbox}
use Rattle.device_notifications.specs.Outlooks.{AreAtRest, outlooks_of}
use Rattle.device_notifications.specs.Progress.{Acts, Leaves, StopsIn, does_act}
use Rattle.device_notifications.specs.Second.{Sweep, and_then, second, seconds}
use Rattle.device_notifications.proofs.Resting.{loud_second, no_more_left, none_left, none_right, quiet_seconds}
use Rattle.device_notifications.proofs.Spans.{seconds_add}

-- these seconds have passed: what they send was sent, and what they leave is there
abbrev pub HavePassed : Client → ℕ → List Observation → Outbox → ℕ → List Observation → Outbox → Type 0
HavePassed client clock all before passed os now = Leaves before (seconds client clock passed before.next_id all) os now

pub none_passed : (client : Client) (clock passed : ℕ) (all : List Observation) (before : Outbox) → passed ≡ 0
    → HavePassed client clock all before passed all before
none_passed client clock passed all before none =
    subst (λ n. HavePassed client clock all before n all before) (sym none)
    (record { sent = sym (append-nil before.sent); left_is = refl; next_id = refl })

-- what was to be sent, these, and what comes after them
both_sent : (before : List Datagram) (a b : Sweep) → before ++ (and_then a b).sent ≡ (before ++ a.sent) ++ b.sent
both_sent before a b = sym (append_assoc before a.sent b.sent)

-- with more seconds, which leave this
pub more_passed : (client : Client) (clock a b : ℕ) (all os left : List Observation) (before now after : Outbox)
    → HavePassed client clock all before a os now → Leaves now (seconds client (clock + a) b now.next_id os) left after
    → HavePassed client clock all before (a + b) left after
more_passed client clock a b all os left before now after h more =
    let first = seconds client clock a before.next_id all in
    let rest : seconds client (clock + a) b first.next_id first.left ≡ seconds client (clock + a) b now.next_id os =
    (λ j. seconds client (clock + a) b (sym h.next_id j) (sym h.left_is j)) in
    let whole : seconds client clock (a + b) before.next_id all
    ≡ and_then first (seconds client (clock + a) b now.next_id os) =
    seconds_add client clock a b before.next_id all ∙ ap (λ r. and_then first r) rest in
    record {
      sent = more.sent ∙ ap (λ xs. xs ++ (seconds client (clock + a) b now.next_id os).sent) h.sent
          ∙ sym (both_sent before.sent first (seconds client (clock + a) b now.next_id os))
          ∙ ap (λ (r : Sweep). before.sent ++ r.sent) (sym whole);
      left_is = more.left_is ∙ ap (λ (r : Sweep). r.left) (sym whole);
      next_id = more.next_id ∙ ap (λ (r : Sweep). r.next_id) (sym whole);
    }

-- quiet seconds pass
quietly : (client : Client) (clock n : ℕ) (os : List Observation) (now : Outbox)
    → AreAtRest os (outlooks_of client os) clock (clock + n) → Leaves now (seconds client clock n now.next_id os) os now
quietly client clock n os now rest =
    let same = quiet_seconds client clock n now.next_id os rest in
    record {
      sent = sym (append-nil now.sent) ∙ ap (λ (r : Sweep). now.sent ++ r.sent) (sym same);
      left_is = ap (λ (r : Sweep). r.left) (sym same);
      next_id = ap (λ (r : Sweep). r.next_id) (sym same);
    }

pub passed_quietly : (client : Client) (clock a b : ℕ) (all os : List Observation) (before now : Outbox)
    → HavePassed client clock all before a os now
    → AreAtRest os (outlooks_of client os) (clock + a) (clock + a + b)
    → HavePassed client clock all before (a + b) os now
passed_quietly client clock a b all os before now h rest =
    more_passed client clock a b all os os before now now h (quietly client (clock + a) b os now rest)

-- one second is a second
one_second : (client : Client) (clock next_id : ℕ) (os : List Observation)
    → seconds client clock 1 next_id os ≡ second client (clock + 1) next_id os
one_second client clock next_id os =
    let t = second client (clock + 1) next_id os in
    λ j. record { sent = append-nil t.sent j; left = t.left; next_id = t.next_id }

pub passed_one : (client : Client) (clock a at : ℕ) (all os left : List Observation) (before now after : Outbox)
    → HavePassed client clock all before a os now → at ≡ clock + a + 1
    → Leaves now (second client at now.next_id os) left after
    → HavePassed client clock all before (a + 1) left after
passed_one client clock a at all os left before now after h is more =
    more_passed client clock a 1 all os left before now after h
    (subst (λ r. Leaves now r left after)
    (ap (λ c. second client c now.next_id os) is ∙ sym (one_second client (clock + a) now.next_id os)) more)

-- ---- up to the second that is due

numbers : (clock count now due : ℕ) → clock ≤ now → now < due → due ≤ clock + count
    → (now - clock + (due - 1 - now) ≡ due - 1 - clock) × (due - 1 - clock < count)
    × (due ≡ clock + (due - 1 - clock) + 1) × (due - 1 - clock + 1 ≡ due - clock)
numbers clock count now due since later within = (
  omega (arith, since, later),
  omega (arith, since, later, within),
  omega (arith, since, later),
  omega (arith, since, later),
)

-- the seconds before it have passed
pub before_due : (client : Client) (clock count now due : ℕ) (all os : List Observation) (ss : List Outlook)
    (before box : Outbox)
    → clock ≤ now → due ≤ clock + count → ss ≡ outlooks_of client os → IsFirstDue now os ss due
    → HavePassed client clock all before (now - clock) os box
    → HavePassed client clock all before (due - 1 - clock) os box
before_due client clock count now due all os ss before box since within known first h =
    let later = first.later in
    let n = numbers clock count now due since later within in
    subst (λ k. HavePassed client clock all before k os box) n.0
    (passed_quietly client clock (now - clock) (due - 1 - now) all os before box h
    (λ t after earlier. ap (λ xs. is_one_due os xs t) (sym known)
    ∙ first.none_before t (omega (arith, after, since)) (omega (arith, earlier, since, later))))

-- and then that one
pub jumped : (client : Client) (clock count now due : ℕ) (all os : List Observation) (ss : List Outlook)
    (left : List Observation) (before box after : Outbox)
    → clock ≤ now → due ≤ clock + count → ss ≡ outlooks_of client os → IsFirstDue now os ss due
    → Leaves box (second client due box.next_id os) left after
    → HavePassed client clock all before (now - clock) os box
    → HavePassed client clock all before (due - clock) left after
jumped client clock count now due all os ss left before box after since within known first leaves h =
    let n = numbers clock count now due since first.later within in
    subst (λ k. HavePassed client clock all before k left after) n.3
    (passed_one client clock (due - 1 - clock) due all os left before box after
    (before_due client clock count now due all os ss before box since within known first h) n.2 leaves)

-- or it stops: it sends or removes something
pub stopped_at : (client : Client) (clock count now due : ℕ) (all os : List Observation) (ss : List Outlook)
    (before box : Outbox)
    → clock ≤ now → due ≤ clock + count → ss ≡ outlooks_of client os → IsFirstDue now os ss due
    → HavePassed client clock all before (now - clock) os box
    → StopsIn client clock count before.next_id all os
stopped_at client clock count now due all os ss before box since within known first h =
    let n = numbers clock count now due since first.later within in
    let at : due ≡ clock + (due - 1 - clock + 1) = omega (arith, n.2) in
    let there = before_due client clock count now due all os ss before box since within known first h in
    record {
      passed = due - 1 - clock;
      within = n.1;
      left_is = there.left_is;
      acts = subst (λ c. Acts (second client c
          (seconds client clock (due - 1 - clock) before.next_id all).next_id os) os) at
          (loud_second client due (seconds client clock (due - 1 - clock) before.next_id all).next_id os
          (ap (λ xs. is_one_due os xs due) (sym known) ∙ first.passes));
    }

-- with no second left that is due, all have passed
pub finished : (client : Client) (clock count now end : ℕ) (all os : List Observation) (ss : List Outlook)
    (before box : Outbox)
    → clock ≤ now → now ≤ clock + count → end ≡ clock + count → ss ≡ outlooks_of client os → AreAtRest os ss now end
    → HavePassed client clock all before (now - clock) os box
    → Leaves before (seconds client clock count before.next_id all) os box
finished client clock count now end all os ss before box since within at known rest h =
    let all_of : now - clock + (clock + count - now) ≡ count = omega (arith, since, within) in
    subst (λ k. HavePassed client clock all before k os box) all_of
    (passed_quietly client clock (now - clock) (clock + count - now) all os before box h
    (λ t after earlier. ap (λ xs. is_one_due os xs t) (sym known)
    ∙ rest t (omega (arith, after, since)) (omega (arith, earlier, at, since, within))))

-- ---- where one of the seconds acts, all of them do

pub no_more_then : (client : Client) (clock n next_id : ℕ) (os : List Observation)
    → length (seconds client clock n next_id os).left ≤ length os
no_more_then client clock zero next_id os = omega arith
no_more_then client clock (suc n) next_id os =
    let t = second client (clock + 1) next_id os in
    let one = no_more_left client (clock + 1) next_id os in
    let rest = no_more_then client (clock + 1) n t.next_id t.left in
    omega (arith, one, rest)

some_sent : (xs : List Datagram) → xs ≢ [] → 0 < length xs
some_sent [] some = absurd (some refl)
some_sent (x ∷ xs) some = omega arith

pub acts_is : (t : Sweep) (os : List Observation) → Acts t os → does_act t os ≡ true
acts_is t os (inl some) = let one = some_sent t.sent some in grind (arith, nat_tests, one)
acts_is t os (inr fewer) = grind (arith, nat_tests, fewer)

acts_within : (a b c : Sweep) (all os : List Observation) → length os ≤ length all → length c.left ≤ length b.left
    → Acts b os → Acts (and_then a (and_then b c)) all
acts_within a b c all os less kept (inl some) =
    inl (λ none. some (none_left b.sent c.sent (none_right a.sent (b.sent ++ c.sent) none)))
acts_within a b c all os less kept (inr fewer) = inr (omega (arith, less, kept, fewer))

pub acts_in_all : (client : Client) (clock count next_id : ℕ) (all left : List Observation)
    → StopsIn client clock count next_id all left
    → does_act (seconds client clock count next_id all) all ≡ true
acts_in_all client clock count next_id all left h =
    let k = h.passed in
    let within = h.within in
    let first = seconds client clock k next_id all in
    let t = second client (clock + k + 1) first.next_id first.left in
    let rest = seconds client (clock + k + 1) (count - k - 1) t.next_id t.left in
    let n : count ≡ k + suc (count - k - 1) = omega (arith, within) in
    let at : clock + (k + 1) ≡ clock + k + 1 = omega arith in
    let whole : seconds client clock count next_id all ≡ and_then first (and_then t rest) =
    ap (λ m. seconds client clock m next_id all) n ∙ seconds_add client clock k (suc (count - k - 1)) next_id all in
    let here : Acts t first.left =
    subst (λ os. Acts (second client (clock + k + 1) first.next_id os) os) h.left_is
    (subst (λ c. Acts (second client c first.next_id left) left) at h.acts) in
    ap (λ s. does_act s all) whole
    ∙ acts_is (and_then first (and_then t rest)) all
    (acts_within first t rest all first.left (no_more_then client clock k next_id all)
    (no_more_then client (clock + k + 1) (count - k - 1) t.next_id t.left) here)
