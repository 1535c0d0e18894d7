-- What happens in many seconds, by what happens in each.
use Rattle.std.proofs.Common.{◌≡◌, ℕ, zero, suc, ◌+◌, ◌-◌, ◌<◌, ◌≤◌, false, inl, inr, List, [], ◌∷◌, ◌++◌}
use Rattle.std.proofs.Common.{Option, None, Some, ◌^◌, min, slice_get, take, refl, sym, ap, subst, ◌∙◌, arith}
use Rattle.std.proofs.lemmas.Bool.Decides.{nat_tests}
use Rattle.std.proofs.lemmas.List.{append-nil, append_assoc}
use Rattle.lemmas.proofs.Lists.{take_one_more}
use Rattle.notifier.specs.declared.observation.Observation.{Observation}
use Rattle.device_requests.specs.Client.{Client}
use Rattle.device_notifications.specs.declared.datagram.Datagram.{Datagram}
use Rattle.device_notifications.specs.Second.{Sweep, quiet_sweep, second, seconds, turn_of}
use Rattle.device_notifications.proofs.Resting.{quiet_turn, rests_by_second}
use Rattle.device_notifications.specs.Outlooks.{outlook_of, outlooks_of}
use Rattle.notifier.specs.Due.{acts_at, is_one_due}
use Rattle.std.proofs.lemmas.Bool.{or_parts}
use Rattle.device_notifications.proofs.Spans.{seconds_add}
use Rattle.device_machine.specs.Reactions.{flat_after_seconds, passes_end, sweep_in}
use Rattle.device_machine.specs.State.{Machine}
use Rattle.device_machine.specs.declared.event.Event.TheVariants.{Tick}
use Rattle.notification_reasons.specs.Laws.{AreDoneAs, DoesFor, IsDoneAs, TicksDoThese}
use Rattle.notification_reasons.specs.Reasons.{DoesNothing}
use Rattle.notification_reasons.specs.Happenings.{AreHappenings, AreHappeningsIn, AreTickHappenings, IsQuietFor, IsHappening}
use Rattle.notification_reasons.specs.Happenings.{Tells}
use Rattle.notification_reasons.specs.declared.reasons.Happening.{Happening}
use Rattle.notification_reasons.proofs.Reasoning.{say_what_is_done}

-- ---- one second

-- with one observation more, which does nothing, or something
pub one_rests : (client : Client) (clock : ℕ) (os : List Observation) (o : Observation) (hs : List Happening)
    → AreHappenings client clock os hs → DoesNothing client clock o → AreHappenings client clock (os ++ o ∷ []) hs
one_rests client clock [] o hs h silent = inl (silent, h)
one_rests client clock (p ∷ os) o hs (inl h) silent = inl (h.0, one_rests client clock os o hs h.1 silent)
one_rests client clock (p ∷ os) o hs (inr h) silent =
    inr (h.0, h.1, h.2, one_rests client clock os o h.1 h.3 silent, h.4)

pub one_does : (client : Client) (clock : ℕ) (os : List Observation) (o : Observation) (hs : List Happening)
    (s : Happening) → AreHappenings client clock os hs → IsHappening client clock o s
    → AreHappenings client clock (os ++ o ∷ []) (hs ++ s ∷ [])
one_does client clock [] o hs s h is = inr (s, [], is, refl, ap (λ x. x ++ s ∷ []) h)
one_does client clock (p ∷ os) o hs s (inl h) is = inl (h.0, one_does client clock os o hs s h.1 is)
one_does client clock (p ∷ os) o hs s (inr h) is =
    inr (h.0, h.1 ++ s ∷ [], h.2, one_does client clock os o h.1 s h.3 is, ap (λ x. x ++ s ∷ []) h.4)

-- where nothing is due, nothing happens
rests : (client : Client) (clock : ℕ) (os : List Observation) → is_one_due os (outlooks_of client os) clock ≡ false
    → AreHappenings client clock os []
rests client clock [] h = refl
rests client clock (o ∷ os) h =
    let parts = or_parts (acts_at o (outlook_of client o) clock) (is_one_due os (outlooks_of client os) clock) h in
    inl (λ next_id. quiet_turn client clock next_id o parts.0, rests client clock os parts.1)

quiet_second : (client : Client) (clock next_id : ℕ) (os : List Observation)
    → second client clock next_id os ≡ quiet_sweep next_id os → AreHappenings client clock os []
quiet_second client clock next_id os h = rests client clock os (rests_by_second client clock next_id os h)

-- ---- many seconds

quiet_seconds : (client : Client) (clock n next_id : ℕ) (os : List Observation)
    → ((t : ℕ) → clock < t → t ≤ clock + n → second client t next_id os ≡ quiet_sweep next_id os)
    → AreHappeningsIn client clock n next_id os []
quiet_seconds client clock zero next_id os h = refl
quiet_seconds client clock (suc n) next_id os h =
    let here = h (clock + 1) (omega arith) (omega arith) in (
      [],
      [],
      quiet_second client (clock + 1) next_id os here,
      subst (λ (t : Sweep). AreHappeningsIn client (clock + 1) n t.next_id t.left []) (sym here)
          (quiet_seconds client (clock + 1) n next_id os
          (λ t after within. h t (omega (arith, after)) (omega (arith, within)))),
      refl,
    )

pub quiet_tick : (f : Machine) (n : ℕ) → IsQuietFor f n → AreTickHappenings f n []
quiet_tick f n h = quiet_seconds f.kept.client f.kept.clock n f.kept.next_id f.kept.observations h

add : (client : Client) (clock a b next_id : ℕ) (os : List Observation) (xs ys : List Happening)
    → AreHappeningsIn client clock a next_id os xs
    → AreHappeningsIn client (clock + a) b (seconds client clock a next_id os).next_id
    (seconds client clock a next_id os).left ys
    → AreHappeningsIn client clock (a + b) next_id os (xs ++ ys)
add client clock zero b next_id os xs ys h k =
    let none : 0 + b ≡ b = omega arith in
    let same : clock + 0 ≡ clock = omega arith in
    let all : xs ++ ys ≡ ys = ap (λ x. x ++ ys) h in
    subst (λ n. AreHappeningsIn client clock n next_id os (xs ++ ys)) (sym none)
    (subst (λ hs. AreHappeningsIn client clock b next_id os hs) (sym all)
    (subst (λ c. AreHappeningsIn client c b next_id os ys) same k))
add client clock (suc a) b next_id os xs ys h k =
    let t = second client (clock + 1) next_id os in
    let one : suc a + b ≡ suc (a + b) = omega arith in
    let at : clock + suc a ≡ clock + 1 + a = omega arith in
    let u = seconds client (clock + 1) a t.next_id t.left in
    let more = subst (λ c. AreHappeningsIn client c b u.next_id u.left ys) at k in
    subst (λ n. AreHappeningsIn client clock n next_id os (xs ++ ys)) (sym one) (
      h.0,
      h.1 ++ ys,
      h.2,
      add client (clock + 1) a b t.next_id t.left h.1 ys h.3 more,
      ap (λ x. x ++ ys) h.4 ∙ append_assoc h.0 h.1 ys,
    )

-- a tick, and one after it
pub ticks_add : (f : Machine) (a b : ℕ) (xs ys : List Happening) → AreTickHappenings f a xs
    → AreTickHappenings (flat_after_seconds f a) b ys → AreTickHappenings f (a + b) (xs ++ ys)
ticks_add f a b xs ys h k = add f.kept.client f.kept.clock a b f.kept.next_id f.kept.observations xs ys h k

pub later_later : (f : Machine) (a b : ℕ) → flat_after_seconds (flat_after_seconds f a) b ≡ flat_after_seconds f (a + b)
later_later f a b =
    let all = seconds_add f.kept.client f.kept.clock a b f.kept.next_id f.kept.observations in
    let at : f.kept.clock + (a + b) ≡ f.kept.clock + a + b = omega arith in
    sym (λ j. record {
      kept = record { client = f.kept.client; observations = (all j).left; clock = at j; next_id = (all j).next_id };
      recorded = f.recorded;
    })

-- the last of some seconds, where the others are quiet
pub last_second : (f : Machine) (wait clock : ℕ) (here : List Happening) → 1 ≤ wait → IsQuietFor f (wait - 1)
    → clock ≡ f.kept.clock + (wait - 1) + 1
    → AreHappenings f.kept.client clock (flat_after_seconds f (wait - 1)).kept.observations here
    → AreTickHappenings f wait here
last_second f wait clock here some rest at h =
    let all : wait - 1 + 1 ≡ wait = omega (arith, some) in
    let now =
    subst (λ c. AreHappenings f.kept.client c (flat_after_seconds f (wait - 1)).kept.observations here) at h in
    subst (λ n. AreTickHappenings f n here) all
    (ticks_add f (wait - 1) 1 [] here (quiet_tick f (wait - 1) rest) (here, [], now, refl, sym (append-nil here)))

pub later_last : (f : Machine) (wait : ℕ) → 1 ≤ wait
    → flat_after_seconds (flat_after_seconds f (wait - 1)) 1 ≡ flat_after_seconds f wait
later_last f wait some =
    let all : wait - 1 + 1 ≡ wait = omega (arith, some) in
    later_later f (wait - 1) 1 ∙ ap (λ n. flat_after_seconds f n) all

-- ---- up to the end of the clock

pub before_end : (clock n : ℕ) → passes_end clock (Tick n) ≡ false → clock + n ≤ 9223372036854775807
before_end clock n h = grind (arith, nat_tests)

pub goes_on : (clock n : ℕ) → clock + n ≤ 9223372036854775807 → passes_end clock (Tick n) ≡ false
goes_on clock n h = grind (arith, nat_tests)

-- ---- the datagrams of each

done_as_both : (client : Client) (ds es : List Datagram) (hs ks : List Happening) → AreDoneAs client ds hs
    → AreDoneAs client es ks → AreDoneAs client (ds ++ es) (hs ++ ks)
done_as_both client ds es [] ks h k = subst (λ x. AreDoneAs client x ks) (sym (ap (λ x. x ++ es) h)) k
done_as_both client ds es (x ∷ hs) ks h k = (
  h.0,
  h.1 ++ es,
  h.2,
  done_as_both client h.1 es hs ks h.3 k,
  ap (λ d. d ++ es) h.4 ∙ append_assoc h.0 h.1 es,
)

done_as : (client : Client) (clock next_id : ℕ) (o : Observation) (h : Happening) → IsHappening client clock o h
    → IsDoneAs client (turn_of client clock next_id o).sent h
done_as client clock next_id o h is =
    let at : clock ≡ h.second = sym is.second_is in
    record {
      observation = o;
      next_id = next_id;
      sent_is = ap (λ c. (turn_of client c next_id o).sent) (sym at);
      does = subst (λ c. DoesFor h.reason (turn_of client c next_id o)) at
          (say_what_is_done client clock next_id o h.reason is.why);
      happening = subst (λ c. IsHappening client c o h) at is;
    }

second_done : (client : Client) (clock next_id : ℕ) (os : List Observation) (hs : List Happening)
    → AreHappenings client clock os hs → AreDoneAs client (second client clock next_id os).sent hs
second_done client clock next_id [] hs h = subst (AreDoneAs client []) (sym h) refl
second_done client clock next_id (o ∷ os) hs (inl h) =
    let t = turn_of client clock next_id o in
    let rest = second client clock t.next_id os in
    let none : t.sent ++ rest.sent ≡ rest.sent = ap (λ (x : Sweep). x.sent ++ rest.sent) (h.0 next_id) in
    subst (λ ds. AreDoneAs client ds hs) (sym none) (second_done client clock t.next_id os hs h.1)
second_done client clock next_id (o ∷ os) hs (inr h) =
    let t = turn_of client clock next_id o in
    let rest = second client clock t.next_id os in
    subst (AreDoneAs client (t.sent ++ rest.sent)) (sym h.4) (
      t.sent,
      rest.sent,
      done_as client clock next_id o h.0 h.2,
      second_done client clock t.next_id os h.1 h.3,
      refl,
    )

seconds_done : (client : Client) (clock n next_id : ℕ) (os : List Observation) (hs : List Happening)
    → AreHappeningsIn client clock n next_id os hs → AreDoneAs client (seconds client clock n next_id os).sent hs
seconds_done client clock zero next_id os hs h = subst (AreDoneAs client []) (sym h) refl
seconds_done client clock (suc n) next_id os hs h =
    let t = second client (clock + 1) next_id os in
    let u = seconds client (clock + 1) n t.next_id t.left in
    subst (AreDoneAs client (t.sent ++ u.sent)) (sym h.4)
    (done_as_both client t.sent u.sent h.0 h.1 (second_done client (clock + 1) next_id os h.0 h.2)
    (seconds_done client (clock + 1) n t.next_id t.left h.1 h.3))

pub do_these : TicksDoThese
do_these f n hs h =
    record {
      datagrams = (sweep_in f.kept n).sent;
      outputs = refl;
      each = seconds_done f.kept.client f.kept.clock n f.kept.next_id f.kept.observations hs h;
    }

-- ---- as the code goes

-- an observation at a place, after those before it
pub next_rests : (client : Client) (clock : ℕ) (os : List Observation) (i : ℕ) (o : Observation) (hs : List Happening)
    → slice_get os i ≡ Some o → AreHappenings client clock (take i os) hs → DoesNothing client clock o
    → AreHappenings client clock (take (i + 1) os) hs
next_rests client clock os i o hs at h is =
    subst (λ xs. AreHappenings client clock xs hs) (sym (take_one_more os i o at))
    (one_rests client clock (take i os) o hs h is)

pub next_does : (client : Client) (clock : ℕ) (os : List Observation) (i : ℕ) (o : Observation) (hs : List Happening)
    (s : Happening) → slice_get os i ≡ Some o → AreHappenings client clock (take i os) hs → IsHappening client clock o s
    → AreHappenings client clock (take (i + 1) os) (hs ++ s ∷ [])
next_does client clock os i o hs s at h is =
    subst (λ xs. AreHappenings client clock xs (hs ++ s ∷ [])) (sym (take_one_more os i o at))
    (one_does client clock (take i os) o hs s h is)

-- what is told in the second after these
pub told_there : (f : Machine) (wait shown clock : ℕ) (client : Client) (os : List Observation) (here : List Happening)
    → 1 ≤ wait → IsQuietFor f (wait - 1) → passes_end f.kept.clock (Tick wait) ≡ false
    → shown ≡ (flat_after_seconds f (wait - 1)).kept.clock → clock ≡ min (shown + 1) (2 ^ 64 - 1)
    → client ≡ f.kept.client
    → os ≡ (flat_after_seconds f (wait - 1)).kept.observations → AreHappenings client clock os here
    → AreTickHappenings f wait here
told_there f wait shown clock client os here some rest ends at is same left h =
    let within = before_end f.kept.clock wait ends in
    let now : clock ≡ f.kept.clock + (wait - 1) + 1 = omega (arith, is, at, within, some) in
    last_second f wait clock here some rest now
    (subst (λ c. AreHappenings c clock (flat_after_seconds f (wait - 1)).kept.observations here) same
    (subst (λ xs. AreHappenings client clock xs here) left h))

-- a tick of n seconds, of which so many have passed
pub all_told : (f : Machine) (n passed : ℕ) (hs : List Happening) → passed ≤ n → AreTickHappenings f passed hs
    → IsQuietFor (flat_after_seconds f passed) (n - passed) → AreTickHappenings f n hs
all_told f n passed hs within h rest =
    let all : passed + (n - passed) ≡ n = omega (arith, within) in
    subst (λ k. AreTickHappenings f k hs) all
    (subst (AreTickHappenings f (passed + (n - passed))) (append-nil hs)
    (ticks_add f passed (n - passed) hs [] h (quiet_tick (flat_after_seconds f passed) (n - passed) rest)))

pub more_told : (f : Machine) (passed wait : ℕ) (hs new : List Happening) → AreTickHappenings f passed hs
    → Tells (flat_after_seconds f passed) wait hs new → AreTickHappenings f (passed + wait) new
more_told f passed wait hs new h more =
    subst (AreTickHappenings f (passed + wait)) (sym more.2) (ticks_add f passed wait hs more.0 h more.1)

-- the clock has room for these seconds, and for each part of them
pub fits_rest : (f : Machine) (n passed : ℕ) → passed ≤ n → passes_end f.kept.clock (Tick n) ≡ false
    → (flat_after_seconds f passed).kept.clock + (n - passed) < 2 ^ 64
fits_rest f n passed within ends = omega (arith, before_end f.kept.clock n ends, within)

pub goes_there : (f : Machine) (n passed wait : ℕ) → passed ≤ n → wait ≤ n - passed
    → passes_end f.kept.clock (Tick n) ≡ false → passes_end (flat_after_seconds f passed).kept.clock (Tick wait) ≡ false
goes_there f n passed wait within less ends =
    let all = before_end f.kept.clock n ends in
    goes_on (f.kept.clock + passed) wait (omega (arith, all, within, less))
