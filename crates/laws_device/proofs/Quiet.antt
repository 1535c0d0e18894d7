-- Ticks in which nothing is due, and the second in which the quiet of a device ends.
use Rattle.std.proofs.Common.{◌≡◌, ◌≢◌, ℕ, zero, suc, ◌+◌, ◌-◌, ◌<◌, ◌≤◌, ◌∙◌, Bool, true, false, List, [], ◌∷◌}
use Rattle.std.proofs.Common.{length, map, refl, sym, ap, subst, arith}
use Rattle.std.proofs.Math.Logic.{◌⊎◌, inl, inr}
use Rattle.std.proofs.Math.Nat.{eq-or-lt_of_le}
use Rattle.notifier.specs.Due.{IsFirstDue, is_one_due}
use Rattle.notifier.specs.declared.observation.Observation.{Observation}
use Rattle.device_requests.specs.Client.{Client}
use Rattle.device_notifications.specs.Laws.{StayInOrder}
use Rattle.device_notifications.specs.Laws.StayInOrder.{none, stays, goes, expires}
use Rattle.device_notifications.specs.Outlooks.{outlooks_of}
use Rattle.device_notifications.specs.Second.{Sweep, and_then, quiet_sweep, second, seconds}
use Rattle.device_notifications.proofs.Resting.{first_due, first_sending, jumps, loud_second, none_left, none_right}
use Rattle.device_notifications.proofs.Resting.{quiet_second, quiet_seconds, rests_by_second}
use Rattle.device_notifications.proofs.Jumps.{no_more_then}
use Rattle.device_machine.specs.Reactions.{send_of, sweep_in}
use Rattle.device_machine.specs.State.{Machine}
use Rattle.laws_device.specs.Ticking.{DueEndsQuiet, EndsQuiet, IsQuiet, QuietEndsWhenDue, QuietNeverEnds}
use Rattle.laws_device.specs.Ticking.{SilenceIsQuiet, TicksAtRestAreQuiet}
use Rattle.laws_device.proofs.Ticks.{by_seconds}

pub at_rest : TicksAtRestAreQuiet
at_rest f n rest =
    by_seconds f n (quiet_seconds f.kept.client f.kept.clock n f.kept.next_id f.kept.observations rest)

-- ---- seconds that send nothing and remove nothing

none_mapped : {X Y : Type 0} (f : X → Y) (xs : List X) → map f xs ≡ [] → xs ≡ []
none_mapped f [] h = refl
none_mapped f (x ∷ xs) h = cc

no_more : (client : Client) (clock : ℕ) (os ps : List Observation) → StayInOrder client clock os ps
    → length ps ≤ length os
no_more client clock _ _ none = omega arith
no_more client clock _ _ (stays o p os ps is h) = let rest = no_more client clock os ps h in omega (arith, rest)
no_more client clock _ _ (goes o os ps is gone h) = let rest = no_more client clock os ps h in omega (arith, rest)
no_more client clock _ _ (expires o os ps is h) = let rest = no_more client clock os ps h in omega (arith, rest)

-- a second that sends nothing and leaves as many as there were is one in which nothing is due
rests_by : (client : Client) (clock next_id : ℕ) (os : List Observation) (b : Bool)
    → is_one_due os (outlooks_of client os) clock ≡ b
    → (second client clock next_id os).sent ≡ [] → length os ≤ length (second client clock next_id os).left
    → b ≡ false
rests_by client clock next_id os false due sent left = refl
rests_by client clock next_id os true due sent left = absurd (by (loud_second client clock next_id os due))
  where
    by : ((second client clock next_id os).sent ≢ []) ⊎ (length (second client clock next_id os).left < length os) → ⊥
    by (inl some) = some sent
    by (inr fewer) = omega (arith, left, fewer)

-- seconds that send nothing and leave as many as there were are a first one of that kind, and others
pub record RestsOn (client : Client) (clock n next_id : ℕ) (os : List Observation) : Type 0 where
  pub rests : is_one_due os (outlooks_of client os) (clock + 1) ≡ false
  pub sent : (seconds client (clock + 1) n next_id os).sent ≡ []
  pub left : length os ≤ length (seconds client (clock + 1) n next_id os).left

rests_on : (client : Client) (clock n next_id : ℕ) (os : List Observation)
    → (seconds client clock (suc n) next_id os).sent ≡ []
    → length os ≤ length (seconds client clock (suc n) next_id os).left
    → RestsOn client clock n next_id os
rests_on client clock n next_id os sent left =
    let t = second client (clock + 1) next_id os in
    let rest = seconds client (clock + 1) n t.next_id t.left in
    let few = no_more_then client (clock + 1) n t.next_id t.left in
    let first = rests_by client (clock + 1) next_id os _ refl (none_left t.sent rest.sent sent)
    (omega (arith, left, few)) in
    let still = quiet_second client (clock + 1) next_id os first in
    record {
      rests = first;
      sent = ap (λ (x : Sweep). (seconds client (clock + 1) n x.next_id x.left).sent) (sym still)
          ∙ none_right t.sent rest.sent sent;
      left = subst (λ (x : Sweep). length os ≤ length (seconds client (clock + 1) n x.next_id x.left).left) still left;
    }

-- in each of them nothing is due
rests_in : (client : Client) (clock n k next_id : ℕ) (os : List Observation) → k < n
    → (seconds client clock n next_id os).sent ≡ []
    → length os ≤ length (seconds client clock n next_id os).left
    → is_one_due os (outlooks_of client os) (clock + (k + 1)) ≡ false
rests_in client clock zero k next_id os within sent left = absurd (omega (arith, within))
rests_in client clock (suc n) zero next_id os within sent left =
    let at : clock + 1 ≡ clock + (0 + 1) = omega arith in
    subst (λ c. is_one_due os (outlooks_of client os) c ≡ false) at
    (rests_on client clock n next_id os sent left).rests
rests_in client clock (suc n) (suc k) next_id os within sent left =
    let at : clock + 1 + (k + 1) ≡ clock + (suc k + 1) = omega arith in
    let h = rests_on client clock n next_id os sent left in
    subst (λ c. is_one_due os (outlooks_of client os) c ≡ false) at
    (rests_in client (clock + 1) n k next_id os (omega (arith, within)) h.sent h.left)

-- whether something is due in a second, by the present answers of a device, and what its observations do in it then
abbrev is_due_in : Machine → ℕ → Bool
is_due_in f clock = is_one_due f.kept.observations (outlooks_of f.kept.client f.kept.observations) clock

abbrev turns_in : Machine → ℕ → Sweep
turns_in f clock = second f.kept.client clock f.kept.next_id f.kept.observations

-- in no second of a quiet tick is something due
rests_if_quiet : (f : Machine) (n clock : ℕ) → IsQuiet f n → f.kept.clock < clock → clock ≤ f.kept.clock + n
    → is_due_in f clock ≡ false
rests_if_quiet f n clock h after within =
    let at : f.kept.clock + (clock - f.kept.clock - 1 + 1) ≡ clock = omega (arith, after) in
    let same : length f.kept.observations ≤ length (sweep_in f.kept n).left =
    subst (λ (os : List Observation). length f.kept.observations ≤ length os) (sym h.observations) (omega arith) in
    subst (λ c. is_due_in f c ≡ false) at
    (rests_in f.kept.client f.kept.clock n (clock - f.kept.clock - 1) f.kept.next_id f.kept.observations
    (omega (arith, after, within)) (none_mapped send_of (sweep_in f.kept n).sent h.sent) same)

-- ---- the second in which quiet ends

ends_quiet : (f : Machine) (first : ℕ)
    → IsFirstDue f.kept.clock f.kept.observations (outlooks_of f.kept.client f.kept.observations) first
    → EndsQuiet f first
ends_quiet f first h =
    record {
      later = h.later;
      fits = h.fits;
      quiet_before = λ n within. at_rest f n (λ t after before. h.none_before t after (omega (arith, before, within)));
      acts = by (loud_second f.kept.client first f.kept.next_id f.kept.observations h.passes);
    }
  where
    whole : sweep_in f.kept (first - f.kept.clock)
        ≡ and_then (turns_in f first) (quiet_sweep (turns_in f first).next_id (turns_in f first).left)
    whole =
        let s = turns_in f first in
        let after = h.later in
        let over : f.kept.clock + (first - f.kept.clock) - first ≡ 0 = omega (arith, after) in
        jumps f.kept.client f.kept.clock (first - f.kept.clock) f.kept.next_id first f.kept.observations h
        (omega (arith, after))
        ∙ ap (λ m. and_then s (seconds f.kept.client first m s.next_id s.left)) over

    by : ((turns_in f first).sent ≢ []) ⊎ (length (turns_in f first).left < length f.kept.observations)
        → (map send_of (sweep_in f.kept (first - f.kept.clock)).sent ≢ [])
        ⊎ (length (sweep_in f.kept (first - f.kept.clock)).left < length f.kept.observations)
    by (inl some) =
        inl (λ nothing. some (none_left (turns_in f first).sent []
        (ap (λ (x : Sweep). x.sent) (sym whole)
        ∙ none_mapped send_of (sweep_in f.kept (first - f.kept.clock)).sent nothing)))
    by (inr fewer) = inr (subst (λ (x : Sweep). length x.left < length f.kept.observations) (sym whole) fewer)

-- a tick that sends something or leaves fewer is not quiet
not_quiet : (f : Machine) (n : ℕ)
    → (map send_of (sweep_in f.kept n).sent ≢ []) ⊎ (length (sweep_in f.kept n).left < length f.kept.observations)
    → IsQuiet f n → ⊥
not_quiet f n (inl some) h = some h.sent
not_quiet f n (inr fewer) h =
    let size = ap (λ (os : List Observation). length os) h.observations in
    omega (arith, fewer, size)

is_first_due : (f : Machine) (first : ℕ) → EndsQuiet f first
    → IsFirstDue f.kept.clock f.kept.observations (outlooks_of f.kept.client f.kept.observations) first
is_first_due f first h =
    record { later = h.later; fits = h.fits; passes = by (is_due_in f first) refl; none_before = before }
  where
    before : (clock : ℕ) → f.kept.clock < clock → clock < first → is_due_in f clock ≡ false
    before clock after earlier =
        rests_if_quiet f (clock - f.kept.clock) clock
        (h.quiet_before (clock - f.kept.clock) (omega (arith, after, earlier))) after (omega (arith, after))

    up_to : (t : ℕ) → f.kept.clock < t → is_due_in f first ≡ false → (t ≡ first) ⊎ (t < first)
        → is_due_in f t ≡ false
    up_to t after rest (inl is) = ap (is_due_in f) is ∙ rest
    up_to t after rest (inr earlier) = before t after earlier

    by : (b : Bool) → is_due_in f first ≡ b → b ≡ true
    by true due = refl
    by false rest =
        let later = h.later in
        absurd (not_quiet f (first - f.kept.clock) h.acts (at_rest f (first - f.kept.clock)
        (λ t after within. up_to t after rest (eq-or-lt_of_le (omega (arith, within, later))))))

pub quiet_ends : QuietEndsWhenDue
quiet_ends f first = (ends_quiet f first, is_first_due f first)

pub never_ends : QuietNeverEnds
never_ends f = (
  λ h n within. at_rest f n (λ t after before. h t after (omega (arith, before, within))),
  λ h clock after fits. rests_if_quiet f (clock - f.kept.clock) clock
      (h (clock - f.kept.clock) (omega (arith, after, fits))) after (omega (arith, after)),
)

pub due_ends : DueEndsQuiet
due_ends f first = (
  λ h. ends_quiet f first (first_due f.kept.client f.kept.clock f.kept.next_id f.kept.observations first h),
  λ h. first_sending f.kept.client f.kept.clock f.kept.next_id f.kept.observations first (is_first_due f first h),
)

pub silence : SilenceIsQuiet
silence f = (
  λ h n within. at_rest f n (λ t after before. rests_by_second f.kept.client t f.kept.next_id f.kept.observations
      (h t after (omega (arith, before, within)))),
  λ h t after fits. quiet_second f.kept.client t f.kept.next_id f.kept.observations
      (rests_if_quiet f (t - f.kept.clock) t (h (t - f.kept.clock) (omega (arith, after, fits))) after
      (omega (arith, after))),
)
