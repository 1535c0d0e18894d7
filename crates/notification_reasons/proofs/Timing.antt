-- Which resending comes at a second.
use Rattle.std.proofs.Common.{◌≡◌, ◌==◌, ℕ, ◌+◌, ◌-◌, ◌*◌, ◌<◌, ◌≤◌, Bool, true, false, ◌||◌, Option, None}
use Rattle.std.proofs.Common.{Some, zero, suc, if◌then◌else◌, refl, sym, ap, ◌∙◌, arith}
use Rattle.std.proofs.lemmas.Bool.{eq-eqb, eqb-true, ne_eqb, leb-false, leb-true}
use Rattle.notification_times.specs.Timeouts.{after_timeouts, is_resent, is_timed_out}
use Rattle.notifier.specs.Resending.{turn_of_resending, turn_with}
use Rattle.notifier.specs.declared.observation.Timer.{Timer}
use Rattle.notifier.specs.declared.turn.Turn.TheVariants.{Wait, Resend, Expire}
use Rattle.notification_reasons.specs.Finding.{times_of}

-- a second is that of the kth resending
abbrev is_at : ℕ → ℕ → ℕ → ℕ → Bool
is_at s t clock k = clock == after_timeouts s t k

-- it is that of one of the four, and the last timeout is still to come
abbrev IsKth : ℕ → ℕ → ℕ → ℕ → Type 0
IsKth s t clock k = (1 ≤ k) × (k ≤ 4) × (clock ≡ after_timeouts s t k)

chosen : (s t clock : ℕ) (a b c d e : Bool) → is_at s t clock 1 ≡ a → is_at s t clock 2 ≡ b → is_at s t clock 3 ≡ c
    → is_at s t clock 4 ≡ d
    → (if e then Expire else (if (((false || a) || b) || c) || d then Resend else Wait)) ≡ Resend
    → (e ≡ false) × ((k : ℕ) × IsKth s t clock k)
chosen s t clock a b c d true ha hb hc hd h = absurd cc
chosen s t clock true b c d false ha hb hc hd h =
    (refl, (1, (omega arith, omega arith, eqb-true clock (after_timeouts s t 1) ha)))
chosen s t clock false true c d false ha hb hc hd h =
    (refl, (2, (omega arith, omega arith, eqb-true clock (after_timeouts s t 2) hb)))
chosen s t clock false false true d false ha hb hc hd h =
    (refl, (3, (omega arith, omega arith, eqb-true clock (after_timeouts s t 3) hc)))
chosen s t clock false false false true false ha hb hc hd h =
    (refl, (4, (omega arith, omega arith, eqb-true clock (after_timeouts s t 4) hd)))
chosen s t clock false false false false false ha hb hc hd h = absurd cc

-- ---- the sums of the timeouts

first_sum : (s t : ℕ) → after_timeouts s t 1 ≡ s + t
first_sum s t = refl

second_sum : (s t : ℕ) → after_timeouts s t 2 ≡ s + 3 * t
second_sum s t = let sum : s + t + 2 * t ≡ s + 3 * t = omega arith in sum

third_sum : (s t : ℕ) → after_timeouts s t 3 ≡ s + 7 * t
third_sum s t = let sum : s + t + 2 * t + 2 * (2 * t) ≡ s + 7 * t = omega arith in sum

fourth_sum : (s t : ℕ) → after_timeouts s t 4 ≡ s + 15 * t
fourth_sum s t = let sum : s + t + 2 * t + 2 * (2 * t) + 2 * (2 * (2 * t)) ≡ s + 15 * t = omega arith in sum

last_sum : (s t : ℕ) → after_timeouts s t 5 ≡ s + 31 * t
last_sum s t =
    let sum : s + t + 2 * t + 2 * (2 * t) + 2 * (2 * (2 * t)) + 2 * (2 * (2 * (2 * t))) ≡ s + 31 * t = omega arith in
    sum

-- it is sent again only with a timeout above 0
some_timeout : (s t clock k : ℕ) → IsKth s t clock k → clock < s + 31 * t → 0 < t
some_timeout s t clock zero h before = absurd (omega (arith, h.0))
some_timeout s t clock (suc zero) h before = omega (arith, h.2 ∙ first_sum s t, before)
some_timeout s t clock (suc (suc zero)) h before = omega (arith, h.2 ∙ second_sum s t, before)
some_timeout s t clock (suc (suc (suc zero))) h before = omega (arith, h.2 ∙ third_sum s t, before)
some_timeout s t clock (suc (suc (suc (suc zero)))) h before = omega (arith, h.2 ∙ fourth_sum s t, before)
some_timeout s t clock (suc (suc (suc (suc (suc k))))) h before = absurd (omega (arith, h.1))

-- the number of the resending by the seconds since the first sending
one : (t after : ℕ) → after ≡ t → times_of t after ≡ 1
one t after h = rw (eq-eqb after t h) refl

two : (t after : ℕ) → 0 < t → after ≡ 3 * t → times_of t after ≡ 2
two t after some h = rw (ne_eqb after t (λ e. omega (arith, some, h, e)), eq-eqb after (3 * t) h) refl

three : (t after : ℕ) → 0 < t → after ≡ 7 * t → times_of t after ≡ 3
three t after some h =
    rw (
      ne_eqb after t (λ e. omega (arith, some, h, e)),
      ne_eqb after (3 * t) (λ e. omega (arith, some, h, e)),
      eq-eqb after (7 * t) h,
    ) refl

four : (t after : ℕ) → 0 < t → after ≡ 15 * t → times_of t after ≡ 4
four t after some h =
    rw (
      ne_eqb after t (λ e. omega (arith, some, h, e)),
      ne_eqb after (3 * t) (λ e. omega (arith, some, h, e)),
      ne_eqb after (7 * t) (λ e. omega (arith, some, h, e)),
    ) refl

pub times_are : (s t clock k : ℕ) → 0 < t → IsKth s t clock k → times_of t (clock - s) ≡ k
times_are s t clock zero some h = absurd (omega (arith, h.0))
times_are s t clock (suc zero) some h = one t (clock - s) (omega (arith, h.2 ∙ first_sum s t))
times_are s t clock (suc (suc zero)) some h = two t (clock - s) some (omega (arith, h.2 ∙ second_sum s t))
times_are s t clock (suc (suc (suc zero))) some h = three t (clock - s) some (omega (arith, h.2 ∙ third_sum s t))
times_are s t clock (suc (suc (suc (suc zero)))) some h =
    four t (clock - s) some (omega (arith, h.2 ∙ fourth_sum s t))
times_are s t clock (suc (suc (suc (suc (suc k))))) some h = absurd (omega (arith, h.1))

-- it comes after the first sending
later : (s t clock k : ℕ) → IsKth s t clock k → s ≤ clock
later s t clock zero h = absurd (omega (arith, h.0))
later s t clock (suc zero) h = omega (arith, h.2 ∙ first_sum s t)
later s t clock (suc (suc zero)) h = omega (arith, h.2 ∙ second_sum s t)
later s t clock (suc (suc (suc zero))) h = omega (arith, h.2 ∙ third_sum s t)
later s t clock (suc (suc (suc (suc zero)))) h = omega (arith, h.2 ∙ fourth_sum s t)
later s t clock (suc (suc (suc (suc (suc k))))) h = absurd (omega (arith, h.1))

-- all of a resending
pub record IsAgain (s : ℕ) (timer : Timer) (clock : ℕ) : Type 0 where
  pub some : 0 < timer.first
  pub low : 1 ≤ times_of timer.first (clock - s)
  pub high : times_of timer.first (clock - s) ≤ 4
  pub at : clock ≡ after_timeouts s timer.first (times_of timer.first (clock - s))
  pub after : clock ≡ s + (clock - s)

again : (s : ℕ) (timer : Timer) (clock : ℕ) → turn_of_resending s timer.first clock ≡ Resend → IsAgain s timer clock
again s timer clock h =
    let t = timer.first in
    let parts = chosen s t clock (is_at s t clock 1) (is_at s t clock 2) (is_at s t clock 3) (is_at s t clock 4)
    (is_timed_out s t clock) refl refl refl refl h in
    let before = leb-false (after_timeouts s t 5) clock parts.0 in
    let some : 0 < t = some_timeout s t clock parts.1.0 parts.1.1 (omega (arith, before, last_sum s t)) in
    let times : times_of t (clock - s) ≡ parts.1.0 = times_are s t clock parts.1.0 some parts.1.1 in
    record {
      some = some;
      low = omega (arith, times, parts.1.1.0);
      high = omega (arith, times, parts.1.1.1);
      at = parts.1.1.2 ∙ ap (after_timeouts s t) (sym times);
      after = omega (arith, later s t clock parts.1.0 parts.1.1);
    }

-- only what is open is sent again
pub sent_again : (s : ℕ) (timer : Option Timer) (clock : ℕ) → turn_with s timer clock ≡ Resend
    → (t : Timer) × (timer ≡ Some t) × IsAgain s t clock
sent_again s None clock h = absurd cc
sent_again s (Some t) clock h = (t, refl, again s t clock h)

-- ---- the end

over : (e b : Bool) → (if e then Expire else (if b then Resend else Wait)) ≡ Expire → e ≡ true
over true b h = refl
over false true h = absurd cc
over false false h = absurd cc

-- the last timeout has passed, and so the first sending is past
pub record IsOver (s : ℕ) (timer : Timer) (clock : ℕ) : Type 0 where
  pub over : after_timeouts s timer.first 5 ≤ clock
  pub after : clock ≡ s + (clock - s)

-- only what is open ends so
pub given_up : (s : ℕ) (timer : Option Timer) (clock : ℕ) → turn_with s timer clock ≡ Expire
    → (t : Timer) × (timer ≡ Some t) × IsOver s t clock
given_up s None clock h = absurd cc
given_up s (Some t) clock h =
    let passed = over (is_timed_out s t.first clock) (is_resent s t.first clock 4) h in
    let last = leb-true (after_timeouts s t.first 5) clock passed in
    (t, refl, record { over = last; after = omega (arith, last, last_sum s t.first) })
