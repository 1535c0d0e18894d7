-- What an open observation does in a second.
use Rattle.std.proofs.Common.{◌≡◌, ℕ, ◌+◌, ◌*◌, ◌<◌, ◌≤◌, ◌↔◌, ◌==◌, nat_le, ◌⊎◌, inl, inr}
use Rattle.std.proofs.Common.{Bool, true, false, ◌||◌, if◌then◌else◌, refl, sym, ap, ◌∙◌, arith}
use Rattle.std.proofs.lemmas.Bool.{eqb-true, eq-eqb, le-leb, leb-true}
use Rattle.lemmas.proofs.Numbers.{nat_le_above}
use Rattle.notifier.specs.Due.{acts_in}
use Rattle.notification_times.specs.Timeouts.{after_timeouts, is_resent, is_timed_out, max_retransmit}
use Rattle.notification_times.proofs.Sums.{all_passed, fourth_passed, second_passed, third_passed}
use Rattle.notifier.specs.Resending.{turn_of_resending}
use Rattle.notifier.specs.declared.pending.Outlook.{Outlook}
use Rattle.notifier.specs.declared.turn.Turn.{Turn}
use Rattle.notifier.specs.declared.turn.Turn.TheVariants.{Evaluate, Wait, Resend, Expire}

-- the turn by whether it is the second of the first, second, third and fourth resending, and whether all is over
abbrev chosen : Bool → Bool → Bool → Bool → Bool → Turn
chosen a b c d e = if e then Expire else (if (((false || a) || b) || c) || d then Resend else Wait)

-- a second is that of the kth resending
abbrev is_at : ℕ → ℕ → ℕ → ℕ → Bool
is_at s t clock k = clock == after_timeouts s t k

turned : (resent over : Bool) (s : ℕ) (p : Outlook) (clock : ℕ)
    → (resent || over) ≡ acts_in (if over then Expire else (if resent then Resend else Wait)) s p clock
turned true true s p clock = refl
turned true false s p clock = refl
turned false true s p clock = refl
turned false false s p clock = refl

-- an open observation acts in the seconds in which its notification is sent again, or given up
pub acts_when : (s t clock : ℕ) (p : Outlook)
    → (is_resent s t clock max_retransmit || is_timed_out s t clock) ≡ acts_in (turn_of_resending s t clock) s p clock
acts_when s t clock p = turned (is_resent s t clock max_retransmit) (is_timed_out s t clock) s p clock

-- ---- the turn of an open observation

-- one of four tests passes
abbrev OneOf : Bool → Bool → Bool → Bool → Type 0
OneOf a b c d = (a ≡ true) ⊎ ((b ≡ true) ⊎ ((c ≡ true) ⊎ (d ≡ true)))

chosen_once : (a b c d e : Bool) → chosen a b c d e ≡ Resend → OneOf a b c d
chosen_once a b c d true h = cc
chosen_once true b c d false h = inl refl
chosen_once false true c d false h = inr (inl refl)
chosen_once false false true d false h = inr (inr (inl refl))
chosen_once false false false true false h = inr (inr (inr refl))
chosen_once false false false false false h = cc

chosen_by_one : (a b c d e : Bool) → e ≡ false → OneOf a b c d → chosen a b c d e ≡ Resend
chosen_by_one a b c d true over h = cc
chosen_by_one true b c d false over h = refl
chosen_by_one false true c d false over h = refl
chosen_by_one false false true d false over h = refl
chosen_by_one false false false true false over h = refl
chosen_by_one false false false false false over (inl h) = cc
chosen_by_one false false false false false over (inr (inl h)) = cc
chosen_by_one false false false false false over (inr (inr (inl h))) = cc
chosen_by_one false false false false false over (inr (inr (inr h))) = cc

chosen_over : (a b c d e : Bool) → chosen a b c d e ≡ Expire → e ≡ true
chosen_over a b c d true h = refl
chosen_over true b c d false h = cc
chosen_over false true c d false h = cc
chosen_over false false true d false h = cc
chosen_over false false false true false h = cc
chosen_over false false false false false h = cc

-- it is one of these four seconds
abbrev IsOneOf : ℕ → ℕ → ℕ → Type 0
IsOneOf s t clock = (clock ≡ s + t) ⊎ ((clock ≡ s + 3 * t) ⊎ ((clock ≡ s + 7 * t) ⊎ (clock ≡ s + 15 * t)))

abbrev IsTestedOne : ℕ → ℕ → ℕ → Type 0
IsTestedOne s t clock =
    OneOf (is_at s t clock 1) (is_at s t clock 2) (is_at s t clock 3) (is_at s t clock 4)

seconds_are : (s t clock : ℕ) → IsTestedOne s t clock → IsOneOf s t clock
seconds_are s t clock (inl h) = inl (eqb-true clock (s + t) h)
seconds_are s t clock (inr (inl h)) = inr (inl (eqb-true clock (after_timeouts s t 2) h ∙ sym (second_passed s t)))
seconds_are s t clock (inr (inr (inl h))) =
    inr (inr (inl (eqb-true clock (after_timeouts s t 3) h ∙ sym (third_passed s t))))
seconds_are s t clock (inr (inr (inr h))) =
    inr (inr (inr (eqb-true clock (after_timeouts s t 4) h ∙ sym (fourth_passed s t))))

tests_are : (s t clock : ℕ) → IsOneOf s t clock → IsTestedOne s t clock
tests_are s t clock (inl h) = inl (eq-eqb clock (s + t) h)
tests_are s t clock (inr (inl h)) = inr (inl (eq-eqb clock (after_timeouts s t 2) (h ∙ second_passed s t)))
tests_are s t clock (inr (inr (inl h))) = inr (inr (inl (eq-eqb clock (after_timeouts s t 3) (h ∙ third_passed s t))))
tests_are s t clock (inr (inr (inr h))) = inr (inr (inr (eq-eqb clock (after_timeouts s t 4) (h ∙ fourth_passed s t))))

before_the_end : (s t clock : ℕ) → 0 < t → IsOneOf s t clock → clock < s + 31 * t
before_the_end s t clock some (inl h) = omega (arith, some, h)
before_the_end s t clock some (inr (inl h)) = omega (arith, some, h)
before_the_end s t clock some (inr (inr (inl h))) = omega (arith, some, h)
before_the_end s t clock some (inr (inr (inr h))) = omega (arith, some, h)

pub resent : (s t clock : ℕ) → 0 < t → (turn_of_resending s t clock ≡ Resend) ↔ IsOneOf s t clock
resent s t clock some = (
  λ h. seconds_are s t clock (chosen_once (is_at s t clock 1) (is_at s t clock 2) (is_at s t clock 3)
      (is_at s t clock 4) (is_timed_out s t clock) h),
  λ h. chosen_by_one (is_at s t clock 1) (is_at s t clock 2) (is_at s t clock 3) (is_at s t clock 4)
      (is_timed_out s t clock)
      (ap (λ n. nat_le n clock) (sym (all_passed s t))
      ∙ nat_le_above (s + 31 * t) clock (before_the_end s t clock some h))
      (tests_are s t clock h),
)

chosen_at_the_end : (a b c d e : Bool) → e ≡ true → chosen a b c d e ≡ Expire
chosen_at_the_end a b c d true over = refl
chosen_at_the_end a b c d false over = cc

pub timed_out : (s t clock : ℕ) → (turn_of_resending s t clock ≡ Expire) ↔ (s + 31 * t ≤ clock)
timed_out s t clock =
    let same = ap (λ n. nat_le n clock) (all_passed s t) in (
      λ h. leb-true (s + 31 * t) clock (same ∙ chosen_over (is_at s t clock 1) (is_at s t clock 2)
          (is_at s t clock 3) (is_at s t clock 4) (is_timed_out s t clock) h),
      λ h. chosen_at_the_end (is_at s t clock 1) (is_at s t clock 2) (is_at s t clock 3)
          (is_at s t clock 4) (is_timed_out s t clock) (sym same ∙ le-leb (s + 31 * t) clock h),
    )

chosen_alone : (a b c d e : Bool) → chosen a b c d e ≡ Evaluate → ⊥
chosen_alone a b c d true h = cc
chosen_alone true b c d false h = cc
chosen_alone false true c d false h = cc
chosen_alone false false true d false h = cc
chosen_alone false false false true false h = cc
chosen_alone false false false false false h = cc

pub not_evaluated : (s t clock : ℕ) → turn_of_resending s t clock ≡ Evaluate → ⊥
not_evaluated s t clock h =
    chosen_alone (is_at s t clock 1) (is_at s t clock 2) (is_at s t clock 3) (is_at s t clock 4)
    (is_timed_out s t clock) h
