-- The seconds at which a confirmable notification is sent again: the sums of its timeouts.
use Rattle.std.proofs.Common.{◌≡◌, ℕ, ◌+◌, ◌*◌, ◌==◌, nat_le, Bool, true, false, ◌||◌, refl, ◌∙◌, arith}
use Rattle.notification_times.specs.Timeouts.{after_timeouts, is_resent, is_timed_out, max_retransmit}

pub second_passed : (s t : ℕ) → s + 3 * t ≡ after_timeouts s t 2
second_passed s t = let sum : s + 3 * t ≡ s + t + 2 * t = omega arith in sum

pub third_passed : (s t : ℕ) → s + 7 * t ≡ after_timeouts s t 3
third_passed s t = let sum : s + 7 * t ≡ s + t + 2 * t + 2 * (2 * t) = omega arith in sum

pub fourth_passed : (s t : ℕ) → s + 15 * t ≡ after_timeouts s t 4
fourth_passed s t =
    let sum : s + 15 * t ≡ s + t + 2 * t + 2 * (2 * t) + 2 * (2 * (2 * t)) = omega arith in sum

pub all_passed : (s t : ℕ) → s + 31 * t ≡ after_timeouts s t 5
all_passed s t =
    let sum : s + 31 * t ≡ s + t + 2 * t + 2 * (2 * t) + 2 * (2 * (2 * t)) + 2 * (2 * (2 * (2 * t))) = omega arith in
    sum

in_turn : (a b c d e : Bool) → (a || (b || (c || (d || e)))) ≡ (((((false || a) || b) || c) || d) || e)
in_turn true b c d e = refl
in_turn false true c d e = refl
in_turn false false true d e = refl
in_turn false false false d e = refl

-- a second is that of the kth resending
abbrev is_at : ℕ → ℕ → ℕ → ℕ → Bool
is_at s t clock k = clock == after_timeouts s t k

pub due_by_sums : (s t clock : ℕ)
    → (clock == s + t || (clock == s + 3 * t || (clock == s + 7 * t
    || (clock == s + 15 * t || nat_le (s + 31 * t) clock))))
    ≡ (is_resent s t clock max_retransmit || is_timed_out s t clock)
due_by_sums s t clock =
    (λ i. clock == s + t || (clock == second_passed s t i || (clock == third_passed s t i
    || (clock == fourth_passed s t i || nat_le (all_passed s t i) clock))))
    ∙ in_turn (is_at s t clock 1) (is_at s t clock 2) (is_at s t clock 3) (is_at s t clock 4) (is_timed_out s t clock)
