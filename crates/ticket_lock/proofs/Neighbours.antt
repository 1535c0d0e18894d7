-- Two passes of which one's numbers come right after the other's, in either order.
use Rattle.std.proofs.Common.{◌≡◌, ℕ, ◌+◌, ◌<◌, ◌≤◌, ◌⊎◌, inl, inr, ⊎_elim, min, cond, ◌++◌, ap, arith}
use Rattle.std.proofs.lemmas.Bool.{lt-ltb, le-ltb}
use mathlib.Core.Logic.{dite}
use native.Mathlib.Decide.{dec_lt}
use Rattle.ticket_lock.specs.declared.rule.View.{View}
use Rattle.ticket_lock.specs.Lock.{HasNumber, AreNeighbours}
use Rattle.ticket_lock.specs.Changes.{joined_view}

module _ {T E S O : Type 0} (v w : View T E S O) where
  -- a number of the joined pass is one of either
  pub in_one : AreNeighbours v w → (n : ℕ) → HasNumber (joined_view v w) n → HasNumber v n ⊎ HasNumber w n
  in_one next n h = ⊎_elim
      (λ (above : v.low + v.count ≡ w.low). dite (dec_lt n w.low)
      (λ lt. inl (omega arith, omega arith)) (λ ge. inr (omega arith, omega arith)))
      (λ (below : w.low + w.count ≡ v.low). dite (dec_lt n v.low)
      (λ lt. inr (omega arith, omega arith)) (λ ge. inl (omega arith, omega arith))) next

  pub shares_below : v.low < w.low → (joined_view v w).shares ≡ v.shares ++ w.shares
  shares_below lt = ap (λ t. cond t (v.shares ++ w.shares) (w.shares ++ v.shares)) (lt-ltb v.low w.low lt)

  pub shares_above : w.low ≤ v.low → (joined_view v w).shares ≡ w.shares ++ v.shares
  shares_above le = ap (λ t. cond t (v.shares ++ w.shares) (w.shares ++ v.shares)) (le-ltb v.low w.low le)
