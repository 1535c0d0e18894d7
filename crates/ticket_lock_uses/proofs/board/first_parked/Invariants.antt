use Rattle.std.proofs.Common.{◌≢◌, ℕ, ◌<◌}
use Rattle.std.specs.Prelude.{slice_index_or}
use Rattle.ticket_lock_uses.specs.declared.board.Place.{Place}
use Rattle.ticket_lock_uses.specs.declared.board.Place.TheVariants.{Parked}
use Rattle.ticket_lock_uses.proofs.board.first_parked.Given as goal

-- no place so far is parked
abbrev pub invariant-loop-i : goal.invariant-loop-i
invariant-loop-i l = (k : ℕ) (d : Place) → k < l.i → slice_index_or l.places k d ≢ Parked
