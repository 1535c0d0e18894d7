-- How a lock reads a board: its open work under a number is the places that are out under it.
use Rattle.std.specs.Prelude.{ℕ, ◌+◌, ◌==◌, Bool, false, if◌then◌else◌, List, [], ◌∷◌, length}
use Rattle.ticket_lock.specs.Log.{Reading}
use Rattle.ticket_lock_uses.specs.declared.board.Place.{Place}
use Rattle.ticket_lock_uses.specs.declared.board.Place.TheVariants.{Parked, Out}

abbrev pub is_out : ℕ → Place → Bool
is_out w Parked = false
is_out w (Out v) = v == w

-- the places that are out under w, where the first one has the number i
abbrev pub places_out : ℕ → List Place → ℕ → List ℕ
places_out w [] i = []
places_out w (p ∷ ps) i = if is_out w p then i ∷ places_out w ps (i + 1) else places_out w ps (i + 1)

-- a board has no entries; its subject is how many places it has
abbrev pub board_log : Reading (List Place) (Unit {0}) ℕ (List ℕ)
board_log = record { entries = λ _. []; worker = λ _. 0; subject = length; work = λ b w. places_out w b 0 }
