-- Which workers have stopped a trace.
use Rattle.std.specs.Prelude.{ℕ, ◌==◌, ◌||◌, Bool, true, false, List, [], ◌∷◌}
use Rattle.shared_trace.specs.declared.stops.Stops.{Stops, Never, By'}

-- their numbers, from the last one on
abbrev pub numbers_in : Stops → List ℕ
numbers_in Never = []
numbers_in (By' at before worker) = worker ∷ numbers_in before

abbrev pub is_any : List ℕ → Bool
is_any [] = false
is_any (n ∷ numbers) = true

abbrev pub is_among : ℕ → List ℕ → Bool
is_among worker [] = false
is_among worker (n ∷ numbers) = n == worker || is_among worker numbers
