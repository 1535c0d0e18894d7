-- How a lock reads a list of pairs of a worker and a number: the pairs are its entries.
use Rattle.std.specs.Prelude.{ℕ, List, map}
use Rattle.ticket_lock.specs.Log.{Reading}

-- each pair is an entry of its first number; there is no subject and no open work
abbrev pub items_log : Reading (List (ℕ × ℕ)) (ℕ × ℕ) (Unit {0}) (Unit {0})
items_log = record { entries = λ l. l; worker = λ e. e.0; subject = λ _. tt; work = λ _ _. tt }

-- the numbers, each with the worker
abbrev pub by_worker : ℕ → List ℕ → List (ℕ × ℕ)
by_worker w numbers = map (λ n. (w, n)) numbers
