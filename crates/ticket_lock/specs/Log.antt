-- How a ticket lock reads the value that it keeps: a log whose entries each have a worker, a subject, and the open work
-- of each worker.
use Rattle.std.specs.Prelude.{◌≡◌, ℕ, ◌+◌, ◌==◌, List, [], ◌∷◌, ◌++◌, filter}
use Rattle.std.proofs.Common.{zero, suc}
use Rattle.std.specs.List.{AllByRecursion}
use Rattle.ticket_lock.specs.declared.logged.Share.{Share}

-- the parts of a value of T: entries of E, a subject of S, and the open work of each worker, of O
pub record Reading (T E S O : Type 0) : Type 0 where
  pub entries : T → List E
  pub worker : E → ℕ
  pub subject : T → S
  pub work : T → ℕ → O

-- the first list is a prefix of the second
abbrev pub Begins : {E : Type 0} → List E → List E → Type 0
Begins {E} front log = (after : List E) × (log ≡ front ++ after)

-- f of low, of low + 1 and so on, n of them
unfoldable pub each_of : {X : Type 0} → (ℕ → X) → ℕ → ℕ → List X
each_of f low zero = []
each_of f low (suc n) = f low ∷ each_of f (low + 1) n

module _ {T E S O : Type 0} (R : Reading T E S O) where
  -- a worker's own entries of a log, in order
  abbrev pub entries_of_worker : ℕ → List E → List E
  entries_of_worker w log = filter (λ e. R.worker e == w) log

  -- the own entries in a log of n workers, from low on
  abbrev pub entries_of_workers : List E → ℕ → ℕ → List (List E)
  entries_of_workers log low n = each_of (λ w. entries_of_worker w log) low n

  -- a worker's share of a value
  abbrev pub share : T → ℕ → Share E O
  share x w = record { own = entries_of_worker w (R.entries x); work = R.work x w }

  -- the shares of n workers, from low on
  abbrev pub shares : T → ℕ → ℕ → List (Share E O)
  shares x low n = each_of (share x) low n

  -- y is x with entries of the worker w after the others, the same subject, and the same open work of every other
  -- worker
  pub record Adds (w : ℕ) (x y : T) : Type 0 where
    pub added : List E
    pub entries : R.entries y ≡ R.entries x ++ added
    pub by_worker : AllByRecursion (λ e. R.worker e ≡ w) added
    pub subject : R.subject y ≡ R.subject x
    pub others : (n : ℕ) → (n ≡ w → ⊥) → R.work y n ≡ R.work x n
