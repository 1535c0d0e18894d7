-- The steps of a ticket lock, by themselves: what each does to the words, the slot and the views, and what holds after
-- every list of them.
use Rattle.std.specs.Prelude.{◌≡◌, ◌≢◌, ℕ, ◌+◌, ◌*◌, ◌/◌, ◌%◌, ◌<◌, ◌≤◌, Bool, true, false, List, [], ◌∷◌, ◌++◌}
use Rattle.std.specs.Prelude.{slice_index, slice_set, Option, Some}
use mathlib.Core.Option.{none, some}
use lib.ListN.{get_elem?}
use Rattle.atomic_table.specs.Table.{State}
use Rattle.ticket_lock.specs.declared.rule.TheConstants.{NUMBERS, LAST}
use Rattle.ticket_lock.specs.declared.rule.View.{View}
use Rattle.ticket_lock.specs.declared.rule.Stage.TheVariants.{Waiting, Inside}
use Rattle.ticket_lock.specs.Log.{Reading, Adds}
use Rattle.ticket_lock.specs.Lock.{IsAt, is_live, is_resting, is_inside, AreNeighbours, Fits}
use Rattle.ticket_lock.specs.Changes.{empty_view, with_end_seen, with_stage, lower_part, upper_part, joined_view}
use Rattle.ticket_lock.specs.Changes.{opening_view, view_inside, view_after_give}

-- a step, by the place of the pass that steps; a join also by the other's, a draw by the ticket that it expects, and a
-- leave by the value that goes back
pub data Move (T : Type 0) : Type 0 where
  splits : ℕ → Move T
  joins : ℕ → ℕ → Move T
  loads : ℕ → Move T
  draws : ℕ → ℕ → Move T
  enters : ℕ → Move T
  leaves : ℕ → T → Move T
  closes : ℕ → Move T

module _ {T : Type 0} where
  abbrev pub is_close : Move T → Bool
  is_close (closes id) = true
  is_close _ = false

module _ {T E S O : Type 0} (R : Reading T E S O) where
  -- the lock as it is made: the first ticket is both words' start, the value is at home, and one pass has all numbers
  abbrev pub initial_lock : ℕ → T → State (Option T) (View T E S O)
  initial_lock first x =
      record { words = first ∷ (2 * first) ∷ []; homes = some (Some x) ∷ []; views = opening_view R x first ∷ [] }

  -- what one step makes of the lock
  abbrev pub Steps : Move T → State (Option T) (View T E S O) → State (Option T) (View T E S O) → Type 0
  Steps (splits id) s t =
      (v : View T E S O) × IsAt s.views id v × (is_resting v.stage ≡ true) × (1 < v.count)
      × (t ≡ record s { views = slice_set s.views id (lower_part v) ++ upper_part v ∷ [] })
  Steps (joins id other) s t =
      (v : View T E S O) × (w : View T E S O) × IsAt s.views id v × IsAt s.views other w × (other ≢ id)
      × (is_resting v.stage ≡ true) × (is_resting w.stage ≡ true) × AreNeighbours v w
      × (t ≡ record s { views = slice_set (slice_set s.views id (joined_view v w)) other empty_view })
  Steps (loads id) s t =
      (v : View T E S O) × IsAt s.views id v × (is_live v.stage ≡ true)
      × (slice_index s.words 0 ≡ LAST → t ≡ record s { views = slice_set s.views id (with_end_seen v) })
      × (slice_index s.words 0 ≢ LAST → t ≡ s)
  Steps (draws id ticket) s t =
      (v : View T E S O) × IsAt s.views id v × (is_resting v.stage ≡ true) × (ticket < LAST)
      × (slice_index s.words 0 ≡ ticket → t ≡ record s {
        words = slice_set s.words 0 (ticket + 1);
        views = slice_set s.views id (with_stage v (Waiting ticket));
      })
      × (slice_index s.words 0 ≢ ticket → t ≡ s)
  Steps (enters id) s t =
      (v : View T E S O) × (ticket : ℕ) × IsAt s.views id v × (v.stage ≡ Waiting ticket)
      × (slice_index s.words 1 ≡ 2 * ticket
      → (x : T) × (get_elem? s.homes 0 ≡ some (some (Some x)))
      × (t ≡ record {
        words = slice_set s.words 1 (2 * ticket + 1);
        homes = slice_set s.homes 0 none;
        views = slice_set s.views id (view_inside R v ticket x);
      }))
      × (slice_index s.words 1 ≢ 2 * ticket → t ≡ s)
  Steps (leaves id y) s t =
      (v : View T E S O) × (ticket : ℕ) × (x : T) × IsAt s.views id v × (v.stage ≡ Inside ticket x) × Adds R v.low x y
      × (t ≡ record {
        words = slice_set s.words 1 (2 * ticket + 2);
        homes = slice_set s.homes 0 (some (Some y));
        views = slice_set s.views id (view_after_give R v y);
      })
  Steps (closes id) s t =
      (v : View T E S O) × IsAt s.views id v × (is_resting v.stage ≡ true) × (v.count ≡ NUMBERS) × (t ≡ s)

  -- the steps in order, of any passes, of which a close is the last
  abbrev pub Run : List (Move T) → State (Option T) (View T E S O) → State (Option T) (View T E S O) → Type 0
  Run [] s u = u ≡ s
  Run (m ∷ ms) s u = (t : State (Option T) (View T E S O)) × Steps m s t × (is_close m ≡ true → ms ≡ []) × Run ms t u

module _ {T E S O : Type 0} where
  -- One pass at most is inside. The value is at home if `serving` is even. If that is odd, it is out with the pass
  -- inside, which has the ticket that is served
  pub record IsExclusive (s : State (Option T) (View T E S O)) : Type 0 where
    pub one : (i j : ℕ) (v w : View T E S O) → IsAt s.views i v → IsAt s.views j w
        → is_inside v.stage ≡ true → is_inside w.stage ≡ true → i ≡ j
    pub at_home : slice_index s.words 1 % 2 ≡ 0 → (x : T) × (get_elem? s.homes 0 ≡ some (some (Some x)))
    pub out : slice_index s.words 1 % 2 ≡ 1
        → (get_elem? s.homes 0 ≡ some none)
        × ((i : ℕ) × (v : View T E S O) × (x : T) × IsAt s.views i v
        × (v.stage ≡ Inside (slice_index s.words 1 / 2) x))
    pub inside : (i : ℕ) (v : View T E S O) → IsAt s.views i v → is_inside v.stage ≡ true
        → slice_index s.words 1 % 2 ≡ 1

-- every list of steps from a make keeps the rule, and one pass at most is inside
abbrev pub Law : {T E S O : Type 0} → Reading T E S O → Type 0
Law {T} {E} {S} {O} R =
    (first : ℕ) (x : T) → first ≤ LAST → (moves : List (Move T)) (s : State (Option T) (View T E S O))
    → Run R moves (initial_lock R first x) s → Fits R (x, first) s × IsExclusive s
