-- The rule of a ticket lock: what its two words, its slot and the views of all passes have to do with each other
-- between any two steps.
use Rattle.std.specs.Prelude.{◌≡◌, ◌≢◌, ℕ, ◌+◌, ◌*◌, ◌/◌, ◌%◌, ◌<◌, ◌≤◌, Bool, true, false, List, [], ◌∷◌, ◌++◌, Option}
use Rattle.std.specs.Prelude.{Some, None, ◌⊎◌}
use Rattle.std.proofs.Common.{zero, suc}
use Rattle.std.specs.List.{AllByRecursion}
use mathlib.Core.Option.{none, some}
use mathlib.Core.Option as maybe
use lib.ListN.{get_elem?}
use Rattle.atomic_table.specs.Table.{State}
use Rattle.ticket_lock.specs.declared.rule.TheConstants.{NUMBERS, LAST}
use Rattle.ticket_lock.specs.declared.rule.View.{View}
use Rattle.ticket_lock.specs.declared.rule.Stage.{Stage}
use Rattle.ticket_lock.specs.declared.rule.Stage.TheVariants.{Spent, Resting, Waiting, Inside}
use Rattle.ticket_lock.specs.Log.{Reading, Begins, shares}

-- the view v stands at place i
abbrev pub IsAt : {V : Type 0} → List V → ℕ → V → Type 0
IsAt views i v = get_elem? views i ≡ some v

module _ {T : Type 0} where
  -- what the slot is at home with, by what `serving` leaves when it is halved
  abbrev pub home_of : ℕ → T → maybe.Option (Option T)
  home_of zero x = some (Some x)
  home_of (suc n) x = none

  abbrev pub is_live : Stage T → Bool
  is_live Spent = false
  is_live _ = true

  abbrev pub is_resting : Stage T → Bool
  is_resting Resting = true
  is_resting _ = false

  abbrev pub is_inside : Stage T → Bool
  is_inside (Inside t x) = true
  is_inside _ = false

  -- the ticket, and 0 where there is none
  abbrev pub ticket_of : Stage T → ℕ
  ticket_of (Waiting t) = t
  ticket_of (Inside t x) = t
  ticket_of _ = 0

  -- the value as found by the pass inside, and d where it is not inside
  abbrev pub found_or : Stage T → T → T
  found_or (Inside t x) d = x
  found_or _ d = d

  -- the one slot is out, and vacant
  abbrev pub holds_slot : List (ℕ × Option T) → Bool
  holds_slot ((zero, None) ∷ []) = true
  holds_slot _ = false

  abbrev pub HasTicket : Stage T → ℕ → Type 0
  HasTicket Spent t = ⊥
  HasTicket Resting t = ⊥
  HasTicket (Waiting u) t = u ≡ t
  HasTicket (Inside u x) t = u ≡ t

  -- a ticket that waits is not served yet, and one that is inside is the one that is served; both are drawn
  abbrev pub Stands : ℕ → ℕ → T → Stage T → Type 0
  Stands next serving value Spent = Unit {0}
  Stands next serving value Resting = Unit {0}
  Stands next serving value (Waiting t) = (serving ≤ 2 * t) × (t < next)
  Stands next serving value (Inside t x) = (serving ≡ 2 * t + 1) × (t < next) × (x ≡ value)

module _ {T E S O : Type 0} where
  -- the pass stands for this number, maybe with others
  abbrev pub HasNumber : View T E S O → ℕ → Type 0
  HasNumber v n = (v.low ≤ n) × (n < v.low + v.count)

  -- the numbers of one come right after those of the other
  abbrev pub AreNeighbours : View T E S O → View T E S O → Type 0
  AreNeighbours v w = (v.low + v.count ≡ w.low) ⊎ (w.low + w.count ≡ v.low)

  -- two passes have no number and no ticket in common
  pub record IsApart (v w : View T E S O) : Type 0 where
    pub numbers : (n : ℕ) → HasNumber v n → HasNumber w n → ⊥
    pub tickets : (t : ℕ) → HasTicket v.stage t → HasTicket w.stage t → ⊥

module _ {T E S O : Type 0} (R : Reading T E S O) where
  -- the entry carries a number of the lock, and none of those from low on
  abbrev pub IsOther : ℕ → ℕ → E → Type 0
  IsOther low count e =
      (1 ≤ R.worker e) × (R.worker e < NUMBERS + 1) × (low ≤ R.worker e → R.worker e < low + count → ⊥)

  -- the pass's front is a prefix of the value's log and lacks none of its own entries; its subject and its shares are
  -- the value's
  pub record IsAware (value : T) (v : View T E S O) : Type 0 where
    pub after : List E
    pub front : R.entries value ≡ v.front ++ after
    pub others : AllByRecursion (IsOther v.low v.count) after
    pub subject : v.subject ≡ Some (R.subject value)
    pub shares : v.shares ≡ shares R value v.low v.count

  -- what holds of one seat
  pub record Knows (next serving : ℕ) (value : T) (v : View T E S O) : Type 0 where
    pub stands : Stands next serving value v.stage
    pub empty : is_live v.stage ≡ false → v.count ≡ 0
    pub within : is_live v.stage ≡ true → (0 < v.count) × (1 ≤ v.low) × (v.low + v.count ≤ NUMBERS + 1)
    pub seen_end : v.end ≡ true → next ≡ LAST
    pub turn : (t : ℕ) → v.turn ≡ Some t → (v.count ≡ NUMBERS) × (serving / 2 ≡ t)
    pub earlier : Begins v.earlier v.front
    pub aware : is_live v.stage ≡ true → IsAware value v

  -- The rule. The value is the one at home or, while it is out, the value as found
  pub record Fits (opened : T × ℕ) (s : State (Option T) (View T E S O)) : Type 0 where
    pub next : ℕ
    pub serving : ℕ
    pub value : T
    pub words : s.words ≡ next ∷ serving ∷ []
    pub homes : s.homes ≡ home_of (serving % 2) value ∷ []
    pub served : serving ≤ 2 * next
    pub drawn : next ≤ LAST
    pub subject : R.subject value ≡ R.subject opened.0
    pub begun : opened.1 ≤ next
    pub each : (i : ℕ) (v : View T E S O) → IsAt s.views i v → Knows next serving value v
    pub apart : (i j : ℕ) (v w : View T E S O) → IsAt s.views i v → IsAt s.views j w → i ≢ j → IsApart v w
    pub held : (t : ℕ) → serving / 2 ≤ t → t < next
        → (i : ℕ) × (v : View T E S O) × IsAt s.views i v × HasTicket v.stage t
