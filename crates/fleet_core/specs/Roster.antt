-- Whose turn it is in the serial run, as clauses of private functions name it. No promise rests on it.
use Rattle.std.specs.Prelude.{◌≡◌, ℕ, ◌+◌, ◌-◌, ◌<◌, ◌≤◌, ◌⊎◌, true, false, List, [], length, Contains, Option, None, Some}
use Rattle.std.specs.Prelude.{slice_index_or}
use Rattle.scenario_image.specs.declared.step.Step.{Step}
use Rattle.scenario_image.specs.declared.step.Step.TheVariants.{Event, Post, Need}
use Rattle.scenario_image.specs.Scenario.{Scenario}
use Rattle.trace_file.specs.declared.entry.Entry.{Entry}
use Rattle.fleet_core.specs.declared.roster.Roster.{Roster}
use Rattle.fleet_core.specs.Run.{step_at, made_by, is_enabled}

-- the device waits for this many posts to the group
abbrev pub IsListedFor : List (List (ℕ × ℕ)) → ℕ → ℕ → ℕ → Type 0
IsListedFor waiting g d n = Contains (slice_index_or waiting g []) (n, d)

-- a device whose next step is a need is listed for it
abbrev pub ListedBy : List (List (ℕ × ℕ)) → ℕ → Option Step → Type 0
ListedBy waiting d None = Unit {0}
ListedBy waiting d (Some (Event event)) = Unit {0}
ListedBy waiting d (Some (Post group)) = Unit {0}
ListedBy waiting d (Some (Need group count)) = IsListedFor waiting group d count

-- it may be able to step: it was woken, or had no turn yet
abbrev pub IsQueued : Roster → ℕ → Type 0
IsQueued r d = Contains r.woken d ⊎ ((r.fresh ≤ d) × (d < r.end))

abbrev pub queue_size : Roster → ℕ
queue_size r = length r.woken + (r.end - r.fresh)

-- the lowest of the queue was taken out
pub record TakesLowest (old new : Roster) (d : ℕ) : Type 0 where
  pub waiting : new.waiting ≡ old.waiting
  pub lowest : (e : ℕ) → IsQueued new e → d ≤ e
  pub others : (e : ℕ) → (e ≡ d → ⊥) → IsQueued old e → IsQueued new e
  pub smaller : queue_size new < queue_size old

abbrev pub Takes : Roster → Roster → Option ℕ → Type 0
Takes old new None = (d : ℕ) → IsQueued old d → ⊥
Takes old new (Some d) = TakesLowest old new d

-- it cannot step; if it waits, it is listed
pub record IsBlocked (s : Scenario) (es : List Entry) (waiting : List (List (ℕ × ℕ))) (d : ℕ) : Type 0 where
  pub stands : is_enabled s es d ≡ false
  pub listed : (g n : ℕ) → step_at s d (made_by d es) ≡ Some (Need g n) → IsListedFor waiting g d n

abbrev pub IsKnown : Scenario → List Entry → Roster → ℕ → Type 0
IsKnown s es r d = IsQueued r d ⊎ IsBlocked s es r.waiting.items d

-- it is the turn of this device: each other one is in the queue and higher, or blocked
pub record IsOnTurn (s : Scenario) (es : List Entry) (r : Roster) (low : ℕ) : Type 0 where
  pub groups : length r.waiting.items ≡ 256
  pub lowest : (d : ℕ) → IsQueued r d → low ≤ d
  pub others : (d : ℕ) → d < length s.rows → (d ≡ low → ⊥) → IsKnown s es r d

-- no device can step, or it is the turn of one that can
abbrev pub IsNextTurn : Scenario → List Entry → Roster → Option ℕ → Type 0
IsNextTurn s es r None = (d : ℕ) → is_enabled s es d ≡ false
IsNextTurn s es r (Some d) = (is_enabled s es d ≡ true) × IsOnTurn s es r d

-- those that wait for no more posts to the group were woken, with the device whose turn it was, and the lowest of the
-- queue is next
pub record HasWoken (old new : Roster) (g posts low next : ℕ) : Type 0 where
  pub groups : length new.waiting.items ≡ length old.waiting.items
  pub lowest : (d : ℕ) → IsQueued new d → next ≤ d
  pub last : (low ≡ next → ⊥) → IsQueued new low
  pub kept : (d : ℕ) → (d ≡ next → ⊥) → IsQueued old d → IsQueued new d
  pub woken : (d n : ℕ) → (d ≡ next → ⊥) → IsListedFor old.waiting.items g d n
      → IsQueued new d ⊎ (IsListedFor new.waiting.items g d n × (posts < n))
  pub listed : (h d n : ℕ) → (g ≡ h → ⊥) → IsListedFor old.waiting.items h d n → IsListedFor new.waiting.items h d n

-- there were too few posts to the group for each that waits, or those that waited for no more were woken
abbrev pub IsPosted : Roster → Roster → ℕ → ℕ → ℕ → ℕ → Type 0
IsPosted old new g posts low next =
    ((new ≡ old) × (next ≡ low) × ((d n : ℕ) → IsListedFor old.waiting.items g d n → posts < n))
    ⊎ HasWoken old new g posts low next

-- whose turn is next after a step; there are now this many posts to each group
abbrev pub TurnAfter : Roster → Roster → Option Step → (ℕ → ℕ) → ℕ → ℕ → Type 0
TurnAfter old new None posts low next = (new ≡ old) × (next ≡ low)
TurnAfter old new (Some (Event event)) posts low next = (new ≡ old) × (next ≡ low)
TurnAfter old new (Some (Post group)) posts low next = IsPosted old new group (posts group) low next
TurnAfter old new (Some (Need group count)) posts low next = (new ≡ old) × (next ≡ low)
