-- The devices that may be ready, and those that wait for posts, as clauses of private functions name them. No promise
-- rests on it.
use Rattle.std.specs.Prelude.{ℕ, ◌<◌, ◌≤◌, List, [], length, Contains, slice_index_or}
use Rattle.fleet_core.specs.declared.next.Next.{Next}
use Rattle.fleet_core.specs.declared.next.Next.TheVariants.{End, Free, Waits}

-- the devices from `fresh` on, and those before it that were woken
pub record CandidatesModel : Type 0 where
  pub fresh : ℕ
  pub woken : List ℕ

-- the device is one of them
abbrev pub IsCandidate : CandidatesModel → ℕ → Type 0
IsCandidate c d = d < c.fresh → Contains c.woken d

-- the devices that wait for posts to a group, each after the number of posts, and how many more there is room for
pub record WaitersModel : Type 0 where
  pub pairs : List (ℕ × ℕ)
  pub room : ℕ

abbrev pub no_waiters : WaitersModel
no_waiters = record { pairs = []; room = 0 }

-- the device waits for this many posts to the group
abbrev pub IsListedFor : List WaitersModel → ℕ → ℕ → ℕ → Type 0
IsListedFor waiting g d n = Contains (slice_index_or waiting g no_waiters).pairs (n, d)

-- there is room for a device with this next step among those that wait, unless nothing is posted to its group
abbrev pub HasRoomFor : List WaitersModel → Next → Type 0
HasRoomFor waiting End = Unit {0}
HasRoomFor waiting Free = Unit {0}
HasRoomFor waiting (Waits g n) = g < length waiting → 1 ≤ (slice_index_or waiting g no_waiters).room
