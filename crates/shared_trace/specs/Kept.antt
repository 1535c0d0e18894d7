-- What a trace and a job keep beside what contracts see.
use Rattle.std.specs.Prelude.{◌≡◌, ℕ, ◌+◌, ◌<◌, ◌≤◌, ◌==◌, max, Bool, true, false, List, [], ◌∷◌, ◌++◌}
use Rattle.std.specs.Prelude.{length, map}
use Rattle.std.specs.Prelude.{count_by, Some}
use Rattle.std.specs.Prelude.{slice_get, slice_index}
use Rattle.std.specs.List.{AllByRecursion, fold}
use Rattle.scenario_image.specs.declared.step.Step.{Step}
use Rattle.scenario_image.specs.declared.step.Step.TheVariants.{Event, Post, Need}
use Rattle.scenario_image.specs.Scenario.{Row, Scenario, IsValid}
use Rattle.trace_file.specs.declared.entry.Entry.{Entry}
use Rattle.fleet_core.specs.declared.next.Next.{Next}
use Rattle.fleet_core.specs.declared.next.Next.TheVariants.{End, Free, Waits}
use Rattle.fleet_core.specs.Next.{next_of, may_pass}
use Rattle.fleet_core.specs.Run.{made_by, posts_of, step_at, is_enabled, IsRun}
use Rattle.fleet_core.specs.Board.{HoldsAfter, Holding}
use Rattle.device_stations.specs.declared.station.Place.{Place}
use Rattle.device_stations.specs.declared.station.Station.{Station}
use Rattle.device_stations.specs.Stations.{is_parked, is_ready}
use Rattle.shared_trace.specs.declared.roster.Roster.{Roster}
use Rattle.shared_trace.specs.Roster.{CandidatesModel, WaitersModel, IsCandidate, IsListedFor}
use Rattle.shared_trace.specs.Trace.{IsPlaced}
use Rattle.shared_trace.specs.Job.{IsOf}

-- how many places a table needs for this step: for a post those up to its group's
abbrev pub places_for : Step → ℕ
places_for (Event event) = 0
places_for (Post group) = group + 1
places_for (Need group count) = 0

abbrev pub places_for_steps : List Step → ℕ
places_for_steps steps = fold (λ most step. max most (places_for step)) 0 steps

abbrev pub places_for_rows : List Row → ℕ
places_for_rows [] = 0
places_for_rows (row ∷ rows) = max (places_for_steps row.steps) (places_for_rows rows)

-- how long the tables of posts are: there is a place for each group that is posted to, and none where none is
abbrev pub table_length : Scenario → ℕ
table_length s = places_for_rows s.rows

-- the group of a post
abbrev pub groups_in : Step → List ℕ
groups_in (Event event) = []
groups_in (Post group) = group ∷ []
groups_in (Need group count) = []

abbrev pub places_of : List Station → List Place
places_of stations = map (λ x. x.place) stations

-- what is kept of device d: its place, the count of its entries, what its next step asks for, and, while it is parked,
-- a table for a job
pub record IsStation (s : Scenario) (es : List Entry) (d : ℕ) (x : Station) : Type 0 where
  pub placed : IsPlaced s es d x.place
  pub made : x.made ≡ made_by d es
  pub next : x.next ≡ next_of (step_at s d (made_by d es))
  pub known : is_parked x.place ≡ true → length x.known.items ≡ table_length s

-- each device is parked at the start of its row
pub record AreParked (s : Scenario) (stations : List Station) : Type 0 where
  pub each : (d : ℕ) (x : Station) → slice_get stations d ≡ Some x → IsStation s [] d x
  pub parked : (d : ℕ) (x : Station) → slice_get stations d ≡ Some x → is_parked x.place ≡ true

-- each device that is ready is a candidate
abbrev pub AreCandidates : (ℕ → ℕ) → List Station → CandidatesModel → Type 0
AreCandidates posts stations c =
    (i : ℕ) (x : Station) → slice_get stations i ≡ Some x → is_ready posts x ≡ true → IsCandidate c i

-- a device that waits for posts to a group is in its list, unless nothing is posted to the group
abbrev pub IsListedAt : List WaitersModel → ℕ → Next → Type 0
IsListedAt waiting d End = Unit {0}
IsListedAt waiting d Free = Unit {0}
IsListedAt waiting d (Waits g n) = g < length waiting → IsListedFor waiting g d n

-- each device that is parked, and waits for more posts than there are, is listed
abbrev pub AreListed : (ℕ → ℕ) → List Station → List WaitersModel → Type 0
AreListed posts stations waiting =
    (i : ℕ) (x : Station) → slice_get stations i ≡ Some x → is_parked x.place ≡ true
    → may_pass posts x.next ≡ false → IsListedAt waiting i x.next

-- a roster finds each device that is ready, now or after more posts
pub record IsRosterOf (counts : List ℕ) (stations : List Station) (r : Roster) : Type 0 where
  pub groups : length r.waiting.items ≡ length counts
  pub ready : AreCandidates (λ g. slice_index counts g) stations r.candidates
  pub listed : AreListed (λ g. slice_index counts g) stations r.waiting.items

-- those that wait still do
pub record KeepsLists (old new : List WaitersModel) : Type 0 where
  pub groups : length new ≡ length old
  pub lists : (g d n : ℕ) → IsListedFor old g d n → IsListedFor new g d n

-- the device was added: where each group has so many posts it is a candidate, or it waits
pub record IsAdded (counts : List ℕ) (old new : Roster) (d : ℕ) (next : Next) : Type 0 where
  pub kept : KeepsLists old.waiting.items new.waiting.items
  pub candidates : (e : ℕ) → IsCandidate old.candidates e → IsCandidate new.candidates e
  pub ready : may_pass (λ g. slice_index counts g) next ≡ true → IsCandidate new.candidates d
  pub listed : may_pass (λ g. slice_index counts g) next ≡ false → IsListedAt new.waiting.items d next

-- those that wait for no more than these posts to the group were woken, and the others still wait
pub record IsPosted (old new : Roster) (g posts : ℕ) : Type 0 where
  pub groups : length new.waiting.items ≡ length old.waiting.items
  pub candidates : (d : ℕ) → IsCandidate old.candidates d → IsCandidate new.candidates d
  pub woken : (d n : ℕ) → IsListedFor old.waiting.items g d n → n ≤ posts → IsCandidate new.candidates d
  pub waiting : (h d n : ℕ) → IsListedFor old.waiting.items h d n → (g ≡ h → posts < n)
      → IsListedFor new.waiting.items h d n

-- what a trace keeps: a run, a station for each device, and the counts of the posts
pub record IsTrace (s : Scenario) (es : List Entry) (stations : List Station) (counts : List ℕ) : Type 0 where
  pub valid : IsValid s
  pub run : IsRun s es
  pub count : length stations ≡ length s.rows
  pub each : (d : ℕ) (x : Station) → slice_get stations d ≡ Some x → IsStation s es d x
  pub posts : (g : ℕ) → slice_index counts g ≡ posts_of s g es
  pub table : length counts ≡ table_length s

-- what a job always keeps: after the entries at its claim its own are a run, all of the device and the worker; and the
-- device could step at the claim
pub record IsTask (s : Scenario) (worker d : ℕ) (front es : List Entry) : Type 0 where
  pub valid : IsValid s
  pub run : IsRun s (front ++ es)
  pub each : AllByRecursion (IsOf worker d) es
  pub began : is_enabled s front d ≡ true

-- what a job keeps until memory runs out, by the entries that it knows, those at its claim and its own: the device
-- shows the state after its steps; the table counts the posts; and the job has the groups of its own posts, the
-- device's place in its row, and what the next step asks for
pub record IsOnWay (s : Scenario) (d : ℕ) (seen es : List Entry) (x : Holding) (counts groups : List ℕ) (k : ℕ)
    (n : Next)
    : Type 0 where
  pub holds : HoldsAfter s d (made_by d seen) x
  pub known : (g : ℕ) → slice_index counts g ≡ posts_of s g seen
  pub table : length counts ≡ table_length s
  pub posted : (g : ℕ) → count_by (λ h. h == g) groups ≡ posts_of s g es
  pub within : AllByRecursion (λ h. h < table_length s) groups
  pub place : k ≡ made_by d seen
  pub next : n ≡ next_of (step_at s d (made_by d seen))

pub record IsJob (s : Scenario) (worker d : ℕ) (front es : List Entry) (x : Holding) (spent : Bool)
    (known posted : List ℕ)
    (place : ℕ) (next : Next) : Type 0 where
  pub task : IsTask s worker d front es
  pub ready : spent ≡ false → IsOnWay s d (front ++ es) es x known posted place next
