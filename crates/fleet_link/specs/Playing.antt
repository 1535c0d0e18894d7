-- What the row of a device does by itself as seconds pass: its changes, each at its second.
use Rattle.std.specs.Prelude.{◌≡◌, ℕ, zero, suc, ◌+◌, ◌-◌, ◌==◌, ◌^◌, ◌&&◌, ◌<◌, ◌≤◌, ⊤, Bool, true, false, List, [], ◌∷◌, ◌++◌, filter, length, take}
use Rattle.std.specs.Prelude.{slice_get, nat_le, count_by, min, Option, None, Some, MatchOption, if◌then◌else◌, ◌*◌}
use Rattle.std.specs.List.{list_any}
use Rattle.device_machine.specs.declared.event.Event.{Event as Happening}
use Rattle.device_machine.specs.declared.event.Event.TheVariants.{Recv, Put, Firmware, Tick}
use Rattle.fleet_core.specs.Run.{posts_to}
use Rattle.scenario_image.specs.declared.step.Step.{Step}
use Rattle.scenario_image.specs.declared.step.Step.TheVariants.{Event, Post, Need}
use Rattle.fleet_link.specs.declared.row.PlayedRow.{PlayedRow}
use Rattle.fleet_link.specs.declared.row.RowState.{RowState}
use Rattle.fleet_link.specs.declared.row.RowState.TheVariants.{Due, Waits, Ended}
use Rattle.fleet_link.specs.declared.seen.SeenSteps.{SeenSteps, Begun, Then'}

-- ---- the seconds of steps

-- the second after a step: a tick alone sets it on
abbrev pub second_after : ℕ → Step → ℕ
second_after second (Event (Recv server bytes)) = second
second_after second (Event (Put path value)) = second
second_after second (Event (Firmware code)) = second
second_after second (Event (Tick seconds)) = second + seconds
second_after second (Post group) = second
second_after second (Need group count) = second

-- the second after steps, one after another
abbrev pub second_by : ℕ → List Step → ℕ
second_by second [] = second
second_by second (step ∷ steps) = second_by (second_after second step) steps

-- ---- changes

-- at this second a value is put, or a download or an update of the firmware ends
pub record Change : Type 0 where
  pub second : ℕ
  pub event : Happening

-- the change that a step is, if it is one
abbrev pub change_in : Step → Option Happening
change_in (Event (Recv server bytes)) = None
change_in (Event (Put path value)) = Some (Put path value)
change_in (Event (Firmware code)) = Some (Firmware code)
change_in (Event (Tick seconds)) = None
change_in (Post group) = None
change_in (Need group count) = None

abbrev pub change_at : ℕ → Option Happening → List Change
change_at second None = []
change_at second (Some event) = record { second = second; event = event } ∷ []

-- the changes among steps, in order, each with its second
abbrev pub changes_by : ℕ → List Step → List Change
changes_by second [] = []
changes_by second (step ∷ steps) =
    change_at second (change_in step) ++ changes_by (second_after second step) steps

-- a datagram is received, a change is made, or 1 to 86,400 seconds pass: a device of a fleet has no other steps
abbrev pub IsFleetStep : Step → Type 0
IsFleetStep (Event (Recv server bytes)) = ⊤
IsFleetStep (Event (Put path value)) = ⊤
IsFleetStep (Event (Firmware code)) = ⊤
IsFleetStep (Event (Tick seconds)) = (1 ≤ seconds) × (seconds ≤ 86400)
IsFleetStep (Post group) = ⊥
IsFleetStep (Need group count) = ⊥

-- ---- a row

-- it is no datagram
abbrev pub is_own : Step → Bool
is_own (Event (Recv server bytes)) = false
is_own (Event (Put path value)) = true
is_own (Event (Firmware code)) = true
is_own (Event (Tick seconds)) = true
is_own (Post group) = true
is_own (Need group count) = true

-- what is played of the steps of a row: all but its datagrams, where rows are played
abbrev pub played_steps : Bool → List Step → List Step
played_steps false steps = []
played_steps true steps = filter is_own steps

-- a need
abbrev pub is_need : Step → Bool
is_need (Event event) = false
is_need (Post group) = false
is_need (Need group count) = true

-- what a step of a row comes to: itself; a need that is passed, to the seconds for which it held the row up
abbrev pub ComesTo : Step → Step → Type 0
ComesTo (Event event) step = step ≡ Event event
ComesTo (Post group) step = step ≡ Post group
ComesTo (Need group count) step = (seconds : ℕ) × (step ≡ Event (Tick seconds))

abbrev pub steps_seen : SeenSteps → List Step
steps_seen Begun = []
steps_seen (Then' at before step) = steps_seen before ++ step.value ∷ []

-- what has happened of a row, pass after pass: what its steps came to
abbrev pub happened_of : PlayedRow → List Step
happened_of row = steps_seen row.happened

-- how many steps of a row have happened, in all its passes
abbrev pub happened_count : PlayedRow → ℕ
happened_count row = length (happened_of row)

-- a second passes in a step, or more
abbrev pub takes_time : Step → Bool
takes_time (Event (Recv server bytes)) = false
takes_time (Event (Put path value)) = false
takes_time (Event (Firmware code)) = false
takes_time (Event (Tick seconds)) = nat_le 1 seconds
takes_time (Post group) = false
takes_time (Need group count) = false

-- steps begin anew when all of them have happened: they are to be repeated, and have a tick. (Passes without one would
-- all be in one second.)
abbrev pub is_endless : Bool → List Step → Bool
is_endless repeated own = repeated && list_any takes_time own

-- counted on and on, pass after pass, the kth of these steps is this one
pub record IsRowStep (own : List Step) (k : ℕ) (said : Step) : Type 0 where
  pub turn : ℕ
  pub place : ℕ
  pub at : k ≡ turn * length own + place
  pub step : slice_get own place ≡ Some said

-- the changes that a row has made, each at the second to which the ticks before it add up, and the seconds for which
-- needs held the row up, in all its passes: so a pass begins at the second at which the one before it ended
abbrev pub changes_of : PlayedRow → List Change
changes_of row = changes_by 0 (happened_of row)

-- the second of its next step: that to which the ticks before it add up
abbrev pub second_of_row : PlayedRow → ℕ
second_of_row row = second_by 0 (happened_of row)

-- the next step of a row is due at its second, if that has 64 bits
abbrev pub IsAtSecond : PlayedRow → Type 0
IsAtSecond row = MatchOption row.second (2 ^ 64 ≤ second_of_row row) (λ due. due ≡ second_of_row row)

-- These steps of a row are played. So many passes are whole, none but where they are endless, and of the one that is
-- under way the steps before the row's place have happened. What has happened is what they come to, one by one.
pub record IsUnderWay (own : List Step) (row : PlayedRow) : Type 0 where
  pub steps : row.steps.items ≡ own
  pub turns : ℕ
  pub count : happened_count row ≡ turns * length own + row.place
  pub passes : row.passes ≡ min turns (2 ^ 64 - 1)
  pub within : row.place ≤ length own
  pub once : is_endless row.repeated own ≡ false → turns ≡ 0
  pub anew : is_endless row.repeated own ≡ true → row.place < length own
  pub happened : (k : ℕ) (said step : Step) → IsRowStep own k said → slice_get (happened_of row) k ≡ Some step
      → ComesTo said step
  pub second : IsAtSecond row

-- how a row goes on of which this is the next step, due at this second
abbrev pub state_of : Option ℕ → Option Step → RowState
state_of None next = Ended
state_of (Some second) None = Ended
state_of (Some second) (Some (Event event)) = Due second
state_of (Some second) (Some (Post group)) = Due second
state_of (Some second) (Some (Need group count)) = Waits group count

abbrev pub row_state : PlayedRow → RowState
row_state row = state_of row.second (slice_get row.steps.items row.place)

-- it waits at a need
abbrev pub is_waiting : RowState → Bool
is_waiting (Due due) = false
is_waiting (Waits group count) = true
is_waiting Ended = false

-- it waits at a need of this group
abbrev pub is_waiting_for : ℕ → RowState → Bool
is_waiting_for group (Due due) = false
is_waiting_for group (Waits other count) = other == group
is_waiting_for group Ended = false

-- no step of the row is due at this second or before: it has ended, or waits at a need, or its next step is due later
abbrev pub IsLaterThan : ℕ → RowState → Type 0
IsLaterThan second (Due due) = second < due
IsLaterThan second (Waits group count) = ⊤
IsLaterThan second Ended = ⊤

-- it is not too late for the next step of the row at this second
abbrev pub IsTimely : ℕ → RowState → Type 0
IsTimely second (Due due) = second ≤ due
IsTimely second (Waits group count) = ⊤
IsTimely second Ended = ⊤

-- the next step of a row is due at its second, and at this second it is not too late for it
pub record IsOnTime (row : PlayedRow) (second : ℕ) : Type 0 where
  pub next : IsAtSecond row
  pub timely : IsTimely second (row_state row)

-- each of these steps, of which the first is at this second, is at the latest one or before
abbrev pub AreBy : ℕ → ℕ → List Step → Type 0
AreBy latest second [] = ⊤
AreBy latest second (step ∷ steps) = (second ≤ latest) × AreBy latest (second_after second step) steps

-- no step of a row has happened later than this second
abbrev pub HasHappenedBy : ℕ → PlayedRow → Type 0
HasHappenedBy latest row = AreBy latest 0 (happened_of row)

-- the next step of a row is the last of a pass, after which its steps begin anew
abbrev pub ends_pass : PlayedRow → Bool
ends_pass row = nat_le (length row.steps.items) (row.place + 1) && is_endless row.repeated row.steps.items

-- the next step of a row has happened, and has come to this one
pub record IsAdvanced (step : Step) (old new : PlayedRow) : Type 0 where
  pub steps : new.steps ≡ old.steps
  pub repeated : new.repeated ≡ old.repeated
  pub happened : happened_of new ≡ happened_of old ++ step ∷ []
  pub place : new.place ≡ (if ends_pass old then 0 else old.place + 1)
  pub passes : new.passes ≡ (if ends_pass old then min (old.passes + 1) (2 ^ 64 - 1) else old.passes)
  pub second : (n : ℕ) → old.second ≡ Some n
      → MatchOption new.second (2 ^ 64 ≤ second_after n step) (λ due. due ≡ second_after n step)
  pub none : old.second ≡ None → new.second ≡ None

-- a row has gone on up to a second, and has passed no need
pub record GoesOn (until : ℕ) (old new : PlayedRow) : Type 0 where
  pub steps : new.steps ≡ old.steps
  pub repeated : new.repeated ≡ old.repeated
  pub more : List Step
  pub happened : happened_of new ≡ happened_of old ++ more
  pub under_way : (own : List Step) → IsUnderWay own old → IsUnderWay own new
  pub free : (own : List Step) (k group count : ℕ) → IsUnderWay own old → happened_count old ≤ k
      → k < happened_count new → IsRowStep own k (Need group count) → ⊥
  pub made : (own : List Step) (latest : ℕ) → IsUnderWay own old → until ≤ latest → HasHappenedBy latest old
      → HasHappenedBy latest new

-- so many passes of steps, one after another, and the first steps of the next one
abbrev pub passes_of : ℕ → ℕ → List Step → List Step
passes_of zero place own = take place own
passes_of (suc turns) place own = own ++ passes_of turns place own

-- ---- posts and needs

-- how many posts to a group there are among steps, up to this second
abbrev pub posts_by : ℕ → ℕ → ℕ → List Step → ℕ
posts_by group until second [] = 0
posts_by group until second (step ∷ steps) =
    (if posts_to group step && nat_le second until then 1 else 0)
    + posts_by group until (second_after second step) steps

-- how many of them a row has made, in all its passes
abbrev pub posts_in : PlayedRow → ℕ → ℕ → ℕ
posts_in row group until = posts_by group until 0 (happened_of row)

-- how many posts to a group there are among steps
abbrev pub posts_among : ℕ → List Step → ℕ
posts_among group steps = count_by (posts_to group) steps

-- how many of them a row has made: in its whole passes, and in the one that is under way
abbrev pub posts_made : PlayedRow → ℕ → ℕ
posts_made row group =
    row.passes * posts_among group row.steps.items + posts_among group (take row.place row.steps.items)

-- A row waits at a need of this group, of whose posts so many stand at this second: enough. It came there by then,
-- within the last 2^32 seconds. (A group has 8 bits, and a need's count has 32.)
pub record CanPass (group posts now : ℕ) (row : PlayedRow) : Type 0 where
  pub group_is : group < 256
  pub count : ℕ
  pub few : count < 2 ^ 32
  pub waits : row_state row ≡ Waits group count
  pub met : count ≤ posts
  pub second : ℕ
  pub second_is : row.second ≡ Some second
  pub came : second ≤ now
  pub lately : now < second + 2 ^ 32

-- the need that is the next step of a row was passed at this second, where so many posts to its group stood
pub record IsPassed (group posts now : ℕ) (old new : PlayedRow) : Type 0 where
  pub count : ℕ
  pub need : slice_get old.steps.items old.place ≡ Some (Need group count)
  pub met : count ≤ posts
  pub second : ℕ
  pub second_is : old.second ≡ Some second
  pub reached : second ≤ now
  pub advanced : IsAdvanced (Event (Tick (now - second))) old new
  pub resumed : new.second ≡ Some now
