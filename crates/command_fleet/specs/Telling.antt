-- What is told of a session while it goes on.
use Rattle.std.specs.Prelude.{⊤, ℕ, ◌≡◌, ◌⊎◌, ◌<◌, Bool, true, false, List, [], ◌∷◌, ◌++◌, codes}
use Rattle.std.specs.Fmt.{decimal}
use Rattle.std.specs.Io.KnownBytes.{Appends}
use Rattle.std.specs.List.{flat_map}
use Rattle.fleet_link.specs.declared.udp.Counts.{Counts}
use Rattle.fleet_wire.specs.declared.note.Note.{Note}
use Rattle.fleet_lines.specs.declared.shown.Shown.{Shown}
use Rattle.fleet_lines.specs.Traffic.{traffic_text}
use Rattle.scenario_words.specs.Words.{ended_line}
use Rattle.trace_json.specs.Writing.{json_line}
use Rattle.command_files.specs.Fault.{IsWritingFault}
use Rattle.command_files.specs.World.{IsSilent, StreamFaults, Streams}
use Rattle.command_files.specs.declared.fault.Fault.{Fault}
use Rattle.command_files.specs.declared.fault.Fault.TheVariants as faults
use Rattle.command_fleet.specs.declared.telling.Telling.{Telling}
use Rattle.command_fleet.specs.declared.telling.Telling.TheVariants.{Nothing, Objects, Progress}
use Rattle.command_fleet.specs.InJson.{second_json}

-- ---- seconds

-- how the seconds of a session of n devices are told: as objects, if JSON is asked for; else as lines for a
-- person, where standard error is a terminal
abbrev pub telling_of : Bool → Bool → ℕ → Telling
telling_of true terminal devices = Objects
telling_of false true devices = Progress devices
telling_of false false devices = Nothing

-- a second of a session, and what had gone through the ports when it came
pub record SecondCounts : Type 0 where
  pub second : ℕ
  pub counts : Counts

-- `N received  N sent  N dropped  N lost`
abbrev pub counts_shown : Counts → List ℕ
counts_shown counts =
    decimal counts.received ++ codes " received  " ++ decimal counts.sent ++ codes " sent  " ++ decimal counts.dropped
    ++ codes " dropped  " ++ decimal counts.lost ++ codes " lost"

abbrev pub shown_line : ℕ → ℕ → List ℕ → List ℕ
shown_line second devices counted =
    ended_line (decimal second ++ codes " s  " ++ decimal devices ++ codes " devices  " ++ counted)

-- `S s  N devices  N received  N sent  N dropped  N lost`
abbrev pub progress_line : ℕ → SecondCounts → List ℕ
progress_line devices passed = shown_line passed.second devices (counts_shown passed.counts)

-- what standard output gets of a second
abbrev pub second_output : Telling → SecondCounts → List ℕ
second_output Nothing passed = []
second_output (Progress devices) passed = []
second_output Objects passed = json_line (second_json passed.second passed.counts)

-- what standard error gets of it
abbrev pub second_errors : Telling → SecondCounts → List ℕ
second_errors Nothing passed = []
second_errors (Progress devices) passed = progress_line devices passed
second_errors Objects passed = []

-- the stream that gets a second did not take it, and the other one has what it had
abbrev pub IsSecondRefused : Telling → StreamFaults → SecondCounts → Streams → Streams → Fault → Type 0
IsSecondRefused Nothing streams passed before after fault = ⊥
IsSecondRefused (Progress devices) streams passed before after fault =
    IsWritingFault (streams.errors_refuse (progress_line devices passed)) fault × (after.output ≡ before.output)
IsSecondRefused Objects streams passed before after fault =
    IsWritingFault (streams.output_refuses (json_line (second_json passed.second passed.counts))) fault
    × (after.errors ≡ before.errors)

-- each second is later than the one before it, the first than this one; this is the last
abbrev pub AreSeconds : ℕ → List SecondCounts → ℕ → Type 0
AreSeconds before [] last = before ≡ last
AreSeconds before (p ∷ ps) last = (before < p.second) × AreSeconds p.second ps last

-- ---- events

-- what is told: a second that came; or, of a turn, what devices received and sent, and what the wire did
pub data Event : Type 0 where
  came : (passed : SecondCounts) → Event
  went : (notes : List Note) (shown : List Shown) → Event

-- the seconds among events; what the wire did; and the datagrams that devices received and sent
abbrev pub passed_in : List Event → List SecondCounts
passed_in [] = []
passed_in (came p ∷ es) = p ∷ passed_in es
passed_in (went notes shown ∷ es) = passed_in es

abbrev pub notes_in : List Event → List Note
notes_in [] = []
notes_in (came p ∷ es) = notes_in es
notes_in (went notes shown ∷ es) = notes ++ notes_in es

abbrev pub shown_in : List Event → List Shown
shown_in [] = []
shown_in (came p ∷ es) = shown_in es
shown_in (went notes shown ∷ es) = shown ++ shown_in es

-- whether what is told is objects in JSON
abbrev pub is_json : Telling → Bool
is_json Nothing = false
is_json (Progress devices) = false
is_json Objects = true

-- what standard output gets of an event, and what standard error
abbrev pub output_of : Telling → Event → List ℕ
output_of telling (came passed) = second_output telling passed
output_of telling (went notes shown) = traffic_text (is_json telling) notes shown

abbrev pub errors_of : Telling → Event → List ℕ
errors_of telling (came passed) = second_errors telling passed
errors_of telling (went notes shown) = []

-- the stream that gets an event did not take it, and the other one has what it had
abbrev pub IsRefused : Telling → StreamFaults → Event → Streams → Streams → Fault → Type 0
IsRefused telling streams (came passed) before after fault =
    IsSecondRefused telling streams passed before after fault
IsRefused telling streams (went notes shown) before after fault =
    IsWritingFault (streams.output_refuses (traffic_text (is_json telling) notes shown)) fault
    × (after.errors ≡ before.errors)

-- Events were told, in their order. Their seconds go up to this one, each is told at most once, and this one last; one
-- that no turn came to is left out. They say all of these notes of a wire and of these datagrams, in order, and nothing
-- else. Of the counts that were told with each second nothing is known here.
pub record AreTold (telling : Telling) (notes : List Note) (shown : List Shown) (second : ℕ) (before after : Streams)
    : Type 0 where
  pub events : List Event
  pub seconds : AreSeconds 0 (passed_in events) second
  pub notes_are : notes_in events ≡ notes
  pub shown_are : shown_in events ≡ shown
  pub output : Appends before.output after.output (flat_map (output_of telling) events)
  pub errors : Appends before.errors after.errors (flat_map (errors_of telling) events)

-- an event may come when this second was told last: a second is later
abbrev pub MayCome : ℕ → Event → Type 0
MayCome second (came passed) = second < passed.second
MayCome second (went notes shown) = ⊤

-- A session was broken off after events that were told, this second last: no memory was left, the system failed at all
-- ports, or an event was not taken. Of the notes and the datagrams that were told by then nothing is known here.
pub record IsCut (telling : Telling) (streams : StreamFaults) (second : ℕ) (before after : Streams) (fault : Fault)
    : Type 0 where
  pub notes : List Note
  pub shown : List Shown
  pub between : Streams
  pub told : AreTold telling notes shown second before between
  pub why :
      (IsSilent between after × ((fault ≡ faults.Memory) ⊎ (fault ≡ faults.Bind)))
      ⊎ ((event : Event) × MayCome second event × IsRefused telling streams event between after fault)
