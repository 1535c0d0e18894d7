-- What is noted of datagrams that do not just go on.
use Rattle.std.specs.Prelude.{◌≡◌, ℕ, ◌+◌, Bool, true, false, nat_lt, if◌then◌else◌, List, [], ◌∷◌, ◌++◌, filter, length}
use Rattle.fleet_wire.specs.declared.lane.Log.{Log, Begun, Came', Went'}
use Rattle.fleet_wire.specs.declared.note.Note.{Note}
use Rattle.fleet_wire.specs.declared.note.Taken.{Taken, Nothing, Then'}
use Rattle.fleet_wire.specs.declared.plan.Direction.{Direction}
use Rattle.fleet_wire.specs.declared.plan.Direction.TheVariants.{In, Out}
use Rattle.fleet_wire.specs.declared.plan.Fate.{Fate}
use Rattle.fleet_wire.specs.declared.plan.Fate.TheVariants.{Late, Lost, Passes, Swapped, Twice}
use Rattle.fleet_wire.specs.declared.plan.Plan.{Plan}
use Rattle.fleet_wire.specs.Lane.{came_by, fate_at}

-- whether something happens to a datagram of this fate but that it goes on
abbrev pub is_noted : Fate → Bool
is_noted Lost = true
is_noted Twice = true
is_noted Swapped = true
is_noted Late = true
is_noted Passes = false

-- the note, if there is to be one
abbrev pub noted_with : Note → List Note
noted_with note = if is_noted note.fate then note ∷ [] else []

-- the number of the datagram at a place, of those of a device: 0 where the wire does not know the device
abbrev pub number_at : ℕ → ℕ → ℕ → ℕ
number_at devices e place = if nat_lt e devices then place + 1 else 0

-- what is noted of a datagram that comes, after so many of its device
abbrev pub note_of : Plan → Direction → ℕ → ℕ → ℕ → ℕ → Note
note_of plan direction devices e second place =
    record {
      device = e;
      direction = direction;
      number = number_at devices e place;
      second = second;
      fate = fate_at plan direction devices e place;
    }

-- what is noted of all that came one way: each that does not just go on has its note, in the order in which they came
abbrev pub notes_by : Plan → Direction → ℕ → Log → List Note
notes_by plan direction devices Begun = []
notes_by plan direction devices (Came' at before device second packet) =
    notes_by plan direction devices before
    ++ noted_with (note_of plan direction devices device.value second.value (length (came_by before device.value)))
notes_by plan direction devices (Went' at before device place second packet) = notes_by plan direction devices before

-- the notes that were taken
abbrev pub taken_in : Taken → List Note
taken_in Nothing = []
taken_in (Then' at before notes) = taken_in before ++ notes.value.items

abbrev pub goes : Direction → Direction → Bool
goes In In = true
goes In Out = false
goes Out In = false
goes Out Out = true

-- those of datagrams that go one way
abbrev pub notes_going : Direction → List Note → List Note
notes_going direction notes = filter (λ n. goes direction n.direction) notes
