-- What goes through ports, as objects in JSON.
use Rattle.std.specs.Prelude.{ℕ, List, [], ◌∷◌, codes}
use Rattle.serde_json.specs.Data.{Data, string}
use Rattle.trace_json.specs.Json.{number_json, object_json}
use Rattle.trace_json.specs.Steps.{datagram_fields}
use Rattle.fleet_wire.specs.declared.note.Note.{Note}
use Rattle.fleet_wire.specs.declared.plan.Direction.{Direction}
use Rattle.fleet_wire.specs.declared.plan.Direction.TheVariants.{In, Out}
use Rattle.fleet_lines.specs.declared.shown.Shown.{Shown}
use Rattle.fleet_lines.specs.Lines.{fate_word}

abbrev pub event_name : Direction → List ℕ
event_name In = codes "received"
event_name Out = codes "sent"

-- a datagram that a device received, or sent, with what it says
unfoldable pub datagram_json : Shown → Data
datagram_json x =
    object_json
    ((codes "event", string (event_name x.direction)) ∷ (codes "second", number_json x.second)
    ∷ (codes "device", number_json x.device) ∷ datagram_fields x.packet.server x.packet.bytes)

abbrev pub direction_word : Direction → List ℕ
direction_word In = codes "in"
direction_word Out = codes "out"

-- what a wire did with a datagram
unfoldable pub note_json : Note → Data
note_json note =
    object_json
    ((codes "event", string (codes "wire")) ∷ (codes "second", number_json note.second)
    ∷ (codes "device", number_json note.device) ∷ (codes "direction", string (direction_word note.direction))
    ∷ (codes "number", number_json note.number) ∷ (codes "fate", string (fate_word note.fate)) ∷ [])
