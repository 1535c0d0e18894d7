-- What goes through ports in a turn of their devices, as one text.
use Rattle.std.specs.Prelude.{ℕ, Bool, false, true, List, ◌++◌}
use Rattle.std.specs.List.{flat_map}
use Rattle.trace_json.specs.Writing.{json_line}
use Rattle.fleet_wire.specs.declared.note.Note.{Note}
use Rattle.fleet_lines.specs.declared.shown.Shown.{Shown}
use Rattle.fleet_lines.specs.Lines.{datagram_line, note_line}
use Rattle.fleet_lines.specs.Objects.{datagram_json, note_json}

-- what a wire did with a datagram: a line, or an object, if JSON is asked for
abbrev pub note_text : Bool → Note → List ℕ
note_text false note = note_line note
note_text true note = json_line (note_json note)

-- a datagram that a device received or sent, likewise
abbrev pub shown_text : Bool → Shown → List ℕ
shown_text false x = datagram_line x
shown_text true x = json_line (datagram_json x)

-- what devices received and sent, and then what the wire did, each in its order
abbrev pub traffic_text : Bool → List Note → List Shown → List ℕ
traffic_text json notes shown = flat_map (shown_text json) shown ++ flat_map (note_text json) notes
