use Rattle.std.proofs.Common.{◌≡◌, take}
use Rattle.std.specs.List.{flat_map}
use Rattle.std.specs.String.{string_bytes}
use Rattle.fleet_lines.specs.Traffic.{note_text}
use Rattle.fleet_lines.proofs.traffic.notes_text.Given as goal

abbrev pub invariant-loop-note : goal.invariant-loop-note
invariant-loop-note l = string_bytes l.text ≡ flat_map (note_text l.json) (take l.note-index l.notes)
