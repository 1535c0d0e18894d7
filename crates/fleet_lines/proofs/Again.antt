-- The objects are read again.
use Rattle.std.proofs.Common.{◌≤◌, arith}
use Rattle.serde_json.specs.Data.{depth}
use Rattle.serde_json.specs.Read.{max_depth}
use Rattle.trace_json.specs.Writing.{Has64Bits, IsReadAgain}
use Rattle.trace_json.proofs.ReadAgain.{read_again}
use Rattle.fleet_wire.specs.declared.note.Note.{Note}
use Rattle.fleet_lines.specs.declared.shown.Shown.{Shown}
use Rattle.fleet_lines.specs.Objects.{datagram_json, note_json}

datagram_depth : (x : Shown) → depth (datagram_json x) ≤ max_depth
unfolding datagram_json
datagram_depth x = omega arith

pub datagram_again : (x : Shown) → Has64Bits (datagram_json x) → IsReadAgain (datagram_json x)
datagram_again x exact = read_again (datagram_json x) exact (datagram_depth x)

note_depth : (note : Note) → depth (note_json note) ≤ max_depth
unfolding note_json
note_depth note = omega arith

pub note_again : (note : Note) → Has64Bits (note_json note) → IsReadAgain (note_json note)
note_again note exact = read_again (note_json note) exact (note_depth note)
