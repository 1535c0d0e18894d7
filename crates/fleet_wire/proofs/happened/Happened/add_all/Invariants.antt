-- The notes so far are counted.
use Rattle.std.proofs.Common.{◌≡◌, List, ◌++◌, take}
use Rattle.fleet_wire.specs.declared.note.Note.{Note}
use Rattle.fleet_wire.specs.Happened.{happened_in}
use Rattle.fleet_wire.proofs.happened.Happened.add_all.Given as goal

abbrev pub invariant-loop-note : goal.invariant-loop-note
invariant-loop-note l =
    (before : List Note) → l.fn.self ≡ happened_in before
    → l.self ≡ happened_in (before ++ take l.note-index l.notes)
