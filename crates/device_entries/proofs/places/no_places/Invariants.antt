-- This many lists are made, all empty.
use Rattle.std.proofs.Common.{◌≡◌, [], map, replicate}
use Rattle.device_entries.proofs.places.no_places.Given as goal

abbrev pub invariant-loop-row : goal.invariant-loop-row
invariant-loop-row l = map (λ x. x.indexes.items) l.places.items ≡ replicate l._row []
