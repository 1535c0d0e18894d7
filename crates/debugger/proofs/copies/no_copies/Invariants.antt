-- The rows before this one have no copies yet.
use Rattle.std.proofs.Common.{◌≡◌, [], map, replicate}
use Rattle.debugger.proofs.copies.no_copies.Given as goal

abbrev pub invariant-loop-row : goal.invariant-loop-row
invariant-loop-row l = map (λ x. x.devices.items) l.all.items ≡ replicate l.row []
