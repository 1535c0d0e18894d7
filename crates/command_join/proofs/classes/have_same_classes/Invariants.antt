-- The classes before this place are the same.
use Rattle.std.proofs.Common.{◌≡◌, take}
use Rattle.command_join.proofs.classes.have_same_classes.Given as goal

abbrev pub invariant-loop-place : goal.invariant-loop-place
invariant-loop-place l = take l.place l.a.classes ≡ take l.place l.b.classes
