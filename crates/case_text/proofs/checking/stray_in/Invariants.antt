use Rattle.std.proofs.Common.{◌≡◌, drop}
use Rattle.case_text.specs.Checks.{stray_in}
use Rattle.case_text.proofs.checking.stray_in.Given as goal

-- what is left decides
abbrev pub invariant-loop-item : goal.invariant-loop-item
invariant-loop-item l = stray_in (drop l.item-index l.items) ≡ stray_in l.items
