use Rattle.std.proofs.Common.{◌≡◌, drop}
use Rattle.case_text.specs.Checks.{unanswered_item}
use Rattle.case_text.proofs.checking.unanswered_item.Given as goal

-- what is left decides
abbrev pub invariant-loop-item : goal.invariant-loop-item
invariant-loop-item l = unanswered_item (drop l.item-index l.items) ≡ unanswered_item l.items
