use Rattle.std.proofs.Common.{◌≡◌, ◌+◌, ◌≤◌, ℕ, suc, List, length, Option, None, Some, option_map}
use Rattle.scenario_words.specs.Words.{lines, parts_behind}
use Rattle.case_text.specs.Above.{above_none}
use Rattle.case_text.specs.Cases.{numbered_lines}
use Rattle.case_text.proofs.Grouped.{ahead, bytes_left}
use Rattle.case_text.proofs.file.numbered.Given as goal

-- the lines so far, and those that are left
abbrev pub invariant-loop-left : goal.invariant-loop-left
invariant-loop-left l = record {
  so_far : ahead l.all.items (numbered_lines (parts_behind 10 (option_map (λ x. x.now) l.left)) l.number l.above)
      ≡ numbered_lines (lines l.fn.text) 0 above_none;
  count : l.number + bytes_left (option_map (λ x. x.now) l.left) ≤ suc (length l.fn.text);
}

abbrev pub decreases-loop-left : goal.decreases-loop-left
decreases-loop-left l = bytes_left (option_map (λ x. x.now) l.left)
