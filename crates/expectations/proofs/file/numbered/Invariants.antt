use Rattle.std.proofs.Common.{◌≡◌, ◌+◌, ◌≤◌, suc, length, option_map}
use Rattle.scenario_words.specs.Words.{lines, parts_behind}
use Rattle.expectations.specs.ExpectedCases.{numbered_lines}
use Rattle.expectations.proofs.Grouped.{ahead, bytes_left}
use Rattle.expectations.proofs.file.numbered.Given as goal

-- the lines so far, and those that are left
abbrev pub invariant-loop-left : goal.invariant-loop-left
invariant-loop-left l = record {
  so_far : ahead l.all.items (numbered_lines (parts_behind 10 (option_map (λ x. x.now) l.left)) l.number)
      ≡ numbered_lines (lines l.fn.text) 0;
  count : l.number + bytes_left (option_map (λ x. x.now) l.left) ≤ suc (length l.fn.text);
}

abbrev pub decreases-loop-left : goal.decreases-loop-left
decreases-loop-left l = bytes_left (option_map (λ x. x.now) l.left)
