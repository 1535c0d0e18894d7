use Rattle.std.proofs.Common.{◌≡◌, ◌+◌, ◌≤◌, suc, length, option_map, MatchOption}
use Rattle.scenario_words.specs.Words.{lines, parts_behind}
use Rattle.scenario_asm.specs.Draft.{nothing}
use Rattle.scenario_asm.specs.Text.{IsReached, lines_after}
use Rattle.scenario_asm.proofs.Lines.{HasTaken, bytes_left}
use Rattle.scenario_asm.proofs.assembling.assemble_or_limit.Given as goal

-- what the lines that are left make of the draft is what all make of nothing; those before them were taken
abbrev pub invariant-loop-left : goal.invariant-loop-left
invariant-loop-left l = record {
  so_far : lines_after (parts_behind 10 (option_map (λ x. x.now) l.left)) l.line l.draft
      ≡ lines_after (lines l.fn.text) 0 nothing;
  taken : HasTaken l.fn.text (parts_behind 10 (option_map (λ x. x.now) l.left)) l.line l.draft;
  reached : MatchOption (option_map (λ x. x.now) l.left) (IsReached l.fn.text l.line) (λ _. Unit {0});
  count : l.line + bytes_left (option_map (λ x. x.now) l.left) ≤ suc (length l.fn.text);
}

abbrev pub decreases-loop-left : goal.decreases-loop-left
decreases-loop-left l = bytes_left (option_map (λ x. x.now) l.left)
