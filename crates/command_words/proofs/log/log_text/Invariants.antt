use Rattle.std.proofs.Common.{◌+◌, ◌≤◌, suc, length, option_map}
use Rattle.std.specs.String.{string_bytes}
use Rattle.scenario_words.specs.Words.{parts_behind}
use Rattle.scenario_asm.proofs.Lines.{bytes_left}
use Rattle.command_words.proofs.Logged.{IsSoFar}
use Rattle.command_words.proofs.log.log_text.Given as goal

abbrev pub invariant-loop-left : goal.invariant-loop-left
invariant-loop-left l = record {
  so_far : IsSoFar l.fn.log l.server (parts_behind 10 (option_map (λ x. x.now) l.left)) l.line (string_bytes l.out);
  count : l.line + bytes_left (option_map (λ x. x.now) l.left) ≤ suc (length l.fn.log);
}

abbrev pub decreases-loop-left : goal.decreases-loop-left
decreases-loop-left l = bytes_left (option_map (λ x. x.now) l.left)
