use Rattle.std.proofs.Common.{◌≡◌, ◌≤◌, ◌-◌, length, take, drop}
use Rattle.scenario_words.specs.Words.{scan, words}
use Rattle.scenario_words.proofs.Scanning.{onto, mode_of}
use Rattle.scenario_words.proofs.line.quoted_len.Given as goal

-- what was found, put before what is scanned after it
abbrev pub invariant-loop-len : goal.invariant-loop-len
invariant-loop-len l = record {
  within : l.len ≤ length l.line;
  so_far : onto (take l.len l.line) (scan (mode_of l.quoted) (drop l.len l.line)) ≡ words l.line;
}

abbrev pub decreases-loop-len : goal.decreases-loop-len
decreases-loop-len l = length l.line - l.len
