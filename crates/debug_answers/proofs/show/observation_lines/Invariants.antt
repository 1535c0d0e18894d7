use Rattle.std.proofs.Common.{◌≡◌, ◌++◌, length, take}
use Rattle.std.specs.List.{flat_map}
use Rattle.std.specs.String.{string_bytes}
use Rattle.debug_answers.specs.Show.{count_line, observation_line}
use Rattle.debug_answers.proofs.show.observation_lines.Given as goal

abbrev pub invariant-loop-place : goal.invariant-loop-place
invariant-loop-place l =
    string_bytes l.text ≡ count_line (length l.observations.list)
    ++ flat_map observation_line (take l.place l.observations.list)
