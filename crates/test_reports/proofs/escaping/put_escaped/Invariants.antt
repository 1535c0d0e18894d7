-- What is written of the characters so far.
use Rattle.std.proofs.Common.{◌≡◌, ◌++◌}
use Rattle.std.specs.List.{flat_map}
use Rattle.std.specs.String.{string_bytes}
use Rattle.test_reports.specs.Escaping.{escaped_char}
use Rattle.test_reports.proofs.escaping.put_escaped.Given as goal

abbrev pub invariant-loop-symbol : goal.invariant-loop-symbol
invariant-loop-symbol l =
    string_bytes l.out ≡ string_bytes l.initial.out ++ flat_map (escaped_char l.escape) l.yielded
