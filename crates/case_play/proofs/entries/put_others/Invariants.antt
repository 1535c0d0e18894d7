-- What is written, and what is still to come.
use Rattle.std.proofs.Common.{◌≡◌, ◌++◌, drop}
use Rattle.std.specs.List.{flat_map}
use Rattle.std.specs.String.{string_bytes}
use Rattle.case_play.specs.EntryWords.{further_words}
use Rattle.case_play.proofs.entries.put_others.Given as goal

abbrev pub invariant-loop-output : goal.invariant-loop-output
invariant-loop-output l =
    string_bytes l.out ++ flat_map further_words (drop l.output-index l.outputs) ≡ string_bytes l.initial.out
    ++ flat_map further_words l.outputs
