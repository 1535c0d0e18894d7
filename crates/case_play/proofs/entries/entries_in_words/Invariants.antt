-- What is written, and what is still to come.
use Rattle.std.proofs.Common.{◌≡◌, ◌++◌, drop}
use Rattle.std.specs.String.{string_bytes}
use Rattle.case_play.specs.EntryWords.{entries_in_words}
use Rattle.case_play.proofs.entries.entries_in_words.Given as goal

abbrev pub invariant-loop-entry : goal.invariant-loop-entry
invariant-loop-entry l =
    string_bytes l.out ++ entries_in_words (drop l.entry-index l.entries) ≡ entries_in_words l.entries
