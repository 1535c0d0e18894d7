use Rattle.trace_file.specs.Layout.{entry}
use Rattle.trace_file.proofs.Counted.{AreGood}
use Rattle.trace_file.proofs.writing.entries_have_bytes.Given as goal

abbrev pub invariant-loop-item : goal.invariant-loop-item
invariant-loop-item l = AreGood entry l.items l.item-index
