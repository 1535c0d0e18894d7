use Rattle.trace_file.specs.Layout.{output}
use Rattle.trace_file.proofs.Counted.{AreGood}
use Rattle.trace_file.proofs.writing.outputs_have_bytes.Given as goal

abbrev pub invariant-loop-item : goal.invariant-loop-item
invariant-loop-item l = AreGood output l.items l.item-index
