-- The entries before this one are a run and were taken, and the devices are copied after them.
use Rattle.debugger.proofs.Copying.{IsCopying}
use Rattle.debugger.proofs.copies.copies_of_run.Given as goal

abbrev pub invariant-loop-at : goal.invariant-loop-at
invariant-loop-at l = IsCopying l.scenario l.entries l.at l.replay l.copies.items
