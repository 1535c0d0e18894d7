-- The entries so far were taken, and the others are still to be read.
use Rattle.std.proofs.Common.{◌≡◌, ◌-◌, [], length}
use Rattle.byte_layout.specs.Layout.{each}
use Rattle.byte_layout.proofs.Loop.{IsLeft}
use Rattle.trace_file.specs.Layout.{entry}
use Rattle.trace_file.proofs.taking.take_entries.Given as goal

abbrev pub invariant-loop : goal.invariant-loop
invariant-loop g l =
    IsLeft (λ before. entry) (g.T.TakesEntries.taken l.taker) (l.count - l.counter) l.rest
    ((each (λ before. entry) l.count []).read l.bytes)
    × (length (g.T.TakesEntries.taken l.taker) ≡ l.counter)
    × g.T.TakesEntries.IsReady l.taker
    × (g.T.TakesEntries.kept l.taker ≡ g.T.TakesEntries.kept l.fn.taker)
