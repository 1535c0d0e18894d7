use Rattle.std.proofs.Common.{◌≡◌, ◌≤◌, ◌++◌, length}
use Rattle.entry_pages.proofs.pages.Pages.append_pages.Given as goal

-- those that were put and those that are left are all, and there is room for these
abbrev pub invariant-loop-entry : goal.invariant-loop-entry
invariant-loop-entry l =
    (l.self.held ++ l.entry-iterator.rest.items ≡ l.fn.self.held ++ l.fn.block.items)
    × (length l.entry-iterator.rest.items ≤ l.self.room)
