use Rattle.std.proofs.Common.{◌≡◌, ◌≤◌, ◌++◌, length}
use Rattle.std.specs.Prelude.{vec_capacity}
use Rattle.entry_pages.specs.Pages.{entries_in}
use Rattle.entry_pages.proofs.pages.Pages.into_vec.Given as goal

-- those that were gathered and those that are left are all, and there is room for all
abbrev pub invariant-loop-page : goal.invariant-loop-page
invariant-loop-page l =
    (l.gathered.items ++ (entries_in l.page-iterator.rest.items ++ l.last.items) ≡ l.fn.self.held)
    × (length l.fn.self.held ≤ vec_capacity l.gathered)
