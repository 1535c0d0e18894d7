use Rattle.std.proofs.Common.{◌≡◌, ◌+◌, ◌*◌}
use Rattle.entry_pages.proofs.pages.Pages.add_pages.Given as goal

abbrev pub invariant-loop-added : goal.invariant-loop-added
invariant-loop-added l =
    (l.self.held ≡ l.initial.self.held) × (l.self.room ≡ l.initial.self.room + 256 * l._added)
