use Rattle.std.proofs.Common.{length}
use Rattle.notifier.proofs.attributes.+apply_changes.Given as goal

abbrev pub decreases-apply_changes : goal.decreases-apply_changes
decreases-apply_changes l = length l.changes.now
