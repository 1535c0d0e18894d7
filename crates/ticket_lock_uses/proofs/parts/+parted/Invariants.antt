use Rattle.ticket_lock.specs.Names.{pass_view}
use Rattle.ticket_lock_uses.proofs.parts.+parted.Given as goal

abbrev pub decreases-parted : goal.decreases-parted
decreases-parted l = (pass_view l.pass).count
