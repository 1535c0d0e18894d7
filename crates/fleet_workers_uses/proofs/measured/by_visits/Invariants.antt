use Rattle.ticket_lock.specs.Names.{lock_id, pass_view, IsPass}
use Rattle.fleet_workers_uses.proofs.measured.by_visits.Given as goal

-- the pass is the lock's
abbrev pub invariant-loop-made : goal.invariant-loop-made
invariant-loop-made g l = IsPass (lock_id l.lock) l.pass
