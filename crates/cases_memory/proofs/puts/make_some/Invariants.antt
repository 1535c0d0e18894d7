use Rattle.std.proofs.Common.{◌≡◌, Some}
use Rattle.ticket_lock.specs.Names.{lock_id, pass_view, IsPass}
use Rattle.cases_memory.proofs.puts.make_some.Given as goal

-- the pass is the lock's, and has seen the scenario
abbrev pub invariant-loop-made : goal.invariant-loop-made
invariant-loop-made g l = IsPass (lock_id l.lock) l.pass × ((pass_view l.pass).subject ≡ Some l.scenario)
