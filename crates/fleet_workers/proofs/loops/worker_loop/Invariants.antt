use Rattle.std.proofs.Common.{◌≡◌, ◌⊎◌, ℕ}
use Rattle.ticket_lock.specs.Names.{lock_id, pass_view, IsPass}
use Rattle.worker_visits.specs.Blocks.{HasPut}
use Rattle.worker_visits.specs.Knowing.{Follows, HasClaimed, has_stopped, IsOut, Gets}
use Rattle.fleet_workers.proofs.loops.worker_loop.Given as goal

-- the pass is the lock's, and follows the one that the worker began with, which has put blocks since and stopped
-- nothing; it knows what the last claim told. A device that is out under the worker was so at the beginning, or came to
-- the gate, or was got by the last claim
abbrev pub invariant-loop : goal.invariant-loop
invariant-loop g l = record {
  pass : IsPass (lock_id l.lock) l.pass;
  follows : Follows (pass_view l.initial.pass) (pass_view l.pass);
  claimed : HasClaimed (pass_view l.pass) l.claim;
  blocks : HasPut (g.G.Gate.came l.gate) l.scenario (pass_view l.initial.pass).low l.batch
      (pass_view l.initial.pass).front
      (pass_view l.pass).front;
  going : has_stopped (pass_view l.pass) ≡ has_stopped (pass_view l.initial.pass);
  outs : (d : ℕ) → IsOut (pass_view l.pass) d → (IsOut (pass_view l.initial.pass) d
      ⊎ g.G.Gate.came l.gate (pass_view l.initial.pass).low d) ⊎ Gets l.claim d;
}
