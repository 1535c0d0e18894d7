use Rattle.std.proofs.Common.{rules}
use Rattle.lwbench.proofs.Unread.{ends_unread}
use Rattle.lwbench.proofs.system.conclude.Goals as goal
use Rattle.lwbench.proofs.system.conclude.Goals.{in-Ok, in-Err}

pub returns-clause-unread : goal.returns-clause-unread
returns-clause-unread g c =
    elim c.match-words.branch [
      | in-Ok w ↦ search rules
      | in-Err w ↦ (
          let h = ends_unread g.W.World.faults (g.W.World.seen c.args.world.now)
          (g.W.World.seen w.refuse-status.new.world) _ _ _ w.refuse-status.ensures.told w.refuse-status.ensures.only in
          search (rules, h)
          )
    ]
