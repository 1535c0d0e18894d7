use Rattle.std.proofs.Common.{rules}
use Rattle.lwbench.proofs.Unread.{no_memory}
use Rattle.lwbench.proofs.system.refuse.Goals as goal

pub returns-then-eq-clause-told : goal.returns-then-eq-clause-told
returns-then-eq-clause-told g c =
    no_memory _ _ _ _ _ c.args.why c.from.result.fault c.tell.result c.tell.ensures.status
    (search rules) c.from.ensures c.tell.ensures.told
