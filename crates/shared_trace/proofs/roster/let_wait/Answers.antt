use Rattle.std.proofs.Common.{◌≡◌, ◌<◌, length, arith, rules}
use Rattle.fleet_core.specs.declared.next.Next.TheVariants.{Waits}
use Rattle.shared_trace.proofs.Waits.{keeps_added, listed_here}
use Rattle.shared_trace.proofs.roster.let_wait.Goals as goal

pub returns-else-len-from-clause-kept : goal.returns-else-len-from-clause-kept
returns-else-len-from-clause-kept c =
    let within : c.from-in-Waits.result < length c.args.waiting.now.items =
    omega (arith, c.if-len-from.false, c.from.ensures, c.from-in-Waits.ensures, c.len.ensures, c.args.waiting.now.ok.0)
    in keeps_added c.args.waiting.now.items c.index_mut-queue.result.now c.add.new.self c.from-in-Waits.result within
    c.index_mut-queue.ensures.value c.args.device c.in-Waits.count c.add.ensures

pub returns-else-len-from-clause-listed : goal.returns-else-len-from-clause-listed
returns-else-len-from-clause-listed c =
    let within : c.from-in-Waits.result < length c.args.waiting.now.items =
    omega (arith, c.if-len-from.false, c.from.ensures, c.from-in-Waits.ensures, c.len.ensures, c.args.waiting.now.ok.0)
    in
    let at : c.args.next ≡ Waits c.in-Waits.group c.in-Waits.count = search rules in
    listed_here c.args.waiting.now.items c.index_mut-queue.result.now c.add.new.self c.from-in-Waits.result within
    c.index_mut-queue.ensures.value c.args.next c.in-Waits.group c.args.device c.in-Waits.count at
    c.from-in-Waits.ensures c.add.ensures
