use Rattle.std.proofs.Common.{◌<◌, length, arith}
use Rattle.shared_trace.proofs.Waits.{keeps_same}
use Rattle.shared_trace.proofs.roster.make_room.Goals as goal

pub returns-else-len-from-clause-kept : goal.returns-else-len-from-clause-kept
returns-else-len-from-clause-kept c =
    let within : c.from-in-Waits.result < length c.args.waiting.now.items =
    omega (arith, c.if-len-from.false, c.from.ensures, c.from-in-Waits.ensures, c.len.ensures, c.args.waiting.now.ok.0)
    in keeps_same c.args.waiting.now.items c.index_mut-queue.result.now c.make_room.new.self c.from-in-Waits.result
    within c.index_mut-queue.ensures.value c.make_room.ensures.same
