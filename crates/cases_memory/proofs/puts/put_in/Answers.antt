use Rattle.std.proofs.Common.{sym, subst, arith}
use Rattle.ticket_lock.specs.Log.{Adds}
use Rattle.shared_trace.specs.Trace.{no_work, trace_log}
use Rattle.shared_trace.specs.Job.{MayPut}
use Rattle.worker_visits.proofs.Following.{follows, may_put}
use Rattle.cases_memory.proofs.puts.put_in.Goals as goal

pub put_twice-came-requires : goal.put_twice-came-requires
put_twice-came-requires g c =
    let v = c.args.pass.seat.me.0 in let h = c.in-Ok.held in
    subst (λ n. MayPut c.value_mut.result.now n c.args.job) (sym c.number-worker.ensures)
    (subst (λ x. MayPut x v.low c.args.job) (sym c.value_mut.ensures.value)
    (may_put v h.value c.args.job c.in-Ok.ensures.value c.requires.knows
    (c.in-Ok.ensures.work no_work) c.requires.ready))
