use Rattle.fleet_workers.proofs.Ending.{is_made}
use Rattle.fleet_workers.proofs.fleet.run_all.Goals as goal

pub returns : goal.returns
returns g c = record {
  made = is_made (g.G.Gate.came c.args.gate.now) c.args.scenario.now c.args.workers
      c.args.batch c.args.pass.seat.me.0 c.args.lock.table.shared.key.0.value c.in_ok-pass.pass.seat.me.0
      c.in-Ok.trace c.in_ok-pass.end c.requires.whole
      (record { subject = c.requires.subject; entries = c.requires.empty; going = c.requires.going })
      c.in_ok-pass.ensures.worked c.in-Ok.ensures.entries c.in-Ok.ensures.work;
}
