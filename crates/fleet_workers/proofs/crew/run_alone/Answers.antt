use Rattle.fleet_workers.proofs.Together.{alone_worked}
use Rattle.fleet_workers.proofs.crew.run_alone.Goals as goal

pub returns-clause-worked : goal.returns-clause-worked
returns-clause-worked g c =
    alone_worked (g.G.Gate.came c.args.gate.now) c.args.scenario.now c.args.batch c.args.pass.seat.me.0
    c.worker_loop.result.0.seat.me.0 c.worker_loop.result.1 (record {
      follows = c.worker_loop.ensures.follows;
      blocks = c.worker_loop.ensures.blocks;
      ends = c.worker_loop.ensures.end;
      going = c.worker_loop.ensures.going;
    })
