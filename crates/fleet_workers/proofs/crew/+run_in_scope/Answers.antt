use Rattle.std.proofs.Common.{◌<◌, arith, subst, sym}
use Rattle.fleet_workers.specs.Crew.{HasWorked, HaveWorked}
use Rattle.fleet_workers.proofs.Together.{joint_worked}
use Rattle.fleet_workers.proofs.crew.+run_in_scope.Goals as goal

pub returns-clause-worked : goal.returns-clause-worked
returns-clause-worked g t c =
    let more : 1 < c.args.workers = omega (arith, c.if-workers-eq1.false, c.requires.some) in
    let s = c.args.scenario.now in
    let v = c.args.pass.seat.me.0 in
    let one = c.in-Ok.one.seat.me.0 in
    let a = c.join-one.result.0.seat.me.0 in
    let first = c.join-one.result.1 in
    let kept : HasWorked (g.G.Gate.came c.of-4.result.value) c.of-3.result.value c.args.batch
    c.of-2.result.value.seat.me.0 a first =
    subst (λ p. HasWorked (g.G.Gate.came p.gate.value) p.scenario.value p.batch p.pass.value.seat.me.0 a first)
    c.in-Ok-started.ensures.ok c.join-one.ensures.1 in
    subst (HaveWorked (g.G.Gate.came c.args.gate.now) s c.args.batch c.args.workers v c.join.result.seat.me.0)
    (sym c.joint_end.ensures)
    (joint_worked (g.G.Gate.came c.args.gate.now) s c.args.batch c.args.workers v one c.in-Ok.rest.seat.me.0 a
    c.in_ok-rest.rest.seat.me.0 c.join.result.seat.me.0 first c.in_ok-rest.last
    more c.requires.numbers c.in-Ok.ensures.more c.in-Ok.ensures.lower.1 c.in-Ok.ensures.upper.1
    (subst (λ x. HasWorked (g.G.Gate.came x) s c.args.batch one a first) c.of-4.ensures
    (subst (λ x. HasWorked (g.G.Gate.came c.of-4.result.value) x c.args.batch one a first) c.of-3.ensures
    (subst (λ x. HasWorked (g.G.Gate.came c.of-4.result.value) c.of-3.result.value c.args.batch x.seat.me.0 a first)
    c.of-2.ensures kept)))
    c.in_ok-rest.ensures.worked c.join-one.ensures.0.faithful c.join.ensures.joined c.join.ensures.end
    c.join.ensures.fronts c.join.ensures.lower c.join.ensures.upper)
