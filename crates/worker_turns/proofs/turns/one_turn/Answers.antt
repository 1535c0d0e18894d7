use Rattle.std.proofs.Common.{refl, subst, arith}
use Rattle.worker_visits.specs.declared.ends.LoopEnd.TheVariants as ends
use Rattle.worker_visits.specs.Knowing.{HasClaimed}
use Rattle.worker_visits.proofs.Following.{follows_itself}
use Rattle.worker_visits.proofs.Blocks.{visit_puts, has_low}
use Rattle.worker_visits.proofs.Visiting.{no_visit}
use Rattle.worker_turns.proofs.turns.one_turn.Goals as goal

-- what a worker that ends has put since the claim: nothing
pub returns-in-Done-clause-blocks : goal.returns-in-Done-clause-blocks
returns-in-Done-clause-blocks g c =
    let v = c.args.pass.seat.me.0 in visit_puts (g.G.Gate.came c.args.gate.now) c.args.scenario.now c.args.batch v v
    (follows_itself v) refl

pub returns-in-Stalled-clause-blocks : goal.returns-in-Stalled-clause-blocks
returns-in-Stalled-clause-blocks g c =
    let v = c.args.pass.seat.me.0 in visit_puts (g.G.Gate.came c.args.gate.now) c.args.scenario.now c.args.batch v v
    (follows_itself v) refl

pub returns-in-Stopped-clause-blocks : goal.returns-in-Stopped-clause-blocks
returns-in-Stopped-clause-blocks g c =
    let v = c.args.pass.seat.me.0 in visit_puts (g.G.Gate.came c.args.gate.now) c.args.scenario.now c.args.batch v v
    (follows_itself v) refl

pub returns-in-Done-clause-visit : goal.returns-in-Done-clause-visit
returns-in-Done-clause-visit g c =
    let v = c.args.pass.seat.me.0 in
    no_visit v ends.Done (subst (HasClaimed v) c.in-Done.is c.requires.claimed)

pub returns-in-Stalled-clause-visit : goal.returns-in-Stalled-clause-visit
returns-in-Stalled-clause-visit g c =
    let v = c.args.pass.seat.me.0 in
    no_visit v ends.Stalled (subst (HasClaimed v) c.in-Stalled.is c.requires.claimed)

pub returns-in-Stopped-clause-visit : goal.returns-in-Stopped-clause-visit
returns-in-Stopped-clause-visit g c = no_visit c.args.pass.seat.me.0 ends.Stopped tt

pub returns-in-Busy-clause-blocks : goal.returns-in-Busy-clause-blocks
returns-in-Busy-clause-blocks g c =
    let v = c.args.pass.seat.me.0 in
    visit_puts (g.G.Gate.came c.args.gate.now) c.args.scenario.now c.args.batch v c.claim_job.result.pass.seat.me.0
    c.claim_job.ensures.visit.follows
    (c.claim_job.ensures.own v.low (has_low v (omega (arith, c.args.pass.within.0, c.args.pass.numbers.1))))
