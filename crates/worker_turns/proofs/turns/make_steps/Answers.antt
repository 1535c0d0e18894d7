use Rattle.std.proofs.Common.{arith, inl, refl, subst}
use Rattle.worker_visits.proofs.Following.{still_knows}
use Rattle.worker_visits.proofs.Blocks.{made_block, block_or_nothing, visit_puts, has_low}
use Rattle.worker_turns.proofs.turns.make_steps.Goals as goal

pub put_and_claim-requires-clause-knows : goal.put_and_claim-requires-clause-knows
put_and_claim-requires-clause-knows g c =
    still_knows c.args.pass.seat.me.0 c.args.job c.advance.new.self c.in-Ok.ensures.same c.requires.knows

pub returns-clause-made : goal.returns-clause-made
returns-clause-made g c ok = (
  c.advance.new.self.entries,
  made_block (g.G.Gate.came c.args.gate.now) c.args.scenario.now c.args.batch c.args.pass.seat.me.0
      c.put_and_claim.result.pass.seat.me.0 c.args.job
      c.advance.new.self c.requires.subject c.requires.knows c.requires.fresh c.in-Ok.ensures.advances
      (c.in-Ok.ensures.fresh c.requires.fresh) c.entries-known.ensures.run c.entries-known.ensures.each
      (subst (λ n. g.G.Gate.came c.args.gate.now n c.args.job.device) c.number.ensures
      (subst (λ d. g.G.Gate.came c.args.gate.now c.number.result d) c.device.ensures c.pass.ensures))
      (c.put_and_claim.ensures.put ok),
)

pub returns-clause-blocks : goal.returns-clause-blocks
unfolding returns-clause-made
returns-clause-blocks g c =
    block_or_nothing (g.G.Gate.came c.args.gate.now) c.args.scenario.now c.args.batch c.args.pass.seat.me.0
    c.put_and_claim.result.pass.seat.me.0
    c.advance.new.self.entries c.put_and_claim.result.next c.put_and_claim.ensures.visit.follows
    (λ ok. (returns-clause-made g c ok).1) c.put_and_claim.ensures.kept

pub returns-in-Err-clause-blocks : goal.returns-in-Err-clause-blocks
returns-in-Err-clause-blocks g c =
    let v = c.args.pass.seat.me.0 in
    visit_puts (g.G.Gate.came c.args.gate.now) c.args.scenario.now c.args.batch v c.stop_trace-pass.result.seat.me.0
    c.stop_trace-pass.ensures.follows
    (c.stop_trace-pass.ensures.own v.low (has_low v (omega (arith, c.args.pass.within.0, c.args.pass.numbers.1))))

pub returns-in-Err-clause-visit : goal.returns-in-Err-clause-visit
returns-in-Err-clause-visit g c = record {
  follows = c.stop_trace-pass.ensures.follows;
  claimed = tt;
  end = c.stop_trace-pass.ensures.stopped;
  going = λ not. absurd (not refl);
  out = λ d out. inl (c.stop_trace-pass.ensures.out d out);
}
