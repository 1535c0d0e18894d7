use Rattle.std.proofs.Common.{inl, refl, subst, ◌∙◌}
use Rattle.std.specs.Prelude.{Ok, Err}
use Rattle.worker_visits.specs.Knowing.{IsVisit, Gets}
use Rattle.worker_visits.proofs.Following.{follows_itself, follows_both, err_is, ok_not}
use Rattle.worker_visits.proofs.Outs.{turn_outs, no_more}
use Rattle.worker_visits.proofs.Blocks.{visit_puts, puts_both}
use Rattle.fleet_workers.proofs.loops.worker_loop.Goals as goal

pub loop-init : goal.loop-init
loop-init g c =
    let v = c.args.pass.seat.me.0 in
    record {
      pass = c.requires.pass;
      follows = follows_itself v;
      claimed = tt;
      blocks = visit_puts (g.G.Gate.came c.args.gate.now) c.args.scenario.now c.args.batch v v (follows_itself v) refl;
      going = refl;
      outs = λ d out. inl (inl out);
    }

pub returns-in-Err-clause-follows : goal.returns-in-Err-clause-follows
returns-in-Err-clause-follows g c =
    follows_both _ c.loop.pass.seat.me.0 _ c.loop.invariant.follows c.one_turn-back.ensures.visit.follows

pub returns-in-Err-clause-blocks : goal.returns-in-Err-clause-blocks
returns-in-Err-clause-blocks g c =
    puts_both (g.G.Gate.came c.args.gate.now) c.args.scenario.now c.args.batch c.args.pass.seat.me.0
    c.loop.pass.seat.me.0
    c.one_turn-back.result.pass.seat.me.0 c.loop.invariant.blocks c.loop.invariant.follows.low
    c.one_turn-back.ensures.blocks

pub returns-in-Err-clause-end : goal.returns-in-Err-clause-end
returns-in-Err-clause-end g c =
    let v = c.loop.pass.seat.me.0 in let w = c.one_turn-back.result.pass.seat.me.0 in
    let visit : IsVisit v w (Err c.in-Err.end) = subst (IsVisit v w) c.in-Err.is c.one_turn-back.ensures.visit in
    visit.end

pub returns-in-Err-clause-going : goal.returns-in-Err-clause-going
returns-in-Err-clause-going g c not =
    c.one_turn-back.ensures.visit.going (λ e. not (err_is _ _ _ c.in-Err.is e)) ∙ c.loop.invariant.going

pub returns-in-Err-clause-gate : goal.returns-in-Err-clause-gate
returns-in-Err-clause-gate g c d out =
    let v = c.loop.pass.seat.me.0 in let w = c.one_turn-back.result.pass.seat.me.0 in
    let visit : IsVisit v w (Err c.in-Err.end) = subst (IsVisit v w) c.in-Err.is c.one_turn-back.ensures.visit in
    no_more (turn_outs (g.G.Gate.came c.args.gate.now) c.args.pass.seat.me.0 v w c.loop.claim (λ j. ⊥)
    c.loop.invariant.follows.low c.loop.invariant.outs c.one_turn-back.ensures.gate visit.out d out)

pub loop-preserved : goal.loop-preserved
loop-preserved g c =
    let v = c.loop.pass.seat.me.0 in let w = c.one_turn-back.result.pass.seat.me.0 in
    let visit : IsVisit v w (Ok c.in-Ok.next) = subst (IsVisit v w) c.in-Ok.is c.one_turn-back.ensures.visit in
    record {
      pass = c.one_turn-back.ensures.pass;
      follows = follows_both _ v _ c.loop.invariant.follows visit.follows;
      claimed = visit.claimed;
      blocks = puts_both (g.G.Gate.came c.args.gate.now) c.args.scenario.now c.args.batch c.args.pass.seat.me.0 v w
          c.loop.invariant.blocks c.loop.invariant.follows.low c.one_turn-back.ensures.blocks;
      going = c.one_turn-back.ensures.visit.going (λ e. ok_not _ _ _ c.in-Ok.is e) ∙ c.loop.invariant.going;
      outs = turn_outs (g.G.Gate.came c.args.gate.now) c.args.pass.seat.me.0 v w c.loop.claim (Gets c.in-Ok.next)
          c.loop.invariant.follows.low c.loop.invariant.outs c.one_turn-back.ensures.gate visit.out;
    }
