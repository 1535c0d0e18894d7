use Rattle.std.proofs.Common.{◌+◌, ◌≤◌, ◌∙◌, true, refl, arith}
use Rattle.fleet_link.proofs.Fleets.{breaks, errs}
use Rattle.fleet_link.proofs.Gone.{gone_both, gone_same}
use Rattle.fleet_link.proofs.Seconds.{asked_less}
use Rattle.fleet_link.proofs.fleet.Fleet.serve_arrivals.Goals as goal

pub returns-in_err-ask-clause-fleet : goal.returns-in_err-ask-clause-fleet
returns-in_err-ask-clause-fleet g c =
    λ s played before h.
    breaks s played before (g.P.Ports.told c.ask.new.ports) c.ask.new.self.slots.items c.ask.new.self.second true _
    (errs c.from_residual.result c.from_residual.ensures.0)
    (c.in_err-ask.ensures.fleet s played before (c.loop-turn.invariant.fleet s played before h))

pub returns-in_err-ask-clause-asked : goal.returns-in_err-ask-clause-asked
returns-in_err-ask-clause-asked g c =
    λ read_before asked_before calls h. asked_less read_before _ asked_before _ _ _ _ calls
    (c.ask.ensures.asked read_before asked_before (calls + c.loop-turn._turn)
    (c.loop-turn.invariant.asked read_before asked_before calls h)) (omega arith)

pub loop-turn-init : goal.loop-turn-init
loop-turn-init g c = record {
  fleet = λ s played before h. h;
  swept = λ s played before h n second le k. k;
  went = gone_same c.args.self.now.slots.items;
  fixed = refl;
  asked = λ read_before asked_before calls h. asked_less read_before _ asked_before _ _ _ _ (calls + 0) h (omega arith);
  later = omega arith;
  count = refl;
}

pub loop-turn-preserved : goal.loop-turn-preserved
loop-turn-preserved g c = record {
  fleet = λ s played before h. c.in_ok-ask.ensures.fleet s played before (c.loop-turn.invariant.fleet s played before
      h);
  swept = λ s played before h n second le k.
      let later : second ≤ c.loop-turn.self.second = omega (arith, c.loop-turn.invariant.later) in
      c.ask.ensures.swept s played before (c.loop-turn.invariant.fleet s played before h) n second later
      (c.loop-turn.invariant.swept s played before h n second le k);
  went = gone_both c.args.self.now.slots.items c.loop-turn.self.slots.items c.ask.new.self.slots.items
      c.loop-turn.invariant.went c.ask.ensures.went;
  fixed = c.ask.ensures.fixed ∙ c.loop-turn.invariant.fixed;
  asked = λ read_before asked_before calls h. asked_less read_before _ asked_before _ _ _ _
      (calls + (c.loop-turn._turn + 1))
      (c.ask.ensures.asked read_before asked_before (calls + c.loop-turn._turn)
      (c.loop-turn.invariant.asked read_before asked_before calls h)) (omega arith);
  later = omega (arith, c.loop-turn.invariant.later, c.ask.ensures.later);
  count = omega (arith, c.loop-turn.invariant.count, c.ask.ensures.count);
}

pub returns-then-not-branch-clause-fleet : goal.returns-then-not-branch-clause-fleet
returns-then-not-branch-clause-fleet g c =
    λ s played before h. c.in_ok-ask.ensures.fleet s played before (c.loop-turn.invariant.fleet s played before h)

pub returns-then-not-branch-clause-swept : goal.returns-then-not-branch-clause-swept
returns-then-not-branch-clause-swept g c =
    λ s played before h n second le k.
    let later : second ≤ c.loop-turn.self.second = omega (arith, c.loop-turn.invariant.later) in
    c.ask.ensures.swept s played before (c.loop-turn.invariant.fleet s played before h) n second later
    (c.loop-turn.invariant.swept s played before h n second le k)

pub returns-then-not-branch-clause-asked : goal.returns-then-not-branch-clause-asked
returns-then-not-branch-clause-asked g c =
    λ read_before asked_before calls h. asked_less read_before _ asked_before _ _ _ _ calls
    (c.ask.ensures.asked read_before asked_before (calls + c.loop-turn._turn)
    (c.loop-turn.invariant.asked read_before asked_before calls h)) (omega arith)

pub returns-then-not-branch-clause-heard : goal.returns-then-not-branch-clause-heard
returns-then-not-branch-clause-heard g c =
    λ read_before asked_before calls h. asked_less read_before _ asked_before _ _ _ _ (calls + 1)
    (c.ask.ensures.asked read_before asked_before (calls + c.loop-turn._turn)
    (c.loop-turn.invariant.asked read_before asked_before calls h)) (omega arith)

pub returns-clause-asked : goal.returns-clause-asked
returns-clause-asked g c =
    λ read_before asked_before calls h. asked_less read_before _ asked_before _ _ _ _ calls
    (c.loop-turn.invariant.asked read_before asked_before calls h) (omega arith)

pub returns-clause-heard : goal.returns-clause-heard
returns-clause-heard g c =
    λ read_before asked_before calls h. asked_less read_before _ asked_before _ _ _ _ (calls + 1)
    (c.loop-turn.invariant.asked read_before asked_before calls h) (omega arith)

pub returns-in_err-ask-clause-went : goal.returns-in_err-ask-clause-went
returns-in_err-ask-clause-went g c =
    gone_both c.args.self.now.slots.items c.loop-turn.self.slots.items c.ask.new.self.slots.items
    c.loop-turn.invariant.went c.ask.ensures.went

pub returns-then-not-branch-clause-went : goal.returns-then-not-branch-clause-went
returns-then-not-branch-clause-went g c =
    gone_both c.args.self.now.slots.items c.loop-turn.self.slots.items c.ask.new.self.slots.items
    c.loop-turn.invariant.went c.ask.ensures.went
