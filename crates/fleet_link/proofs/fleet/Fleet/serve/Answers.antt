use Rattle.std.proofs.Common.{◌+◌, ◌≤◌, ◌∙◌, true, inl, inr, refl, arith}
use Rattle.fleet_link.proofs.Fleets.{always, breaks, errs}
use Rattle.fleet_link.proofs.Gone.{gone_both, gone_same}
use Rattle.fleet_link.proofs.Seconds.{asked_less, asked_on}
use Rattle.fleet_link.proofs.fleet.Fleet.serve.Goals as goal

pub returns-then-self-until-clause-fleet : goal.returns-then-self-until-clause-fleet
returns-then-self-until-clause-fleet g c =
    λ s played before h. c.finish.ensures.fleet s played before (c.loop-turn.invariant.fleet s played before h)

pub returns-then-self-until-clause-finished : goal.returns-then-self-until-clause-finished
returns-then-self-until-clause-finished g c =
    λ s played before h. c.finish.ensures.finished s played before (c.loop-turn.invariant.fleet s played before h)

pub returns-in_err-turn-clause-fleet : goal.returns-in_err-turn-clause-fleet
returns-in_err-turn-clause-fleet g c =
    λ s played before h.
    breaks s played before (g.P.Ports.told c.turn.new.ports) c.turn.new.self.slots.items c.turn.new.self.second true _
    (errs c.from_residual.result c.from_residual.ensures.0)
    (c.in_err-turn.ensures.fleet s played before (c.loop-turn.invariant.fleet s played before h))

pub loop-turn-preserved : goal.loop-turn-preserved
loop-turn-preserved g c = record {
  fleet = λ s played before h. c.in_ok-turn.ensures.fleet s played before (c.loop-turn.invariant.fleet s played before
      h);
  went = gone_both c.args.self.now.slots.items c.loop-turn.self.slots.items c.turn.new.self.slots.items
      c.loop-turn.invariant.went c.turn.ensures.went;
  fixed = c.turn.ensures.fixed ∙ c.loop-turn.invariant.fixed;
  asked = λ read_before asked_before calls h. asked_less read_before _ asked_before _ _ _ _
      (calls + (c.loop-turn._turn + 1))
      (c.in_ok-turn.ensures.heard read_before asked_before (calls + c.loop-turn._turn)
      (c.loop-turn.invariant.asked read_before asked_before calls h)) (omega arith);
}

pub returns-clause-fleet : goal.returns-clause-fleet
returns-clause-fleet g c =
    λ s played before h. c.finish-2.ensures.fleet s played before (c.loop-turn.invariant.fleet s played before h)

pub returns-clause-finished : goal.returns-clause-finished
returns-clause-finished g c =
    λ s played before h. c.finish-2.ensures.finished s played before (c.loop-turn.invariant.fleet s played before h)

pub loop-turn-init : goal.loop-turn-init
loop-turn-init g c = record {
  fleet = λ s played before h. h;
  went = gone_same c.args.self.now.slots.items;
  fixed = refl;
  asked = λ read_before asked_before calls h. asked_less read_before _ asked_before _ _ _ _ (calls + 0) h (omega arith);
}

pub returns-then-self-until-clause-asked : goal.returns-then-self-until-clause-asked
returns-then-self-until-clause-asked g c =
    λ read_before asked_before calls h. asked_less read_before _ asked_before _ _ _ _ calls
    (asked_on read_before _ asked_before _ _ _ _ _ _ _ (c.loop-turn.invariant.asked read_before asked_before calls h)
    c.finish.ensures.asked c.finish.ensures.began c.finish.ensures.second) (omega arith)

pub returns-then-self-until-clause-stop : goal.returns-then-self-until-clause-stop
returns-then-self-until-clause-stop g c =
    λ read_before asked_before calls h.
    let late : c.args.until ≤ c.finish.new.self.second = omega (arith, c.finish.ensures.second) in
    always c.finish.result (inl late)

pub returns-in_err-turn-clause-asked : goal.returns-in_err-turn-clause-asked
returns-in_err-turn-clause-asked g c =
    λ read_before asked_before calls h. asked_less read_before _ asked_before _ _ _ _ calls
    (c.turn.ensures.asked read_before asked_before (calls + c.loop-turn._turn)
    (c.loop-turn.invariant.asked read_before asked_before calls h)) (omega arith)

pub returns-clause-asked : goal.returns-clause-asked
returns-clause-asked g c =
    λ read_before asked_before calls h. asked_less read_before _ asked_before _ _ _ _ calls
    (asked_on read_before _ asked_before _ _ _ _ _ _ _ (c.loop-turn.invariant.asked read_before asked_before calls h)
    c.finish-2.ensures.asked c.finish-2.ensures.began c.finish-2.ensures.second) (omega arith)

pub returns-clause-stop : goal.returns-clause-stop
returns-clause-stop g c =
    λ read_before asked_before calls h. always c.finish-2.result (inr (asked_less read_before _ asked_before _ _ _ _
    (calls + c.args.turns)
    (asked_on read_before _ asked_before _ _ _ _ _ _ _ (c.loop-turn.invariant.asked read_before asked_before calls h)
    c.finish-2.ensures.asked c.finish-2.ensures.began c.finish-2.ensures.second) (omega arith)))

pub returns-then-self-until-clause-went : goal.returns-then-self-until-clause-went
returns-then-self-until-clause-went g c =
    gone_both c.args.self.now.slots.items c.loop-turn.self.slots.items c.finish.new.self.slots.items
    c.loop-turn.invariant.went c.finish.ensures.went

pub returns-in_err-turn-clause-went : goal.returns-in_err-turn-clause-went
returns-in_err-turn-clause-went g c =
    gone_both c.args.self.now.slots.items c.loop-turn.self.slots.items c.turn.new.self.slots.items
    c.loop-turn.invariant.went c.turn.ensures.went

pub returns-clause-went : goal.returns-clause-went
returns-clause-went g c =
    gone_both c.args.self.now.slots.items c.loop-turn.self.slots.items c.finish-2.new.self.slots.items
    c.loop-turn.invariant.went c.finish-2.ensures.went
