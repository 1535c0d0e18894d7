use Rattle.std.proofs.Common.{◌≡◌, ◌≤◌, ◌<◌, length, true, false, refl, ◌∙◌, arith}
use Rattle.std.proofs.Math.ListN.{length-set}
use Rattle.live_link.proofs.Turned.{none_read}
use Rattle.fleet_link.proofs.Fleets.{breaks, errs, next_at, next_served, read_at, stand_at}
use Rattle.fleet_link.proofs.Gone.{gone_both, gone_same, gone_set}
use Rattle.fleet_link.proofs.Stepped.{goes_later}
use Rattle.fleet_link.proofs.Told.{still_none}
use Rattle.fleet_link.proofs.fleet.Fleet.finish.Goals as goal

pub returns-in_err-reach-clause-fleet : goal.returns-in_err-reach-clause-fleet
returns-in_err-reach-clause-fleet g c =
    let at = c.loop-place in
    let slots = at.self.slots in
    let within : at.place < length slots.items =
    omega (arith, at.invariant.count, c.len-place-end.ensures, c.args.self.now.slots.ok.0) in
    λ s played before h.
    let to : c.args.self.now.second ≤ at.self.second = omega (arith, at.invariant.second) in
    breaks s played before (g.P.Ports.told c.reach.new.ports) _ at.self.second true _
    (errs c.from_residual.result c.from_residual.ensures.0)
    (next_served s played before (g.P.Ports.told at.ports) (g.P.Ports.told c.reach.new.ports) slots.items at.self.second
    at.place c.args.self.now.second true c.index_mut.result.now c.reach.new.self (at.invariant.fleet s played before h)
    (read_at slots.items at.place c.index_mut.result.now within c.index_mut.ensures.value)
    c.in_err-reach.ensures.served c.reach.ensures.others c.reach.ensures.most to c.reach.ensures.goes_on)

pub loop-place-preserved : goal.loop-place-preserved
loop-place-preserved g c =
    let at = c.loop-place in
    let slots = at.self.slots in
    let within : at.place < length slots.items =
    omega (arith, at.invariant.count, c.len-place-end.ensures, c.args.self.now.slots.ok.0) in
    let got = read_at slots.items at.place c.index_mut.result.now within c.index_mut.ensures.value in
    let to : c.args.self.now.second ≤ at.self.second = omega (arith, at.invariant.second) in
    record {
      fleet = λ s played before h.
          next_served s played before (g.P.Ports.told at.ports) (g.P.Ports.told c.reach.new.ports) slots.items
          at.self.second
          at.place c.args.self.now.second false c.index_mut.result.now c.reach.new.self
          (at.invariant.fleet s played before h) got c.in_ok-reach.ensures.served c.reach.ensures.others
          c.reach.ensures.most to c.reach.ensures.goes_on;
      finished = λ s played before h.
          next_at s played before (g.P.Ports.told at.ports) slots.items at.self.second at.place c.index_mut.result.now
          c.reach.new.self (at.invariant.fleet s played before h) got
          (λ early e. c.reach.ensures.second (omega (arith, early, at.invariant.second)) e
          ∙ omega (arith, at.invariant.second))
          (at.invariant.finished s played before h);
      went = gone_both c.args.self.now.slots.items slots.items _ at.invariant.went
          (gone_set slots.items at.place c.index_mut.result.now c.reach.new.self got
          (goes_later _ _ _ c.reach.ensures.goes_on) c.reach.ensures.goes_on.repeated
          c.reach.ensures.share);
      fixed = c.reach.ensures.fixed ∙ at.invariant.fixed;
      asked = still_none _ _ _ at.invariant.asked c.reach.ensures.asked;
      second = at.invariant.second;
      began = at.invariant.began;
      count = length-set slots.items at.place c.reach.new.self ∙ at.invariant.count;
    }

pub returns-clause-finished : goal.returns-clause-finished
returns-clause-finished g c =
    let at = c.loop-place in
    λ s played before h.
    let end : at.place ≡ length at.self.slots.items =
    omega (arith, at.auto.place-end, at.invariant.count, c.len-place-end.ensures, c.args.self.now.slots.ok.0) in
    stand_at at.self.slots.items at.place (length at.self.slots.items) at.self.second end
    (at.invariant.finished s played before h)

pub loop-place-init : goal.loop-place-init
loop-place-init g c = record {
  fleet = λ s played before h. h;
  finished = λ s played before h e slot l. absurd (omega (arith, l));
  went = gone_same c.args.self.now.slots.items;
  fixed = refl;
  asked = none_read (g.P.Ports.asked c.args.ports.now);
  second = refl;
  began = refl;
  count = refl;
}

pub returns-in_err-reach-clause-went : goal.returns-in_err-reach-clause-went
returns-in_err-reach-clause-went g c =
    let at = c.loop-place in
    let slots = at.self.slots in
    let within : at.place < length slots.items =
    omega (arith, at.invariant.count, c.len-place-end.ensures, c.args.self.now.slots.ok.0) in
    let got = read_at slots.items at.place c.index_mut.result.now within c.index_mut.ensures.value in
    gone_both c.args.self.now.slots.items slots.items _ at.invariant.went
    (gone_set slots.items at.place c.index_mut.result.now c.reach.new.self got
    (goes_later _ _ _ c.reach.ensures.goes_on) c.reach.ensures.goes_on.repeated
    c.reach.ensures.share)
