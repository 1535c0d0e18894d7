use Rattle.std.proofs.Common.{◌≡◌, ◌≤◌, ◌<◌, length, true, false, refl, ◌∙◌, arith}
use Rattle.std.proofs.Math.ListN.{length-set}
use Rattle.live_link.proofs.Turned.{none_read}
use Rattle.fleet_link.proofs.Fleets.{breaks, errs, next_served, next_swept, read_at, swept_at}
use Rattle.fleet_link.proofs.Gone.{gone_both, gone_same, gone_set}
use Rattle.fleet_link.proofs.Stepped.{goes_later}
use Rattle.fleet_link.proofs.Told.{still_none}
use Rattle.fleet_link.proofs.fleet.Fleet.sweep.Goals as goal

pub returns-in_err-sweep-clause-fleet : goal.returns-in_err-sweep-clause-fleet
returns-in_err-sweep-clause-fleet g c =
    let at = c.loop-place in
    let slots = at.self.slots in
    let within : at.place < length slots.items = omega (arith, at.invariant.count, c.requires) in
    λ s played before le h.
    let to : c.args.second ≤ at.self.second = omega (arith, le, at.invariant.second) in
    breaks s played before (g.P.Ports.told c.sweep.new.ports) _ at.self.second true _
    (errs c.from_residual.result c.from_residual.ensures.0)
    (next_served s played before (g.P.Ports.told at.ports) (g.P.Ports.told c.sweep.new.ports) slots.items at.self.second
    at.place c.args.second true c.index_mut.result.now c.sweep.new.self (at.invariant.fleet s played before le h)
    (read_at slots.items at.place c.index_mut.result.now within c.index_mut.ensures.value)
    c.in_err-sweep.ensures.served c.sweep.ensures.others c.sweep.ensures.most to c.sweep.ensures.goes_on)

pub loop-place-preserved : goal.loop-place-preserved
loop-place-preserved g c =
    let at = c.loop-place in
    let slots = at.self.slots in
    let within : at.place < length slots.items = omega (arith, at.invariant.count, c.requires) in
    let got = read_at slots.items at.place c.index_mut.result.now within c.index_mut.ensures.value in
    record {
      fleet = λ s played before le h.
          let to : c.args.second ≤ at.self.second = omega (arith, le, at.invariant.second) in
          next_served s played before (g.P.Ports.told at.ports) (g.P.Ports.told c.sweep.new.ports) slots.items
          at.self.second
          at.place c.args.second false c.index_mut.result.now c.sweep.new.self (at.invariant.fleet s played before le
          h) got
          c.in_ok-sweep.ensures.served c.sweep.ensures.others c.sweep.ensures.most to c.sweep.ensures.goes_on;
      swept = λ s played before le h k.
          next_swept s played before (g.P.Ports.told at.ports) slots.items at.self.second at.place c.args.second
          c.index_mut.result.now c.sweep.new.self (at.invariant.fleet s played before le h) got c.sweep.ensures.swept
          (at.invariant.swept s played before le h k);
      went = gone_both c.args.self.now.slots.items slots.items _ at.invariant.went
          (gone_set slots.items at.place c.index_mut.result.now c.sweep.new.self got
          (goes_later _ _ _ c.sweep.ensures.goes_on) c.sweep.ensures.goes_on.repeated
          c.sweep.ensures.share);
      fixed = c.sweep.ensures.fixed ∙ at.invariant.fixed;
      asked = still_none _ _ _ at.invariant.asked c.sweep.ensures.asked;
      second = at.invariant.second;
      began = at.invariant.began;
      count = length-set slots.items at.place c.sweep.new.self ∙ at.invariant.count;
    }

pub returns-clause-swept : goal.returns-clause-swept
returns-clause-swept g c =
    let at = c.loop-place in
    λ s played before le h order k.
    let end : at.place ≡ c.args.to = omega (arith, order, at.auto.place-end) in
    swept_at at.self.slots.items at.place c.args.to c.args.second end (at.invariant.swept s played before le h k)

pub loop-place-init : goal.loop-place-init
loop-place-init g c = record {
  fleet = λ s played before le h. h;
  swept = λ s played before le h k. k;
  went = gone_same c.args.self.now.slots.items;
  fixed = refl;
  asked = none_read (g.P.Ports.asked c.args.ports.now);
  second = refl;
  began = refl;
  count = refl;
}

pub returns-in_err-sweep-clause-went : goal.returns-in_err-sweep-clause-went
returns-in_err-sweep-clause-went g c =
    let at = c.loop-place in
    let slots = at.self.slots in
    let within : at.place < length slots.items = omega (arith, at.invariant.count, c.requires) in
    let got = read_at slots.items at.place c.index_mut.result.now within c.index_mut.ensures.value in
    gone_both c.args.self.now.slots.items slots.items _ at.invariant.went
    (gone_set slots.items at.place c.index_mut.result.now c.sweep.new.self got
    (goes_later _ _ _ c.sweep.ensures.goes_on) c.sweep.ensures.goes_on.repeated
    c.sweep.ensures.share)
