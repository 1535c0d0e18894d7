use Rattle.std.proofs.Common.{◌≤◌, length, arith, refl, ap}
use Rattle.std.proofs.lemmas.List.{get_or_read}
use Rattle.fleet_wire.specs.Lane.{went_by}
use Rattle.fleet_wire.proofs.Lanes.{lanes_came, lanes_unknown, noted_came}
use Rattle.fleet_wire.proofs.lane.Lane.come.Goals as goal

pub returns-then-device-len-clause-lanes : goal.returns-then-device-len-clause-lanes
returns-then-device-len-clause-lanes c =
    λ direction devices now l later idle.
    let far : length c.args.self.now.counts.items ≤ c.args.device = omega arith in
    lanes_unknown c.args.plan.now direction devices now c.args.second c.args.device c.args.packet c.args.self.now _ l
    later idle far refl refl refl refl
    (noted_came c.of.result.value c.args.self.now.log c.of-2.result.value c.args.device c.of-3.result.value
    c.args.second c.of-4.result.value c.args.packet c.of.ensures c.of-2.ensures c.of-3.ensures c.of-4.ensures)
    (λ e. ap (λ g. went_by g e) c.of.ensures)

pub returns-clause-lanes : goal.returns-clause-lanes
returns-clause-lanes c =
    λ direction devices now l later idle.
    lanes_came c.args.plan.now direction devices now c.args.second c.args.self.now _
    (record {
      device = c.args.device;
      place = c.index-place.result.now;
      second = c.args.second;
      fate = c.fate-fate.result;
      packet = c.args.packet;
    }) l later idle (omega arith)
    (get_or_read c.args.self.now.counts.items c.args.device c.index-place.result.now (omega arith)
    c.index-place.ensures 0)
    refl c.fate-fate.ensures refl refl c.in_ok-hold.ensures c.freed_by-self.ensures
    (noted_came c.of.result.value c.args.self.now.log c.of-2.result.value c.args.device c.of-3.result.value
    c.args.second c.of-4.result.value c.args.packet c.of.ensures c.of-2.ensures c.of-3.ensures c.of-4.ensures)
    (λ e. ap (λ g. went_by g e) c.of.ensures)
