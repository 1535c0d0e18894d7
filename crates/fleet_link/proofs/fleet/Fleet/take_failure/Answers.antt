use Rattle.std.proofs.Common.{◌<◌, ◌≤◌, ap, length, refl, arith, false}
use Rattle.fleet_link.specs.Traffic.{failed_once}
use Rattle.fleet_link.specs.declared.row.PlayedRow.{PlayedRow}
use Rattle.fleet_link.specs.Playing.{happened_count}
use Rattle.fleet_link.proofs.Fleets.{beyond, failed_at, read_at, swept_set}
use Rattle.fleet_link.proofs.Gone.{gone_same, gone_set}
use Rattle.fleet_link.proofs.fleet.Fleet.take_failure.Goals as goal

pub returns-then-device-len-clause-fleet : goal.returns-then-device-len-clause-fleet
returns-then-device-len-clause-fleet c =
    let slots = c.args.self.now.slots in
    let within : c.args.device < length slots.items = omega (arith, slots.ok.0, c.len.ensures) in
    λ s played before between after h went.
    failed_at s played before between after slots.items c.args.self.now.second c.args.device c.index_mut.result.now
    c.fail.new.self h went (read_at slots.items c.args.device c.index_mut.result.now within c.index_mut.ensures.value)
    c.fail.ensures.served c.fail.ensures.second c.fail.ensures.row

pub returns-then-device-len-clause-swept : goal.returns-then-device-len-clause-swept
returns-then-device-len-clause-swept c =
    λ n second h. swept_set c.args.self.now.slots.items _ n second c.args.device c.fail.new.self refl h
    (λ e. absurd (c.fail.ensures.ended e))

pub returns-else-device-len-clause-fleet : goal.returns-else-device-len-clause-fleet
returns-else-device-len-clause-fleet c =
    let slots = c.args.self.now.slots in
    let past : length slots.items ≤ c.args.device = omega (arith, slots.ok.0, c.len.ensures) in
    λ s played before between after h went.
    beyond s played before between after slots.items c.args.self.now.second c.args.device false failed_once h went past

pub returns-then-device-len-clause-went : goal.returns-then-device-len-clause-went
returns-then-device-len-clause-went c =
    let slots = c.args.self.now.slots in
    let within : c.args.device < length slots.items = omega (arith, slots.ok.0, c.len.ensures) in
    let later : happened_count c.index_mut.result.now.row ≤ happened_count c.fail.new.self.row =
    omega (arith, ap happened_count c.fail.ensures.row) in
    gone_set slots.items c.args.device c.index_mut.result.now c.fail.new.self
    (read_at slots.items c.args.device c.index_mut.result.now within c.index_mut.ensures.value) later
    (ap (λ (r : PlayedRow). r.repeated) c.fail.ensures.row) c.fail.ensures.share

pub returns-else-device-len-clause-went : goal.returns-else-device-len-clause-went
returns-else-device-len-clause-went c = gone_same c.args.self.now.slots.items
