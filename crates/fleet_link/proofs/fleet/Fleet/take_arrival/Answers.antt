use Rattle.std.proofs.Common.{◌<◌, ◌≤◌, length, false, arith}
use Rattle.std.specs.Result.{is_err}
use Rattle.fleet_link.specs.Traffic.{handed_at}
use Rattle.fleet_link.proofs.Fleets.{beyond, gone_due, gone_on, read_at}
use Rattle.fleet_link.proofs.Gone.{gone_same, gone_set}
use Rattle.fleet_link.proofs.Stepped.{goes_later}
use Rattle.fleet_link.proofs.fleet.Fleet.take_arrival.Goals as goal

pub returns-then-place-len-clause-fleet : goal.returns-then-place-len-clause-fleet
returns-then-place-len-clause-fleet g c =
    let slots = c.args.self.now.slots in
    let past : length slots.items ≤ c.args.arrival.device = omega (arith, slots.ok.0, c.len.ensures) in
    λ s played before between h went.
    beyond s played before between (g.P.Ports.told c.args.ports.now) slots.items c.args.self.now.second
    c.args.arrival.device
    false (handed_at c.args.self.now.second c.args.arrival.packet) h went past

pub returns-clause-fleet : goal.returns-clause-fleet
returns-clause-fleet g c =
    let slots = c.args.self.now.slots in
    let place = c.args.arrival.device in
    let within : place < length slots.items = omega (arith, slots.ok.0, c.len.ensures) in
    λ s played before between h went.
    gone_on s played before between (g.P.Ports.told c.args.ports.now) (g.P.Ports.told c.hear.new.ports) slots.items
    c.args.self.now.second place (is_err c.hear.result)
    (handed_at c.args.self.now.second c.args.arrival.packet) c.index_mut.result.now c.hear.new.self h went
    (read_at slots.items place c.index_mut.result.now within c.index_mut.ensures.value) c.hear.ensures.served
    c.hear.ensures.others c.hear.ensures.most c.hear.ensures.goes_on

pub returns-clause-swept : goal.returns-clause-swept
returns-clause-swept g c =
    let slots = c.args.self.now.slots in
    let place = c.args.arrival.device in
    let within : place < length slots.items = omega (arith, slots.ok.0, c.len.ensures) in
    λ s played before between h went.
    gone_due s played before between (g.P.Ports.told c.args.ports.now) (g.P.Ports.told c.hear.new.ports) slots.items
    c.args.self.now.second place (is_err c.hear.result)
    (handed_at c.args.self.now.second c.args.arrival.packet) c.index_mut.result.now c.hear.new.self h went
    (read_at slots.items place c.index_mut.result.now within c.index_mut.ensures.value) c.hear.ensures.served
    c.hear.ensures.second c.hear.ensures.later

pub returns-then-place-len-clause-went : goal.returns-then-place-len-clause-went
returns-then-place-len-clause-went g c = gone_same c.args.self.now.slots.items

pub returns-clause-went : goal.returns-clause-went
returns-clause-went g c =
    let slots = c.args.self.now.slots in
    let place = c.args.arrival.device in
    let within : place < length slots.items = omega (arith, slots.ok.0, c.len.ensures) in
    gone_set slots.items place c.index_mut.result.now c.hear.new.self
    (read_at slots.items place c.index_mut.result.now within c.index_mut.ensures.value)
    (goes_later _ _ _ c.hear.ensures.goes_on) c.hear.ensures.goes_on.repeated
    c.hear.ensures.share
