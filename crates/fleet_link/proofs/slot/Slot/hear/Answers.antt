use Rattle.std.proofs.Common.{refl, ◌∷◌, [], List}
use Rattle.std.specs.Result.{is_err}
use Rattle.scenario_image.specs.Play.{start}
use Rattle.fleet_link.specs.Traffic.{ReceivedPacket}
use Rattle.fleet_link.proofs.Served.{over_hears, pends, settled, some_over}
use Rattle.fleet_link.proofs.Stepped.{goes_on_same, goes_then, later_settled, still_under_way}
use Rattle.fleet_link.proofs.slot.Slot.hear.Goals as goal

pub returns-in-None-clause-served : goal.returns-in-None-clause-served
returns-in-None-clause-served g c =
    let stepped = c.take_packet-taken in
    let pending : List ReceivedPacket = record { second = c.args.now; packet = c.args.packet } ∷ [] in
    λ class own before between h k le.
    let on = pends class own before c.args.self.now between (g.P.Ports.told c.args.ports.now c.args.place) c.args.now
    c.args.packet h k c.in-None.is in
    let time = h.on_time c.in-None.is in
    settled class own before pending stepped.result (is_err c.settle.result) stepped.new.self c.settle.new.self
    (g.P.Ports.told stepped.new.ports c.args.place)
    (stepped.ensures.served (start class) before on time le) (stepped.ensures.on_time time)
    (stepped.ensures.refused (start class) before on time)
    (still_under_way c.args.now own c.args.self.now.row stepped.new.self.row h.row_is stepped.ensures.goes_on)
    c.settle.ensures.device c.settle.ensures.second c.settle.ensures.row c.settle.ensures.recording c.settle.ensures.ok
    c.settle.ensures.ended c.settle.ensures.memory

pub returns-in-Some-clause-served : goal.returns-in-Some-clause-served
returns-in-Some-clause-served g c =
    λ class own before between h k le. over_hears class own before c.args.self.now between
    (g.P.Ports.told c.args.ports.now c.args.place) c.args.now c.args.packet h k
    (some_over c.args.self.now.end c.in-Some.field-0 c.in-Some.is)

pub returns-in-None-clause-later : goal.returns-in-None-clause-later
returns-in-None-clause-later g c =
    later_settled c.take_packet-taken.result c.take_packet-taken.new.self c.settle.new.self c.args.now
    c.take_packet-taken.ensures.later
    c.settle.ensures.ended c.settle.ensures.row

pub returns-in-None-clause-goes_on : goal.returns-in-None-clause-goes_on
returns-in-None-clause-goes_on g c =
    goes_then c.args.now c.args.self.now.row c.take_packet-taken.new.self.row c.settle.new.self.row
    c.take_packet-taken.ensures.goes_on c.settle.ensures.row

pub returns-in-Some-clause-goes_on : goal.returns-in-Some-clause-goes_on
returns-in-Some-clause-goes_on g c = goes_on_same c.args.now c.args.self.now.row c.args.self.now.row refl
