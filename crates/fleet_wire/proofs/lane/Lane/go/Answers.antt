use Rattle.std.proofs.Common.{refl, sym, ap, subst}
use Rattle.fleet_wire.specs.Lane.{came_by, is_wanted, IsFirst}
use Rattle.fleet_wire.proofs.Lanes.{lanes_gone, lanes_later, noted_gone}
use Rattle.fleet_wire.proofs.lane.Lane.go.Goals as goal

pub returns-in-None-clause-lanes : goal.returns-in-None-clause-lanes
returns-in-None-clause-lanes c =
    λ plan direction devices now late l later.
    lanes_later plan direction devices now c.args.second c.args.self.now _ l later refl refl c.in-None.ensures.nothing
    refl refl

pub returns-in-Some-clause-lanes : goal.returns-in-Some-clause-lanes
returns-in-Some-clause-lanes c =
    λ plan direction devices now late l later.
    lanes_gone plan direction devices now c.args.second c.args.self.now _ c.in-Some.held l later
    (subst (λ n. IsFirst (is_wanted c.args.self.now.free n c.args.second) c.args.self.now.held.items c.in-Some.held
    c.take_first.new.held.items) (sym late) c.in-Some.ensures.first) refl refl refl
    (λ e. ap (λ g. came_by g e) c.of.ensures)
    (noted_gone c.of.result.value c.args.self.now.log c.of-in-Some.result.value c.in-Some.held.device
    c.of-in-Some-2.result.value c.in-Some.held.place c.of-in-Some-3.result.value c.args.second
    c.of-in-Some-4.result.value c.in-Some.held.packet c.of.ensures c.of-in-Some.ensures c.of-in-Some-2.ensures
    c.of-in-Some-3.ensures c.of-in-Some-4.ensures)
