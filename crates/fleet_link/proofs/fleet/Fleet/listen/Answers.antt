use Rattle.std.proofs.Common.{true, false, refl}
use Rattle.fleet_link.proofs.Fleets.{breaks, errs, still_served}
use Rattle.fleet_link.proofs.Gone.{gone_same}
use Rattle.fleet_link.proofs.Seconds.{asked_on}
use Rattle.fleet_link.proofs.fleet.Fleet.listen.Goals as goal

pub returns-in_err-wait-clause-fleet : goal.returns-in_err-wait-clause-fleet
returns-in_err-wait-clause-fleet g c =
    λ s played before h.
    breaks s played before (g.P.Ports.told c.wait.new.self) c.args.self.now.slots.items c.args.self.now.second true _
    (errs c.from_residual.result c.from_residual.ensures.0)
    (still_served s played before (g.P.Ports.told c.args.ports.now) (g.P.Ports.told c.wait.new.self)
    c.args.self.now.slots.items c.args.self.now.second true h c.wait.ensures.told)

pub returns-in_err-wait-clause-asked : goal.returns-in_err-wait-clause-asked
returns-in_err-wait-clause-asked g c =
    λ read_before asked_before calls h.
    asked_on read_before _ asked_before _ _ _ _ _ _ calls h c.wait.ensures.asked refl refl

pub returns-clause-fleet : goal.returns-clause-fleet
returns-clause-fleet g c =
    λ s played before h. c.serve_arrivals.ensures.fleet s played before
    (still_served s played before (g.P.Ports.told c.args.ports.now) (g.P.Ports.told c.wait.new.self)
    c.args.self.now.slots.items c.args.self.now.second false h c.wait.ensures.told)

pub returns-clause-swept : goal.returns-clause-swept
returns-clause-swept g c =
    λ s played before h. c.serve_arrivals.ensures.swept s played before
    (still_served s played before (g.P.Ports.told c.args.ports.now) (g.P.Ports.told c.wait.new.self)
    c.args.self.now.slots.items c.args.self.now.second false h c.wait.ensures.told)

pub returns-clause-asked : goal.returns-clause-asked
returns-clause-asked g c =
    λ read_before asked_before calls h. c.serve_arrivals.ensures.asked read_before asked_before calls
    (asked_on read_before _ asked_before _ _ _ _ _ _ calls h c.wait.ensures.asked refl refl)

pub returns-clause-heard : goal.returns-clause-heard
returns-clause-heard g c =
    λ read_before asked_before calls h. c.serve_arrivals.ensures.heard read_before asked_before calls
    (asked_on read_before _ asked_before _ _ _ _ _ _ calls h c.wait.ensures.asked refl refl)

pub returns-in_err-wait-clause-went : goal.returns-in_err-wait-clause-went
returns-in_err-wait-clause-went g c = gone_same c.args.self.now.slots.items
