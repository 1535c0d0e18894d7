use Rattle.std.proofs.Common.{false}
use Rattle.fleet_link.specs.declared.ports.Receipt.TheVariants.{Arrived, Dropped, Failed, Nothing}
use Rattle.fleet_link.proofs.Fleets.{carries_at, still_served}
use Rattle.fleet_link.proofs.Gone.{gone_same}
use Rattle.fleet_link.proofs.fleet.Fleet.take_receipt.Goals as goal

pub returns-in-Failed-clause-fleet : goal.returns-in-Failed-clause-fleet
returns-in-Failed-clause-fleet g c =
    λ s played before between h went. c.take_failure.ensures.fleet s played before between
    (g.P.Ports.told c.args.ports.now) h
    (λ e. carries_at _ _ c.args.self.now.second e c.args.receipt (Failed c.in-Failed.device) c.in-Failed.is (went e))

pub returns-in-Arrived-clause-fleet : goal.returns-in-Arrived-clause-fleet
returns-in-Arrived-clause-fleet g c =
    λ s played before between h went. c.take_arrival.ensures.fleet s played before between h
    (λ e. carries_at _ _ c.args.self.now.second e c.args.receipt (Arrived c.in-Arrived.arrival) c.in-Arrived.is
    (went e))

pub returns-in-Arrived-clause-swept : goal.returns-in-Arrived-clause-swept
returns-in-Arrived-clause-swept g c =
    λ s played before between h went. c.take_arrival.ensures.swept s played before between h
    (λ e. carries_at _ _ c.args.self.now.second e c.args.receipt (Arrived c.in-Arrived.arrival) c.in-Arrived.is
    (went e))

pub returns-in-Failed-clause-swept : goal.returns-in-Failed-clause-swept
returns-in-Failed-clause-swept g c = λ s played before between h went n second le k. c.take_failure.ensures.swept n
    second k

pub returns-in-Nothing-clause-fleet : goal.returns-in-Nothing-clause-fleet
returns-in-Nothing-clause-fleet g c =
    λ s played before between h went. still_served s played before between (g.P.Ports.told c.args.ports.now)
    c.args.self.now.slots.items c.args.self.now.second false h
    (λ e. carries_at _ _ c.args.self.now.second e c.args.receipt Nothing c.in-Nothing.is (went e))

pub returns-in-Dropped-clause-fleet : goal.returns-in-Dropped-clause-fleet
returns-in-Dropped-clause-fleet g c =
    λ s played before between h went. still_served s played before between (g.P.Ports.told c.args.ports.now)
    c.args.self.now.slots.items c.args.self.now.second false h
    (λ e. carries_at _ _ c.args.self.now.second e c.args.receipt Dropped c.in-Dropped.is (went e))

pub returns-in-Nothing-clause-went : goal.returns-in-Nothing-clause-went
returns-in-Nothing-clause-went g c = gone_same c.args.self.now.slots.items

pub returns-in-Dropped-clause-went : goal.returns-in-Dropped-clause-went
returns-in-Dropped-clause-went g c = gone_same c.args.self.now.slots.items
