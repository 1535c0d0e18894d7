use Rattle.std.proofs.Common.{OnOk, length, subst}
use Rattle.live_link.proofs.Turned.{none_read}
use Rattle.fleet_link.specs.Serving.{AreSwept}
use Rattle.fleet_link.proofs.Gone.{gone_both, passed_on}
use Rattle.fleet_link.proofs.Seconds.{asked_on}
use Rattle.fleet_link.proofs.fleet.Fleet.turn.Goals as goal

pub returns-clause-fleet : goal.returns-clause-fleet
returns-clause-fleet g c =
    λ s played before h. c.sweep_slices.ensures.fleet s played before
    (c.pass_needs.ensures.fleet s played before (g.P.Ports.told c.args.ports.now) h)

pub returns-clause-swept : goal.returns-clause-swept
returns-clause-swept g c =
    let new = c.sweep_slices.new.self.slots.items in
    λ s played before h. subst (λ n. OnOk c.sweep_slices.result (AreSwept new (length new) n))
    c.pass_needs.ensures.second
    (c.sweep_slices.ensures.swept s played before
    (c.pass_needs.ensures.fleet s played before (g.P.Ports.told c.args.ports.now) h))

pub returns-clause-asked : goal.returns-clause-asked
returns-clause-asked g c =
    λ read_before asked_before calls h. c.sweep_slices.ensures.asked read_before asked_before calls
    (asked_on read_before _ asked_before _ _ _ _ _ _ calls h (none_read (g.P.Ports.asked c.args.ports.now))
    c.pass_needs.ensures.began c.pass_needs.ensures.second)

pub returns-clause-heard : goal.returns-clause-heard
returns-clause-heard g c =
    λ read_before asked_before calls h. c.sweep_slices.ensures.heard read_before asked_before calls
    (asked_on read_before _ asked_before _ _ _ _ _ _ calls h (none_read (g.P.Ports.asked c.args.ports.now))
    c.pass_needs.ensures.began c.pass_needs.ensures.second)

pub returns-clause-passed : goal.returns-clause-passed
returns-clause-passed g c =
    passed_on c.args.self.now.second c.args.self.now.slots.items c.pass_needs.new.self.slots.items
    c.sweep_slices.new.self.slots.items c.pass_needs.ensures.passed c.sweep_slices.ensures.went

pub returns-clause-went : goal.returns-clause-went
returns-clause-went g c =
    gone_both c.args.self.now.slots.items c.pass_needs.new.self.slots.items c.sweep_slices.new.self.slots.items
    c.pass_needs.ensures.went c.sweep_slices.ensures.went
