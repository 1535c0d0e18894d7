use Rattle.std.proofs.Common.{◌≤◌, true, ap, arith}
use Rattle.fleet_link.proofs.Fleets.{breaks, errs, passed, still_served, swept_same}
use Rattle.fleet_link.proofs.Gone.{gone_as, gone_both}
use Rattle.fleet_link.proofs.Seconds.{asked_more, asked_on}
use Rattle.fleet_link.proofs.fleet.Fleet.ask.Goals as goal

pub returns-in_err-receipt-clause-fleet : goal.returns-in_err-receipt-clause-fleet
returns-in_err-receipt-clause-fleet g c =
    λ s played before h.
    breaks s played before (g.P.Ports.told c.receive.new.self) c.pass.new.self.slots.items c.pass.new.self.second
    true _ (errs c.from_residual.result c.from_residual.ensures.0)
    (still_served s played before (g.P.Ports.told c.args.ports.now) (g.P.Ports.told c.receive.new.self)
    c.pass.new.self.slots.items c.pass.new.self.second true
    (passed s played before (g.P.Ports.told c.args.ports.now) c.args.self.now c.pass.new.self _ h c.pass.ensures.second
    c.pass.ensures.slots) c.in_err-receipt.ensures.told)

pub returns-in_err-receipt-clause-swept : goal.returns-in_err-receipt-clause-swept
returns-in_err-receipt-clause-swept g c =
    λ s played before h n second le k. swept_same c.args.self.now c.pass.new.self n second c.pass.ensures.slots k

pub returns-in_err-receipt-clause-asked : goal.returns-in_err-receipt-clause-asked
returns-in_err-receipt-clause-asked g c =
    λ read_before asked_before calls h. asked_more read_before _ _ asked_before _ _ _ _ _ _ c.now-reading.result calls h
    c.now-reading.ensures c.receive.ensures.asked c.pass.ensures.began c.pass.ensures.second

pub returns-in_err-take_receipt-clause-fleet : goal.returns-in_err-take_receipt-clause-fleet
returns-in_err-take_receipt-clause-fleet g c =
    λ s played before h.
    breaks s played before (g.P.Ports.told c.take_receipt.new.ports) c.take_receipt.new.self.slots.items
    c.take_receipt.new.self.second true _
    (errs c.from_residual-in_err-take_receipt.result c.from_residual-in_err-take_receipt.ensures.0)
    (c.in_err-take_receipt.ensures.fleet s played before (g.P.Ports.told c.args.ports.now)
    (passed s played before (g.P.Ports.told c.args.ports.now) c.args.self.now c.pass.new.self _ h c.pass.ensures.second
    c.pass.ensures.slots) c.in_ok-receipt.ensures.told)

pub returns-in_err-take_receipt-clause-swept : goal.returns-in_err-take_receipt-clause-swept
returns-in_err-take_receipt-clause-swept g c =
    λ s played before h n second le k.
    let later : second ≤ c.pass.new.self.second = omega (arith, c.pass.ensures.second) in
    c.take_receipt.ensures.swept s played before (g.P.Ports.told c.args.ports.now)
    (passed s played before (g.P.Ports.told c.args.ports.now) c.args.self.now c.pass.new.self _ h c.pass.ensures.second
    c.pass.ensures.slots) c.in_ok-receipt.ensures.told n second later
    (swept_same c.args.self.now c.pass.new.self n second c.pass.ensures.slots k)

pub returns-in_err-take_receipt-clause-asked : goal.returns-in_err-take_receipt-clause-asked
returns-in_err-take_receipt-clause-asked g c =
    λ read_before asked_before calls h. asked_on read_before _ asked_before _ _ _ _ _ _ _
    (asked_more read_before _ _ asked_before _ _ _ _ _ _ c.now-reading.result calls h c.now-reading.ensures
    c.receive.ensures.asked c.pass.ensures.began c.pass.ensures.second) c.take_receipt.ensures.asked
    c.take_receipt.ensures.began c.take_receipt.ensures.second

pub returns-clause-fleet : goal.returns-clause-fleet
returns-clause-fleet g c =
    λ s played before h.
    c.in_ok-take_receipt.ensures.fleet s played before (g.P.Ports.told c.args.ports.now)
    (passed s played before (g.P.Ports.told c.args.ports.now) c.args.self.now c.pass.new.self _ h c.pass.ensures.second
    c.pass.ensures.slots) c.in_ok-receipt.ensures.told

pub returns-clause-swept : goal.returns-clause-swept
returns-clause-swept g c =
    λ s played before h n second le k.
    let later : second ≤ c.pass.new.self.second = omega (arith, c.pass.ensures.second) in
    c.take_receipt.ensures.swept s played before (g.P.Ports.told c.args.ports.now)
    (passed s played before (g.P.Ports.told c.args.ports.now) c.args.self.now c.pass.new.self _ h c.pass.ensures.second
    c.pass.ensures.slots) c.in_ok-receipt.ensures.told n second later
    (swept_same c.args.self.now c.pass.new.self n second c.pass.ensures.slots k)

pub returns-clause-asked : goal.returns-clause-asked
returns-clause-asked g c =
    λ read_before asked_before calls h. asked_on read_before _ asked_before _ _ _ _ _ _ _
    (asked_more read_before _ _ asked_before _ _ _ _ _ _ c.now-reading.result calls h c.now-reading.ensures
    c.receive.ensures.asked c.pass.ensures.began c.pass.ensures.second) c.take_receipt.ensures.asked
    c.take_receipt.ensures.began c.take_receipt.ensures.second

pub returns-in_err-receipt-clause-went : goal.returns-in_err-receipt-clause-went
returns-in_err-receipt-clause-went g c =
    gone_as c.args.self.now.slots.items c.pass.new.self.slots.items (ap (λ v. v.items) c.pass.ensures.slots)

pub returns-in_err-take_receipt-clause-went : goal.returns-in_err-take_receipt-clause-went
returns-in_err-take_receipt-clause-went g c =
    gone_both c.args.self.now.slots.items c.pass.new.self.slots.items c.take_receipt.new.self.slots.items
    (gone_as c.args.self.now.slots.items c.pass.new.self.slots.items (ap (λ v. v.items) c.pass.ensures.slots))
    c.take_receipt.ensures.went

pub returns-clause-went : goal.returns-clause-went
returns-clause-went g c =
    gone_both c.args.self.now.slots.items c.pass.new.self.slots.items c.take_receipt.new.self.slots.items
    (gone_as c.args.self.now.slots.items c.pass.new.self.slots.items (ap (λ v. v.items) c.pass.ensures.slots))
    c.take_receipt.ensures.went
