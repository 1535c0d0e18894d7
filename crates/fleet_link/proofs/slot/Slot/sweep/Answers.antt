use Rattle.std.proofs.Common.{refl}
use Rattle.fleet_link.proofs.Stepped.{goes_on_same}
use Rattle.std.specs.Result.{is_err}
use Rattle.fleet_link.proofs.Served.{swept_by}
use Rattle.fleet_link.proofs.slot.Slot.sweep.Goals as goal

pub returns-clause-swept : goal.returns-clause-swept
returns-clause-swept g c =
    λ class own before h. swept_by class own before c.args.self.now c.reach.new.self (is_err c.reach.result)
    (g.P.Ports.told c.args.ports.now c.args.place) (g.P.Ports.told c.reach.new.ports c.args.place) c.args.now h
    (c.reach.ensures.served class own before h)
    (λ e. c.is_due.ensures.due class own before (g.P.Ports.told c.args.ports.now c.args.place) h e
    c.if-not-is_due.false)
    c.reach.ensures.second c.reach.ensures.later c.reach.ensures.over

pub returns-then-not-is_due-clause-goes_on : goal.returns-then-not-is_due-clause-goes_on
returns-then-not-is_due-clause-goes_on g c = goes_on_same c.args.now c.args.self.now.row c.args.self.now.row refl
