use Rattle.std.proofs.Common.{refl}
use Rattle.fleet_link.proofs.Served.{now_fails, over_fails, some_over}
use Rattle.fleet_link.proofs.slot.Slot.fail.Goals as goal

pub returns-in-None-clause-served : goal.returns-in-None-clause-served
returns-in-None-clause-served c =
    λ class own before between after h k. now_fails class own before c.args.self.now _ between after h k c.in-None.is
    refl

pub returns-in-Some-clause-served : goal.returns-in-Some-clause-served
returns-in-Some-clause-served c =
    λ class own before between after h k. over_fails class own before c.args.self.now between after h k
    (some_over c.args.self.now.end c.in-Some.field-0 c.in-Some.is)
