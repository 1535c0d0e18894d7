use Rattle.std.proofs.Common.{ap, inl, refl}
use Rattle.fleet_link.proofs.Served.{some_over}
use Rattle.fleet_link.proofs.Passing.{passed_served, with_on}
use Rattle.fleet_link.proofs.slot.Slot.pass_need.Goals as goal

pub returns-in-None-clause-served : goal.returns-in-None-clause-served
returns-in-None-clause-served c =
    λ class own before after h le.
    passed_served class own before after c.args.self.now _ c.pass_need.new.self c.args.group c.args.posts c.args.now h
    le
    c.in-None.is c.pass_need.ensures.passed refl

pub returns-in-None-clause-passed : goal.returns-in-None-clause-passed
returns-in-None-clause-passed c = with_on c.pass_need.ensures.passed c.in-None.is

pub returns-in-Some-clause-served : goal.returns-in-Some-clause-served
returns-in-Some-clause-served c = λ class own before after h le. h

pub returns-in-Some-clause-passed : goal.returns-in-Some-clause-passed
returns-in-Some-clause-passed c = inl refl

pub returns-in-None-clause-left : goal.returns-in-None-clause-left
returns-in-None-clause-left c = λ count second same on. c.pass_need.ensures.left count second same

pub returns-in-None-clause-kept : goal.returns-in-None-clause-kept
returns-in-None-clause-kept c = λ same. ap (λ r. record c.args.self.now { row = r }) same

pub returns-in-Some-clause-left : goal.returns-in-Some-clause-left
returns-in-Some-clause-left c =
    λ count second same on. absurd (some_over c.args.self.now.end c.in-Some.field-0 c.in-Some.is on)

pub returns-in-Some-clause-kept : goal.returns-in-Some-clause-kept
returns-in-Some-clause-kept c = λ same. refl
