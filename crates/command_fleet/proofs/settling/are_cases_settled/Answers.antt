use Rattle.std.proofs.Common.{rules, length, subst, ◌<◌, ◌≤◌, arith}
use Rattle.std.specs.List.{All}
use Rattle.std.proofs.lemmas.List.{take_all}
use Rattle.std.proofs.lemmas.List.Elements.{All-more}
use Rattle.command_fleet.specs.Settling.{IsCaseSettled}
use Rattle.command_fleet.proofs.settling.are_cases_settled.Goals as goal

pub loop-case-preserved : goal.loop-case-preserved
loop-case-preserved c =
    let within : c.loop-case.case-index < length c.args.goal.now = omega (arith, c.loop-case-test.true) in
    All-more (IsCaseSettled c.args.arrivals.now c.args.second) c.args.goal.now c.loop-case.case-index
    c.case-item.result within c.loop-case.invariant
    (subst (IsCaseSettled c.args.arrivals.now c.args.second) c.case-item.is
    (c.in_ok-is_case_settled.ensures.settled (search rules)))

pub returns-clause-settled : goal.returns-clause-settled
returns-clause-settled c = λ t.
    let all : length c.args.goal.now ≤ c.loop-case.case-index = omega (arith, c.loop-case-test.false) in
    subst (All (IsCaseSettled c.args.arrivals.now c.args.second))
    (take_all c.loop-case.case-index c.args.goal.now all) c.loop-case.invariant
