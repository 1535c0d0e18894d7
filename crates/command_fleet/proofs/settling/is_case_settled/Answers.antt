use Rattle.std.proofs.Common.{IfOk, IsTrue, subst, ◌↔◌}
use Rattle.std.proofs.lemmas.Result.{IfOk-weaker}
use Rattle.expectations.specs.Settling.{IsSettled}
use Rattle.command_fleet.specs.Settling.{IsCaseSettled}
use Rattle.command_fleet.proofs.settling.is_case_settled.Goals as goal

pub returns-clause-settled : goal.returns-clause-settled
unfolding IsCaseSettled
returns-clause-settled c =
    let both : IfOk c.is_settled.result
    (λ b. IsTrue b ↔ IsSettled c.args.case.now.lines c.args.arrivals.now c.args.second) =
    subst (λ lines. IfOk c.is_settled.result (λ b. IsTrue b ↔ IsSettled lines c.args.arrivals.now c.args.second))
    c.as_slice.ensures c.is_settled.ensures in
    IfOk-weaker c.is_settled.result
    (λ b. IsTrue b ↔ IsSettled c.args.case.now.lines c.args.arrivals.now c.args.second)
    (λ b. IsTrue b → IsSettled c.args.case.now.lines c.args.arrivals.now c.args.second) (λ b at. at.0) both

pub returns-clause-all : goal.returns-clause-all
unfolding IsCaseSettled
returns-clause-all c =
    let both : IfOk c.is_settled.result
    (λ b. IsTrue b ↔ IsSettled c.args.case.now.lines c.args.arrivals.now c.args.second) =
    subst (λ lines. IfOk c.is_settled.result (λ b. IsTrue b ↔ IsSettled lines c.args.arrivals.now c.args.second))
    c.as_slice.ensures c.is_settled.ensures in
    IfOk-weaker c.is_settled.result
    (λ b. IsTrue b ↔ IsSettled c.args.case.now.lines c.args.arrivals.now c.args.second)
    (λ b. IsSettled c.args.case.now.lines c.args.arrivals.now c.args.second → IsTrue b) (λ b at. at.1) both
