use Rattle.std.proofs.Common.{IfOk, IsTrue, ap, subst, ◌∙◌}
use Rattle.std.specs.List.{All}
use Rattle.expectations.specs.Arrivals.{arrivals_from}
use Rattle.command_fleet.specs.Settling.{IsCaseSettled, IsDeviceSettled}
use Rattle.command_fleet.proofs.settling.is_device_settled.Goals as goal

pub returns-clause-settled : goal.returns-clause-settled
unfolding IsDeviceSettled
returns-clause-settled c =
    subst
    (λ arrivals. IfOk c.are_cases_settled.result
    (λ b. IsTrue b → All (IsCaseSettled arrivals c.args.second) c.args.goal.now))
    (c.as_slice.ensures.value ∙ (c.in_ok-arrivals.ensures ∙ ap (λ steps. arrivals_from 0 steps) c.steps-steps.ensures))
    c.are_cases_settled.ensures.settled

pub returns-clause-all : goal.returns-clause-all
unfolding IsDeviceSettled
returns-clause-all c = λ few.
    subst
    (λ arrivals. IfOk c.are_cases_settled.result
    (λ b. All (IsCaseSettled arrivals c.args.second) c.args.goal.now → IsTrue b))
    (c.as_slice.ensures.value ∙ (c.in_ok-arrivals.ensures ∙ ap (λ steps. arrivals_from 0 steps) c.steps-steps.ensures))
    c.are_cases_settled.ensures.all
