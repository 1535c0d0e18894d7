use Rattle.std.proofs.Common.{sym, ap, ◌∙◌}
use Rattle.notifier.specs.Resending.{turn_with}
use Rattle.notifier.proofs.Timeouts.{not_evaluated, resent, timed_out}
use Rattle.notifier.proofs.laws.resends_at_doubled_timeouts.Goals as goal

pub returns-clause-times : goal.returns-clause-times
returns-clause-times c =
    λ o timer clock is some.
    let turn = ap (λ t. turn_with o.second t clock) is in
    let both = resent o.second timer.first clock some in
    (λ h. both.0 (sym turn ∙ h), λ h. turn ∙ both.1 h)

pub returns-clause-end : goal.returns-clause-end
returns-clause-end c =
    λ o timer clock is.
    let turn = ap (λ t. turn_with o.second t clock) is in
    let both = timed_out o.second timer.first clock in
    (λ h. both.0 (sym turn ∙ h), λ h. turn ∙ both.1 h)

pub returns-clause-alone : goal.returns-clause-alone
returns-clause-alone c =
    λ o timer clock is h. not_evaluated o.second timer.first clock (sym (ap (λ t. turn_with o.second t clock) is) ∙ h)
