use Rattle.notifier.specs.Observed.{HasToken, HasNumber}
use Rattle.notifier.proofs.ObservedLaws.{if_at}
use Rattle.notifier.proofs.observations.Observations.at.Goals as goal

pub returns-clause-token : goal.returns-clause-token
returns-clause-token c =
    if_at HasToken (λ e k. k.short) c.self.inside.entries.entries c.args.place _ c.self.invariant.0
    c.observation_at.ensures

pub returns-clause-number : goal.returns-clause-number
returns-clause-number c =
    if_at HasNumber (λ e k. k.number) c.self.inside.entries.entries c.args.place _ c.self.invariant.0
    c.observation_at.ensures
