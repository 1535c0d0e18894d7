use Rattle.std.proofs.Common.{refl, subst, ap}
use Rattle.std.specs.List.{AllByRecursion}
use Rattle.notifier.specs.Observed.{HasNumber, HaveDistinctNames}
use Rattle.notifier.specs.Said.{Watch}
use Rattle.notifier.specs.contracts.entries.KeyPartialEq.TheImpl.{eq-value}
use Rattle.notifier.proofs.ObservedLaws.{names_differ, numbers_fit}
use Rattle.notifier.proofs.observations.Observations.len.Goals as goal

pub returns-clause-names : goal.returns-clause-names
returns-clause-names c =
    subst HaveDistinctNames (ap (λ (w : Watch). w.list) c.self.view_is) (names_differ eq-value.it
    (λ k j. refl) c.self.inside.entries.entries c.self.invariant.0 c.len.ensures.unique)

pub returns-clause-numbers : goal.returns-clause-numbers
returns-clause-numbers c =
    subst (AllByRecursion HasNumber) (ap (λ (w : Watch). w.list) c.self.view_is)
    (numbers_fit c.self.inside.entries.entries c.self.invariant.0)
