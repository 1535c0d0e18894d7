use Rattle.std.proofs.Common.{ap}
use Rattle.device_machine.proofs.Repeating.{confirmable, non_confirmable}
use Rattle.device_machine.proofs.laws.repeats.Goals as goal

pub returns-clause-confirmable : goal.returns-clause-confirmable
returns-clause-confirmable c =
    λ f server seconds bytes again m n fresh k short h.
    let same = confirmable f server seconds bytes again m n fresh k short h
    in (ap (λ r. r.outputs) same, ap (λ r. r.flat) same)

pub returns-clause-non_confirmable : goal.returns-clause-non_confirmable
returns-clause-non_confirmable c =
    λ f server seconds bytes again m n fresh k short h.
    let same = non_confirmable f server seconds bytes again m n fresh k short h
    in (ap (λ r. r.outputs) same, ap (λ r. r.flat) same)
