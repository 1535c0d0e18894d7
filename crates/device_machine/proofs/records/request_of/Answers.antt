use Rattle.std.proofs.Common.{refl, ◌∙◌, arith}
use Rattle.device_machine.specs.contracts.records.RecordKeyPartialEq.TheImpl.{eq-value}
use Rattle.device_machine.proofs.Keyed.{found}
use Rattle.device_machine.proofs.records.request_of.Goals as goal

pub returns : goal.returns
returns c =
    c.get.ensures.value
    ∙ found eq-value.it (λ k j. refl) c.args.server c.args.mid c.args.kind
    (record { server = c.args.server; kind = c.args.kind; mid = c.args.mid })
    (omega (arith, c.ranges.server)) (omega (arith, c.ranges.mid)) refl
    c.args.entries.now.entries c.requires.0
