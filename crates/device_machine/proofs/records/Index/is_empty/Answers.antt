use Rattle.std.specs.Map.{values_of}
use Rattle.device_machine.specs.Records.{is_recalled}
use Rattle.device_machine.proofs.Recalled.{filter-empty, filter-nonempty}
use Rattle.device_machine.proofs.records.Index.is_empty.Goals as goal

pub returns-clause-none : goal.returns-clause-none
returns-clause-none c =
    filter-empty (λ r. is_recalled c.args.self.now.ended r) (values_of c.args.self.now.entries.entries)
    c.recalls_any.result c.recalls_any.ensures

pub returns-clause-some : goal.returns-clause-some
returns-clause-some c =
    filter-nonempty (λ r. is_recalled c.args.self.now.ended r) (values_of c.args.self.now.entries.entries)
    c.recalls_any.result c.recalls_any.ensures
