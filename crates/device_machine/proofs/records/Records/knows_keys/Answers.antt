use Rattle.std.proofs.Common.{subst}
use Rattle.std.specs.Map.{values_of}
use Rattle.device_machine.specs.Records.{HaveOwnKeys, is_recalled}
use Rattle.device_machine.proofs.Members.{own_filtered, own_values}
use Rattle.device_machine.proofs.records.Records.knows_keys.Goals as goal

pub returns : goal.returns
returns c =
    subst HaveOwnKeys c.self.view_is
    (own_filtered (λ r. is_recalled c.self.inside.index.ended r) (values_of c.self.inside.index.entries.entries)
    (own_values c.self.inside.index.entries.entries c.self.invariant.0.0 c.self.invariant.0.1))
