use Rattle.std.proofs.Common.{find, sym, ap, ◌∙◌}
use Rattle.std.specs.Map.{values_of}
use Rattle.device_machine.specs.Records.{has_key}
use Rattle.device_machine.proofs.Recalled.{recalled_all}
use Rattle.device_machine.proofs.records.Index.can_add.Goals as goal

pub returns-in_default-clause-new : goal.returns-in_default-clause-new
returns-in_default-clause-new c =
    λ _. sym (ap (find (has_key c.args.request.now.server c.args.request.now.kind c.args.request.now.mid))
    (recalled_all c.args.self.now.ended (values_of c.args.self.now.entries.entries) c.in_default.is)) ∙ c.requires.new
