use Rattle.std.proofs.Common.{sym, ◌∙◌, refl}
use Rattle.std.specs.Map.{values_of}
use Rattle.device_machine.proofs.Recalled.{recalled_all}
use Rattle.device_machine.proofs.records.Index.remove_forgotten.Goals as goal

pub returns-in_default-clause-alone : goal.returns-in_default-clause-alone
returns-in_default-clause-alone c =
    sym (recalled_all c.args.self.now.ended (values_of c.args.self.now.entries.entries) c.in_default.is)

pub returns-clause-same : goal.returns-clause-same
returns-clause-same c =
    recalled_all _ (values_of c.give_room_back.new.entries.entries) refl
    ∙ c.give_room_back.ensures.same
    ∙ c.keep_recalled.ensures.recalled
