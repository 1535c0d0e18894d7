use Rattle.std.proofs.Common.{◌<◌, subst, ◌∙◌}
use Rattle.std.specs.Map.{values_of}
use Rattle.device_machine.proofs.Recalled.{recalled_later, recalled_still}
use Rattle.device_machine.proofs.records.Index.forget.Goals as goal

pub returns-then-clock-self-clause-living : goal.returns-then-clock-self-clause-living
returns-then-clock-self-clause-living c =
    recalled_still c.args.self.now.ended c.args.clock (values_of c.args.self.now.entries.entries)
    (subst (λ n. c.args.clock < n) c.requires.1 c.if-clock-self.true)

pub returns-clause-living : goal.returns-clause-living
returns-clause-living c =
    c.tidy.ensures.same
    ∙ recalled_later c.args.self.now.ended c.args.clock c.later.result c.later.ensures
    (values_of c.args.self.now.entries.entries)
