use Rattle.std.proofs.Common.{length, sym, ap, ◌∙◌}
use Rattle.std.proofs.lemmas.List.{length-map}
use Rattle.std.specs.FinMap as map
use Rattle.instance_store.proofs.table.Table.len.Goals as goal

pub returns : goal.returns
returns g c =
    ap length c.numbers.ensures
    ∙ length-map (map.entries c.args.self.now) (λ e. e.0)
    ∙ sym (map.len-entries c.args.self.now)
