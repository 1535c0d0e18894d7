use Rattle.std.proofs.Common.{not, ap, ◌∙◌}
use Rattle.std.specs.FinMap as map
use Rattle.object_defs.proofs.MapLaws.{kept_keys-filter}
use Rattle.notifier.specs.Attributes.{lies_under, without_under}
use Rattle.notifier.proofs.Keys.{key_total, key_exact}
use Rattle.notifier.proofs.attributes.Attributes.remove_under.Goals as goal

pub returns : goal.returns
returns c =
    ap map.from_entries c.keep_elsewhere.ensures
    ∙ kept_keys-filter key_total key_exact (λ k. not (lies_under c.args.path k)) c.self.inside.numbers.entries
    ∙ ap (λ m. without_under m c.args.path) c.self.view_is
