use Rattle.object_defs.proofs.MapLaws.{one_removed}
use Rattle.notifier.proofs.Keys.{key_total, key_exact}
use Rattle.notifier.proofs.attributes.unset.Goals as goal

pub returns : goal.returns
returns c =
    one_removed key_total key_exact c.args.numbers.now.entries c.remove.new.self.entries c.args.key
    c.remove.ensures.updates.0
