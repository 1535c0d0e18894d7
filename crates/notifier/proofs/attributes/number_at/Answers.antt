use Rattle.std.proofs.Common.{sym, ◌∙◌}
use Rattle.object_defs.proofs.MapLaws.{get_entries}
use Rattle.notifier.proofs.Keys.{key_total}
use Rattle.notifier.proofs.attributes.number_at.Goals as goal

pub returns : goal.returns
returns c = c.copied.ensures ∙ c.get.ensures.value ∙ sym (get_entries key_total c.args.numbers.now.entries c.args.key)
