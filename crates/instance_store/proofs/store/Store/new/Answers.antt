use Rattle.std.proofs.Common.{sym, ap, ◌∙◌}
use Rattle.std.specs.FinMap as map
use Rattle.lwm2m_values.specs.declared.value.Value.{Value}
use Rattle.object_defs.specs.Path.{path_cmp}
use Rattle.instance_store.specs.Stored.{value_count}
use Rattle.instance_store.specs.Tree.{stored_from}
use Rattle.instance_store.proofs.StoreLaws.{store-empty}
use Rattle.instance_store.proofs.store.Store.new.Goals as goal

pub invariant_of-result : goal.invariant_of-result
invariant_of-result c =
    sym (ap (λ o. value_count (stored_from o)) c.new.ensures ∙ ap value_count store-empty
    ∙ map.len-empty path_cmp Value)

pub returns : goal.returns
returns c = ap stored_from c.new.ensures ∙ store-empty
