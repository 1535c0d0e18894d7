use Rattle.std.proofs.Common.{sym, ap, ◌∙◌}
use Rattle.std.specs.FinMap as fin_map
use Rattle.instance_store.specs.Tree.{at_part}
use Rattle.instance_store.proofs.TreeLaws.{get_some, get_none}
use Rattle.instance_store.proofs.instance.Instance.get.Goals as goal

pub returns-in-Some : goal.returns-in-Some
returns-in-Some c =
    c.get-in-Some.ensures
    ∙ sym (get_some c.self.inside.resources c.args.resource c.args.part c.in-Some.held.now (sym c.in-Some.ensures))
    ∙ ap (λ m. fin_map.get m (at_part c.args.resource c.args.part)) c.self.view_is

pub returns-in-None : goal.returns-in-None
returns-in-None c =
    sym (get_none c.self.inside.resources c.args.resource c.args.part (sym c.in-None.ensures))
    ∙ ap (λ m. fin_map.get m (at_part c.args.resource c.args.part)) c.self.view_is
