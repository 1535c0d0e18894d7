use Rattle.std.proofs.Common.{Some, sym, ap, ◌∙◌}
use Rattle.instance_store.proofs.Clones.{same_value}
use Rattle.instance_store.proofs.resource.copy_single.Goals as goal

pub returns-in_ok-copy-in-Some : goal.returns-in_ok-copy-in-Some
returns-in_ok-copy-in-Some c =
    ap Some (same_value c.in-Some.value c.in_ok-copy-in-Some.copy c.in_ok-copy-in-Some.ensures.cases) ∙ sym c.in-Some.is
