use Rattle.std.proofs.Common.{subst}
use Rattle.object_defs.specs.Order.{IsInOrder}
use Rattle.object_defs.proofs.Order.{in_order}
use Rattle.object_defs.proofs.catalog.Catalog.objects.Goals as goal

pub returns-clause-order : goal.returns-clause-order
returns-clause-order c = subst IsInOrder c.self.view_is (in_order c.self.inside.objects.items c.self.invariant)
