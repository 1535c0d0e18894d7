use Rattle.std.proofs.Common.{◌↔◌, IsTrue, sym, subst}
use Rattle.fleet_core.specs.Run.{CanGo}
use Rattle.fleet_core.proofs.Posts.{enabled_can}
use Rattle.fleet_core.proofs.fleet.Fleet.enabled.Goals as goal

pub returns-clause-can : goal.returns-clause-can
returns-clause-can c =
    subst (λ b. IsTrue b ↔ CanGo c.args.self.now.scenario c.args.self.now.entries c.args.device)
    (sym c.is_enabled.ensures)
    (enabled_can c.args.self.now.scenario c.args.self.now.entries c.args.device)
