use Rattle.std.proofs.Common.{refl}
use Rattle.ticket_lock.proofs.Same.{same_held}
use Rattle.ticket_lock.proofs.held.Held.value_mut.Goals as goal

pub returns : goal.returns
returns g c = ((refl, λ w. same_held c.args.self.now w _ _ _ _ _ _), record { writes_back = tt; value = refl })
