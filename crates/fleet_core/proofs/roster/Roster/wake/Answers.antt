use Rattle.std.proofs.Common.{inl, refl, subst, arith, ◌<◌, length}
use Rattle.fleet_core.specs.Roster.{HasWoken}
use Rattle.fleet_core.proofs.Queueing.{added_here}
use Rattle.fleet_core.proofs.Waking.{has_woken}
use Rattle.fleet_core.proofs.roster.Roster.wake.Goals as goal

pub unreachable-requires : goal.unreachable-requires
unreachable-requires c =
    c.in-None.ensures c.args.low (inl (added_here c.wake.new.woken c.add.new.self c.args.low c.in_ok-add.ensures))

pub returns : goal.returns
returns c =
    let within : c.from.result < length c.args.self.now.waiting.items =
    omega (arith, c.requires.groups, c.from.ensures) in
    subst (λ g. HasWoken c.args.self.now c.take.new.self g c.args.posts c.args.low c.in-Some.next) c.from.ensures
    (has_woken c.args.self.now _ c.take.new.self c.from.result c.args.posts c.args.low c.in-Some.next
    c.index_mut-waiters.result.now c.wake.new.self c.wake.new.woken c.in-Some.ensures refl refl refl within
    c.index_mut-waiters.ensures.value c.in_ok-wake.ensures.woken c.in_ok-wake.ensures.kept c.in_ok-add.ensures)
