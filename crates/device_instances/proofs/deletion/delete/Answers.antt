use Rattle.std.proofs.Common.{◌<◌, sym, subst, ◌∙◌}
use Rattle.std.specs.FinMap as map
use Rattle.instance_store.specs.Stored.{Stored}
use Rattle.device_instances.specs.Numbers.{instance_at}
use Rattle.device_instances.proofs.Deleted.{Progress, begun, continued, ended, found_there, one_less}
use Rattle.device_instances.proofs.deletion.delete.Goals as goal

pub loop-instance-init : goal.loop-instance-init
loop-instance-init c =
    subst (Progress c.args.place c.args.store.now) (sym c.remove.ensures) (begun c.args.store.now c.args.place)

pub loop-instance-smaller : goal.loop-instance-smaller
loop-instance-smaller c =
    subst (λ (s : Stored). map.len s.instances < map.len c.loop-instance.store.instances) (sym c.remove-in-Some.ensures)
    (one_less c.loop-instance.store (instance_at 2 c.in-Some.instance)
    (found_there c.args.place c.loop-instance.store c.in-Some.instance (sym c.control_of.ensures ∙ c.in-Some.is)))

pub loop-instance-preserved : goal.loop-instance-preserved
loop-instance-preserved c =
    subst (Progress c.args.place c.args.store.now) (sym c.remove-in-Some.ensures)
    (continued c.args.place c.args.store.now c.loop-instance.store c.in-Some.instance c.loop-instance.invariant
    (sym c.control_of.ensures ∙ c.in-Some.is))

pub returns-clause-ok : goal.returns-clause-ok
returns-clause-ok c =
    ended c.args.place c.args.store.now c.loop-instance.store c.loop-instance.invariant
    (sym c.control_of.ensures ∙ c.in_default.is)

pub remove-requires-in-Some : goal.remove-requires-in-Some
remove-requires-in-Some c =
    found_there c.args.place c.loop-instance.store c.in-Some.instance (sym c.control_of.ensures ∙ c.in-Some.is)
