use Rattle.device_instances.proofs.Found.{decided}
use Rattle.device_instances.proofs.number.free_number.Goals as goal

pub returns-clause-value : goal.returns-clause-value
returns-clause-value c =
    decided c.args.store.now c.args.object c.first_free.result c.first_free.ensures.number c.first_free.ensures.none
