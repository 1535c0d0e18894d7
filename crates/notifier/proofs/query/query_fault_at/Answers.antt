use Rattle.std.proofs.Common.{subst, sym}
use Rattle.notifier.specs.NumberEnd.{IsQueryFault}
use Rattle.notifier.proofs.FaultPlaces.{query_fault_is}
use Rattle.notifier.proofs.query.query_fault_at.Goals as goal

pub returns-clause-fault : goal.returns-clause-fault
returns-clause-fault c = λ before level bad.
    subst (IsQueryFault c.args.query.now) (sym c.fault_place.ensures) (query_fault_is before level c.args.query.now bad)
