use Rattle.device_entries.proofs.Empties.{empty_more}
use Rattle.device_entries.proofs.places.no_places.Goals as goal

pub loop-row-preserved : goal.loop-row-preserved
loop-row-preserved c =
    empty_more (λ x. x.indexes.items) c.loop-row._row c.loop-row.places.items c.push.new.self.items _
    c.loop-row.invariant c.new.ensures.items c.in_ok-push.ensures.items
