use Rattle.instance_store.proofs.StoreLaws.{Left}
use Rattle.instance_store.proofs.listing.is_bare.Given as goal

-- the instances that are left are all
abbrev pub invariant-loop-index : goal.invariant-loop-index
invariant-loop-index l = Left l.objects l.index
