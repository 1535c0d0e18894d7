use Rattle.std.proofs.Common.{◌≡◌, ◌++◌, map, take}
use Rattle.instance_store.specs.Tree.{place}
use Rattle.instance_store.proofs.listing.push_places.Given as goal

abbrev pub invariant-loop-number : goal.invariant-loop-number
invariant-loop-number l = l.found.items ≡ l.fn.found.items ++ map (place l.object) (take l.number-index l.numbers)
