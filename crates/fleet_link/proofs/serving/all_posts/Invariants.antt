-- The posts of the devices before the index are counted.
use Rattle.std.proofs.Common.{◌≡◌, ◌-◌, ◌^◌, min, take}
use Rattle.fleet_link.specs.Serving.{all_posts}
use Rattle.fleet_link.proofs.serving.all_posts.Given as goal

abbrev pub invariant-loop-slot : goal.invariant-loop-slot
invariant-loop-slot l = l.posts ≡ min (all_posts (take l.slot-index l.slots) l.group) (2 ^ 64 - 1)
