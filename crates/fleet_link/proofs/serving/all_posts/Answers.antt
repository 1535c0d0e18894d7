use Rattle.std.proofs.Common.{◌∙◌, ◌-◌, ◌^◌, ap, min, arith}
use Rattle.std.proofs.lemmas.List.{take_all}
use Rattle.fleet_link.specs.Serving.{all_posts}
use Rattle.fleet_link.proofs.Passing.{posts_more}
use Rattle.fleet_link.proofs.serving.all_posts.Goals as goal

pub loop-slot-preserved : goal.loop-slot-preserved
loop-slot-preserved c =
    posts_more c.args.slots.now c.args.group c.loop-slot.slot-index c.slot-item.result c.loop-slot.posts
    c.posts.result c.saturating_add-posts.result (omega arith) c.slot-item.is c.loop-slot.invariant c.posts.ensures
    c.saturating_add-posts.ensures

pub returns : goal.returns
returns c =
    c.loop-slot.invariant
    ∙ ap (λ l. min (all_posts l c.args.group) (2 ^ 64 - 1))
    (take_all c.loop-slot.slot-index c.args.slots.now (omega arith))
