use Rattle.std.proofs.Common.{length, refl, subst}
use Rattle.std.proofs.lemmas.Option.{slice_get_read}
use Rattle.case_play.specs.Spots.{spot_at}
use Rattle.case_play.specs.Walks.{IsTold}
use Rattle.case_play.proofs.Judged.{walked_first, walked_next, walked_differs, walked_all}
use Rattle.case_play.proofs.differences.first_difference.Goals as goal

pub loop-item-init : goal.loop-item-init
loop-item-init c =
    walked_first c.args.scenario.now c.args.items.now c.new-walk.result (c.new-walk.ensures c.args.scenario.now)

pub returns-in-Some : goal.returns-in-Some
returns-in-Some c =
    let spot = spot_at c.args.items.now c.loop-item.item-index in
    walked_differs c.args.scenario.now c.args.items.now c.loop-item.item-index c.item-item.result
    c.in-Some.difference c.loop-item.walk c.item_difference.new.walk c.loop-item.invariant
    (slice_get_read c.args.items.now (length c.args.items.now) c.loop-item.item-index c.item-item.result refl
    c.loop-item-test.true c.item-item.is)
    (subst (λ r. IsTold c.args.scenario.now spot c.item-item.result r c.item_difference.new.walk) c.in-Some.is
    (c.in_ok-item_difference.ensures spot c.loop-item.invariant.at))

pub loop-item-preserved : goal.loop-item-preserved
loop-item-preserved c =
    let spot = spot_at c.args.items.now c.loop-item.item-index in
    walked_next c.args.scenario.now c.args.items.now c.loop-item.item-index c.item-item.result c.loop-item.walk
    c.item_difference.new.walk c.loop-item.invariant
    (slice_get_read c.args.items.now (length c.args.items.now) c.loop-item.item-index c.item-item.result refl
    c.loop-item-test.true c.item-item.is)
    (subst (λ r. IsTold c.args.scenario.now spot c.item-item.result r c.item_difference.new.walk) c.in-None.is
    (c.in_ok-item_difference.ensures spot c.loop-item.invariant.at))

pub returns : goal.returns
returns c =
    walked_all c.args.scenario.now c.args.items.now c.loop-item.item-index c.loop-item.walk c.loop-item.invariant
    c.loop-item-test.false
