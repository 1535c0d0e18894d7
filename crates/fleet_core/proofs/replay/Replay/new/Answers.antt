use Rattle.std.proofs.Common.{[], refl, ap, ◌∙◌, replicate}
use Rattle.fleet_core.proofs.Board.{starts}
use Rattle.fleet_core.proofs.replay.Replay.new.Goals as goal

pub invariant_of-result : goal.invariant_of-result
invariant_of-result c =
    let a = c.in_ok-vec.ensures.items_if_clones_equal (λ y e. e) in
    let b = c.in_ok-vec-2.ensures.items_if_clones_equal (λ y e. e) in
    starts c.args.scenario.now [] c.in_ok-vec.field-0.items c.in_ok-vec-2.field-0.items c.in_ok-devices.devices.items
    c.rows-rows.ensures.valid refl (a ∙ ap (λ n. replicate n 0) c.rows-rows.ensures.count) b
    c.in_ok-devices.ensures.count c.in_ok-devices.ensures.parked
