use Rattle.std.proofs.Common.{rules, length, subst, ◌<◌, ◌≤◌, arith}
use Rattle.std.specs.List.{All}
use Rattle.std.proofs.lemmas.List.{take_all}
use Rattle.std.proofs.lemmas.List.Elements.{All-more}
use Rattle.command_fleet.specs.Settling.{IsDeviceSettled}
use Rattle.command_fleet.proofs.settling.are_settled.Goals as goal

pub loop-slot-preserved : goal.loop-slot-preserved
loop-slot-preserved c =
    let within : c.loop-slot.slot-index < length c.args.slots.now = omega (arith, c.loop-slot-test.true) in
    All-more (IsDeviceSettled c.args.goal.now c.args.second) c.args.slots.now c.loop-slot.slot-index
    c.slot-item.result within c.loop-slot.invariant
    (subst (IsDeviceSettled c.args.goal.now c.args.second) c.slot-item.is
    (c.in_ok-is_device_settled.ensures.settled (search rules)))

pub returns-clause-settled : goal.returns-clause-settled
returns-clause-settled c = λ t.
    let all : length c.args.slots.now ≤ c.loop-slot.slot-index = omega (arith, c.loop-slot-test.false) in
    subst (All (IsDeviceSettled c.args.goal.now c.args.second))
    (take_all c.loop-slot.slot-index c.args.slots.now all) c.loop-slot.invariant
