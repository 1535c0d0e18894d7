use Rattle.std.proofs.Common.{◌≤◌, All, subst, sym}
use Rattle.command_join.specs.Order.{SaysDevices}
use Rattle.command_join.specs.Slices.{first_of, last_of}
use Rattle.command_join.proofs.Orders.{AreUpward, all_permuted}
use Rattle.command_join.proofs.order.by_devices.Goals as goal

pub check_order-requires-clause-said : goal.check_order-requires-clause-said
check_order-requires-clause-said c =
    subst (All SaysDevices) (sym c.as_slice.ensures.value)
    (all_permuted SaysDevices c.args.slices.items c.sort_slices.new.slices.items c.in_ok-sort_slices.ensures.same
    c.requires.said)

pub check_order-requires-clause-upward : goal.check_order-requires-clause-upward
check_order-requires-clause-upward c =
    subst AreUpward (sym c.as_slice.ensures.value)
    (all_permuted (λ s. first_of s ≤ last_of s) c.args.slices.items c.sort_slices.new.slices.items
    c.in_ok-sort_slices.ensures.same c.requires.upward)
