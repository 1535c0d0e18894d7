use Rattle.std.proofs.Common.{◌≡◌, ◌<◌, length, get_or, ap, ◌∙◌, arith}
use Rattle.fleet_link.proofs.Rows.{cut_more}
use Rattle.fleet_link.proofs.fleet.Fleet.cut_rows.Goals as goal

pub loop-slot-preserved : goal.loop-slot-preserved
loop-slot-preserved c =
    let slots = c.args.self.now.slots.items in
    let within : c.loop-slot.slot-index < length slots =
    omega (arith, c.loop-slot-test.true, ap length c.deref-slot-items.ensures.value) in
    let is : c.slot-item.result ≡ get_or slots c.loop-slot.slot-index c.slot-item.result =
    c.slot-item.is ∙ ap (λ xs. get_or xs c.loop-slot.slot-index c.slot-item.result) c.deref-slot-items.ensures.value in
    record {
      counted = cut_more slots c.loop-slot.slot-index c.slot-item.result c.loop-slot.cut c.cut_of-cut.result within is
          c.loop-slot.invariant.counted c.cut_of-cut.ensures.one;
      few = omega (arith, c.loop-slot.invariant.few, c.cut_of-cut.ensures.few);
    }
