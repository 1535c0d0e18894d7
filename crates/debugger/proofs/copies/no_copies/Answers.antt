use Rattle.std.proofs.Common.{arith, ◌∙◌}
use Rattle.debugger.proofs.Copying.{none_copied}
use Rattle.device_entries.proofs.Empties.{empty_more}
use Rattle.debugger.proofs.copies.no_copies.Goals as goal

pub loop-row-preserved : goal.loop-row-preserved
loop-row-preserved c =
    empty_more (λ x. x.devices.items) c.loop-row.row c.loop-row.all.items c.push.new.self.items _
    c.loop-row.invariant c.in_ok-devices.ensures.items c.in_ok-push.ensures.items

pub returns : goal.returns
returns c =
    none_copied c.args.scenario.now c.loop-row.row c.loop-row.all.items c.loop-row.invariant
    (omega (arith, c.loop-row-test.false, c.loop-row.auto.row-end) ∙ c.rows-rows.ensures.count)
