-- So many seconds have passed for the copy, and what is sent in them is told.
use Rattle.std.proofs.Common.{◌≡◌, ◌-◌, ◌≤◌, false}
use Rattle.device_machine.specs.Reactions.{flat_after_seconds, passes_end}
use Rattle.device_machine.specs.State.{Machine, Shows}
use Rattle.device_machine.specs.declared.event.Event.TheVariants.{Tick}
use Rattle.notification_reasons.specs.Happenings.{AreTickHappenings}
use Rattle.notification_reasons.proofs.ticks.tick_happenings.Given as goal

abbrev pub invariant-loop-wait : goal.invariant-loop-wait
invariant-loop-wait l = record {
  within : l.passed ≤ l.count;
  so_far : (f : Machine) → Shows l.device f → passes_end f.kept.clock (Tick l.count) ≡ false
      → Shows l.later (flat_after_seconds f l.passed) × AreTickHappenings f l.passed l.told.items;
}

abbrev pub decreases-loop-wait : goal.decreases-loop-wait
decreases-loop-wait l = l.count - l.passed
