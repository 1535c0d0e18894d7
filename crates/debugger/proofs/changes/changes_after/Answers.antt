use Rattle.std.proofs.lemmas.Bool.{false≢true}
use Rattle.debugger.proofs.Changing.{change_said, is_asked, same_after, still_after, still_said}
use Rattle.device_entries.proofs.Counting.{entry_at}
use Rattle.debugger.proofs.Keeping.{iff_no}
use Rattle.debugger.proofs.changes.changes_after.Goals as goal

pub returns-then-entry-device : goal.returns-then-entry-device
returns-then-entry-device c =
    let at = entry_at c.args.entries.now c.args.index c.index-entries-index.result c.requires.within
    c.index-entries-index.is in
    record {
      changed = iff_no (λ h. false≢true h)
          (same_after c.args.scenario.now c.args.entries.now c.args.device c.args.index c.index-entries-index.result
          c.args.path.now at c.if-entry-device.true);
      still = λ not_so.
          still_after c.args.scenario.now c.args.entries.now c.args.devices.now c.args.device c.args.index
          c.index-entries-index.result c.args.path.now at c.if-entry-device.true c.requires.still;
    }

pub returns : goal.returns
returns c =
    let at = entry_at c.args.entries.now c.args.index c.index-entries-index.result c.requires.within
    c.index-entries-index.is in
    let asked = is_asked c.args.scenario.now c.args.entries.now c.args.devices.now c.args.watched.now c.args.device
    c.args.index c.index-entries-index.result c.args.path.now c.rows-known.ensures.valid c.requires.run at
    c.if-entry-device.false c.requires.rows c.requires.watched c.requires.still in
    record {
      changed = change_said c.args.scenario.now c.args.entries.now c.args.devices.now c.args.watched.now c.args.device
          c.args.index c.args.path.now c.value_changed.result asked c.value_changed.ensures.changed
          c.value_changed.ensures.still;
      still = still_said c.args.scenario.now c.args.entries.now c.args.devices.now c.args.watched.now c.args.device
          c.args.index c.args.path.now c.value_changed.result asked c.value_changed.ensures.still;
    }
