use Rattle.std.proofs.Common.{◌+◌, sym, ◌∙◌}
use Rattle.debugger.proofs.Changing.{holds_changed, still_none, still_some}
use Rattle.device_entries.proofs.Counting.{entry_at}
use Rattle.debugger.proofs.Marking.{marks_are}
use Rattle.debugger.proofs.search.holds_after.Goals as goal

pub returns-in-None : goal.returns-in-None
returns-in-None c =
    let are = marks_are c.args.scenario.now c.args.entries.now c.args.index c.index-entries-index.result
    c.args.point.now c.requires.run
    (entry_at c.args.entries.now c.args.index c.index-entries-index.result c.requires.within
    c.index-entries-index.is) (sym c.in-None.ensures) in
    record {
      holds = ((λ h. are.0 (sym c.marks.ensures ∙ h)), (λ h. c.marks.ensures ∙ are.1 h));
      still = λ not_so.
          still_none c.args.scenario.now c.args.entries.now c.args.devices.now (c.args.index + 1) c.args.point.now
          (sym c.in-None.ensures);
    }

pub changes_after-requires-clause-own : goal.changes_after-requires-clause-own
changes_after-requires-clause-own c = c.requires.own c.in-Some.device c.in-Some.path (sym c.in-Some.ensures)

pub changes_after-requires-clause-still : goal.changes_after-requires-clause-still
changes_after-requires-clause-still c = c.requires.still c.in-Some.device c.in-Some.path (sym c.in-Some.ensures)

pub returns-in-Some : goal.returns-in-Some
returns-in-Some c = record {
  holds = holds_changed c.args.scenario.now c.args.entries.now (c.args.index + 1) c.in-Some.device c.args.point.now
      c.in-Some.path c.changes_after.result (sym c.in-Some.ensures) c.changes_after.ensures.changed;
  still = λ not_so.
      still_some c.args.scenario.now c.args.entries.now c.args.devices.now (c.args.index + 1) c.in-Some.device
      c.args.point.now c.in-Some.path (sym c.in-Some.ensures) (c.changes_after.ensures.still not_so);
}
