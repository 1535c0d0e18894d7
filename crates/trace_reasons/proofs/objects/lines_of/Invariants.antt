-- The lines are those of the scenario; what is written are the lines of the entries so far, and the devices are beside
-- them.
use Rattle.std.proofs.Common.{◌≡◌, take}
use Rattle.std.specs.String.{string_bytes}
use Rattle.trace_reasons.specs.Beside.{AreBeside}
use Rattle.trace_reasons.specs.Objects.{IsEntryLine}
use Rattle.trace_reasons.specs.Text.{AreSelectedSaid}
use Rattle.trace_reasons.proofs.objects.lines_of.Given as goal

abbrev pub invariant-loop-number : goal.invariant-loop-number
invariant-loop-number l = record {
  scenario : l.lines ≡ l.scenario;
  so_far : AreSelectedSaid (IsEntryLine l.scenario) l.selection (take l.number l.entries) (string_bytes l.out);
  beside : AreBeside l.scenario l.selection.device (take l.number l.entries) l.devices.items;
}
