-- The transcript is that of the scenario; what is written is the text of the entries so far, and the devices are beside
-- them.
use Rattle.std.proofs.Common.{◌≡◌, take}
use Rattle.std.specs.String.{string_bytes}
use Rattle.trace_reasons.specs.Beside.{AreBeside}
use Rattle.trace_reasons.specs.Text.{IsReasonedText}
use Rattle.trace_reasons.proofs.entries.text_of.Given as goal

abbrev pub invariant-loop-number : goal.invariant-loop-number
invariant-loop-number l = record {
  scenario : l.transcript ≡ l.scenario;
  so_far : IsReasonedText l.scenario l.selection (take l.number l.entries) (string_bytes l.out);
  beside : AreBeside l.scenario l.selection.device (take l.number l.entries) l.devices.items;
}
