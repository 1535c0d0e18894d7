-- The transcript is that of the scenario; what is written, and what is still to come.
use Rattle.std.proofs.Common.{◌≡◌, ◌++◌, drop}
use Rattle.std.specs.String.{string_bytes}
use Rattle.trace_text.specs.Selection.{numbered_entries, numbered_text, selected_entries, selected_text}
use Rattle.trace_text.proofs.transcript.text_of.Given as goal

abbrev pub invariant-loop-number : goal.invariant-loop-number
invariant-loop-number l = record {
  scenario : l.transcript ≡ l.scenario;
  so_far : string_bytes l.out
      ++ numbered_text l.scenario (selected_entries l.selection (numbered_entries l.number (drop l.number l.entries)))
      ≡ selected_text l.scenario l.selection l.entries;
}
