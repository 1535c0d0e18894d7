-- The lines are those of the scenario; what is written, and what is still to come.
use Rattle.std.proofs.Common.{◌≡◌, ◌++◌, drop}
use Rattle.std.specs.Str.{IsUtf8}
use Rattle.std.specs.List.{AllByRecursion}
use Rattle.trace_json.specs.Entries.{selected_json, trace_json}
use Rattle.trace_json.specs.Lines.{json_lines}
use Rattle.trace_json.specs.Writing.{IsReadAgain}
use Rattle.trace_json.proofs.trace.put_trace.Given as goal

abbrev pub invariant-loop-number : goal.invariant-loop-number
invariant-loop-number l = record {
  scenario : l.lines ≡ l.scenario;
  so_far : l.out.items ++ json_lines (selected_json l.scenario l.selection l.number (drop l.number l.entries))
      ≡ json_lines (trace_json l.scenario l.selection l.entries);
  utf8 : IsUtf8 l.out.items;
  read_again : AllByRecursion IsReadAgain (selected_json l.scenario l.selection l.number (drop l.number l.entries))
      → AllByRecursion IsReadAgain (trace_json l.scenario l.selection l.entries);
}
