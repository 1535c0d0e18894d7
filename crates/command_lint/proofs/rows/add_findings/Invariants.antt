use Rattle.std.proofs.Common.{◌≡◌, ◌++◌, map, take}
use Rattle.std.specs.String.{string_bytes}
use Rattle.fleet_core.specs.Board.{ShowsAfter}
use Rattle.command_lint.specs.Lines.{AreFoundLines}
use Rattle.command_lint.proofs.rows.add_findings.Given as goal

abbrev pub invariant-loop-finding : goal.invariant-loop-finding
invariant-loop-finding l = record {
  shows : ShowsAfter l.scenario l.device l.cursor.place l.cursor.machine;
  items : l.findings.items.items
      ≡ l.initial.findings.items.items
      ++ map (λ finding. record { device = l.device; finding = finding }) (take l.finding-index l.found);
  text : AreFoundLines l.form l.scenario l.initial.findings.items.items (string_bytes l.initial.findings.text)
      → AreFoundLines l.form l.scenario l.findings.items.items (string_bytes l.findings.text);
}
