use Rattle.std.proofs.Common.{◌≡◌}
use Rattle.std.specs.String.{string_bytes}
use Rattle.server_lint.specs.Findings.{AreThose}
use Rattle.command_lint.specs.Lines.{AreFoundLines}
use Rattle.command_lint.specs.Lint.{IsFound, candidates_to}
use Rattle.command_lint.proofs.rows.find_all.Given as goal

abbrev pub invariant-loop-device : goal.invariant-loop-device
invariant-loop-device l = record {
  clocks : l.clocks ≡ l.scenario;
  those : AreThose (IsFound l.chosen l.scenario) (candidates_to l.scenario l.device) l.findings.items.items;
  text : AreFoundLines l.form l.scenario l.findings.items.items (string_bytes l.findings.text);
}
