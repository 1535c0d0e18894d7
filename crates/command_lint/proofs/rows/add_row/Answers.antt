use Rattle.std.proofs.Common.{◌∙◌, length, subst, sym}
use Rattle.server_lint.specs.Findings.{AreThose, IsFinding, candidates}
use Rattle.command_lint.proofs.Adding.{row_found_ok}
use Rattle.command_lint.proofs.rows.add_row.Goals as goal

pub returns-clause-those : goal.returns-clause-those
returns-clause-those c =
    row_found_ok c.add_findings.result c.args.chosen.now c.args.scenario.now c.args.device c.as_slice.result.now
    c.in_ok-history.history.end c.as_slice-3.result.now c.args.findings.now.items.items
    c.add_findings.new.findings.items.items (c.as_slice.ensures.value ∙ c.in_ok-history.ensures.items)
    c.in_ok-history.ensures.end
    (subst (λ l. AreThose (IsFinding c.args.chosen.now c.as_slice.result.now c.in_ok-history.history.end)
    (candidates (length c.as_slice.result.now)) l) (sym c.as_slice-3.ensures.value) c.in_ok-found.ensures)
    c.add_findings.ensures.items
