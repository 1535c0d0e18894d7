use Rattle.std.proofs.Common.{◌++◌, ap, subst, ◌∙◌}
use Rattle.std.specs.String.{string_bytes}
use Rattle.command_lint.specs.Reasons.{IsBelowAt}
use Rattle.command_lint.proofs.Adding.{line_added}
use Rattle.command_lint.proofs.rows.add_finding.Goals as goal

pub returns-clause-text : goal.returns-clause-text
returns-clause-text c =
    line_added c.args.form c.args.scenario.now c.args.device c.args.history.now c.args.end c.args.finding
    c.args.findings.now.items.items c.push.new.self.items (string_bytes c.args.findings.now.text)
    (string_bytes c.in_ok-line.line) (string_bytes c.in_ok-lines.lines) (string_bytes c.push_str.new.self)
    (string_bytes c.push_str-2.new.self) c.requires.history c.requires.end c.in_ok-line.ensures
    (subst (λ o. IsBelowAt c.args.form c.args.scenario.now c.args.device o (string_bytes c.in_ok-lines.lines))
    c.datagram_at-t.ensures c.in_ok-lines.ensures.lines)
    (c.in_ok-push_str.ensures.bytes ∙ ap (λ t. string_bytes c.args.findings.now.text ++ t) c.as_str.ensures.value)
    (c.in_ok-push_str-2.ensures.bytes ∙ ap (λ t. string_bytes c.push_str.new.self ++ t) c.as_str-2.ensures.value)
    c.in_ok-push.ensures.items
