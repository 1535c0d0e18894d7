use Rattle.std.proofs.Common.{Some, sym, ap, ◌∙◌}
use Rattle.request_reasons.proofs.Lines.{first_asked}
use Rattle.request_reasons.proofs.Unread.{asks}
use Rattle.request_reasons.proofs.deciding.asked.Goals as goal

pub rule_by-requires-clause-first : goal.rule_by-requires-clause-first
rule_by-requires-clause-first c =
    let r = c.args.request in
    first_asked c.args.client.now c.args.server c.args.message.now r.path r.operation
    (asks c.args.message.now r c.requires.read) ∙ ap Some (sym c.requires.answer)

pub returns-in-Some-clause-told : goal.returns-in-Some-clause-told
returns-in-Some-clause-told c =
    (asks c.args.message.now c.args.request c.requires.read, rw c.in-Some.is at c.in_ok-rule.ensures.why)

pub returns-in-None-clause-told : goal.returns-in-None-clause-told
returns-in-None-clause-told c = asks c.args.message.now c.args.request c.requires.read
