use Rattle.std.proofs.Common.{ap, sym, ◌∙◌}
use Rattle.std.specs.Prelude.{nat_lt}
use Rattle.std.specs.List.{list_all}
use Rattle.lemmas.proofs.Options.{not_refused}
use Rattle.scenario_layout.proofs.Items.{account_low, account_fits, account_made}
use Rattle.scenario_layout.proofs.class.accounts.account_at.Goals as goal

pub returns-then-not-is_above-clause-read : goal.returns-then-not-is_above-clause-read
returns-then-not-is_above-clause-read c =
    account_low c.args.template.now.accounts c.args.bytes.now c.in_ok-number.number c.in_ok-number.rest.now
    c.in_ok-number.ensures.read
    (ap (list_all (λ m. nat_lt m c.in_ok-number.number)) (sym c.accounts.ensures.lent) ∙ sym c.is_above.ensures
    ∙ c.if-not-is_above.true)

pub returns-clause-read : goal.returns-clause-read
returns-clause-read c =
    account_fits c.args.template.now.accounts c.add_account.new.self c.args.bytes.now c.in_ok-number.number
    c.in_ok-number.rest.now c.in_ok-number.ensures.read
    (ap (list_all (λ m. nat_lt m c.in_ok-number.number)) (sym c.accounts.ensures.lent) ∙ sym c.is_above.ensures
    ∙ c.if-not-is_above.false)
    (not_refused _ c.add_account.result c.in_default.field-0 c.in_default.is c.add_account.ensures.refuses)
    (ap (λ k. k.accounts) c.in_default.ensures.added)

pub returns-clause-made : goal.returns-clause-made
returns-clause-made c =
    account_made c.args.template.now c.add_account.new.self c.in_ok-number.number c.in_default.ensures.added
