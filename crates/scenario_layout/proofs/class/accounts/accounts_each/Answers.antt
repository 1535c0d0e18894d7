use Rattle.std.proofs.Common.{[], refl}
use Rattle.std.proofs.lemmas.Result.{err_from_is_err_and}
use Rattle.byte_layout.specs.Layout.{each}
use Rattle.scenario_layout.specs.Class.{account, with_accounts}
use Rattle.scenario_layout.proofs.Growth.{filled_starts, filled_on, filled_no_more, filled_done}
use Rattle.scenario_layout.proofs.Filling.{accounts_same, accounts_twice}
use Rattle.scenario_layout.proofs.class.accounts.accounts_each.Goals as goal

pub loop-init : goal.loop-init
loop-init c =
    filled_starts (λ k. account) (λ k. k.accounts)
    with_accounts c.args.template.now c.args.count c.args.bytes.now c.requires refl

pub loop-preserved : goal.loop-preserved
loop-preserved c =
    filled_on (λ k. account) (λ k. k.accounts)
    with_accounts accounts_same accounts_twice c.args.template.now c.loop.template c.account_at.new.template
    c.args.count c.loop.counter c.loop.rest.now c.in_ok-after.after.now
    ((each account c.args.count []).read c.args.bytes.now)
    c.loop-test.true c.in_ok-after.ensures.read c.in_ok-after.ensures.made c.loop.invariant

pub returns-in_err-after-clause-read : goal.returns-in_err-after-clause-read
returns-in_err-after-clause-read c =
    let p = err_from_is_err_and c.from_residual.result c.from_residual.ensures.1 in
    rw (p.1, p.2) (filled_no_more (λ k. account) (λ k. k.accounts)
    with_accounts accounts_same accounts_twice c.args.template.now c.loop.template c.in_err-after.field-0.0
    c.args.count c.loop.counter c.loop.rest.now ((each account c.args.count []).read c.args.bytes.now)
    c.loop-test.true c.in_err-after.ensures.read c.loop.invariant)

pub returns-clause-read : goal.returns-clause-read
returns-clause-read c =
    filled_done (λ k. account) (λ k. k.accounts)
    with_accounts c.args.template.now c.loop.template c.args.count c.loop.counter c.loop.rest.now
    ((each account c.args.count []).read c.args.bytes.now) c.loop-test.false c.loop.invariant

pub returns-clause-made : goal.returns-clause-made
returns-clause-made c = c.loop.invariant.1
