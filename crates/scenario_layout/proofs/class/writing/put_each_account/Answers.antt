use Rattle.std.proofs.Common.{◌∙◌}
use Rattle.std.proofs.Transfers.{starts_with_of_append}
use Rattle.std.proofs.lemmas.List.{get_or_default}
use Rattle.byte_layout.proofs.Written.{writes_on, all_written}
use Rattle.scenario_layout.specs.Class.{account}
use Rattle.scenario_layout.proofs.class.writing.put_each_account.Goals as goal

pub loop-number-preserved : goal.loop-number-preserved
unfolding account
loop-number-preserved c =
    writes_on account c.args.list.now c.loop-number.number-index _ c.args.out.now.items c.loop-number.out.items
    c.put_u16.new.out.items c.loop-number-test.true
    (get_or_default c.args.list.now c.loop-number.number-index _ _ c.loop-number-test.true)
    c.in_ok-put_u16.ensures.ok c.loop-number.invariant

pub returns-in_err-put_u16-clause-appends : goal.returns-in_err-put_u16-clause-appends
returns-in_err-put_u16-clause-appends c =
    starts_with_of_append c.put_u16.new.out.items c.args.out.now.items _
    (c.in_err-put_u16.ensures.err ∙ c.loop-number.invariant)

pub returns-clause-ok : goal.returns-clause-ok
returns-clause-ok c = all_written account c.args.list.now c.loop-number.number-index c.args.out.now.items
    c.loop-number.out.items c.requires c.loop-number-test.false c.loop-number.invariant

pub returns-clause-appends : goal.returns-clause-appends
returns-clause-appends c =
    starts_with_of_append c.loop-number.out.items c.args.out.now.items _ c.loop-number.invariant
