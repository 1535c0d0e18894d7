use Rattle.instance_store.proofs.TableLaws.{index-ok, index-err}
use Rattle.instance_store.proofs.table.index_of.Goals as goal

pub returns-in-Ok : goal.returns-in-Ok
returns-in-Ok c = index-ok c.args.numbers.now c.in-Ok.index c.args.number c.requires c.in-Ok.ensures.position

pub returns-in-Err : goal.returns-in-Err
returns-in-Err c =
    index-err c.args.numbers.now c.in-Err.field-0 c.args.number c.requires c.in-Err.ensures.position
