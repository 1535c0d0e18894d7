use Rattle.debugger.proofs.Copying.{start_shows, copy_is}
use Rattle.debugger.proofs.copies.copy_at.Goals as goal

pub returns-then-number-eq0 : goal.returns-then-number-eq0
returns-then-number-eq0 c =
    start_shows c.args.scenario.now c.args.device c.args.number c.in_ok-anew.anew c.if-number-eq0.true
    c.in_ok-anew.ensures

pub returns : goal.returns
returns c =
    copy_is c.args.scenario.now c.args.device c.args.number c.args.copies.now c.index-copies-number.result
    c.in_ok-copy.copy c.requires.copied c.if-number-eq0.false c.requires.enough c.index-copies-number.is
    c.in_ok-copy.ensures
