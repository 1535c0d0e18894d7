use Rattle.case_play.proofs.Differing.{end_differs}
use Rattle.case_play.proofs.judging.differs_at_end.Goals as goal

pub returns : goal.returns
returns c =
    end_differs c.args.scenario.now c.args.entries.now c.args.items.now c.args.place c.index-items-place.result
    c.as_slice.result.now c.index-as_slice-place.result c.in_ok-came.came c.requires.hold c.requires.serial
    c.requires.first c.index-items-place.is c.as_slice.ensures c.index-as_slice-place.is c.in_ok-came.ensures
