use Rattle.command_join.proofs.Words.{one_more}
use Rattle.command_join.proofs.slice.slices_of.Goals as goal

pub loop-word-preserved : goal.loop-word-preserved
loop-word-preserved c =
    one_more c.args.words.now c.loop-word.word-index _ c.loop-word.all.items c.add.new.all.items c.slice_of.result
    c.loop-word.invariant c.loop-word-test.true c.slice_of.ensures c.in_ok-add.ensures
