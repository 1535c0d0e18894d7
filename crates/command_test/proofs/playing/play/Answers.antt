use Rattle.std.proofs.Common.{length, refl}
use Rattle.std.proofs.lemmas.Option.{slice_get_read}
use Rattle.command_test.proofs.Played.{one_more}
use Rattle.command_test.proofs.playing.play.Goals as goal

pub loop-chosen-preserved : goal.loop-chosen-preserved
loop-chosen-preserved c =
    one_more c.args.cases.now c.loop-chosen.chosen-index c.chosen-item.result c.loop-chosen.all.items
    c.add.new.all.items c.in_ok-report.report c.loop-chosen.invariant
    (slice_get_read c.args.cases.now (length c.args.cases.now) c.loop-chosen.chosen-index c.chosen-item.result refl
    c.loop-chosen-test.true c.chosen-item.is)
    c.in_ok-report.ensures c.in_ok-add.ensures
