use Rattle.std.proofs.Common.{length, refl}
use Rattle.std.proofs.lemmas.Option.{slice_get_read}
use Rattle.case_play.specs.Ends.{EndHolds}
use Rattle.case_play.proofs.Each.{to_next, to_all}
use Rattle.case_play.proofs.below.first_end.Goals as goal

pub loop-place-preserved : goal.loop-place-preserved
loop-place-preserved c =
    to_next (EndHolds c.args.scenario.now c.args.entries.now c.args.part.now c.args.answers.now) c.args.answers.now
    c.loop-place.place c.index-answers-place.result c.loop-place.invariant
    (slice_get_read c.args.answers.now (length c.args.answers.now) c.loop-place.place c.index-answers-place.result refl
    c.loop-place-test.true c.index-answers-place.is)
    (c.in_ok-end_holds.ensures.0 c.if-not-branch.false)

pub returns : goal.returns
returns c =
    to_all (EndHolds c.args.scenario.now c.args.entries.now c.args.part.now c.args.answers.now) c.args.answers.now
    c.loop-place.place c.loop-place.invariant c.loop-place-test.false
