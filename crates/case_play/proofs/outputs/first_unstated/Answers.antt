use Rattle.std.proofs.Common.{◌+◌, length, refl, ap, arith}
use Rattle.std.proofs.lemmas.Option.{slice_get_read}
use Rattle.case_play.proofs.Stating.{so_next, left_over, all_so}
use Rattle.case_play.proofs.outputs.first_unstated.Goals as goal

pub loop-i-preserved : goal.loop-i-preserved
loop-i-preserved c =
    so_next c.args.answers.now c.args.outputs.now c.loop-i.i c.loop-i.before (c.loop-i.before + c.width.result)
    c.index-answers-i.result c.loop-i.invariant
    (slice_get_read c.args.answers.now (length c.args.answers.now) c.loop-i.i c.index-answers-i.result refl
    c.loop-i-test.true c.index-answers-i.is)
    (c.in_ok-is_so.ensures.0 c.if-not-branch.false) (ap (λ n. c.loop-i.before + n) c.width.ensures)

pub returns-then-before-outputs : goal.returns-then-before-outputs
returns-then-before-outputs c =
    left_over c.args.answers.now c.args.outputs.now c.loop-i.i c.loop-i.before c.loop-i.invariant
    (omega (arith, c.loop-i-test.false, c.loop-i.auto.i-end)) c.if-before-outputs.true

pub returns : goal.returns
returns c =
    all_so c.args.answers.now c.args.outputs.now c.loop-i.i c.loop-i.before c.loop-i.invariant
    (omega (arith, c.loop-i-test.false, c.loop-i.auto.i-end)) c.if-before-outputs.false
