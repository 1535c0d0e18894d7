use Rattle.std.proofs.Common.{◌≡◌, true, false, sym, ◌∙◌}
use Rattle.case_play.specs.Spots.{spot_after}
use Rattle.case_play.proofs.Comparing.{checked_question, checked_result}
use Rattle.case_play.proofs.Walking.{answered_before}
use Rattle.case_play.proofs.items.check_outputs.Goals as goal

pub returns-then-not-has_answer : goal.returns-then-not-has_answer
returns-then-not-has_answer c = λ spot puts at.
    let answers = answered_before c.args.scenario.now spot c.args.item.now.part c.has_answer.result
    (c.has_answer.ensures (spot_after spot c.args.item.now.part) at) in
    checked_question c.args.scenario.now spot c.args.item.now c.args.walk.now
    (λ a. let e : true ≡ false = sym (answers.1 a) ∙ c.if-not-has_answer.true in cc)

pub returns : goal.returns
returns c = λ spot puts at.
    let answers = answered_before c.args.scenario.now spot c.args.item.now.part c.has_answer.result
    (c.has_answer.ensures (spot_after spot c.args.item.now.part) at) in
    checked_result c.args.scenario.now spot c.args.item.now c.as_slice.result.now c.args.outputs.now
    c.wrong_line.result c.args.walk.now c.as_slice.ensures puts (answers.0 c.if-not-has_answer.false) at
    c.wrong_line.ensures
