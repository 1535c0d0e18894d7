use Rattle.std.proofs.Common.{sym, subst, ◌∙◌}
use Rattle.std.proofs.lemmas.Result.{IfOk-weaker}
use Rattle.case_play.specs.Trying.{AreTried}
use Rattle.case_play.proofs.FileJudged.{line_holds}
use Rattle.case_play.proofs.file_judging.came_instead.Goals as goal

pub returns-then-is_line : goal.returns-then-is_line
returns-then-is_line c =
    line_holds c.args.case.now c.args.made.now c.args.answer.now c.args.below.now
    (sym c.is_line.ensures ∙ c.if-is_line.true)

pub returns-in-None : goal.returns-in-None
returns-in-None c =
    IfOk-weaker c.came_where_right.result _ _
    (λ r h. h c.args.below.now (sym c.is_line.ensures ∙ c.if-is_line.false)
    (subst (AreTried c.args.case.now c.args.made.now c.args.answer.now.stated c.args.below.now) c.in-None.is
    c.in_ok-first_wrong.ensures))
    c.came_where_right.ensures

pub returns-in-Some : goal.returns-in-Some
returns-in-Some c =
    IfOk-weaker c.came_where_wrong.result _ _
    (λ r h. h c.args.case.now c.args.made.now c.args.below.now (sym c.is_line.ensures ∙ c.if-is_line.false)
    (subst (AreTried c.args.case.now c.args.made.now c.args.answer.now.stated c.args.below.now) c.in-Some.is
    c.in_ok-first_wrong.ensures))
    c.came_where_wrong.ensures
