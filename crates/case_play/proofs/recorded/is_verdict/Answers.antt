use Rattle.std.proofs.Common.{◌↔◌, IsTrue, IfOk, sym, subst}
use Rattle.case_play.specs.Ends.{IsOfVerdict}
use Rattle.case_play.proofs.recorded.is_verdict.Goals as goal

pub returns-in-NotARun : goal.returns-in-NotARun
returns-in-NotARun c =
    subst (λ x. IfOk c.break_at.result (λ b. IsTrue b ↔ IsOfVerdict c.args.scenario.now c.args.entries.now x))
    (sym c.in-NotARun.is) c.break_at.ensures
