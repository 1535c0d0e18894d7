use Rattle.std.proofs.Common.{subst, sym}
use Rattle.command_demo.specs.One.{IsOneFault}
use Rattle.command_line.specs.declared.words.TraceForm.{TraceForm}
use Rattle.lwbench.specs.Command.{IsOneAnswer}
use Rattle.lwbench.proofs.AtOnce.{no_answer, refused_as}
use Rattle.lwbench.proofs.jobs.answer_to_one.Goals as goal

pub returns-in_ok-answer-in-Text-clause-done : goal.returns-in_ok-answer-in-Text-clause-done
returns-in_ok-answer-in-Text-clause-done c =
    subst (λ (f : TraceForm). IsOneAnswer c.args.hex.now f c.in_ok-answer-in-Text.answer) (sym c.in-Text.is)
    c.in_ok-answer-in-Text.ensures.done

pub returns-in_err-answer-in-Text-clause-done : goal.returns-in_err-answer-in-Text-clause-done
returns-in_err-answer-in-Text-clause-done c =
    no_answer _ c.from_residual.result _ c.from_residual.ensures.1

pub returns-in_err-answer-in-Text-clause-refused : goal.returns-in_err-answer-in-Text-clause-refused
returns-in_err-answer-in-Text-clause-refused c =
    refused_as (IsOneFault c.args.hex.now) _ _ c.from_residual.ensures.1
    c.in_err-answer-in-Text.ensures.refused

pub returns-in_ok-answer-in-Reasons-clause-done : goal.returns-in_ok-answer-in-Reasons-clause-done
returns-in_ok-answer-in-Reasons-clause-done c =
    subst (λ (f : TraceForm). IsOneAnswer c.args.hex.now f c.in_ok-answer-in-Reasons.answer) (sym c.in-Reasons.is)
    c.in_ok-answer-in-Reasons.ensures.done

pub returns-in_err-answer-in-Reasons-clause-done : goal.returns-in_err-answer-in-Reasons-clause-done
returns-in_err-answer-in-Reasons-clause-done c =
    no_answer _ c.from_residual-in_err-answer-in-Reasons.result _ c.from_residual-in_err-answer-in-Reasons.ensures.1

pub returns-in_err-answer-in-Reasons-clause-refused : goal.returns-in_err-answer-in-Reasons-clause-refused
returns-in_err-answer-in-Reasons-clause-refused c =
    refused_as (IsOneFault c.args.hex.now) _ _ c.from_residual-in_err-answer-in-Reasons.ensures.1
    c.in_err-answer-in-Reasons.ensures.refused

pub returns-in_ok-answer-in-JsonLines-clause-done : goal.returns-in_ok-answer-in-JsonLines-clause-done
returns-in_ok-answer-in-JsonLines-clause-done c =
    subst (λ (f : TraceForm). IsOneAnswer c.args.hex.now f c.in_ok-answer-in-JsonLines.answer) (sym c.in-JsonLines.is)
    c.in_ok-answer-in-JsonLines.ensures.done

pub returns-in_err-answer-in-JsonLines-clause-done : goal.returns-in_err-answer-in-JsonLines-clause-done
returns-in_err-answer-in-JsonLines-clause-done c =
    no_answer _ c.from_residual-in_err-answer-in-JsonLines.result _ c.from_residual-in_err-answer-in-JsonLines.ensures.1

pub returns-in_err-answer-in-JsonLines-clause-refused : goal.returns-in_err-answer-in-JsonLines-clause-refused
returns-in_err-answer-in-JsonLines-clause-refused c =
    refused_as (IsOneFault c.args.hex.now) _ _ c.from_residual-in_err-answer-in-JsonLines.ensures.1
    c.in_err-answer-in-JsonLines.ensures.refused
