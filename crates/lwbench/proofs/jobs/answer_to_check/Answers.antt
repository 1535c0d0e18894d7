use Rattle.std.proofs.Common.{Bool, subst, sym}
use Rattle.command_files.specs.Loading.{IsCheckRefused, RunPaths}
use Rattle.lwbench.specs.Command.{IsCheckAnswer}
use Rattle.lwbench.proofs.AtOnce.{no_answer, refused_as}
use Rattle.lwbench.proofs.jobs.answer_to_check.Goals as goal

pub returns-in_ok-answer-clause-done : goal.returns-in_ok-answer-clause-done
returns-in_ok-answer-clause-done g c =
    let paths : RunPaths = record { image = c.args.image.now; trace = c.args.trace.now } in
    subst (λ (json : Bool). IsCheckAnswer (g.F.Files.holds c.args.files.now) paths json c.in_ok-answer.answer)
    (sym c.if-json.true) c.in_ok-answer.ensures.done

pub returns-in_err-answer-clause-done : goal.returns-in_err-answer-clause-done
returns-in_err-answer-clause-done g c =
    no_answer _ c.from_residual.result _ c.from_residual.ensures.1

pub returns-in_err-answer-clause-refused : goal.returns-in_err-answer-clause-refused
returns-in_err-answer-clause-refused g c =
    let paths : RunPaths = record { image = c.args.image.now; trace = c.args.trace.now } in
    refused_as (IsCheckRefused (g.F.Files.holds c.args.files.now) (g.F.Files.fails c.args.files.now) paths) _ _
    c.from_residual.ensures.1 c.in_err-answer.ensures.refused

pub returns-in_ok-answer-2-clause-done : goal.returns-in_ok-answer-2-clause-done
returns-in_ok-answer-2-clause-done g c =
    let paths : RunPaths = record { image = c.args.image.now; trace = c.args.trace.now } in
    subst (λ (json : Bool). IsCheckAnswer (g.F.Files.holds c.args.files.now) paths json c.in_ok-answer-2.answer)
    (sym c.if-json.false) c.in_ok-answer-2.ensures.done

pub returns-in_err-answer-2-clause-done : goal.returns-in_err-answer-2-clause-done
returns-in_err-answer-2-clause-done g c =
    no_answer _ c.from_residual-in_err-answer-2.result _ c.from_residual-in_err-answer-2.ensures.1

pub returns-in_err-answer-2-clause-refused : goal.returns-in_err-answer-2-clause-refused
returns-in_err-answer-2-clause-refused g c =
    let paths : RunPaths = record { image = c.args.image.now; trace = c.args.trace.now } in
    refused_as (IsCheckRefused (g.F.Files.holds c.args.files.now) (g.F.Files.fails c.args.files.now) paths) _ _
    c.from_residual-in_err-answer-2.ensures.1 c.in_err-answer-2.ensures.refused
