use Rattle.std.proofs.Common.{Global, map, inl}
use Rattle.std.proofs.lemmas.Result.{IfOk-weaker}
use Rattle.std.specs.String.{string_bytes}
use Rattle.clap.specs.Words.{app_of}
use Rattle.command_line.proofs.Asking.{read_as, refused_as}
use Rattle.command_line.proofs.words.read.Goals as goal

pub returns-in-Ok : goal.returns-in-Ok
returns-in-Ok c =
    let words = map (string_bytes {Z = Global}) c.args.words.now in
    IfOk-weaker c.taken.result _ _
    (λ wanted asks. read_as (app_of c.in_ok-bench.field-0) words c.in-Ok.found wanted c.in_ok-bench.ensures
    c.in-Ok.ensures.matches c.in-Ok.ensures.kinds asks)
    c.taken.ensures

pub returns-in_ok-told-in-Err : goal.returns-in_ok-told-in-Err
returns-in_ok-told-in-Err c =
    inl (refused_as (app_of c.in_ok-bench.field-0)
    (map (string_bytes {Z = Global}) c.args.words.now) c.in-Err.error c.use_stderr.result
    c.in_ok-bench.ensures c.in-Err.ensures.kinds c.in_ok-told-in-Err.ensures c.use_stderr.ensures)
