use Rattle.std.proofs.Common.{ap, sym, ◌∙◌, Err}
use Rattle.scenario_words.proofs.PathFaults.{path_read, path_refused}
use Rattle.scenario_words.proofs.paths.path_after_slash.Goals as goal

pub returns-in-Ok : goal.returns-in-Ok
returns-in-Ok c = path_read c.args.numbers.now c.in-Ok.path c.in-Ok.ensures

pub returns-in-Err : goal.returns-in-Err
returns-in-Err c =
    path_refused c.args.numbers.now c.in-Err.cause c.in-Err.ensures ∙ ap (λ e. Err e) (sym c.path_fault.ensures)
