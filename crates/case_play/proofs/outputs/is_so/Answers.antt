use Rattle.case_play.proofs.Stating.{output_so}
use Rattle.case_play.proofs.outputs.is_so.Goals as goal

pub returns-in-Output : goal.returns-in-Output
returns-in-Output c =
    output_so c.is_output_so.result c.args.stated.now _ c.args.outputs.now c.args.before c.in-Output.is
    c.is_output_so.ensures
