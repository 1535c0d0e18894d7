use Rattle.clap.specs.Words.{app_of}
use Rattle.command_line.proofs.Asking.{is_local}
use Rattle.command_line.proofs.Tables.{one_command_further}
use Rattle.command_line.proofs.subcommands.with_subcommands.Goals as goal

pub loop-subcommand-preserved : goal.loop-subcommand-preserved
loop-subcommand-preserved c =
    one_command_further _ _ _ (app_of c.in_ok-described.field-0) _ _ _ c.loop-subcommand-test.true
    c.loop-subcommand.invariant c.in_ok-described.ensures
    (λ plain. c.in_ok-command.ensures.shape (is_local _ _ _ _ plain))
