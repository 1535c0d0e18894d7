use Rattle.std.proofs.Common.{ap, ◌∙◌}
use Rattle.clap.specs.Words.{app_of, with_rule}
use Rattle.command_line.specs.Inside.{rule_for}
use Rattle.command_line.proofs.Tables.{one_further}
use Rattle.command_line.proofs.subcommands.with_arguments.Goals as goal

pub loop-argument-preserved : goal.loop-argument-preserved
loop-argument-preserved c =
    one_further with_rule rule_for _ _ _ _ _ _ c.loop-argument-test.true c.loop-argument.invariant
    (c.in_ok-command.ensures.shape c.argument_of.ensures.local
    ∙ ap (λ rule. with_rule (app_of c.loop-argument.command) rule) c.argument_of.ensures.rule)
