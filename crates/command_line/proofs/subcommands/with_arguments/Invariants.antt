use Rattle.std.proofs.Common.{◌≡◌, map, take}
use Rattle.std.specs.List.{fold}
use Rattle.clap.specs.Words.{app_of, with_rule}
use Rattle.command_line.specs.Inside.{rule_for}
use Rattle.command_line.proofs.subcommands.with_arguments.Given as goal

abbrev pub invariant-loop-argument : goal.invariant-loop-argument
invariant-loop-argument l =
    app_of l.command ≡ fold with_rule (app_of l.fn.command) (map rule_for (take l.argument-index l.arguments))
