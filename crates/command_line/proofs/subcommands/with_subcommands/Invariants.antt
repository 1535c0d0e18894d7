use Rattle.std.proofs.Common.{◌≡◌, map, take}
use Rattle.std.specs.List.{fold}
use Rattle.clap.specs.Words.{app_of}
use Rattle.command_line.specs.Inside.{app_for, with_app}
use Rattle.command_line.proofs.subcommands.with_subcommands.Given as goal

abbrev pub invariant-loop-subcommand : goal.invariant-loop-subcommand
invariant-loop-subcommand l =
    app_of l.command ≡ fold with_app (app_of l.fn.command) (map app_for (take l.subcommand-index l.subcommands))
