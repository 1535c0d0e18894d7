use Rattle.std.specs.Prelude.{ℕ, Bool, true, false}
use Rattle.command_files.specs.declared.status.Status.{Status}
use Rattle.command_files.specs.declared.status.Status.TheVariants.{Done, Fault, Usage, NotRun}

-- the exit status by which the program tells how it ended (this profile)
abbrev pub exit_code : Status → ℕ
exit_code Done = 0
exit_code Fault = 1
exit_code Usage = 2
exit_code NotRun = 3

-- how it ends with a text on how to use it: help is no mistake in the words
abbrev pub text_status : Bool → Status
text_status true = Usage
text_status false = Done
