-- How the program ends after a run.
use Rattle.std.specs.Prelude.{ℕ, List, [], ◌∷◌}
use Rattle.command_files.specs.declared.status.Status.{Status}
use Rattle.command_files.specs.declared.status.Status.TheVariants.{Done, NotRun}

-- after the run these devices are not at the end of their rows
abbrev pub end_status : List ℕ → Status
end_status [] = Done
end_status (d ∷ ds) = NotRun
