-- The cases before this one are settled.
use Rattle.std.proofs.Common.{All, take}
use Rattle.command_fleet.specs.Settling.{IsCaseSettled}
use Rattle.command_fleet.proofs.settling.are_cases_settled.Given as goal

abbrev pub invariant-loop-case : goal.invariant-loop-case
invariant-loop-case l = All (IsCaseSettled l.arrivals l.second) (take l.case-index l.goal)
