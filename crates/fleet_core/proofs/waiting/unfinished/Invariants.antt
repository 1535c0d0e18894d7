-- The devices so far that wait are kept.
use Rattle.std.proofs.Common.{◌≡◌, filter}
use Rattle.std.specs.List.{range_with_len}
use Rattle.fleet_core.specs.Waiting.{is_waiting}
use Rattle.fleet_core.proofs.waiting.unfinished.Given as goal

abbrev pub invariant-loop-device : goal.invariant-loop-device
invariant-loop-device l = l.waiting.items ≡ filter (is_waiting l.scenario l.entries) (range_with_len 0 l.device)
