use Rattle.std.proofs.Common.{◌≡◌, drop}
use Rattle.device_requests.specs.Options.{queries_of}
use Rattle.expectations.specs.Expecting.{are_same}
use Rattle.expectations.proofs.expecting.are_queries.Given as goal

-- what is left decides
abbrev pub invariant-loop-option : goal.invariant-loop-option
invariant-loop-option l =
    are_same (queries_of (drop l.option-index l.options)) l.left ≡ are_same (queries_of l.options) l.expected
