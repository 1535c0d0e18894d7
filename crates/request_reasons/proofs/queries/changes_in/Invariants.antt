use Rattle.std.proofs.Common.{◌+◌, ◌≤◌, length}
use Rattle.device_requests.specs.Options.{queries_of}
use Rattle.request_reasons.proofs.Spelled.{IsRead}
use Rattle.request_reasons.proofs.queries.changes_in.Given as goal

abbrev pub invariant-loop-rest : goal.invariant-loop-rest
invariant-loop-rest l =
    IsRead l.level (queries_of l.options) (queries_of l.rest) l.changes l.place
    × (l.place + length l.rest ≤ length l.options)

abbrev pub decreases-loop-rest : goal.decreases-loop-rest
decreases-loop-rest l = length l.rest
