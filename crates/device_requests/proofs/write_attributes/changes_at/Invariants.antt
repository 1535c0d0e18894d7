-- The changes so far, with those of the queries that are left, are those of all; and none was read, or the first query
-- spelled a change.
use Rattle.std.proofs.Common.{◌≡◌, [], drop}
use Rattle.notifier.specs.Query.{changes_of}
use Rattle.device_requests.specs.Options.{queries_of}
use Rattle.device_requests.proofs.Queries.{IsBegun}
use Rattle.device_requests.proofs.write_attributes.changes_at.Given as goal

abbrev pub invariant-loop-option : goal.invariant-loop-option
invariant-loop-option l =
    (changes_of l.changes l.level (queries_of (drop l.option-index l.options))
    ≡ changes_of [] l.level (queries_of l.options))
    × IsBegun l.changes l.level (drop l.option-index l.options) l.options
