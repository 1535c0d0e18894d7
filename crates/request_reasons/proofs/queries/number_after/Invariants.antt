use Rattle.std.proofs.Common.{◌≡◌, drop}
use Rattle.notifier.specs.Attributes.{assigned_number}
use Rattle.notifier.proofs.AttributeLaws.{last_of}
use Rattle.request_reasons.proofs.queries.number_after.Given as goal

-- the changes that are left lead to what all lead to
abbrev pub invariant-loop-change : goal.invariant-loop-change
invariant-loop-change l =
    last_of l.number (drop l.change-index l.changes) l.name
    ≡ last_of (assigned_number l.attributes l.server l.fn.path l.name) l.changes l.name
