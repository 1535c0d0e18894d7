use Rattle.std.proofs.Common.{◌≡◌, drop}
use Rattle.lwm2m_payloads.specs.Changes.{first_excess}
use Rattle.lwm2m_payloads.proofs.counts.first_excess.Given as goal

abbrev pub invariant-loop-assignment : goal.invariant-loop-assignment
invariant-loop-assignment l =
    first_excess l.mode l.resources l.store l.place (drop l.assignment-index l.assignment-items)
    ≡ first_excess l.mode l.resources l.store l.place l.given
