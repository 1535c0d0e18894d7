use Rattle.std.proofs.Common.{◌≡◌, drop}
use Rattle.lwm2m_payloads.specs.Changes.{without_lost}
use Rattle.lwm2m_payloads.proofs.changes.clear_lost.Given as goal

abbrev pub invariant-loop-definition : goal.invariant-loop-definition
invariant-loop-definition l = record {
  left :
      without_lost (drop l.definition-index l.resources) l.store l.place l.given
      ≡ without_lost l.resources l.fn.store l.place l.given;
}
