use Rattle.std.proofs.Common.{◌==◌, ap, ◌∙◌}
use Rattle.std.specs.List.{list_any}
use Rattle.lwm2m_payloads.proofs.Apart.{once_more}
use Rattle.lwm2m_payloads.proofs.given.Assignments.push.Goals as goal

pub invariant_of-self-2 : goal.invariant_of-self-2
invariant_of-self-2 c =
    rw c.in_ok-push.ensures.items (once_more c.self.inside.items.items c.args.assignment c.self.invariant
    (ap (list_any (λ a. a.resource == c.args.assignment.resource)) c.self.view_is ∙ c.requires))
