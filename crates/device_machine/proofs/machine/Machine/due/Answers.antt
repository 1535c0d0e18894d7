use Rattle.std.proofs.Common.{MatchOption, subst}
use Rattle.device_machine.specs.Held.{IsNextSending, IsSilent, IsUpToDate, StateWithOutlooks}
use Rattle.device_machine.proofs.Settling.{due_is}
use Rattle.device_machine.proofs.machine.Machine.due.Goals as goal

pub returns : goal.returns
returns c =
    subst (λ (h : StateWithOutlooks). IsUpToDate h
    → MatchOption c.due.result (IsSilent h.flat) (λ first. IsNextSending h.flat first))
    c.self.view_is
    (λ known. due_is c.self.inside.client c.self.inside.clock c.self.inside.next_id c.self.inside.observations.list
    c.self.inside.observations.said c.due.result known c.due.ensures)
