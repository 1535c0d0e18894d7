use Rattle.std.proofs.Common.{subst, sym}
use Rattle.notifier.specs.Observed.{was_sent}
use Rattle.device_machine.specs.Held.{IsUpToDate}
use Rattle.device_machine.proofs.Settling.{known_closed, known_without}
use Rattle.device_machine.proofs.machine.Machine.take.Goals as goal

pub returns-else-code-ne0-clause-up_to_date : goal.returns-else-code-ne0-clause-up_to_date
returns-else-code-ne0-clause-up_to_date c =
    known_closed c.self-in-Ack.inside.client c.args.server c.mid-in-Ack.result c.self-in-Ack.inside.observations
    c.acknowledge.new.self (subst IsUpToDate (sym c.self-in-Ack.view_is) c.requires) c.acknowledge.ensures.left
    c.acknowledge.ensures.said

pub returns-else-code-ne0-2-clause-up_to_date : goal.returns-else-code-ne0-2-clause-up_to_date
returns-else-code-ne0-2-clause-up_to_date c =
    known_without c.self-in-Rst.inside.client (was_sent c.args.server c.mid-in-Rst.result)
    c.self-in-Rst.inside.observations c.reset-in-Rst.new.self (subst IsUpToDate (sym c.self-in-Rst.view_is) c.requires)
    c.reset-in-Rst.ensures.left c.reset-in-Rst.ensures.said
