use Rattle.std.proofs.Common.{subst, sym}
use Rattle.notifier.specs.Observed.{is_named}
use Rattle.device_machine.specs.Held.{IsUpToDate}
use Rattle.device_machine.proofs.Settling.{known_without}
use Rattle.device_machine.proofs.machine.Machine.note_read.Goals as goal

pub returns-clause-up_to_date : goal.returns-clause-up_to_date
returns-clause-up_to_date c =
    known_without c.self.inside.client (is_named c.args.server c.as_slice.result.now) c.self.inside.observations
    c.cancel.new.self (subst IsUpToDate (sym c.self.view_is) c.requires) c.cancel.ensures.left c.cancel.ensures.said
