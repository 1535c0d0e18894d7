-- A repeat has the server, the type and the message ID of its request.
use Rattle.std.proofs.Common.{[], ◌∙◌}
use Rattle.device_machine.specs.Asked.{message_with}
use Rattle.device_machine.specs.Reactions.{repeat_of}
use Rattle.device_machine.proofs.machine.Machine.repeat_of.Goals as goal

pub returns-clause-found : goal.returns-clause-found
returns-clause-found c =
    c.first_of.ensures
    ∙ (λ j. repeat_of c.args.self.now.flat c.args.server (message_with (c.kind.ensures j) (c.mid.ensures j) []))
