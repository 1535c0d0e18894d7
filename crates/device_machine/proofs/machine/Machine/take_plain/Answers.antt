-- A repeat is found by what the datagram says of its type and message ID.
use Rattle.std.proofs.Common.{sym, ap, ◌∙◌}
use Rattle.std.specs.Option.{option_copied}
use Rattle.std.proofs.lemmas.Result.{IfOk-weaker}
use Rattle.device_machine.proofs.Plain.{plain_again}
use Rattle.device_machine.proofs.machine.Machine.take_plain.Goals as goal

pub returns-in-Some-clause-gives : goal.returns-in-Some-clause-gives
returns-in-Some-clause-gives c = λ m is.
    let read = c.args.read in
    IfOk-weaker c.again.result _ _
    (λ outputs sent. plain_again c.args.self.now.flat c.args.server read.kind read.mid read.token.now read.path m
    c.in-Some.first.now outputs is (sym (ap option_copied c.in-Some.is) ∙ c.first_of.ensures) sent)
    c.again.ensures.sends
