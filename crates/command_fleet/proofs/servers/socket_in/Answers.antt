use Rattle.lemmas.proofs.Options.{if_none}
use Rattle.command_fleet.proofs.Fixed.{no_port}
use Rattle.command_fleet.proofs.servers.socket_in.Goals as goal

pub returns-in_err-port_of-in-Ok-clause-none : goal.returns-in_err-port_of-in-Ok-clause-none
returns-in_err-port_of-in-Ok-clause-none c =
    if_none c.from_residual.result _
    (no_port c.args.text.now c.in-Ok.place c.in-Ok.ensures.value c.in_err-port_of-in-Ok.ensures.none)
