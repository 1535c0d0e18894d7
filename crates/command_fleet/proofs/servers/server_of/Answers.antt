use Rattle.std.proofs.Common.{arith}
use Rattle.lemmas.proofs.Options.{if_none}
use Rattle.command_fleet.proofs.Fixed.{no_account, nowhere}
use Rattle.command_fleet.proofs.servers.server_of.Goals as goal

pub returns-in_err-read_number-clause-none : goal.returns-in_err-read_number-clause-none
returns-in_err-read_number-clause-none c =
    let parts = c.in_ok-account.ensures.byte (omega arith) (λ w o h. h) in
    if_none c.from_residual-in_err-read_number.result _
    (no_account c.args.word.now c.in_ok-account.account.now parts.0 c.in_err-read_number.ensures.none)

pub returns-clause-none : goal.returns-clause-none
returns-clause-none c =
    let parts = c.in_ok-account.ensures.byte (omega arith) (λ w o h. h) in
    nowhere c.args.word.now c.in_ok-account.place.now c.server_at.result parts.1 c.server_at.ensures.none
