use Rattle.std.proofs.Common.{ap}
use Rattle.std.specs.Option.{option_copied}
use Rattle.fleet_core.proofs.Holding.{let_go_then}
use Rattle.fleet_core.proofs.held.let_go_at_end.Goals as goal

pub returns-in-None : goal.returns-in-None
returns-in-None c = λ s d k is holds.
    let_go_then s d k (option_copied c.args.next) c.args.held.now c.let_go.new.self (ap option_copied c.in-None.is)
    c.let_go.ensures.shown c.let_go.ensures.fresh is holds
