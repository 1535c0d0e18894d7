use Rattle.fleet_wire.proofs.Numbers.{number_read}
use Rattle.fleet_wire.proofs.reading.number_of.Goals as goal

pub returns : goal.returns
returns c =
    number_read c.args.text.now c.number_below.result c.number_below.ensures.found c.number_below.ensures.only
