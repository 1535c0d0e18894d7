use Rattle.std.proofs.Common.{◌<◌, length, arith, rules}
use Rattle.std.specs.Option.{option_copied}
use Rattle.fleet_core.proofs.Waking.{listed_by, listed_kept}
use Rattle.fleet_core.proofs.roster.let_wait.Goals as goal

pub returns-in_ok-add-in-Some-Need-clause-kept : goal.returns-in_ok-add-in-Some-Need-clause-kept
returns-in_ok-add-in-Some-Need-clause-kept c =
    let within : c.from.result < length c.args.waiting.now.items = omega (arith, c.requires.groups, c.from.ensures) in
    listed_kept c.args.waiting.now.items c.index_mut-waiters.result.now c.add.new.self c.from.result c.args.device
    c.in-Some-Need.count within c.index_mut-waiters.ensures.value c.in_ok-add-in-Some-Need.ensures

pub returns-in_ok-add-in-Some-Need-clause-listed : goal.returns-in_ok-add-in-Some-Need-clause-listed
returns-in_ok-add-in-Some-Need-clause-listed c =
    let within : c.from.result < length c.args.waiting.now.items = omega (arith, c.requires.groups, c.from.ensures) in
    listed_by c.args.waiting.now.items (option_copied c.args.step) c.index_mut-waiters.result.now c.add.new.self
    c.from.result c.in-Some-Need.group c.args.device c.in-Some-Need.count
    (search rules) c.from.ensures within
    c.in_ok-add-in-Some-Need.ensures
