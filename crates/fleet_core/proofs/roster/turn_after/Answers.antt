use Rattle.std.proofs.Common.{◌<◌, length, refl, arith, rules}
use Rattle.std.specs.Option.{option_copied}
use Rattle.fleet_core.specs.Run.{posts_of}
use Rattle.fleet_core.proofs.Waking.{stays_on}
use Rattle.fleet_core.proofs.roster.turn_after.Goals as goal

pub returns-then-not-has_met : goal.returns-then-not-has_met
returns-then-not-has_met c =
    let within : c.from.result < length c.args.roster.now.waiting.items =
    omega (arith, c.requires.groups, c.from.ensures) in
    stays_on c.args.roster.now (option_copied c.args.step) c.index-waiters.result.now c.from.result
    c.in-Some-Post.group c.posts-posts.result c.args.low
    (λ g. posts_of c.args.fleet.now.scenario g c.args.fleet.now.entries)
    (search rules) c.from.ensures c.posts-posts.ensures within
    c.index-waiters.ensures (c.if-not-has_met.ensures refl)
