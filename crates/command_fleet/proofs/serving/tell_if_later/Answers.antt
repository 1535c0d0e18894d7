use Rattle.std.proofs.Common.{refl, ◌≡◌}
use Rattle.command_files.specs.World.{Streams}
use Rattle.command_fleet.specs.Telling.{SecondCounts}
use Rattle.command_fleet.proofs.Told.{if_both, told_more, untold_if}
use Rattle.command_fleet.proofs.serving.tell_if_later.Goals as goal

pub returns-clause-told : goal.returns-clause-told
returns-clause-told g c =
    let passed : SecondCounts = record { second = c.args.second; counts = g.P.Counted.counted c.args.ports.now } in
    let before : Streams = (g.W.World.seen c.args.world.now).streams in
    let after : Streams = (g.W.World.seen c.tell_second.new.world).streams in
    let other : (c.args.second ≡ c.args.last) → ⊥ = c.if-second-last.false in
    λ start notes shown h. if_both c.tell_second.result _ _ _ c.tell_second.ensures.printed c.tell_second.ensures.shown
    (λ printed said. told_more c.args.telling notes shown c.args.last c.args.second passed start before after h
    c.requires other refl printed said)

pub returns-clause-cut : goal.returns-clause-cut
returns-clause-cut g c =
    let passed : SecondCounts = record { second = c.args.second; counts = g.P.Counted.counted c.args.ports.now } in
    let streams = g.W.World.faults in
    let before : Streams = (g.W.World.seen c.args.world.now).streams in
    let after : Streams = (g.W.World.seen c.tell_second.new.world).streams in
    let other : (c.args.second ≡ c.args.last) → ⊥ = c.if-second-last.false in
    λ start notes shown h. untold_if c.tell_second.result c.args.telling streams notes shown c.args.last c.args.second
    passed start before after h c.requires other refl c.tell_second.ensures.refused
