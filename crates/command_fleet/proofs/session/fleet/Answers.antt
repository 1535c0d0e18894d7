use Rattle.command_files.specs.World.{FilesKnown, World, known_by}
use Rattle.command_fleet.proofs.Sessions.{fixed_as, fleet_broken, fleet_done, ready}
use Rattle.command_fleet.proofs.session.fleet.Goals as goal

pub returns-clause-done : goal.returns-clause-done
returns-clause-done g c =
    let files : FilesKnown = known_by g.W.Files c.args.world.now in
    let before : World = g.W.World.seen c.args.world.now in
    let after : World = g.W.World.seen c.hold_on.new.world in
    let there = ready files c.args.asked c.in_ok-scenario.scenario c.in_ok-part.part c.in-Some.devices
    c.in_ok-servers.servers.items c.in_ok-place.place c.in_ok-scenario.ensures.found c.in-Some.ensures.chosen
    (fixed_as _ _ _ _ c.as_slice.ensures.value c.in_ok-servers.ensures.servers) c.in_ok-part.ensures.part
    c.in_ok-place.ensures.place in
    fleet_done files before after c.args.asked c.args.terminal c.in_ok-part.part c.in_ok-place.place _ c.hold_on.result
    there c.in_ok-ports.ensures.count c.hold_on.ensures.done

pub returns-clause-refused : goal.returns-clause-refused
returns-clause-refused g c =
    let files : FilesKnown = known_by g.W.Files c.args.world.now in
    let faults = g.W.World.faults in
    let before : World = g.W.World.seen c.args.world.now in
    let after : World = g.W.World.seen c.hold_on.new.world in
    let there = ready files c.args.asked c.in_ok-scenario.scenario c.in_ok-part.part c.in-Some.devices
    c.in_ok-servers.servers.items c.in_ok-place.place c.in_ok-scenario.ensures.found c.in-Some.ensures.chosen
    (fixed_as _ _ _ _ c.as_slice.ensures.value c.in_ok-servers.ensures.servers) c.in_ok-part.ensures.part
    c.in_ok-place.ensures.place in
    fleet_broken files faults before after c.args.asked c.args.terminal c.in_ok-part.part c.in_ok-place.place _
    c.hold_on.result there c.in_ok-ports.ensures.count c.hold_on.ensures.refused
