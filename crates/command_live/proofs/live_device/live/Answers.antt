use Rattle.std.proofs.Common.{refl, rules}
use Rattle.command_files.specs.World.{FilesKnown, Streams, World, known_by}
use Rattle.command_live.proofs.Sessions.{live_done_if, port_refused, session_cut, session_lost_if}
use Rattle.command_live.proofs.live_device.live.Goals as goal

pub returns-clause-done : goal.returns-clause-done
returns-clause-done g c =
    let files : FilesKnown = known_by g.W.Files c.args.world.now in
    let before : World = g.W.World.seen c.args.world.now in
    let between : World = g.W.World.seen c.hold.new.world in
    let after : World = g.W.World.seen c.conclude_session.new.world in
    live_done_if files before between after c.args.asked c.in_ok-scenario.scenario c.in_ok-class.class
    c.in_ok-session.session c.conclude_session.result c.conclude_session.ensures.concluded
    c.in_ok-scenario.ensures.found c.in_ok-class.ensures.class c.in_ok-session.ensures.served (search rules)
    c.hold.ensures.shown

pub returns-in_err-wire-clause-refused : goal.returns-in_err-wire-clause-refused
returns-in_err-wire-clause-refused g c =
    let files : FilesKnown = known_by g.W.Files c.args.world.now in
    let before : Streams = (g.W.World.seen c.args.world.now).streams in
    let h = port_refused files g.W.World.faults before before c.args.asked c.in_ok-scenario.scenario c.in_ok-class.class
    c.in_err-wire.field-0.0 c.in_ok-scenario.ensures.found c.in_ok-class.ensures.class c.in_err-wire.ensures.refused
    refl in
    search (rules, h)

pub returns-in_err-session-clause-refused : goal.returns-in_err-session-clause-refused
returns-in_err-session-clause-refused g c =
    let files : FilesKnown = known_by g.W.Files c.args.world.now in
    let before : Streams = (g.W.World.seen c.args.world.now).streams in
    let after : Streams = (g.W.World.seen c.hold.new.world).streams in
    let h = session_cut files g.W.World.faults before after c.args.asked c.in_ok-scenario.scenario c.in_ok-class.class
    c.in_err-session.field-0.0.fault c.in_ok-scenario.ensures.found c.in_ok-class.ensures.class
    c.in_err-session.ensures.refused c.hold.ensures.shown in
    search (rules, h)

pub returns-clause-refused : goal.returns-clause-refused
returns-clause-refused g c =
    let files : FilesKnown = known_by g.W.Files c.args.world.now in
    let before : Streams = (g.W.World.seen c.args.world.now).streams in
    let between : Streams = (g.W.World.seen c.hold.new.world).streams in
    let after : Streams = (g.W.World.seen c.conclude_session.new.world).streams in
    session_lost_if files g.W.World.faults before between after c.args.asked c.in_ok-scenario.scenario
    c.in_ok-class.class
    c.in_ok-session.session c.conclude_session.result c.in_ok-scenario.ensures.found c.in_ok-class.ensures.class
    c.in_ok-session.ensures.served c.hold.ensures.shown c.conclude_session.ensures.refused
