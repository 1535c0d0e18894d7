use Rattle.std.proofs.Common.{inl, inr}
use Rattle.std.proofs.lemmas.Result.{err_from_is_err_and}
use Rattle.command_files.specs.World.{World}
use Rattle.command_fleet.specs.Fleet.{IsSessionFault, Session}
use Rattle.command_fleet.proofs.Sessions.{cut_if, done_if, line_refused, lost_if, opened, opening_refused}
use Rattle.command_fleet.proofs.Sessions.{ports_unlisted, served, telling_is}
use Rattle.command_fleet.proofs.session.hold_session.Goals as goal

pub returns-clause-done : goal.returns-clause-done
unfolding served
returns-clause-done g c =
    let before : World = g.W.World.seen c.args.world.now in
    let first : World = g.W.World.seen c.print_ready.new.world in
    let last : World = g.W.World.seen c.serve_part.new.world in
    let after : World = g.W.World.seen c.conclude_session.new.world in
    let asked = c.args.asked.now in
    let part = c.args.part.now in
    let there = opened asked part c.args.place c.args.bound.now c.free_ports-free.result.now c.rows-devices.result
    before (g.W.World.seen c.list_ports.new.world)
    (g.W.World.seen c.tell_ready.new.world) first c.rows-devices.ensures.count c.free_ports-free.ensures
    c.in_ok-list_ports.ensures.listed
    c.list_ports.ensures.only c.in_ok-tell_ready.ensures.told c.tell_ready.ensures.only
    c.in_ok-print_ready.ensures.told c.print_ready.ensures.only in
    let is = telling_is asked c.args.terminal part c.rows-devices.result c.telling_of-telling.result
    c.rows-devices.ensures.count c.telling_of-telling.ensures in
    let quit = g.Q.Quit.asked c.serve_part.new.quit in
    let wire = (g.P.Counted.watched c.args.ports.now).wire in
    let notes = (g.P.Counted.watched c.serve_part.new.ports).notes in
    let shown = (g.P.Counted.watched c.serve_part.new.ports).shown in
    let session : Session = record {
      slots = c.in_ok-served.served.fleet.slots.items;
      second = c.in_ok-served.served.fleet.second;
      account = c.in_ok-served.served.account;
    } in
    let were = served part asked.play asked.repeat asked.show asked.seconds quit wire _ notes shown session _ _
    c.in_ok-served.ensures.fleet c.in_ok-served.ensures.finished c.in_ok-served.ensures.ended c.requires.new
    c.in_ok-served.ensures.account c.in_ok-served.ensures.repeated c.requires.began c.in_ok-served.ensures.shown in
    done_if before after asked c.args.terminal part c.args.place c.args.bound.now quit wire notes shown session
    c.telling_of-telling.result first last c.conclude_session.result there c.requires.wire were is
    c.in_ok-served.ensures.told c.in_ok-served.ensures.kept c.conclude_session.ensures.aside.1
    c.conclude_session.ensures.concluded

pub returns-clause-refused : goal.returns-clause-refused
unfolding served
returns-clause-refused g c =
    let refuses = g.W.Files.refuses in
    let faults = g.W.World.faults in
    let before : World = g.W.World.seen c.args.world.now in
    let first : World = g.W.World.seen c.print_ready.new.world in
    let last : World = g.W.World.seen c.serve_part.new.world in
    let after : World = g.W.World.seen c.conclude_session.new.world in
    let asked = c.args.asked.now in
    let part = c.args.part.now in
    let there = opened asked part c.args.place c.args.bound.now c.free_ports-free.result.now c.rows-devices.result
    before (g.W.World.seen c.list_ports.new.world)
    (g.W.World.seen c.tell_ready.new.world) first c.rows-devices.ensures.count c.free_ports-free.ensures
    c.in_ok-list_ports.ensures.listed
    c.list_ports.ensures.only c.in_ok-tell_ready.ensures.told c.tell_ready.ensures.only
    c.in_ok-print_ready.ensures.told c.print_ready.ensures.only in
    let is = telling_is asked c.args.terminal part c.rows-devices.result c.telling_of-telling.result
    c.rows-devices.ensures.count c.telling_of-telling.ensures in
    let quit = g.Q.Quit.asked c.serve_part.new.quit in
    let wire = (g.P.Counted.watched c.args.ports.now).wire in
    let notes = (g.P.Counted.watched c.serve_part.new.ports).notes in
    let shown = (g.P.Counted.watched c.serve_part.new.ports).shown in
    let session : Session = record {
      slots = c.in_ok-served.served.fleet.slots.items;
      second = c.in_ok-served.served.fleet.second;
      account = c.in_ok-served.served.account;
    } in
    let were = served part asked.play asked.repeat asked.show asked.seconds quit wire _ notes shown session _ _
    c.in_ok-served.ensures.fleet c.in_ok-served.ensures.finished c.in_ok-served.ensures.ended c.requires.new
    c.in_ok-served.ensures.account c.in_ok-served.ensures.repeated c.requires.began c.in_ok-served.ensures.shown in
    lost_if refuses faults before after asked c.args.terminal part c.args.place c.args.bound.now quit wire notes shown
    session c.telling_of-telling.result first last c.conclude_session.result there c.requires.wire were is
    c.in_ok-served.ensures.told c.in_ok-served.ensures.kept c.conclude_session.ensures.kept
    c.conclude_session.ensures.aside.1 c.conclude_session.ensures.refused

pub returns-in_err-served-clause-refused : goal.returns-in_err-served-clause-refused
returns-in_err-served-clause-refused g c =
    let refuses = g.W.Files.refuses in
    let faults = g.W.World.faults in
    let before : World = g.W.World.seen c.args.world.now in
    let first : World = g.W.World.seen c.print_ready.new.world in
    let after : World = g.W.World.seen c.serve_part.new.world in
    let asked = c.args.asked.now in
    let part = c.args.part.now in
    let there = opened asked part c.args.place c.args.bound.now c.free_ports-free.result.now c.rows-devices.result
    before (g.W.World.seen c.list_ports.new.world)
    (g.W.World.seen c.tell_ready.new.world) first c.rows-devices.ensures.count c.free_ports-free.ensures
    c.in_ok-list_ports.ensures.listed
    c.list_ports.ensures.only c.in_ok-tell_ready.ensures.told c.tell_ready.ensures.only
    c.in_ok-print_ready.ensures.told c.print_ready.ensures.only in
    let is = telling_is asked c.args.terminal part c.rows-devices.result c.telling_of-telling.result
    c.rows-devices.ensures.count c.telling_of-telling.ensures in
    let h : IsSessionFault refuses faults before after asked c.args.terminal part c.args.place
    c.args.bound.now (g.Q.Quit.asked c.serve_part.new.quit) c.in_err-served.field-0.0.fault =
    inr (inl (cut_if refuses faults before after asked c.args.terminal part c.args.place c.args.bound.now
    c.telling_of-telling.result first _ c.in_err-served.field-0.0.fault there is c.requires.new
    c.in_err-served.ensures.cut)) in
    let r = c.from_residual-in_err-served in
    let p = err_from_is_err_and r.result r.ensures.1 in
    rw (p.1, p.2) h

pub returns-in_err-print_ready-clause-refused : goal.returns-in_err-print_ready-clause-refused
returns-in_err-print_ready-clause-refused g c =
    let refuses = g.W.Files.refuses in
    let faults = g.W.World.faults in
    let before : World = g.W.World.seen c.args.world.now in
    let after : World = g.W.World.seen c.print_ready.new.world in
    let asked = c.args.asked.now in
    let part = c.args.part.now in
    let h : IsSessionFault refuses faults before after asked c.args.terminal part c.args.place
    c.args.bound.now (g.Q.Quit.asked c.args.quit.now) c.in_err-print_ready.field-0.0.fault =
    opening_refused refuses faults before (g.W.World.seen c.list_ports.new.world)
    (g.W.World.seen c.tell_ready.new.world) after asked c.args.terminal part c.args.place c.args.bound.now
    c.free_ports-free.result.now _ c.rows-devices.result c.in_err-print_ready.field-0.0.fault
    c.rows-devices.ensures.count c.free_ports-free.ensures c.in_ok-list_ports.ensures.listed
    c.list_ports.ensures.only c.in_ok-tell_ready.ensures.told c.tell_ready.ensures.only
    c.in_err-print_ready.ensures.refused c.print_ready.ensures.only in
    let r = c.from_residual-in_err-print_ready in
    let p = err_from_is_err_and r.result r.ensures.1 in
    rw (p.1, p.2) h

pub returns-in_err-tell_ready-clause-refused : goal.returns-in_err-tell_ready-clause-refused
returns-in_err-tell_ready-clause-refused g c =
    let refuses = g.W.Files.refuses in
    let faults = g.W.World.faults in
    let before : World = g.W.World.seen c.args.world.now in
    let after : World = g.W.World.seen c.tell_ready.new.world in
    let asked = c.args.asked.now in
    let part = c.args.part.now in
    let h : IsSessionFault refuses faults before after asked c.args.terminal part c.args.place
    c.args.bound.now (g.Q.Quit.asked c.args.quit.now) c.in_err-tell_ready.field-0.0.fault =
    line_refused refuses faults before (g.W.World.seen c.list_ports.new.world) after asked c.args.terminal part
    c.args.place c.args.bound.now _
    c.rows-devices.result c.in_err-tell_ready.field-0.0.fault c.rows-devices.ensures.count
    c.in_ok-list_ports.ensures.listed c.list_ports.ensures.only c.in_err-tell_ready.ensures.refused
    c.tell_ready.ensures.only in
    let r = c.from_residual-in_err-tell_ready in
    let p = err_from_is_err_and r.result r.ensures.1 in
    rw (p.1, p.2) h

pub returns-in_err-list_ports-clause-refused : goal.returns-in_err-list_ports-clause-refused
returns-in_err-list_ports-clause-refused g c =
    let refuses = g.W.Files.refuses in
    let faults = g.W.World.faults in
    let before : World = g.W.World.seen c.args.world.now in
    let after : World = g.W.World.seen c.list_ports.new.world in
    let asked = c.args.asked.now in
    let part = c.args.part.now in
    let h : IsSessionFault refuses faults before after asked c.args.terminal part c.args.place
    c.args.bound.now (g.Q.Quit.asked c.args.quit.now) c.in_err-list_ports.field-0.0.fault =
    ports_unlisted refuses faults before after asked c.args.terminal part c.args.place c.args.bound.now _
    c.in_err-list_ports.field-0.0.fault c.in_err-list_ports.ensures.refused c.in_err-list_ports.ensures.kept
    c.list_ports.ensures.only in
    let r = c.from_residual in
    let p = err_from_is_err_and r.result r.ensures.1 in
    rw (p.1, p.2) h
