use Rattle.std.proofs.Common.{rules}
use Rattle.command_files.specs.World.{Streams, World}
use Rattle.command_fleet.specs.Fleet.{Session}
use Rattle.command_fleet.proofs.Sessions.{concluded, line_unprinted, steps_unsaved}
use Rattle.command_fleet.proofs.concluding.conclude_session.Goals as goal

pub returns-clause-concluded : goal.returns-clause-concluded
returns-clause-concluded g c =
    let before : World = g.W.World.seen c.args.world.now in
    let after : World = g.W.World.seen c.save_steps.new.world in
    let session : Session = record {
      slots = c.args.fleet.slots.items;
      second = c.args.fleet.second;
      account = c.args.account;
    } in
    concluded before (g.W.World.seen c.print_session.new.world) after c.args.asked.now c.args.part.now session
    (record { status = c.status_of-status.result; saved = c.in_ok-saved.saved }) c.shortfall_of-shortfall.result
    c.shortfall_of-shortfall.ensures c.in_ok-print_session.ensures.printed c.print_session.ensures.only
    c.in_ok-saved.ensures.saved c.save_steps.ensures.only c.in_ok-saved.ensures.scenario c.status_of-status.ensures

pub returns-in_err-print_session-clause-refused : goal.returns-in_err-print_session-clause-refused
returns-in_err-print_session-clause-refused g c =
    let refuses = g.W.Files.refuses in
    let faults = g.W.World.faults in
    let before : Streams = (g.W.World.seen c.args.world.now).streams in
    let after : Streams = (g.W.World.seen c.print_session.new.world).streams in
    let session : Session = record {
      slots = c.args.fleet.slots.items;
      second = c.args.fleet.second;
      account = c.args.account;
    } in
    let h = line_unprinted refuses faults before after c.args.asked.now session c.in_err-print_session.field-0.0.fault
    c.shortfall_of-shortfall.result c.shortfall_of-shortfall.ensures c.in_err-print_session.ensures.refused in
    search (rules, h)

pub returns-in_err-saved-clause-refused : goal.returns-in_err-saved-clause-refused
returns-in_err-saved-clause-refused g c =
    let refuses = g.W.Files.refuses in
    let faults = g.W.World.faults in
    let before : World = g.W.World.seen c.args.world.now in
    let after : World = g.W.World.seen c.save_steps.new.world in
    let session : Session = record {
      slots = c.args.fleet.slots.items;
      second = c.args.fleet.second;
      account = c.args.account;
    } in
    let h = steps_unsaved refuses faults before
    (g.W.World.seen c.print_session.new.world) after c.args.asked.now session c.in_err-saved.field-0.0.fault
    c.shortfall_of-shortfall.result c.shortfall_of-shortfall.ensures c.in_ok-print_session.ensures.printed
    c.save_steps.ensures.only c.in_err-saved.ensures.refused in
    search (rules, h)
