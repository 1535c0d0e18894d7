use Rattle.std.proofs.Common.{◌∙◌}
use Rattle.command_files.specs.World.{World}
use Rattle.command_fleet.proofs.Sessions.{held_broken, held_done}
use Rattle.command_fleet.proofs.session.hold_on.Goals as goal

pub returns-clause-done : goal.returns-clause-done
returns-clause-done g c =
    let before : World = g.W.World.seen c.args.world.now in
    let after : World = g.W.World.seen c.hold_ports-in-Some.new.world in
    let asked = c.args.asked.now in
    let part = c.args.part.now in
    let bound = c.as_slice-in-Some.ensures.value ∙ c.in_ok-bound.ensures ∙ c.ports.ensures in
    held_done before after asked c.args.terminal part c.args.place _ c.as_slice-in-Some.result.now _
    c.hold_ports-in-Some.result bound c.hold_ports-in-Some.ensures.done

pub returns-clause-refused : goal.returns-clause-refused
returns-clause-refused g c =
    let refuses = g.W.Files.refuses in
    let faults = g.W.World.faults in
    let before : World = g.W.World.seen c.args.world.now in
    let after : World = g.W.World.seen c.hold_ports-in-Some.new.world in
    let asked = c.args.asked.now in
    let part = c.args.part.now in
    let bound = c.as_slice-in-Some.ensures.value ∙ c.in_ok-bound.ensures ∙ c.ports.ensures in
    held_broken refuses faults before after asked c.args.terminal part c.args.place _ c.as_slice-in-Some.result.now _
    c.hold_ports-in-Some.result bound c.hold_ports-in-Some.ensures.refused

pub returns-in-None-clause-refused : goal.returns-in-None-clause-refused
returns-in-None-clause-refused g c =
    let refuses = g.W.Files.refuses in
    let faults = g.W.World.faults in
    let before : World = g.W.World.seen c.args.world.now in
    let after : World = g.W.World.seen c.hold_ports.new.world in
    let asked = c.args.asked.now in
    let part = c.args.part.now in
    let bound = c.as_slice.ensures.value ∙ c.in_ok-bound.ensures ∙ c.ports.ensures in
    held_broken refuses faults before after asked c.args.terminal part c.args.place _ c.as_slice.result.now _
    c.hold_ports.result bound c.hold_ports.ensures.refused
