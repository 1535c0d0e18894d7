use Rattle.std.proofs.Common.{◌++◌, ◌∙◌, ap}
use Rattle.fleet_lines.specs.Counting.{WatchedPorts}
use Rattle.command_files.specs.World.{Streams}
use Rattle.command_fleet.proofs.Told.{refused_if, told_if}
use Rattle.command_fleet.proofs.telling.tell_traffic.Goals as goal

pub returns-clause-told : goal.returns-clause-told
returns-clause-told g c =
    λ start second h.
    let before : Streams = (g.W.World.seen c.args.world.now).streams in
    let after : Streams = (g.W.World.seen c.print_traffic.new.world).streams in
    let notes = ap (λ (w : WatchedPorts). w.notes) c.new_shown-shown.ensures.watched
    ∙ ap (λ (w : WatchedPorts). w.notes) c.new_notes-notes.ensures.watched in
    let shown = ap (λ (w : WatchedPorts). w.shown) c.new_shown-shown.ensures.watched
    ∙ ap (λ l. l ++ c.new_shown-shown.result.items)
    (ap (λ (w : WatchedPorts). w.shown) c.new_notes-notes.ensures.watched) in
    told_if c.print_traffic.result c.args.telling c.is_json.result _ _ c.new_notes-notes.result.items
    c.as_slice.result.now _ _ c.new_shown-shown.result.items c.as_slice-2.result.now second start before after h notes
    shown c.is_json.ensures c.as_slice.ensures.value c.as_slice-2.ensures.value
    c.print_traffic.ensures.only.2 c.print_traffic.ensures.told

pub returns-clause-refused : goal.returns-clause-refused
returns-clause-refused g c =
    refused_if c.print_traffic.result g.W.World.faults.output_refuses c.args.telling c.is_json.result
    c.as_slice.result.now
    c.as_slice-2.result.now c.is_json.ensures c.print_traffic.ensures.refused
