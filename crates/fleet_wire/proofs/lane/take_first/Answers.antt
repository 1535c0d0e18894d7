use Rattle.std.proofs.Common.{sym, ap, ◌∙◌}
use Rattle.std.specs.List.{position}
use Rattle.fleet_wire.proofs.Held.{first_is, none_passes}
use Rattle.fleet_wire.specs.Lane.{is_wanted}
use Rattle.fleet_wire.proofs.lane.take_first.Goals as goal

pub returns-in-None-clause-first : goal.returns-in-None-clause-first
returns-in-None-clause-first c =
    let p = is_wanted c.args.free c.args.late_by c.args.second in
    none_passes p c.args.held.now.items (sym (c.in-None.ensures ∙ ap (position p) c.as_slice.ensures.value))

pub returns-in-Some-clause-first : goal.returns-in-Some-clause-first
returns-in-Some-clause-first c =
    let p = is_wanted c.args.free c.args.late_by c.args.second in
    first_is p c.args.held.now.items c.in-Some.place c.remove.result c.remove.new.self.items
    (sym (c.in-Some.ensures ∙ ap (position p) c.as_slice.ensures.value)) c.remove.ensures.value c.remove.ensures.items
