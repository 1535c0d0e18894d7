use Rattle.std.proofs.Common.{sym, ap, ◌∙◌}
use Rattle.std.specs.List.{position}
use Rattle.lemmas.proofs.Options.{none_from_test}
use Rattle.fleet_wire.proofs.Held.{none_passes}
use Rattle.fleet_wire.specs.Lane.{is_wanted}
use Rattle.fleet_wire.proofs.lane.Lane.is_ready.Goals as goal

pub returns : goal.returns
returns c =
    λ h.
    let p = is_wanted c.args.self.now.free c.args.late_by c.args.second in
    none_passes p c.args.self.now.held.items
    (sym (c.find_wanted.ensures ∙ ap (position p) c.as_slice.ensures.value)
    ∙ none_from_test c.find_wanted.result (sym c.is_some.ensures ∙ h))
