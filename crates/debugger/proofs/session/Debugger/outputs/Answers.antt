use Rattle.std.proofs.Common.{◌<◌, length, sym, ap, subst, arith, ◌∙◌}
use Rattle.fleet_core.specs.Run.{IsRun}
use Rattle.device_entries.specs.Places.{HasPlaces}
use Rattle.debugger.specs.Shown.{latest}
use Rattle.debugger.proofs.Keeping.{inside_is, outputs_here}
use Rattle.device_entries.proofs.Placing.{places_read, count_within}
use Rattle.debugger.proofs.OwnOutputs.{count_read}
use Rattle.debugger.proofs.session.Debugger.outputs.Goals as goal

pub latest_outputs-requires-clause-run : goal.latest_outputs-requires-clause-run
latest_outputs-requires-clause-run c =
    subst (IsRun c.self.inside.scenario.now) (sym c.as_slice-entries.ensures) c.self.invariant.run

pub latest_outputs-requires-clause-places : goal.latest_outputs-requires-clause-places
latest_outputs-requires-clause-places c =
    let within : c.args.device < length c.self.inside.places.items =
    omega (
      arith,
      c.if-row-len.false,
      c.len.ensures,
      c.from-row.ensures,
      c.self.inside.devices.ok.0,
      c.self.invariant.count,
      c.self.invariant.listed,
    ) in
    subst (λ l. HasPlaces l (length l) c.args.device c.as_slice-indexes.result.now) (sym c.as_slice-entries.ensures)
    (places_read c.self.inside.entries (length c.self.inside.entries) c.args.device c.from-row.result
    c.self.inside.places.items c.index-own.result.now c.as_slice-indexes.result.now c.self.invariant.placed within
    c.from-row.ensures c.index-own.ensures c.as_slice-indexes.ensures.value)

pub latest_outputs-requires-clause-made : goal.latest_outputs-requires-clause-made
latest_outputs-requires-clause-made c =
    let within : c.args.device < length c.self.inside.places.items =
    omega (
      arith,
      c.if-row-len.false,
      c.len.ensures,
      c.from-row.ensures,
      c.self.inside.devices.ok.0,
      c.self.invariant.count,
      c.self.invariant.listed,
    ) in
    count_within c.self.inside.entries c.self.inside.place c.args.device c.index-count.result.now
    c.as_slice-indexes.result.now
    (places_read c.self.inside.entries (length c.self.inside.entries) c.args.device c.from-row.result
    c.self.inside.places.items c.index-own.result.now c.as_slice-indexes.result.now c.self.invariant.placed within
    c.from-row.ensures c.index-own.ensures c.as_slice-indexes.ensures.value)
    c.self.invariant.within
    (count_read c.self.inside.scenario.now c.self.inside.entries c.self.inside.place c.args.device c.from-row.result
    c.index-count.result.now c.self.inside.made.items c.self.invariant.counted
    (omega (arith, within, c.self.invariant.listed)) c.from-row.ensures c.index-count.ensures)

pub returns-clause-outputs : goal.returns-clause-outputs
returns-clause-outputs c =
    let row : c.args.device < length c.self.inside.scenario.now.rows =
    omega (
      arith,
      c.if-row-len.false,
      c.len.ensures,
      c.from-row.ensures,
      c.self.inside.devices.ok.0,
      c.self.invariant.count,
    ) in
    outputs_here c.args.device c.latest_outputs.result.now
    (inside_is c.args.self.now c.self.inside.replayed c.self.invariant c.self.view_is)
    (c.latest_outputs.ensures ∙ ap (latest c.self.inside.scenario.now c.args.device)
    (count_read c.self.inside.scenario.now c.self.inside.entries c.self.inside.place c.args.device c.from-row.result
    c.index-count.result.now c.self.inside.made.items c.self.invariant.counted row c.from-row.ensures
    c.index-count.ensures))
