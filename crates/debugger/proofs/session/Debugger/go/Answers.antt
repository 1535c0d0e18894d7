use Rattle.std.proofs.Common.{◌≤◌, length, take, sym, ap, subst, ◌∙◌}
use Rattle.fleet_core.specs.Run.{IsRun}
use Rattle.debugger.specs.Copies.{AreCopied}
use Rattle.device_entries.specs.Places.{ArePlaced}
use Rattle.debugger.specs.Session.{AreCounted}
use Rattle.debugger.proofs.Keeping.{inside_is, moved_is}
use Rattle.debugger.proofs.Going.{to_within, same_at, same_moves, go_keeps, go_steps}
use Rattle.debugger.proofs.session.Debugger.go.Goals as goal

pub moved_devices-requires-clause-run : goal.moved_devices-requires-clause-run
moved_devices-requires-clause-run c =
    subst (IsRun c.self.inside.scenario.now) (sym c.as_slice.ensures) c.self.invariant.run

pub moved_devices-requires-clause-listed : goal.moved_devices-requires-clause-listed
moved_devices-requires-clause-listed c = ap length c.as_slice-2.ensures.value ∙ c.self.invariant.listed

pub moved_devices-requires-clause-placed : goal.moved_devices-requires-clause-placed
moved_devices-requires-clause-placed c =
    subst (λ l. ArePlaced l (length l) c.as_slice-2.result.now) (sym c.as_slice.ensures)
    (subst (ArePlaced c.self.inside.entries (length c.self.inside.entries)) (sym c.as_slice-2.ensures.value)
    c.self.invariant.placed)

pub moved_devices-requires-clause-copied : goal.moved_devices-requires-clause-copied
moved_devices-requires-clause-copied c =
    subst (λ l. AreCopied c.self.inside.scenario.now l c.as_slice-3.result.now) (sym c.as_slice.ensures)
    (subst (AreCopied c.self.inside.scenario.now c.self.inside.entries) (sym c.as_slice-3.ensures.value)
    c.self.invariant.copied)

pub moved_devices-requires-clause-rows : goal.moved_devices-requires-clause-rows
moved_devices-requires-clause-rows c =
    ap length c.as_slice-4.ensures.value ∙ c.self.invariant.count

pub moved_devices-requires-clause-shown : goal.moved_devices-requires-clause-shown
moved_devices-requires-clause-shown c =
    same_at c.self.inside.scenario.now c.self.inside.made.items c.as_slice-5.result.now c.self.inside.devices.items
    c.as_slice-4.result.now c.as_slice-5.ensures.value c.as_slice-4.ensures.value c.self.invariant.shown

pub moved_devices-requires-clause-counted : goal.moved_devices-requires-clause-counted
moved_devices-requires-clause-counted c =
    subst (λ l. AreCounted c.self.inside.scenario.now (take c.self.inside.place l) c.as_slice-5.result.now)
    (sym c.as_slice.ensures)
    (subst (AreCounted c.self.inside.scenario.now (take c.self.inside.place c.self.inside.entries))
    (sym c.as_slice-5.ensures.value) c.self.invariant.counted)

pub moved_devices-requires-clause-from : goal.moved_devices-requires-clause-from
moved_devices-requires-clause-from c =
    subst (λ l. c.self.inside.place ≤ length l) (sym c.as_slice.ensures) c.self.invariant.within

pub moved_devices-requires-clause-to : goal.moved_devices-requires-clause-to
moved_devices-requires-clause-to c =
    to_within c.args.to c.as_slice.result.now
    (inside_is c.args.self.now c.self.inside.replayed c.self.invariant c.self.view_is)
    c.as_slice.ensures c.requires

pub settle-requires : goal.settle-requires
settle-requires c =
    same_moves c.self.inside.scenario.now c.self.inside.entries c.as_slice.result.now c.as_slice-6.result.now c.args.to
    c.self.inside.made.items c.as_slice-5.result.now c.self.inside.devices.items c.as_slice-4.result.now
    c.in_ok-moves.moves.moved.items c.as_slice.ensures c.as_slice-6.ensures c.as_slice-5.ensures.value
    c.as_slice-4.ensures.value c.in_ok-moves.ensures.moved

pub invariant_of-self : goal.invariant_of-self
invariant_of-self c =
    go_keeps c.args.to c.as_slice-6.result.now c.settle.new.made.items c.settle.new.devices.items
    (inside_is c.args.self.now c.self.inside.replayed c.self.invariant c.self.view_is)
    c.requires c.as_slice-6.ensures c.settle.ensures.counted c.settle.ensures.count c.settle.ensures.shown

pub returns-clause-moved : goal.returns-clause-moved
returns-clause-moved c =
    moved_is c.args.to (inside_is c.args.self.now c.self.inside.replayed c.self.invariant c.self.view_is)

pub returns-clause-steps : goal.returns-clause-steps
returns-clause-steps c =
    go_steps c.args.to c.in_ok-moves.moves.steps c.as_slice.result.now
    (inside_is c.args.self.now c.self.inside.replayed c.self.invariant c.self.view_is)
    c.as_slice.ensures c.in_ok-moves.ensures.steps
