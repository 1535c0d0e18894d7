use Rattle.std.proofs.Common.{refl}
use Rattle.std.proofs.lemmas.Option.{slice_get_within}
use Rattle.debugger.proofs.Keeping.{inside_is, value_here, got_at, got_none, iff_yes, iff_no, row_in, row_out}
use Rattle.debugger.proofs.session.Debugger.value.Goals as goal

pub returns-in-Some-clause-value : goal.returns-in-Some-clause-value
returns-in-Some-clause-value c =
    value_here c.args.device c.in-Some.machine.now c.args.path.now _
    (inside_is c.args.self.now c.self.inside.replayed c.self.invariant c.self.view_is)
    c.rows-known.ensures.valid
    (got_at c.self.inside.devices.items c.deref.result.now c.from.result c.args.device c.in-Some.machine.now
    c.deref.ensures.value c.from.ensures c.in-Some.ensures.lookup.0 c.in-Some.ensures.lookup.1)
    c.value.ensures.held

pub returns-in-Some-clause-device : goal.returns-in-Some-clause-device
returns-in-Some-clause-device c =
    iff_yes refl (row_in c.args.device
    (inside_is c.args.self.now c.self.inside.replayed c.self.invariant c.self.view_is)
    (slice_get_within c.self.inside.devices.items c.args.device c.in-Some.machine.now
    (got_at c.self.inside.devices.items c.deref.result.now c.from.result c.args.device c.in-Some.machine.now
    c.deref.ensures.value c.from.ensures c.in-Some.ensures.lookup.0 c.in-Some.ensures.lookup.1)))

pub returns-in-None-clause-device : goal.returns-in-None-clause-device
returns-in-None-clause-device c =
    iff_no (λ h. cc) (row_out c.args.device
    (inside_is c.args.self.now c.self.inside.replayed c.self.invariant c.self.view_is)
    (got_none c.self.inside.devices.items c.deref.result.now c.from.result c.args.device c.deref.ensures.value
    c.from.ensures c.in-None.ensures.lookup.0))
