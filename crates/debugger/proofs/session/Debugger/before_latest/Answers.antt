use Rattle.debugger.proofs.Keeping.{inside_is}
use Rattle.debugger.proofs.Preceding.{before_read, copies_read, enough_read}
use Rattle.debugger.proofs.session.Debugger.before_latest.Goals as goal

pub device_before-requires-clause-copied : goal.device_before-requires-clause-copied
device_before-requires-clause-copied c =
    (copies_read c.args.device c.from-2.result c.index-kept.result.now c.as_slice-copies.result.now
    (inside_is c.args.self.now c.self.inside.replayed c.self.invariant c.self.view_is)
    c.requires c.from-2.ensures c.index-kept.ensures c.as_slice-copies.ensures.value).along

pub device_before-requires-clause-enough : goal.device_before-requires-clause-enough
device_before-requires-clause-enough c =
    let inside = inside_is c.args.self.now c.self.inside.replayed c.self.invariant c.self.view_is in
    enough_read c.args.device c.from.result c.index-made.result.now c.as_slice-copies.result.now inside c.requires
    c.from.ensures c.index-made.ensures
    (copies_read c.args.device c.from-2.result c.index-kept.result.now c.as_slice-copies.result.now inside
    c.requires c.from-2.ensures c.index-kept.ensures c.as_slice-copies.ensures.value)

pub returns : goal.returns
returns c =
    before_read c.args.device c.from.result c.index-made.result.now c.in_ok-before.before.machine
    (inside_is c.args.self.now c.self.inside.replayed c.self.invariant c.self.view_is)
    c.rows-known.ensures.valid c.requires c.from.ensures c.index-made.ensures c.in_ok-before.ensures.shows
