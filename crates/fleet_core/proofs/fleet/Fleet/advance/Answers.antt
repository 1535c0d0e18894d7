use Rattle.std.proofs.Common.{ap, arith}
use Rattle.fleet_core.proofs.Board.{Reads, reads, step_stands_here, place_early, post_within, posts_room, entry_is}
use Rattle.fleet_core.proofs.Board.{added, with_outputs, fleet_push}
use Rattle.fleet_core.proofs.fleet.Fleet.advance.Goals as goal

pub make_outputs-requires-clause-stands : goal.make_outputs-requires-clause-stands
make_outputs-requires-clause-stands c =
    step_stands_here c.self.inside.scenario.now c.self.inside.entries c.self.inside.devices.items c.args.device
    c.index-place.result.now c.in-Some.step.now c.index_mut-held.result.now
    (reads c.args.self.now c.self.inside.scenario.now c.self.inside.entries c.self.inside.spent c.self.inside.made.items
    c.self.inside.posts.items c.self.inside.devices.items
    c.args.device c.from-at.result c.index-place.result.now c.in-Some.step.now c.index_mut-held.result.now
    c.self.view_is c.self.invariant c.requires.ready c.in-Some.ensures c.if-not-is_enabled.ensures c.from-at.ensures
    c.index-place.ensures c.index_mut-held.ensures.value)

pub make_outputs-requires-clause-holds : goal.make_outputs-requires-clause-holds
make_outputs-requires-clause-holds c =
    let r = reads c.args.self.now c.self.inside.scenario.now c.self.inside.entries c.self.inside.spent
    c.self.inside.made.items c.self.inside.posts.items c.self.inside.devices.items
    c.args.device c.from-at.result c.index-place.result.now c.in-Some.step.now c.index_mut-held.result.now
    c.self.view_is c.self.invariant c.requires.ready c.in-Some.ensures c.if-not-is_enabled.ensures c.from-at.ensures
    c.index-place.ensures c.index_mut-held.ensures.value in
    r.holds

pub overflow_add-next : goal.overflow_add-next
overflow_add-next c =
    let h = place_early c.self.inside.scenario.now c.self.inside.entries c.self.inside.devices.items c.args.device
    c.index-place.result.now c.in-Some.step.now c.index_mut-held.result.now
    (reads c.args.self.now c.self.inside.scenario.now c.self.inside.entries c.self.inside.spent c.self.inside.made.items
    c.self.inside.posts.items c.self.inside.devices.items
    c.args.device c.from-at.result c.index-place.result.now c.in-Some.step.now c.index_mut-held.result.now
    c.self.view_is c.self.invariant c.requires.ready c.in-Some.ensures c.if-not-is_enabled.ensures c.from-at.ensures
    c.index-place.ensures c.index_mut-held.ensures.value) in
    omega (arith, h)

pub index_mut-requires : goal.index_mut-requires
index_mut-requires c =
    let r = reads c.args.self.now c.self.inside.scenario.now c.self.inside.entries c.self.inside.spent
    c.self.inside.made.items c.self.inside.posts.items c.self.inside.devices.items
    c.args.device c.from-at.result c.index-place.result.now c.in-Some.step.now c.index_mut-held.result.now
    c.self.view_is c.self.invariant c.requires.ready c.in-Some.ensures c.if-not-is_enabled.ensures c.from-at.ensures
    c.index-place.ensures c.index_mut-held.ensures.value in
    omega (arith, r.is.within, c.self.invariant.board.rows, c.from-at.ensures)

read_then : (c : goal.After-self-3-1)
    → Reads c.self.inside.scenario.now c.self.inside.entries c.self.inside.devices.items c.args.device
    c.index-place.result.now c.in-Some.step.now c.index_mut-held.result.now
read_then c =
    reads c.args.self.now c.self.inside.scenario.now c.self.inside.entries c.self.inside.spent c.self.inside.made.items
    c.self.inside.posts.items c.self.inside.devices.items
    c.args.device c.from-at.result c.index-place.result.now c.in-Some.step.now c.index_mut-held.result.now
    c.self.view_is c.self.invariant c.requires.ready c.in-Some.ensures c.if-not-is_enabled.ensures c.from-at.ensures
    c.index-place.ensures c.index_mut-held.ensures.value

pub note_post-requires-clause-within : goal.note_post-requires-clause-within
note_post-requires-clause-within c =
    post_within c.self.inside.scenario.now c.self.inside.entries c.self.inside.made.items c.self.inside.posts.items
    c.self.inside.devices.items c.args.device c.index-place.result.now c.in-Some.step.now
    c.index_mut-held.result.now c.self.invariant.board
    (reads c.args.self.now c.self.inside.scenario.now c.self.inside.entries c.self.inside.spent c.self.inside.made.items
    c.self.inside.posts.items c.self.inside.devices.items
    c.args.device c.from-at.result c.index-place.result.now c.in-Some.step.now c.index_mut-held.result.now
    c.self.view_is c.self.invariant c.requires.ready c.in-Some.ensures c.if-not-is_enabled.ensures c.from-at.ensures
    c.index-place.ensures c.index_mut-held.ensures.value)

pub note_post-requires-clause-room : goal.note_post-requires-clause-room
note_post-requires-clause-room c =
    posts_room c.self.inside.scenario.now c.self.inside.entries c.self.inside.made.items c.self.inside.posts.items
    c.self.invariant.board

pub returns-clause-added : goal.returns-clause-added
returns-clause-added c = λ made.
    added c.args.self.now c.self.inside.scenario.now c.self.inside.entries c.push.new.self c.self.inside.spent
    c.args.worker c.args.device _ c.self.view_is c.in_ok-push.ensures.ok
    (entry_is c.self.inside.scenario.now c.self.inside.entries c.self.inside.devices.items c.args.worker c.args.device
    c.index-place.result.now c.in-Some.step.now c.index_mut-held.result.now
    _ (read_then c) (ap (with_outputs c.args.worker c.args.device c.index-place.result.now)
    c.in_ok-outputs.ensures.outputs))

pub invariant_of-self-2 : goal.invariant_of-self-2
invariant_of-self-2 c =
    fleet_push c.self.inside.scenario.now c.self.inside.entries c.push.new.self c.self.inside.made.items
    c.self.inside.posts.items c.note_post.new.posts.items c.self.inside.devices.items
    c.args.worker c.args.device c.from-at.result c.index-place.result.now c.in-Some.step.now
    c.index_mut-held.result.now c.make_outputs.new.held _
    c.self.invariant.board c.self.invariant.count (read_then c) c.from-at.ensures c.in_ok-push.ensures.ok
    (entry_is c.self.inside.scenario.now c.self.inside.entries c.self.inside.devices.items c.args.worker c.args.device
    c.index-place.result.now c.in-Some.step.now c.index_mut-held.result.now
    _ (read_then c) (ap (with_outputs c.args.worker c.args.device c.index-place.result.now)
    c.in_ok-outputs.ensures.outputs))
    c.note_post.ensures c.in_ok-outputs.ensures.holds
