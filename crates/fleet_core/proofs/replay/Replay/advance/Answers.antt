use Rattle.std.proofs.Common.{refl, sym, ◌∙◌, arith}
use Rattle.std.proofs.lemmas.Bool.{false≢true}
use Rattle.fleet_core.specs.Past.{past_entries}
use Rattle.fleet_core.proofs.Board.{Reads, reads, step_stands_here, place_early, post_within, posts_room, fleet_push}
use Rattle.fleet_core.proofs.Checked.{stands_still, is_next, differs, follows, copy_shows}
use Rattle.fleet_core.proofs.replay.Replay.advance.Goals as goal
use Rattle.fleet_core.proofs.replay.Replay.advance.Goals.{After-index_mut-held}

pub returns-then-not-is_enabled-clause-replays : goal.returns-then-not-is_enabled-clause-replays
returns-then-not-is_enabled-clause-replays c =
    stands_still c.args.self.now c.args.entry.now (sym c.if-not-is_enabled.ensures)

-- what is known of the device's next step
read_here : (c : After-index_mut-held)
    → Reads c.self.inside.scenario.now (past_entries c.self.inside.past) c.self.inside.devices.items
    c.args.entry.now.device c.index-place.result.now c.in-Some.step.now c.index_mut-held.result.now
read_here c =
    reads c.args.self.now c.self.inside.scenario.now (past_entries c.self.inside.past) c.self.inside.spent
    c.self.inside.made.items c.self.inside.posts.items c.self.inside.devices.items
    c.args.entry.now.device c.from-at.result c.index-place.result.now c.in-Some.step.now c.index_mut-held.result.now
    c.self.view_is c.self.invariant c.requires c.in-Some.ensures c.if-not-is_enabled.ensures c.from-at.ensures
    c.index-place.ensures c.index_mut-held.ensures.value

pub make_copied-requires-clause-stands : goal.make_copied-requires-clause-stands
make_copied-requires-clause-stands c =
    let r = read_here (goal.at.make_copied-requires-clause-stands c).After-index_mut-held in
    step_stands_here c.self.inside.scenario.now (past_entries c.self.inside.past) c.self.inside.devices.items
    c.args.entry.now.device c.index-place.result.now c.in-Some.step.now c.index_mut-held.result.now r

pub make_copied-requires-clause-holds : goal.make_copied-requires-clause-holds
make_copied-requires-clause-holds c =
    let r = read_here (goal.at.make_copied-requires-clause-holds c).After-index_mut-held in
    r.holds

pub overflow_add-next : goal.overflow_add-next
overflow_add-next c =
    let r = read_here (goal.at.overflow_add-next c).After-index_mut-held in
    let h = place_early c.self.inside.scenario.now (past_entries c.self.inside.past) c.self.inside.devices.items
    c.args.entry.now.device c.index-place.result.now c.in-Some.step.now c.index_mut-held.result.now r in
    omega (arith, h)

pub index_mut-requires : goal.index_mut-requires
index_mut-requires c =
    let r = read_here (goal.at.index_mut-requires c).After-index_mut-held in
    omega (arith, r.is.within, c.self.invariant.board.rows, c.from-at.ensures)

pub returns-then-not-is_entry_of-clause-replays : goal.returns-then-not-is_entry_of-clause-replays
returns-then-not-is_entry_of-clause-replays c =
    let r = read_here (goal.at.returns-then-not-is_entry_of-clause-replays c).After-index_mut-held in
    differs c.args.self.now c.self.inside.scenario.now (past_entries c.self.inside.past) c.self.inside.spent
    c.self.inside.devices.items c.args.entry.now
    c.index-place.result.now c.in-Some.step.now c.index_mut-held.result.now c.as_slice.result.now
    c.self.view_is r (c.as_slice.ensures ∙ c.in_ok-outputs.ensures.outputs)
    (λ p. false≢true (c.if-not-is_entry_of.ensures.1 p))

pub note_post-requires-clause-within : goal.note_post-requires-clause-within
note_post-requires-clause-within c =
    let r = read_here (goal.at.note_post-requires-clause-within c).After-index_mut-held in
    post_within c.self.inside.scenario.now (past_entries c.self.inside.past) c.self.inside.made.items
    c.self.inside.posts.items c.self.inside.devices.items c.args.entry.now.device
    c.index-place.result.now c.in-Some.step.now c.index_mut-held.result.now c.self.invariant.board r

pub note_post-requires-clause-room : goal.note_post-requires-clause-room
note_post-requires-clause-room c =
    posts_room c.self.inside.scenario.now (past_entries c.self.inside.past) c.self.inside.made.items
    c.self.inside.posts.items c.self.invariant.board

pub returns-clause-replays : goal.returns-clause-replays
returns-clause-replays c =
    let r = read_here (goal.at.returns-clause-replays c).After-index_mut-held in
    let same = c.if-not-is_entry_of.ensures.0 refl in
    follows c.args.self.now c.self.inside.scenario.now (past_entries c.self.inside.past) _ c.self.inside.spent
    c.self.inside.devices.items c.args.entry.now
    c.index-place.result.now c.in-Some.step.now c.index_mut-held.result.now c.as_slice.result.now
    c.self.view_is r (c.as_slice.ensures ∙ c.in_ok-outputs.ensures.outputs) same.0 same.1
    c.with.ensures

pub returns-clause-shows : goal.returns-clause-shows
returns-clause-shows c =
    let r = read_here (goal.at.returns-clause-shows c).After-index_mut-held in
    λ x is.
    copy_shows c.self.inside.scenario.now (past_entries c.self.inside.past) _ c.self.inside.devices.items
    c.args.entry.now c.index-place.result.now c.in-Some.step.now c.index_mut-held.result.now x r c.with.ensures
    (c.in_ok-outputs.ensures.shows x is)

pub invariant_of-self-2 : goal.invariant_of-self-2
invariant_of-self-2 c =
    let r = read_here (goal.at.invariant_of-self-2 c).After-index_mut-held in
    let same = c.if-not-is_entry_of.ensures.0 refl in
    fleet_push c.self.inside.scenario.now (past_entries c.self.inside.past) _ c.self.inside.made.items
    c.self.inside.posts.items c.note_post.new.posts.items c.self.inside.devices.items
    c.args.entry.now.worker c.args.entry.now.device c.from-at.result
    c.index-place.result.now c.in-Some.step.now c.index_mut-held.result.now c.make_copied.new.held
    c.args.entry.now c.self.invariant.board c.self.invariant.count r c.from-at.ensures
    c.with.ensures
    (is_next c.self.inside.scenario.now (past_entries c.self.inside.past) c.self.inside.devices.items c.args.entry.now
    c.index-place.result.now c.in-Some.step.now c.index_mut-held.result.now c.as_slice.result.now r
    (c.as_slice.ensures ∙ c.in_ok-outputs.ensures.outputs) same.0 same.1)
    c.note_post.ensures c.in_ok-outputs.ensures.holds
