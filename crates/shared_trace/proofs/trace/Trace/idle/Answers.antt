use Rattle.shared_trace.proofs.Stations.{any_out, any_left, all_ended, complete_is, idle_now}
use Rattle.shared_trace.proofs.Ended.{ended_at}
use Rattle.shared_trace.proofs.trace.Trace.idle.Goals as goal

pub first_left-requires : goal.first_left-requires
first_left-requires c =
    ended_at c.self.inside.stations.items c.as_slice-2.result.now c.self.inside.low c.as_slice-2.ensures.value
    c.self.invariant.1

pub returns-in-Some-clause-claims : goal.returns-in-Some-clause-claims
returns-in-Some-clause-claims c = λ w. (
  idle_now c.args.self.now c.requires.going c.requires.none,
  any_out c.args.self.now c.self.inside.subject.value c.self.inside.entries.held c.self.inside.stations.items
      c.self.inside.posts.items c.self.inside.stops c.in-Some.field-0
      c.as_slice.result.now c.as_slice.ensures.value c.self.view_is c.self.invariant.0 c.in-Some.ensures.out,
)

pub returns-in-Some-first_left-clause-claims : goal.returns-in-Some-first_left-clause-claims
returns-in-Some-first_left-clause-claims c = λ w. (
  idle_now c.args.self.now c.requires.going c.requires.none,
  complete_is c.args.self.now c.self.inside.subject.value c.self.inside.entries.held c.self.inside.stations.items
      c.self.inside.posts.items c.self.inside.stops
      c.as_slice.result.now c.as_slice.ensures.value c.self.view_is c.self.invariant.0 c.requires.none
      c.in-None.ensures.none,
  any_left c.args.self.now c.self.inside.subject.value c.self.inside.entries.held c.self.inside.stations.items
      c.self.inside.posts.items c.self.inside.stops c.in-Some-first_left.field-0
      c.as_slice-2.result.now c.as_slice-2.ensures.value c.self.view_is c.self.invariant.0
      c.in-Some-first_left.ensures.left,
)

pub returns-in-None-first_left-clause-claims : goal.returns-in-None-first_left-clause-claims
returns-in-None-first_left-clause-claims c = λ w. (
  idle_now c.args.self.now c.requires.going c.requires.none,
  complete_is c.args.self.now c.self.inside.subject.value c.self.inside.entries.held c.self.inside.stations.items
      c.self.inside.posts.items c.self.inside.stops
      c.as_slice.result.now c.as_slice.ensures.value c.self.view_is c.self.invariant.0 c.requires.none
      c.in-None.ensures.none,
  all_ended c.args.self.now c.self.inside.subject.value c.self.inside.entries.held c.self.inside.stations.items
      c.self.inside.posts.items c.self.inside.stops
      c.as_slice-2.result.now c.as_slice-2.ensures.value c.self.view_is c.self.invariant.0
      c.in-None-first_left.ensures.none,
)
