use Rattle.std.proofs.Common.{◌<◌, ◌+◌, length, sym, ◌∙◌, arith}
use Rattle.std.proofs.lemmas.Bool.Decides.{nat_tests}
use Rattle.lwm2m_values.proofs.TlvPlaces.{after_none, after_more, after_size, cut_at, nesting_at, within_at}
use Rattle.lwm2m_values.proofs.TlvPlaces.{record_size}
use Rattle.lwm2m_values.proofs.place.+placing.Goals as goal

pub place_among-loop-rest-init : goal.place_among-loop-rest-init
place_among-loop-rest-init t c = (omega arith, (0, after_none _ _))

pub place_among-returns-in_default-clause-place : goal.place_among-returns-in_default-clause-place
place_among-returns-in_default-clause-place t c = λ start e.
    let some : 0 < length c.loop-rest.rest.now = grind (arith, nat_tests) in
    let after = c.loop-rest.invariant.1 in
    cut_at _ _ _ start after.0 _ _ after.1 some c.lack_of.ensures
    (omega (arith, e, after_size _ _ _ after.0 after.1))

pub place_among-returns-then-not-may_stand-clause-place :
    goal.place_among-returns-then-not-may_stand-clause-place
place_among-returns-then-not-may_stand-clause-place t c = λ start e.
    let found = c.in-Some.ensures.found in
    let after = c.loop-rest.invariant.1 in
    nesting_at _ _ _ _ _ _ _ _ start after.0 _ after.1 found.1 found.2
    (sym c.may_stand.ensures ∙ c.if-not-may_stand.true) (omega (arith, e, after_size _ _ _ after.0 after.1))

pub place_among-returns-in-Some-place_inside-clause-place : goal.place_among-returns-in-Some-place_inside-clause-place
place_among-returns-in-Some-place_inside-clause-place t c = λ start e.
    let found = c.in-Some.ensures.found in
    let after = c.loop-rest.invariant.1 in
    let r = c.in-Some.record in
    let size = record_size c.loop-rest.rest.now found.0 r.content.now r.rest.now found.2 in
    let q = c.in-Some-place_inside.ensures.place in
    within_at _ _ _ _ _ _ _ _ start after.0 _ after.1 found.1 found.2
    (sym c.may_stand.ensures ∙ c.if-not-may_stand.false) (
      q.0,
      q.1,
      q.2 (start + after.0 + length found.0)
          (omega (arith, e, after_size _ _ _ after.0 after.1, size)),
    )

pub place_among-loop-rest-preserved : goal.place_among-loop-rest-preserved
place_among-loop-rest-preserved t c =
    let found = c.in-Some.ensures.found in
    let after = c.loop-rest.invariant.1 in
    let r = c.in-Some.record in
    let size = record_size c.loop-rest.rest.now found.0 r.content.now r.rest.now found.2 in (
      omega (arith, c.loop-rest.invariant.0, size),
      (
        after.0 + (length found.0 + length r.content.now),
        after_more _ _ _ _ _ _ _ _ _ after.1 found.1 found.2 (sym c.may_stand.ensures ∙ c.if-not-may_stand.false)
            c.in_default-place_inside.ensures.none,
      ),
    )
