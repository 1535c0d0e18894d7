use Rattle.std.proofs.Common.{◌≡◌, ◌+◌, ◌*◌, ◌^◌, ◌<◌, ◌≤◌, length, slice_index, sym, subst, arith, ◌∙◌}
use Rattle.std.proofs.lemmas.Bool.{false≢true}
use Rattle.debugger.specs.Moves.{HasSteps}
use Rattle.debugger.proofs.Copying.{copies_of, copies_reach}
use Rattle.debugger.proofs.Moving.{device_at}
use Rattle.debugger.proofs.Passing.{earlier_no, earlier_yes, found_more, found_same, moved_all, none_found, passed_is}
use Rattle.debugger.proofs.Passing.{count_of, passed_row, places_of, row_in, step_within, steps_all, steps_by, steps_few}
use Rattle.debugger.proofs.Passing.{at_end, steps_next, steps_none, steps_still, sum_fits, within_is}
use Rattle.debugger.proofs.Runs.{has_steps}
use Rattle.debugger.proofs.moves.moved_devices.Goals as goal

pub loop-index-init : goal.loop-index-init
loop-index-init c = record {
  found = none_found c.args.scenario.now c.args.entries.now c.args.to c.min-first.result c.new-moved.result.items
      c.new-moved.ensures.items;
  steps = steps_none c.args.scenario.now c.args.entries.now c.args.from c.args.to c.min-first.result;
}

pub bounds-entries-index : goal.bounds-entries-index
bounds-entries-index c =
    omega (arith, c.loop-index-test.true, c.max-last.ensures, c.requires.from, c.requires.to)

pub bounds-places-row : goal.bounds-places-row
bounds-places-row c =
    let passed = passed_is c.args.scenario.now c.args.entries.now c.min-first.result c.max-last.result
    c.loop-index.index c.args.from c.args.to c.index-entries-index.result c.requires.run c.max-last.ensures
    c.requires.from c.requires.to c.loop-index.auto.index c.loop-index-test.true c.index-entries-index.is in
    row_in c.args.scenario.now c.args.entries.now c.min-first.result c.loop-index.index c.from-row.result
    c.index-entries-index.result c.args.places.now passed c.from-row.ensures c.requires.listed

pub offset_bounds-places-row : goal.offset_bounds-places-row
offset_bounds-places-row c =
    let passed = passed_is c.args.scenario.now c.args.entries.now c.min-first.result c.max-last.result
    c.loop-index.index c.args.from c.args.to c.index-entries-index.result c.requires.run c.max-last.ensures
    c.requires.from c.requires.to c.loop-index.auto.index c.loop-index-test.true c.index-entries-index.is in
    let room : c.from-row.result < length c.args.places.now =
    row_in c.args.scenario.now c.args.entries.now c.min-first.result c.loop-index.index c.from-row.result
    c.index-entries-index.result c.args.places.now passed c.from-row.ensures c.requires.listed in
    omega (arith, room)

pub bounds-copies-row : goal.bounds-copies-row
bounds-copies-row c =
    let passed = passed_is c.args.scenario.now c.args.entries.now c.min-first.result c.max-last.result
    c.loop-index.index c.args.from c.args.to c.index-entries-index.result c.requires.run c.max-last.ensures
    c.requires.from c.requires.to c.loop-index.auto.index c.loop-index-test.true c.index-entries-index.is in
    row_in c.args.scenario.now c.args.entries.now c.min-first.result c.loop-index.index c.from-row.result
    c.index-entries-index.result c.args.copies.now passed c.from-row.ensures c.requires.copied.rows

pub offset_bounds-copies-row : goal.offset_bounds-copies-row
offset_bounds-copies-row c =
    let passed = passed_is c.args.scenario.now c.args.entries.now c.min-first.result c.max-last.result
    c.loop-index.index c.args.from c.args.to c.index-entries-index.result c.requires.run c.max-last.ensures
    c.requires.from c.requires.to c.loop-index.auto.index c.loop-index-test.true c.index-entries-index.is in
    let room : c.from-row.result < length c.args.copies.now =
    row_in c.args.scenario.now c.args.entries.now c.min-first.result c.loop-index.index c.from-row.result
    c.index-entries-index.result c.args.copies.now passed c.from-row.ensures c.requires.copied.rows in
    omega (arith, room)

pub bounds-devices-row : goal.bounds-devices-row
bounds-devices-row c =
    let passed = passed_is c.args.scenario.now c.args.entries.now c.min-first.result c.max-last.result
    c.loop-index.index c.args.from c.args.to c.index-entries-index.result c.requires.run c.max-last.ensures
    c.requires.from c.requires.to c.loop-index.auto.index c.loop-index-test.true c.index-entries-index.is in
    row_in c.args.scenario.now c.args.entries.now c.min-first.result c.loop-index.index c.from-row.result
    c.index-entries-index.result c.args.devices.now passed c.from-row.ensures c.requires.rows

pub offset_bounds-devices-row : goal.offset_bounds-devices-row
offset_bounds-devices-row c =
    let passed = passed_is c.args.scenario.now c.args.entries.now c.min-first.result c.max-last.result
    c.loop-index.index c.args.from c.args.to c.index-entries-index.result c.requires.run c.max-last.ensures
    c.requires.from c.requires.to c.loop-index.auto.index c.loop-index-test.true c.index-entries-index.is in
    let room : c.from-row.result < length c.args.devices.now =
    row_in c.args.scenario.now c.args.entries.now c.min-first.result c.loop-index.index c.from-row.result
    c.index-entries-index.result c.args.devices.now passed c.from-row.ensures c.requires.rows in
    omega (arith, room)

pub bounds-made-row : goal.bounds-made-row
bounds-made-row c =
    let passed = passed_is c.args.scenario.now c.args.entries.now c.min-first.result c.max-last.result
    c.loop-index.index c.args.from c.args.to c.index-entries-index.result c.requires.run c.max-last.ensures
    c.requires.from c.requires.to c.loop-index.auto.index c.loop-index-test.true c.index-entries-index.is in
    row_in c.args.scenario.now c.args.entries.now c.min-first.result c.loop-index.index c.from-row.result
    c.index-entries-index.result c.args.made.now passed c.from-row.ensures c.requires.counted.rows

pub offset_bounds-made-row : goal.offset_bounds-made-row
offset_bounds-made-row c =
    let passed = passed_is c.args.scenario.now c.args.entries.now c.min-first.result c.max-last.result
    c.loop-index.index c.args.from c.args.to c.index-entries-index.result c.requires.run c.max-last.ensures
    c.requires.from c.requires.to c.loop-index.auto.index c.loop-index-test.true c.index-entries-index.is in
    let room : c.from-row.result < length c.args.made.now =
    row_in c.args.scenario.now c.args.entries.now c.min-first.result c.loop-index.index c.from-row.result
    c.index-entries-index.result c.args.made.now passed c.from-row.ensures c.requires.counted.rows in
    omega (arith, room)

pub has_earlier-requires-clause-places : goal.has_earlier-requires-clause-places
has_earlier-requires-clause-places c =
    let passed = passed_is c.args.scenario.now c.args.entries.now c.min-first.result c.max-last.result
    c.loop-index.index c.args.from c.args.to c.index-entries-index.result c.requires.run c.max-last.ensures
    c.requires.from c.requires.to c.loop-index.auto.index c.loop-index-test.true c.index-entries-index.is in
    places_of c.args.scenario.now c.args.entries.now c.min-first.result c.loop-index.index c.from-row.result
    c.index-entries-index.result c.args.places.now c.index-places-row.result c.as_slice-indexes.result.now passed
    c.requires.placed c.requires.listed c.from-row.ensures c.index-places-row.is c.as_slice-indexes.ensures.value

pub has_earlier-requires-clause-step : goal.has_earlier-requires-clause-step
has_earlier-requires-clause-step c =
    let passed = passed_is c.args.scenario.now c.args.entries.now c.min-first.result c.max-last.result
    c.loop-index.index c.args.from c.args.to c.index-entries-index.result c.requires.run c.max-last.ensures
    c.requires.from c.requires.to c.loop-index.auto.index c.loop-index-test.true c.index-entries-index.is in
    let has = places_of c.args.scenario.now c.args.entries.now c.min-first.result c.loop-index.index c.from-row.result
    c.index-entries-index.result c.args.places.now c.index-places-row.result c.as_slice-indexes.result.now passed
    c.requires.placed c.requires.listed c.from-row.ensures c.index-places-row.is c.as_slice-indexes.ensures.value in
    step_within c.args.scenario.now c.args.entries.now c.min-first.result c.loop-index.index
    c.index-entries-index.result c.as_slice-indexes.result.now passed has

pub count_before-count-requires-clause-places : goal.count_before-count-requires-clause-places
count_before-count-requires-clause-places c =
    let passed = passed_is c.args.scenario.now c.args.entries.now c.min-first.result c.max-last.result
    c.loop-index.index c.args.from c.args.to c.index-entries-index.result c.requires.run c.max-last.ensures
    c.requires.from c.requires.to c.loop-index.auto.index c.loop-index-test.true c.index-entries-index.is in
    places_of c.args.scenario.now c.args.entries.now c.min-first.result c.loop-index.index c.from-row.result
    c.index-entries-index.result c.args.places.now c.index-places-row.result c.as_slice-indexes.result.now passed
    c.requires.placed c.requires.listed c.from-row.ensures c.index-places-row.is c.as_slice-indexes.ensures.value

pub moved_device-requires-clause-copied : goal.moved_device-requires-clause-copied
moved_device-requires-clause-copied c =
    let passed = passed_is c.args.scenario.now c.args.entries.now c.min-first.result c.max-last.result
    c.loop-index.index c.args.from c.args.to c.index-entries-index.result c.requires.run c.max-last.ensures
    c.requires.from c.requires.to c.loop-index.auto.index c.loop-index-test.true c.index-entries-index.is in
    let has = copies_of c.args.scenario.now c.args.entries.now c.index-entries-index.result.device c.from-row.result
    c.args.copies.now c.index-copies-row.result c.as_slice-sources.result.now c.requires.copied
    (passed_row c.args.scenario.now c.args.entries.now c.min-first.result c.loop-index.index
    c.index-entries-index.result passed) c.from-row.ensures c.index-copies-row.is c.as_slice-sources.ensures.value in
    has.along

pub moved_device-requires-clause-enough : goal.moved_device-requires-clause-enough
moved_device-requires-clause-enough c = λ less.
    let passed = passed_is c.args.scenario.now c.args.entries.now c.min-first.result c.max-last.result
    c.loop-index.index c.args.from c.args.to c.index-entries-index.result c.requires.run c.max-last.ensures
    c.requires.from c.requires.to c.loop-index.auto.index c.loop-index-test.true c.index-entries-index.is in
    let has = copies_of c.args.scenario.now c.args.entries.now c.index-entries-index.result.device c.from-row.result
    c.args.copies.now c.index-copies-row.result c.as_slice-sources.result.now c.requires.copied
    (passed_row c.args.scenario.now c.args.entries.now c.min-first.result c.loop-index.index
    c.index-entries-index.result passed) c.from-row.ensures c.index-copies-row.is c.as_slice-sources.ensures.value in
    let count = count_of c.args.scenario.now c.args.entries.now c.args.from c.min-first.result c.loop-index.index
    c.from-row.result c.index-entries-index.result c.args.made.now passed c.requires.counted c.from-row.ensures in
    copies_reach c.args.scenario.now c.args.entries.now c.index-entries-index.result.device c.args.from
    c.count_before-count.result c.as_slice-sources.result.now has (omega (arith, less, count))

pub moved_device-requires-clause-shows : goal.moved_device-requires-clause-shows
moved_device-requires-clause-shows c =
    let passed = passed_is c.args.scenario.now c.args.entries.now c.min-first.result c.max-last.result
    c.loop-index.index c.args.from c.args.to c.index-entries-index.result c.requires.run c.max-last.ensures
    c.requires.from c.requires.to c.loop-index.auto.index c.loop-index-test.true c.index-entries-index.is in
    let row : c.index-entries-index.result.device < length c.args.devices.now =
    omega (
      arith,
      passed_row c.args.scenario.now c.args.entries.now c.min-first.result c.loop-index.index
          c.index-entries-index.result passed,
      c.requires.rows,
    ) in
    device_at c.args.scenario.now c.args.made.now c.args.devices.now c.index-entries-index.result.device
    c.from-row.result c.index-devices-row.result c.requires.shown row c.from-row.ensures c.index-devices-row.is

pub moved_device-requires-clause-device : goal.moved_device-requires-clause-device
moved_device-requires-clause-device c =
    let passed = passed_is c.args.scenario.now c.args.entries.now c.min-first.result c.max-last.result
    c.loop-index.index c.args.from c.args.to c.index-entries-index.result c.requires.run c.max-last.ensures
    c.requires.from c.requires.to c.loop-index.auto.index c.loop-index-test.true c.index-entries-index.is in
    passed_row c.args.scenario.now c.args.entries.now c.min-first.result c.loop-index.index
    c.index-entries-index.result passed

pub moved_device-requires-clause-first : goal.moved_device-requires-clause-first
moved_device-requires-clause-first c =
    let passed = passed_is c.args.scenario.now c.args.entries.now c.min-first.result c.max-last.result
    c.loop-index.index c.args.from c.args.to c.index-entries-index.result c.requires.run c.max-last.ensures
    c.requires.from c.requires.to c.loop-index.auto.index c.loop-index-test.true c.index-entries-index.is in
    subst (HasSteps c.args.scenario.now c.index-entries-index.result.device)
    (sym (count_of c.args.scenario.now c.args.entries.now c.args.from c.min-first.result c.loop-index.index
    c.from-row.result c.index-entries-index.result c.args.made.now passed c.requires.counted c.from-row.ensures))
    (has_steps c.args.scenario.now c.args.entries.now c.index-entries-index.result.device c.args.from c.requires.run)

pub moved_device-requires-clause-last : goal.moved_device-requires-clause-last
moved_device-requires-clause-last c =
    let passed = passed_is c.args.scenario.now c.args.entries.now c.min-first.result c.max-last.result
    c.loop-index.index c.args.from c.args.to c.index-entries-index.result c.requires.run c.max-last.ensures
    c.requires.from c.requires.to c.loop-index.auto.index c.loop-index-test.true c.index-entries-index.is in
    subst (HasSteps c.args.scenario.now c.index-entries-index.result.device) (sym c.count_before-count.ensures)
    (has_steps c.args.scenario.now c.args.entries.now c.index-entries-index.result.device c.args.to c.requires.run)

pub loop-index-preserved-then-has_earlier : goal.loop-index-preserved-then-has_earlier
loop-index-preserved-then-has_earlier c =
    let passed = passed_is c.args.scenario.now c.args.entries.now c.min-first.result c.max-last.result
    c.loop-index.index c.args.from c.args.to c.index-entries-index.result c.requires.run c.max-last.ensures
    c.requires.from c.requires.to c.loop-index.auto.index c.loop-index-test.true c.index-entries-index.is in
    let some = earlier_yes c.args.scenario.now c.args.entries.now c.min-first.result c.loop-index.index
    c.index-entries-index.result passed (c.has_earlier.ensures.0 c.if-has_earlier.true) in
    record {
      found = found_same c.args.scenario.now c.args.entries.now c.args.to c.min-first.result c.loop-index.index
          c.index-entries-index.result c.loop-index.moved.items c.loop-index.invariant.found passed some;
      steps = steps_still c.args.scenario.now c.args.entries.now c.args.from c.args.to c.min-first.result
          c.loop-index.index c.loop-index.steps c.index-entries-index.result passed some c.loop-index.invariant.steps;
    }

pub overflow_add-steps : goal.overflow_add-steps
overflow_add-steps c =
    let passed = passed_is c.args.scenario.now c.args.entries.now c.min-first.result c.max-last.result
    c.loop-index.index c.args.from c.args.to c.index-entries-index.result c.requires.run c.max-last.ensures
    c.requires.from c.requires.to c.loop-index.auto.index c.loop-index-test.true c.index-entries-index.is in
    let none = earlier_no c.args.scenario.now c.args.entries.now c.min-first.result c.loop-index.index
    c.index-entries-index.result passed
    (λ fewer. false≢true (sym c.if-has_earlier.false ∙ c.has_earlier.ensures.1 fewer)) in
    let sum : c.loop-index.steps + c.in_ok-next.next.steps ≡ steps_by c.args.scenario.now c.args.entries.now c.args.from
    c.args.to c.min-first.result (c.loop-index.index + 1) =
    steps_next c.args.scenario.now c.args.entries.now c.args.from c.args.to c.min-first.result
    c.loop-index.index c.loop-index.steps c.in_ok-next.next.steps (slice_index c.args.made.now c.from-row.result)
    c.count_before-count.result c.index-entries-index.result passed none c.loop-index.invariant.steps
    c.in_ok-next.ensures.steps
    (count_of c.args.scenario.now c.args.entries.now c.args.from c.min-first.result c.loop-index.index c.from-row.result
    c.index-entries-index.result c.args.made.now passed c.requires.counted c.from-row.ensures)
    c.count_before-count.ensures in
    let few : steps_by c.args.scenario.now c.args.entries.now c.args.from c.args.to c.min-first.result
    (c.loop-index.index + 1) ≤ 4096 * length c.args.scenario.now.rows =
    steps_few c.args.scenario.now c.args.entries.now c.args.from c.args.to c.min-first.result (c.loop-index.index + 1)
    c.rows-known.ensures.valid c.requires.run in
    let fits : c.loop-index.steps + c.in_ok-next.next.steps < 2 ^ 64 =
    sum_fits (c.loop-index.steps + c.in_ok-next.next.steps)
    (steps_by c.args.scenario.now c.args.entries.now c.args.from c.args.to c.min-first.result (c.loop-index.index + 1))
    (length c.args.scenario.now.rows) sum few (omega (arith, c.rows-known.ensures.valid.rows)) in
    omega (arith, fits)

pub loop-index-preserved : goal.loop-index-preserved
loop-index-preserved c =
    let passed = passed_is c.args.scenario.now c.args.entries.now c.min-first.result c.max-last.result
    c.loop-index.index c.args.from c.args.to c.index-entries-index.result c.requires.run c.max-last.ensures
    c.requires.from c.requires.to c.loop-index.auto.index c.loop-index-test.true c.index-entries-index.is in
    let none = earlier_no c.args.scenario.now c.args.entries.now c.min-first.result c.loop-index.index
    c.index-entries-index.result passed
    (λ fewer. false≢true (sym c.if-has_earlier.false ∙ c.has_earlier.ensures.1 fewer)) in
    record {
      found = found_more c.args.scenario.now c.args.entries.now c.args.to c.min-first.result c.loop-index.index
          c.count_before-count.result _ c.index-entries-index.result c.loop-index.moved.items c.push.new.self.items
          c.in_ok-next.next c.loop-index.invariant.found passed c.in_ok-next.ensures
          c.count_before-count.ensures c.in_ok-push.ensures.items;
      steps = steps_next c.args.scenario.now c.args.entries.now c.args.from c.args.to c.min-first.result
          c.loop-index.index c.loop-index.steps c.in_ok-next.next.steps (slice_index c.args.made.now c.from-row.result)
          c.count_before-count.result c.index-entries-index.result passed none c.loop-index.invariant.steps
          c.in_ok-next.ensures.steps
          (count_of c.args.scenario.now c.args.entries.now c.args.from c.min-first.result c.loop-index.index
          c.from-row.result c.index-entries-index.result c.args.made.now passed c.requires.counted
          c.from-row.ensures) c.count_before-count.ensures;
    }

pub returns-clause-moved : goal.returns-clause-moved
returns-clause-moved c =
    moved_all c.args.scenario.now c.args.entries.now c.min-first.result c.max-last.result c.loop-index.index
    c.args.from c.args.to c.args.made.now c.args.devices.now c.loop-index.moved.items c.loop-index.invariant.found
    (at_end c.min-first.result c.max-last.result c.loop-index.index c.args.from c.args.to c.min-first.ensures
    c.max-last.ensures c.loop-index-test.false c.loop-index.auto.index-end)
    (within_is c.min-first.result c.max-last.result c.args.from c.args.to c.min-first.ensures c.max-last.ensures)
    c.requires.shown c.requires.counted c.requires.rows

pub returns-clause-steps : goal.returns-clause-steps
returns-clause-steps c =
    steps_all c.args.scenario.now c.args.entries.now c.min-first.result c.max-last.result c.loop-index.index
    c.args.from c.args.to c.loop-index.steps c.loop-index.invariant.steps
    (at_end c.min-first.result c.max-last.result c.loop-index.index c.args.from c.args.to c.min-first.ensures
    c.max-last.ensures c.loop-index-test.false c.loop-index.auto.index-end)
    (within_is c.min-first.result c.max-last.result c.args.from c.args.to c.min-first.ensures c.max-last.ensures)
