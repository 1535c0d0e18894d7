use Rattle.std.proofs.Common.{◌≡◌, ◌+◌, ◌<◌, length, sym, subst, ap, ◌∙◌, arith}
use Rattle.std.proofs.lemmas.List.{length-set}
use Rattle.fleet_core.specs.Board.{ShowsAfter}
use Rattle.debugger.proofs.Changing.{steps_next}
use Rattle.device_entries.proofs.Counting.{entry_at}
use Rattle.debugger.proofs.Watching.{has_set, read_twice, step_all, step_first, step_other, step_own, step_shows}
use Rattle.debugger.proofs.watches.step_watched.Goals as goal

pub loop-place-init : goal.loop-place-init
loop-place-init c = record {
  steps = step_first c.args.scenario.now c.args.entries.now c.args.index c.args.watched.now.items c.requires.watched;
  others = λ d has. has;
  count = omega (arith, c.len-count.ensures, c.args.watched.now.ok.0);
}

pub index-watch-requires : goal.index-watch-requires
index-watch-requires c =
    omega (arith, c.loop-place-test.true, c.loop-place.invariant.count, c.loop-place.watched.ok.0)

pub index_mut-own-requires : goal.index_mut-own-requires
index_mut-own-requires c =
    omega (arith, c.loop-place-test.true, c.loop-place.invariant.count, c.loop-place.watched.ok.0)

pub loop-place-preserved-then-watch-entry : goal.loop-place-preserved-then-watch-entry
loop-place-preserved-then-watch-entry c =
    let within : c.loop-place.place < length c.loop-place.watched.items =
    omega (arith, c.loop-place-test.true, c.loop-place.invariant.count) in
    record {
      steps = step_other c.args.scenario.now c.args.entries.now c.args.index c.loop-place.place
          c.index-entries-index.result c.loop-place.watched.items c.index-watch.result.now
          c.loop-place.invariant.steps
          (entry_at c.args.entries.now c.args.index c.index-entries-index.result c.requires.within
          c.index-entries-index.is) within c.index-watch.ensures c.if-watch-entry.true;
      others = c.loop-place.invariant.others;
      count = c.loop-place.invariant.count;
    }

pub step_watch-requires-clause-shows : goal.step_watch-requires-clause-shows
step_watch-requires-clause-shows c =
    let within : c.loop-place.place < length c.loop-place.watched.items =
    omega (arith, c.loop-place-test.true, c.loop-place.invariant.count) in
    let same = read_twice c.loop-place.watched.items c.loop-place.place c.index-watch.result.now
    c.index_mut-own.result.now within c.index-watch.ensures c.index_mut-own.ensures.value in
    step_shows c.args.scenario.now c.args.entries.now c.args.index c.loop-place.place c.index-entries-index.result
    c.loop-place.watched.items c.index_mut-own.result.now c.loop-place.invariant.steps c.requires.run
    (entry_at c.args.entries.now c.args.index c.index-entries-index.result c.requires.within
    c.index-entries-index.is) within c.index_mut-own.ensures.value
    (sym c.if-watch-entry.false ∙ ap (λ w. w.device) same)

pub step_watch-requires-clause-row : goal.step_watch-requires-clause-row
step_watch-requires-clause-row c =
    let within : c.loop-place.place < length c.loop-place.watched.items =
    omega (arith, c.loop-place-test.true, c.loop-place.invariant.count) in
    let same = read_twice c.loop-place.watched.items c.loop-place.place c.index-watch.result.now
    c.index_mut-own.result.now within c.index-watch.ensures c.index_mut-own.ensures.value in
    steps_next c.args.scenario.now c.args.entries.now c.index_mut-own.result.now.device c.args.index
    c.index-entries-index.result c.requires.run
    (entry_at c.args.entries.now c.args.index c.index-entries-index.result c.requires.within
    c.index-entries-index.is) (sym c.if-watch-entry.false ∙ ap (λ w. w.device) same)

pub loop-place-preserved : goal.loop-place-preserved
loop-place-preserved c =
    let within : c.loop-place.place < length c.loop-place.watched.items =
    omega (arith, c.loop-place-test.true, c.loop-place.invariant.count) in
    let same = read_twice c.loop-place.watched.items c.loop-place.place c.index-watch.result.now
    c.index_mut-own.result.now within c.index-watch.ensures c.index_mut-own.ensures.value in
    let device : c.step_watch.new.watch.device ≡ c.index_mut-own.result.now.device =
    c.in_ok-step_watch.ensures.device in
    record {
      steps = step_own c.args.scenario.now c.args.entries.now c.args.index c.loop-place.place
          c.index-entries-index.result c.loop-place.watched.items c.step_watch.new.watch
          c.loop-place.invariant.steps c.requires.run
          (entry_at c.args.entries.now c.args.index c.index-entries-index.result c.requires.within
          c.index-entries-index.is) (sym c.if-watch-entry.false ∙ (ap (λ w. w.device) same ∙ sym device))
          (subst (λ d. ShowsAfter c.args.scenario.now d (c.index-entries-index.result.step + 1)
          c.step_watch.new.watch.machine) (sym device) c.in_ok-step_watch.ensures.shows);
      others = λ d has.
          has_set c.loop-place.watched.items c.loop-place.place d c.index_mut-own.result.now c.step_watch.new.watch
          within c.index_mut-own.ensures.value device (c.loop-place.invariant.others d has);
      count = length-set c.loop-place.watched.items c.loop-place.place c.step_watch.new.watch
          ∙ c.loop-place.invariant.count;
    }

pub returns-clause-watched : goal.returns-clause-watched
returns-clause-watched c =
    step_all c.args.scenario.now c.args.entries.now c.args.index c.loop-place.place c.loop-place.watched.items
    c.loop-place.invariant.steps (omega (arith, c.loop-place-test.false, c.loop-place.invariant.count))
