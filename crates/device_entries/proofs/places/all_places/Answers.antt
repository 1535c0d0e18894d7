use Rattle.std.proofs.Common.{arith, ◌∙◌}
use Rattle.device_entries.proofs.Empties.{empty_count}
use Rattle.device_entries.proofs.Placing.{next_is, next_placed, next_count, none_placed, placed_end}
use Rattle.device_entries.proofs.places.all_places.Goals as goal

pub loop-index-init : goal.loop-index-init
loop-index-init c = record {
  count = empty_count (λ x. x.indexes.items) c.rows-rows.result c.in_ok-places.places.items c.in_ok-places.ensures
      ∙ c.rows-rows.ensures.count;
  placed = none_placed c.args.entries.now c.rows-rows.result c.in_ok-places.places.items c.in_ok-places.ensures;
}

pub index_mut-own-requires : goal.index_mut-own-requires
index_mut-own-requires c =
    let next = next_is c.args.scenario.now c.args.entries.now c.loop-index.index c.index-entries-index.result
    c.loop-index.places.items c.requires c.loop-index-test.true c.index-entries-index.is c.loop-index.invariant.count
    c.loop-index.invariant.placed in
    omega (arith, next.row, c.from.ensures, c.loop-index.places.ok.0)

pub loop-index-preserved : goal.loop-index-preserved
loop-index-preserved c =
    let next = next_is c.args.scenario.now c.args.entries.now c.loop-index.index c.index-entries-index.result
    c.loop-index.places.items c.requires c.loop-index-test.true c.index-entries-index.is c.loop-index.invariant.count
    c.loop-index.invariant.placed in
    record {
      count = next_count c.args.scenario.now c.args.entries.now c.loop-index.index c.from.result
          c.index-entries-index.result c.loop-index.places.items c.add_place.new.own next;
      placed = next_placed c.args.scenario.now c.args.entries.now c.loop-index.index c.from.result
          c.index-entries-index.result c.loop-index.places.items c.index_mut-own.result.now c.add_place.new.own next
          c.from.ensures c.index_mut-own.ensures.value c.in_ok-add_place.ensures;
    }

pub returns-clause-placed : goal.returns-clause-placed
returns-clause-placed c =
    placed_end c.args.entries.now c.loop-index.index c.loop-index.places.items c.loop-index.invariant.placed
    c.loop-index-test.false
