use Rattle.std.proofs.Common.{◌≡◌, ◌<◌, length, take, ◌∙◌, arith}
use Rattle.std.proofs.lemmas.List.{length-set, nil_from_length}
use Rattle.debugger.proofs.Moving.{last_ready, settled_all, settled_counts, settled_one}
use Rattle.debugger.proofs.moves.settle.Goals as goal

pub index_mut-requires : goal.index_mut-requires
index_mut-requires c =
    let ready = last_ready c.args._scenario.now (take c.args._to c.args._entries.now) c.loop-next.made.items
    c.loop-next.devices.items c.loop-next.moved.items c.pop.new.self.items c.in-Some.next c.loop-next.invariant.moved
    c.in-Some.ensures.items in
    let row : c.in-Some.next.device < length c.args._scenario.now.rows = ready.row in
    omega (arith, row, c.from-row.ensures, c.loop-next.invariant.moved.counts, c.loop-next.made.ok.0)

pub index_mut-requires-in-Some : goal.index_mut-requires-in-Some
index_mut-requires-in-Some c =
    let ready = last_ready c.args._scenario.now (take c.args._to c.args._entries.now) c.loop-next.made.items
    c.loop-next.devices.items c.loop-next.moved.items c.pop.new.self.items c.in-Some.next c.loop-next.invariant.moved
    c.in-Some.ensures.items in
    let row : c.in-Some.next.device < length c.args._scenario.now.rows = ready.row in
    omega (arith, row, c.from-row.ensures, c.loop-next.invariant.moved.count, c.loop-next.devices.ok.0)

pub loop-next-preserved : goal.loop-next-preserved
loop-next-preserved c = record {
  count = length-set c.loop-next.devices.items c.from-row.result c.in-Some.next.machine
      ∙ c.loop-next.invariant.count;
  moved = settled_one c.args._scenario.now (take c.args._to c.args._entries.now) c.from-row.result
      c.loop-next.made.items c.loop-next.devices.items c.loop-next.moved.items c.pop.new.self.items c.in-Some.next
      c.loop-next.invariant.moved c.in-Some.ensures.items c.from-row.ensures;
}

pub returns-clause-counted : goal.returns-clause-counted
returns-clause-counted c =
    let none : length c.loop-next.moved.items ≡ 0 =
    omega (arith, c.in_default.ensures.cases.0, c.loop-next.moved.ok.0) in
    settled_counts c.args._scenario.now (take c.args._to c.args._entries.now) c.loop-next.made.items
    c.loop-next.devices.items c.loop-next.moved.items c.loop-next.invariant.moved
    (nil_from_length c.loop-next.moved.items none)

pub returns-clause-shown : goal.returns-clause-shown
returns-clause-shown c =
    let none : length c.loop-next.moved.items ≡ 0 =
    omega (arith, c.in_default.ensures.cases.0, c.loop-next.moved.ok.0) in
    settled_all c.args._scenario.now (take c.args._to c.args._entries.now) c.loop-next.made.items
    c.loop-next.devices.items c.loop-next.moved.items c.loop-next.invariant.moved
    (nil_from_length c.loop-next.moved.items none)
