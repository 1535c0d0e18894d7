use Rattle.std.proofs.Common.{◌<◌, length, set, not, is_some, sym, subst, ap, ◌∙◌}
use Rattle.std.specs.List.{insert}
use Rattle.std.specs.FinMap as map
use Rattle.instance_store.specs.Table.{table_of}
use Rattle.instance_store.proofs.TableLaws.{table-set, table-insert, IsTable-insert, none-table, some-table, index-ok}
use Rattle.instance_store.proofs.table.Table.insert.Goals as goal

pub returns-in_err-reserve-in-Err-clause-may_lack_memory : goal.returns-in_err-reserve-in-Err-clause-may_lack_memory
returns-in_err-reserve-in-Err-clause-may_lack_memory g c =
    λ _. rw (← c.self.view_is) (none-table c.self.inside.numbers.items c.self.inside.items.items c.in-Err.index
    c.args.number c.self.invariant (rw c.deref.ensures.value at c.in-Err.ensures.position))

pub returns-in_err-insert-in-Err-clause-may_lack_memory : goal.returns-in_err-insert-in-Err-clause-may_lack_memory
returns-in_err-insert-in-Err-clause-may_lack_memory g c =
    λ _. rw (← c.self.view_is) (none-table c.self.inside.numbers.items c.self.inside.items.items c.in-Err.index
    c.args.number c.self.invariant (rw c.deref.ensures.value at c.in-Err.ensures.position))

pub invariant_of-self-in-Err : goal.invariant_of-self-in-Err
invariant_of-self-in-Err g c =
    rw (c.in-Ok-insert.ensures.items, c.in_ok-insert-in-Err.ensures.items, c.in_ok-reserve-in-Err.ensures.items)
    (IsTable-insert c.self.inside.numbers.items c.self.inside.items.items c.in-Err.index c.args.number c.args.item
    c.self.invariant (rw c.deref.ensures.value at c.in-Err.ensures.position))

pub returns-in-Ok-clause-ok : goal.returns-in-Ok-clause-ok
returns-in-Ok-clause-ok g c =
    let numbers = c.self.inside.numbers.items in
    let items = c.self.inside.items.items in
    let found = rw c.deref.ensures.value at c.in-Ok.ensures.position in
    let at = index-ok numbers c.in-Ok.index c.args.number c.self.invariant.ascending found in
    ap (λ i. table_of numbers (set items i c.args.item)) at
    ∙ table-set numbers items c.args.number c.args.item c.self.invariant.paired
    (subst (λ i. i < length numbers) at (rw c.deref.ensures.value at c.in-Ok.ensures.bound))
    ∙ ap (λ m. map.insert m c.args.number c.args.item) c.self.view_is

pub returns-in-Ok-insert-clause-ok : goal.returns-in-Ok-insert-clause-ok
returns-in-Ok-insert-clause-ok g c =
    let numbers = c.self.inside.numbers.items in
    let items = c.self.inside.items.items in
    let number = c.args.number in
    let index = c.in-Err.index in
    ap (λ ns. table_of ns c.insert.new.self.items) c.in-Ok-insert.ensures.items
    ∙ ap (λ ns. table_of (insert ns index number) c.insert.new.self.items) c.in_ok-reserve-in-Err.ensures.items
    ∙ ap (λ xs. table_of (insert numbers index number) xs) c.in_ok-insert-in-Err.ensures.items
    ∙ table-insert numbers items index number c.args.item c.self.invariant
    (rw c.deref.ensures.value at c.in-Err.ensures.position)
    ∙ ap (λ m. map.insert m number c.args.item) c.self.view_is

pub returns-in-Ok-clause-added : goal.returns-in-Ok-clause-added
returns-in-Ok-clause-added g c =
    let found = rw c.deref.ensures.value at c.in-Ok.ensures.position in
    sym (ap not (ap (λ m. map.contains_key m c.args.number) (sym c.self.view_is)
    ∙ some-table c.self.inside.numbers.items c.self.inside.items.items c.in-Ok.index c.args.number
    c.self.invariant found
    (rw c.self.invariant.paired (rw c.deref.ensures.value at c.in-Ok.ensures.bound))))

pub returns-in-Ok-insert-clause-added : goal.returns-in-Ok-insert-clause-added
returns-in-Ok-insert-clause-added g c =
    sym (ap (λ o. not (is_some o)) (ap (λ m. map.get m c.args.number) (sym c.self.view_is)
    ∙ none-table c.self.inside.numbers.items c.self.inside.items.items c.in-Err.index c.args.number c.self.invariant
    (rw c.deref.ensures.value at c.in-Err.ensures.position)))
