use Rattle.std.proofs.Common.{◌<◌, length, get_or, refl, subst, sym, ap, ◌∙◌, arith}
use Rattle.std.specs.FinMap as map
use Rattle.std.specs.List.{slice_get}
use Rattle.std.proofs.lemmas.List.{length-map}
use Rattle.std.proofs.lemmas.Option.{slice_get-get_or, slice_get_read}
use Rattle.instance_store.proofs.TableLaws.{entry_at}
use Rattle.instance_store.proofs.table.Table.entry.Goals as goal

pub bounds-numbers-index : goal.bounds-numbers-index
bounds-numbers-index g c =
    subst (λ n. c.args.index < n) (map.len-entries c.args.self.now
    ∙ sym (length-map (map.entries c.args.self.now) (λ e. e.0))
    ∙ ap length (sym c.numbers-numbers.ensures)) c.requires

pub offset_bounds-numbers-index : goal.offset_bounds-numbers-index
offset_bounds-numbers-index g c =
    let inside : c.args.index < length c.numbers-numbers.result.now =
    subst (λ n. c.args.index < n) (map.len-entries c.args.self.now
    ∙ sym (length-map (map.entries c.args.self.now) (λ e. e.0))
    ∙ ap length (sym c.numbers-numbers.ensures)) c.requires in
    omega (arith, inside, c.numbers-numbers.type_inv.1)

pub bounds-items-index : goal.bounds-items-index
bounds-items-index g c =
    subst (λ n. c.args.index < n) (map.len-entries c.args.self.now
    ∙ sym (length-map (map.entries c.args.self.now) (λ e. e.1))
    ∙ ap length (sym c.items-items.ensures)) c.requires

pub offset_bounds-items-index : goal.offset_bounds-items-index
offset_bounds-items-index g c =
    let inside : c.args.index < length c.items-items.result.now =
    subst (λ n. c.args.index < n) (map.len-entries c.args.self.now
    ∙ sym (length-map (map.entries c.args.self.now) (λ e. e.1))
    ∙ ap length (sym c.items-items.ensures)) c.requires in
    omega (arith, inside)

pub returns : goal.returns
returns g c =
    let es = map.entries c.args.self.now in
    let numbers_inside : c.args.index < length c.numbers-numbers.result.now =
    subst (λ n. c.args.index < n) (map.len-entries c.args.self.now ∙ sym (length-map es (λ e. e.0))
    ∙ ap length (sym c.numbers-numbers.ensures)) c.requires in
    let items_inside : c.args.index < length c.items-items.result.now =
    subst (λ n. c.args.index < n) (map.len-entries c.args.self.now ∙ sym (length-map es (λ e. e.1))
    ∙ ap length (sym c.items-items.ensures)) c.requires in
    entry_at es c.args.index (get_or c.numbers-numbers.result.now c.args.index 0) c.index-items-index.result
    (ap (λ ks. slice_get ks c.args.index) (sym c.numbers-numbers.ensures)
    ∙ slice_get-get_or c.numbers-numbers.result.now c.args.index 0 numbers_inside)
    (ap (λ xs. slice_get xs c.args.index) (sym c.items-items.ensures)
    ∙ slice_get_read c.items-items.result.now (length c.items-items.result.now) c.args.index
    c.index-items-index.result refl
    items_inside c.index-items-index.is)
