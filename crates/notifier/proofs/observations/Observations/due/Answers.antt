use Rattle.std.proofs.Common.{◌∙◌, ap, sym, take, slice_get}
use Rattle.std.proofs.lemmas.Option.{slice_get-get_or}
use Rattle.notification_times.proofs.Firsts.{same_first}
use Rattle.notifier.specs.Due.{is_one_due}
use Rattle.notifier.specs.Said.{Watch}
use Rattle.notifier.proofs.Dues.{one_more_due}
use Rattle.notifier.proofs.observations.Observations.due.Goals as goal

pub loop-place-preserved : goal.loop-place-preserved
loop-place-preserved c =
    let os = c.args.self.now.list in
    let ss = c.args.self.now.said in
    let i = c.loop-place.place in
    let p = is_one_due (take i os) (take i ss) in
    same_first _ _ c.args.now c.earlier-first.result
    (λ clock. one_more_due os ss i c.index.result.now _ clock
    (ap (λ (w : Watch). slice_get w.list i) (sym c.self.view_is) ∙ c.index.ensures)
    (ap (λ xs. slice_get xs i) (sym (c.deref-outlook-items.ensures.value ∙ ap (λ (w : Watch). w.said) c.self.view_is))
    ∙ slice_get-get_or c.deref-outlook-items.result.now i _ c.loop-place-test.true))
    (c.earlier-first.ensures p _ c.args.now c.loop-place.invariant c.next_of.ensures)
