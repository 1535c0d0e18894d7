use Rattle.std.proofs.Common.{◌∙◌, ap, refl, sym}
use Rattle.std.proofs.lemmas.Result.{err_from_is_err_and}
use Rattle.lemmas.proofs.Results.{on_ok}
use Rattle.fleet_lines.specs.Counting.{WatchedPorts}
use Rattle.command_fleet.proofs.Settled.{asked_as, fleet_as}
use Rattle.command_fleet.proofs.Told.{cut_traffic, cut_when, told_as, told_when}
use Rattle.command_fleet.proofs.serving.turn.Goals as goal

pub returns-in_ok-tell_traffic-in-Ok-clause-fleet : goal.returns-in_ok-tell_traffic-in-Ok-clause-fleet
returns-in_ok-tell_traffic-in-Ok-clause-fleet g c =
    λ s played before h. on_ok c.tell_if_later.result _
    (fleet_as s played before _ _ _ _ _ c.tell_traffic.ensures.same (c.in-Ok.ensures.fleet s played before h))

pub returns-in_ok-tell_traffic-in-Ok-clause-asked : goal.returns-in_ok-tell_traffic-in-Ok-clause-asked
returns-in_ok-tell_traffic-in-Ok-clause-asked g c =
    λ read_before asked_before calls h. on_ok c.tell_if_later.result _
    (asked_as _ _ _ _ _ _ _ _ c.tell_traffic.ensures.asked (c.in-Ok.ensures.heard read_before asked_before calls h))

pub returns-in_ok-tell_traffic-in-Ok-clause-wire : goal.returns-in_ok-tell_traffic-in-Ok-clause-wire
returns-in_ok-tell_traffic-in-Ok-clause-wire g c =
    on_ok c.tell_if_later.result _
    (c.tell_traffic.ensures.wire
    ∙ ap (λ (w : WatchedPorts). w.wire) (c.watched_is_fixed.ensures _ _ c.turn.ensures.fixed))

pub returns-in_ok-tell_traffic-in-Ok-clause-began : goal.returns-in_ok-tell_traffic-in-Ok-clause-began
returns-in_ok-tell_traffic-in-Ok-clause-began g c =
    on_ok c.tell_if_later.result _
    (c.tell_traffic.ensures.began
    ∙ ap (λ (w : WatchedPorts). w.began) (c.watched_is_fixed.ensures _ _ c.turn.ensures.fixed))

pub returns-in_ok-tell_traffic-in-Ok-clause-repeats : goal.returns-in_ok-tell_traffic-in-Ok-clause-repeats
returns-in_ok-tell_traffic-in-Ok-clause-repeats g c =
    on_ok c.tell_if_later.result _ (λ e. c.turn.ensures.went.repeats e)

pub returns-in_ok-tell_traffic-in-Ok-clause-swept : goal.returns-in_ok-tell_traffic-in-Ok-clause-swept
returns-in_ok-tell_traffic-in-Ok-clause-swept g c =
    λ s played before h. on_ok c.tell_if_later.result _ (c.in-Ok.ensures.swept s played before h)

pub returns-in_ok-tell_traffic-in-Ok-clause-told : goal.returns-in_ok-tell_traffic-in-Ok-clause-told
returns-in_ok-tell_traffic-in-Ok-clause-told g c =
    let same = c.watched_is_fixed.ensures _ _ c.turn.ensures.fixed in
    λ start h. told_when c.tell_if_later.result _ _ _ _ _ _ _ (sym c.second.ensures)
    (c.tell_if_later.ensures.told start _ _
    (c.in_ok-tell_traffic-in-Ok.ensures.told start _
    (told_as _ _ _ _ _ _ _ _ _ h (ap (λ (w : WatchedPorts). w.notes) same) (ap (λ (w : WatchedPorts). w.shown) same)
    c.second-last.ensures)))

pub returns-in_ok-tell_traffic-in-Ok-clause-cut : goal.returns-in_ok-tell_traffic-in-Ok-clause-cut
returns-in_ok-tell_traffic-in-Ok-clause-cut g c =
    let same = c.watched_is_fixed.ensures _ _ c.turn.ensures.fixed in
    λ start h. cut_when c.tell_if_later.result _ _ _ _ _ _ (sym c.second-last.ensures) (c.tell_if_later.ensures.cut
    start _ _
    (c.in_ok-tell_traffic-in-Ok.ensures.told start _
    (told_as _ _ _ _ _ _ _ _ _ h (ap (λ (w : WatchedPorts). w.notes) same) (ap (λ (w : WatchedPorts). w.shown) same)
    c.second-last.ensures)))

pub returns-in_err-tell_traffic-in-Ok-clause-cut : goal.returns-in_err-tell_traffic-in-Ok-clause-cut
returns-in_err-tell_traffic-in-Ok-clause-cut g c =
    let same = c.watched_is_fixed.ensures _ _ c.turn.ensures.fixed in
    let why = c.in_err-tell_traffic-in-Ok.ensures.refused in
    let r = c.from_residual in
    let p = err_from_is_err_and r.result r.ensures.1 in
    rw (p.1, p.2) (λ start h. cut_traffic c.args.telling _ _ why.0 _ why.1 _ start _ _ _
    (told_as _ _ _ _ _ _ _ _ _ h (ap (λ (w : WatchedPorts). w.notes) same)
    (ap (λ (w : WatchedPorts). w.shown) same) refl)
    (why.2, c.tell_traffic.ensures.only.2))
