use Rattle.std.proofs.Common.{◌≡◌, [], ◌∷◌, ◌++◌, ◌∙◌, take, get_or, ap, sym, append-nil, append_assoc, arith}
use Rattle.std.proofs.lemmas.List.{take_all, take_more}
use Rattle.fleet_wire.specs.Happened.{happened_in}
use Rattle.fleet_wire.proofs.happened.Happened.add_all.Goals as goal

pub loop-note-init : goal.loop-note-init
loop-note-init c = λ before h. h ∙ ap happened_in (sym (append-nil before))

pub loop-note-preserved : goal.loop-note-preserved
loop-note-preserved c =
    λ before h.
    let notes = c.args.notes.now in
    let i = c.loop-note.note-index in
    c.add.ensures (before ++ take i notes) (c.loop-note.invariant before h)
    ∙ ap happened_in (append_assoc before (take i notes) (get_or notes i _ ∷ [])
    ∙ ap (λ l. before ++ l) (sym (take_more notes i _ c.loop-note-test.true)))

pub returns : goal.returns
returns c =
    λ before h.
    c.loop-note.invariant before h
    ∙ ap (λ l. happened_in (before ++ l)) (take_all c.loop-note.note-index c.args.notes.now (omega (
      arith,
      c.loop-note-test.false,
    )))
