use Rattle.std.proofs.Common.{length, refl, subst}
use Rattle.std.proofs.lemmas.Option.{slice_get_read}
use Rattle.case_text.specs.declared.item.Item.{Item}
use Rattle.case_play.specs.Ends.{AreEnds, EndsHold}
use Rattle.case_play.proofs.Each.{to_next, to_all}
use Rattle.case_play.proofs.below.first_wrong_end.Goals as goal

pub loop-place-preserved : goal.loop-place-preserved
loop-place-preserved c =
    let s = c.args.scenario.now in
    let es = c.args.entries.now in
    let item = c.index-items-place.result in
    to_next (λ (i : Item). EndsHold s es i.part i.answers) c.args.items.now c.loop-place.place item
    c.loop-place.invariant
    (slice_get_read c.args.items.now (length c.args.items.now) c.loop-place.place item refl c.loop-place-test.true
    c.index-items-place.is)
    (subst (λ l. EndsHold s es item.part l) c.as_slice.ensures
    (subst (AreEnds s es item.part c.as_slice.result.now) c.in-None.is c.in_ok-first_end.ensures))

pub returns : goal.returns
returns c =
    to_all (λ (i : Item). EndsHold c.args.scenario.now c.args.entries.now i.part i.answers) c.args.items.now
    c.loop-place.place c.loop-place.invariant c.loop-place-test.false
