use Rattle.std.proofs.Common.{refl, Ok, Err, Result, OnErr}
use Rattle.std.proofs.lemmas.Option.{slice_get_read}
use Rattle.scenario_image.proofs.Played.{accepted, goes_on, left_behind, never_stopped}
use Rattle.scenario_image.proofs.playing.take_steps.Goals as goal

on_err : {A E P : Type 0} (r : Result A E) → P → OnErr r P
on_err (Ok x) p = tt
on_err (Err e) p = p

pub loop-step-preserved : goal.loop-step-preserved
loop-step-preserved c =
    goes_on c.args.device.now c.loop-step.device c.take_step.new.device c.args.steps.now c.loop-step.step-index
    c.loop-step.all.items c.keep.new.all.items
    c.step-item.result c.in_ok-outputs.outputs c.loop-step.invariant
    (slice_get_read c.args.steps.now _ c.loop-step.step-index c.step-item.result refl c.loop-step-test.true
    c.step-item.is)
    c.in_ok-outputs.ensures.outputs c.in_ok-outputs.ensures.shows c.in_ok-outputs.ensures.asked
    (accepted c.in_ok-outputs.outputs _ c.in_ok-outputs.ensures.spent) c.in_ok-outputs.ensures.unheard
    c.in_ok-keep.ensures

pub returns-clause-stopped : goal.returns-clause-stopped
returns-clause-stopped c =
    λ f h stopped. absurd (never_stopped c.args.device.now c.loop-step.device c.args.steps.now c.loop-step.step-index
    c.loop-step.all.items c.loop-step.invariant c.loop-step-test.false f h stopped)

pub returns-in_err-keep-clause-left : goal.returns-in_err-keep-clause-left
returns-in_err-keep-clause-left c =
    λ f h. on_err c.from_residual-in_err-keep.result
    (left_behind c.args.device.now c.loop-step.device c.take_step.new.device c.args.steps.now c.loop-step.step-index
    c.loop-step.all.items c.step-item.result c.loop-step.invariant
    (slice_get_read c.args.steps.now _ c.loop-step.step-index c.step-item.result refl c.loop-step-test.true
    c.step-item.is) c.in_ok-outputs.ensures.shows f h)
