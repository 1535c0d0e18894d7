use Rattle.std.proofs.Common.{length, refl, sym, subst, take}
use Rattle.std.proofs.lemmas.Result.{err_from_is_err_and}
use Rattle.fleet_core.specs.Run.{IsRun}
use Rattle.fleet_core.specs.Verdict.{BreaksAt}
use Rattle.debugger.specs.Copies.{AreCopied}
use Rattle.device_entries.specs.Places.{ArePlaced}
use Rattle.debugger.specs.Session.{AreCounted}
use Rattle.debugger.proofs.Faults.{same_fault}
use Rattle.debugger.proofs.Keeping.{kept_start}
use Rattle.debugger.proofs.session.Debugger.open.Goals as goal

pub invariant_of-result : goal.invariant_of-result
invariant_of-result c =
    kept_start c.args.scenario.now c.args.entries _ refl
    (subst (IsRun c.args.scenario.now) c.as_slice.ensures c.in_ok-copies.ensures.run)
    (subst (λ l. AreCounted c.args.scenario.now (take 0 l) c.in_ok-made.made.items) c.as_slice-2.ensures
    c.in_ok-made.ensures)
    c.in_ok-devices.ensures.count c.in_ok-devices.ensures.started c.in_ok-breaks.ensures
    (subst (λ l. AreCopied c.args.scenario.now l c.in_ok-copies.copies.items) c.as_slice.ensures
    c.in_ok-copies.ensures.copied)
    c.in_ok-places.ensures.count
    (subst (λ l. ArePlaced l (length l) c.in_ok-places.places.items) c.as_slice-3.ensures
    c.in_ok-places.ensures.placed)

pub all_places-requires : goal.all_places-requires
all_places-requires c =
    subst (IsRun c.args.scenario.now) (sym c.as_slice-3.ensures)
    (subst (IsRun c.args.scenario.now) c.as_slice.ensures c.in_ok-copies.ensures.run)

pub returns-in_err-copies-clause-not_run : goal.returns-in_err-copies-clause-not_run
returns-in_err-copies-clause-not_run c =
    let p = err_from_is_err_and c.from_residual.result c.from_residual.ensures.1 in
    rw (p.1, p.2) (λ at is.
    subst (λ l. BreaksAt c.args.scenario.now l at) c.as_slice.ensures
    (c.in_err-copies.ensures.not_run at (same_fault _ _ is)))
