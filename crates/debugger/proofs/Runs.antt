-- What a run says of a device.
use Rattle.std.proofs.Common.{◌≡◌, ℕ, ◌+◌, List, take, Some, slice_get, sym, ap}
use Rattle.std.proofs.Common.{◌∙◌}
use Rattle.scenario_image.specs.Scenario.{Scenario}
use Rattle.trace_file.specs.declared.entry.Entry.{Entry}
use Rattle.fleet_core.specs.Run.{made_by, out_at, IsRun}
use Rattle.fleet_core.proofs.Ends.{made_most}
use Rattle.device_entries.proofs.Runs.{run_to, fits_at, made_own, step_before}
use Rattle.debugger.specs.Shown.{latest}
use Rattle.debugger.specs.Moves.{HasSteps}

-- a device has no more entries than its row has steps
pub has_steps : (s : Scenario) (es : List Entry) (d n : ℕ) → IsRun s es → HasSteps s d (made_by d (take n es))
has_steps s es d n run = made_most s (take n es) d (run_to s es n run)

-- an entry has the outputs of its device's latest step after it
pub own_outputs : (s : Scenario) (es : List Entry) (d i : ℕ) (e : Entry) → IsRun s es → slice_get es i ≡ Some e
    → e.device ≡ d → e.outputs ≡ latest s d (made_by d (take (i + 1) es))
own_outputs s es d i e run at own =
    let put : e.outputs ≡ out_at s d (made_by d (take i es)) =
    (fits_at s es i e run at).outputs
    ∙ (ap (λ k. out_at s e.device k) (step_before s es d i e run at own) ∙ ap
    (λ j. out_at s j (made_by d (take i es))) own) in
    put ∙ ap (latest s d) (sym (made_own es d i e at own))
