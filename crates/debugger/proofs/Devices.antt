-- Breakpoints on a device that has no row.
use Rattle.std.proofs.Common.{◌≡◌, ℕ, ◌-◌, ◌<◌, ◌≤◌, List, length, take, Option, None, Some, sym, subst, ◌∙◌, arith}
use Rattle.scenario_image.specs.Scenario.{Scenario}
use Rattle.trace_file.specs.declared.entry.Entry.{Entry}
use Rattle.fleet_core.specs.Run.{made_by, step_at, IsRun}
use Rattle.fleet_core.proofs.Taken.{row_below}
use Rattle.debugger.specs.declared.breaks.Break.{Break}
use Rattle.debugger.specs.declared.breaks.Break.TheVariants.{At, DeviceStep, Changed, Code, Notified}
use Rattle.debugger.specs.Stops.{Follows, Holds, device_in}
use Rattle.device_entries.proofs.Runs.{fits_at}
use Rattle.debugger.proofs.Rows.{no_value}

-- the device of an entry of a run has a row
follows_row : (s : Scenario) (es : List Entry) (d p : ℕ) (e : Entry) → IsRun s es → Follows es d p e → d < length s.rows
follows_row s es d p e run f =
    let fits = fits_at s es f.index e run f.stands in
    row_below s d e.step fits.step (subst (λ i. step_at s i e.step ≡ Some fits.step) f.own fits.stands)

no_entry : (s : Scenario) (es : List Entry) (i d p : ℕ) (e : Entry) → IsRun s es
    → ◌≡◌ {A = Option ℕ} (Some i) (Some d) → length s.rows ≤ d
    → Follows es i p e → ⊥
no_entry s es i d p e run on past follows =
    let same : i ≡ d = cc in
    let low : i < length s.rows = follows_row s es i p e run follows in
    omega (arith, same, low, past)

pub never_holds : (s : Scenario) (es : List Entry) (b : Break) (p d : ℕ) → IsRun s es → device_in b ≡ Some d
    → length s.rows ≤ d
    → Holds s es b p → ⊥
never_holds s es (At n) p d run on past holds = let e : ◌≡◌ {A = Option ℕ} None (Some d) = on in cc
never_holds s es (DeviceStep i k) p d run on past holds = no_entry s es i d p holds.0 run on past holds.1
never_holds s es (Changed i path) p d run on past holds =
    let e : ◌≡◌ {A = Option ℕ} (Some i) (Some d) = on in
    let same : i ≡ d = cc in
    let out : length s.rows ≤ i = omega (arith, same, past) in
    holds (no_value s i (made_by i (take (p - 1) es)) path out ∙ sym (no_value s i (made_by i (take p es)) path out))
never_holds s es (Code i code) p d run on past holds = no_entry s es i d p holds.0 run on past holds.1
never_holds s es (Notified i) p d run on past holds = no_entry s es i d p holds.0 run on past holds.1
