-- The first entries of a run, and how many are a device's.
use Rattle.std.proofs.Common.{◌≡◌, ℕ, suc, ◌+◌, List, take, drop, Some, slice_get, sym, ap}
use Rattle.std.proofs.Common.{subst, ◌∙◌, arith}
use Rattle.std.proofs.lemmas.List.{take-append-drop}
use Rattle.lemmas.proofs.Lists.{take_one_more}
use Rattle.scenario_image.specs.Scenario.{Scenario}
use Rattle.trace_file.specs.declared.entry.Entry.{Entry}
use Rattle.fleet_core.specs.Run.{made_by, Fits, IsRun}
use Rattle.fleet_core.proofs.Posts.{run_left, run_last, made_same, made_other}

-- the first entries of a run are a run
pub run_to : (s : Scenario) (es : List Entry) (n : ℕ) → IsRun s es → IsRun s (take n es)
run_to s es n run = run_left s (take n es) (drop n es) (subst (IsRun s) (sym (take-append-drop n es)) run)

-- each entry fits those before it
pub fits_at : (s : Scenario) (es : List Entry) (i : ℕ) (e : Entry) → IsRun s es → slice_get es i ≡ Some e
    → Fits s (take i es) e
fits_at s es i e run at = run_last s (take i es) e (subst (IsRun s) (take_one_more es i e at) (run_to s es (i + 1) run))

-- an entry of the device is one more
pub made_own : (es : List Entry) (d i : ℕ) (e : Entry) → slice_get es i ≡ Some e → e.device ≡ d
    → made_by d (take (i + 1) es) ≡ suc (made_by d (take i es))
made_own es d i e at own = ap (made_by d) (take_one_more es i e at) ∙ made_same d (take i es) e own

-- another device's entry is none more
pub made_else : (es : List Entry) (d i : ℕ) (e : Entry) → slice_get es i ≡ Some e → (e.device ≡ d → ⊥)
    → made_by d (take (i + 1) es) ≡ made_by d (take i es)
made_else es d i e at other = ap (made_by d) (take_one_more es i e at) ∙ made_other d (take i es) e other

-- the step of an entry is the count of its device's entries before it
pub step_before : (s : Scenario) (es : List Entry) (d i : ℕ) (e : Entry) → IsRun s es → slice_get es i ≡ Some e
    → e.device ≡ d
    → e.step ≡ made_by d (take i es)
step_before s es d i e run at own = (fits_at s es i e run at).count ∙ ap (λ j. made_by j (take i es)) own

pub step_counts : (s : Scenario) (es : List Entry) (d i : ℕ) (e : Entry) → IsRun s es → slice_get es i ≡ Some e
    → e.device ≡ d
    → made_by d (take (i + 1) es) ≡ e.step + 1
step_counts s es d i e run at own = omega (arith, made_own es d i e at own, step_before s es d i e run at own)
