-- The seconds of a row.
use Rattle.std.proofs.Common.{◌≡◌, ℕ, zero, suc, ◌+◌, ◌*◌, ◌^◌, ◌<◌, ◌≤◌, true, List, [], ◌∷◌, length}
use Rattle.std.proofs.Common.{take, get_or, slice_get, sym, ap, subst}
use Rattle.std.proofs.Common.{arith}
use Rattle.std.specs.Prelude.{nat_le}
use Rattle.std.specs.List.{AllByRecursion, sum_by}
use Rattle.std.proofs.lemmas.Bool.{leb-true, and_parts}
use Rattle.std.proofs.lemmas.List.Sums.{sum_by-cons, sum_by_more, sum_by-take-le}
use Rattle.device_template.specs.Template.{Template}
use Rattle.device_machine.specs.declared.event.Event.TheVariants.{Recv, Put, Firmware, Tick}
use Rattle.scenario_image.specs.declared.step.Step.{Step}
use Rattle.scenario_image.specs.declared.step.Step.TheVariants.{Event, Post, Need}
use Rattle.scenario_image.specs.Scenario.{Row, Scenario, IsGoodStep, IsGoodRow, IsValid, is_in_range}
use Rattle.fleet_core.specs.Run.{steps_in}
use Rattle.trace_text.specs.Seconds.{step_seconds}

-- a step takes a day at most
short_step : (step : Step) → is_in_range step ≡ true → step_seconds step ≤ 86400
short_step (Event (Recv server bytes)) range = omega arith
short_step (Event (Put path value)) range = omega arith
short_step (Event (Firmware code)) range = omega arith
short_step (Event (Tick seconds)) range =
    leb-true seconds 86400 (and_parts (nat_le 1 seconds) (nat_le seconds 86400) range).1
short_step (Post group) range = omega arith
short_step (Need group count) range = omega arith

short_steps : (accounts : List ℕ) (steps : List Step) → AllByRecursion (IsGoodStep accounts) steps
    → sum_by step_seconds steps ≤ 86400 * length steps
short_steps accounts [] good = omega arith
short_steps accounts (x ∷ xs) good =
    omega (arith, sum_by-cons step_seconds x xs, short_step x good.0.range, short_steps accounts xs good.1)

short_row : (classes : List Template) (rows : List Row) (d : ℕ) → AllByRecursion (IsGoodRow classes) rows
    → sum_by step_seconds (steps_in (slice_get rows d)) ≤ 86400 * 4096
short_row classes [] d good = omega arith
short_row classes (r ∷ rows) zero good =
    omega (arith, short_steps good.0.class.accounts r.steps good.0.each, good.0.count)
short_row classes (r ∷ rows) (suc d) good = short_row classes rows d good.1

-- a row takes few seconds
pub few_seconds : (s : Scenario) (d : ℕ) (steps : List Step) → IsValid s → steps ≡ steps_in (slice_get s.rows d)
    → sum_by step_seconds steps < 2 ^ 32
few_seconds s d steps valid are =
    subst (λ l. sum_by step_seconds l < 2 ^ 32) (sym are) (omega (arith, short_row s.classes s.rows d valid.each))

-- the second after one step more
pub next_second : (steps : List Step) (at : ℕ) (step : Step) (second more : ℕ) → at < length steps
    → step ≡ get_or steps at step → second ≡ sum_by step_seconds (take at steps) → more ≡ step_seconds step
    → second + more ≡ sum_by step_seconds (take (at + 1) steps)
next_second steps at step second more within is so_far takes =
    let same : step_seconds step ≡ step_seconds (get_or steps at step) = ap step_seconds is in
    omega (arith, sum_by_more step_seconds steps at step within, same, so_far, takes)

-- it is one of the row's seconds
pub second_within : (steps : List Step) (at : ℕ) (step : Step) (second more : ℕ) → at < length steps
    → step ≡ get_or steps at step → second ≡ sum_by step_seconds (take at steps) → more ≡ step_seconds step
    → second + more ≤ sum_by step_seconds steps
second_within steps at step second more within is so_far takes =
    omega (
      arith,
      next_second steps at step second more within is so_far takes,
      sum_by-take-le step_seconds steps (at + 1),
    )
