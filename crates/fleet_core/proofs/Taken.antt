-- The steps of a valid scenario's rows, which the devices take.
use Rattle.std.proofs.Common.{◌≡◌, ℕ, ◌+◌, ◌<◌, false, List, length, Some, Result, Ok, Err, IfOk, OnOk, slice_get}
use Rattle.std.proofs.Common.{sym, subst, add-one}
use Rattle.std.proofs.lemmas.Option.{slice_get_within}
use Rattle.device_machine.specs.declared.output.Output.{Output}
use Rattle.device_machine.specs.State.{Machine, Device, Shows}
use Rattle.scenario_image.specs.declared.step.Step.{Step}
use Rattle.scenario_image.specs.Scenario.{Scenario, IsValid}
use Rattle.scenario_image.specs.Play.{start, step_after, step_outputs, state_at, is_step_refused}
use Rattle.fleet_core.specs.Run.{step_at, out_at}
use Rattle.fleet_core.specs.Board.{AreStarted, ShowsAfter}
use Rattle.fleet_core.proofs.Valid.{in_row, step_is, step_stands, state-more, takes_step}
use Rattle.fleet_core.proofs.Board.{puts_out}

-- a device that has made the steps before it takes the step
pub step_taken : (s : Scenario) (d k : ℕ) (step : Step) (x : Device) → IsValid s → step_at s d k ≡ Some step
    → ShowsAfter s d k x
    → is_step_refused x step ≡ false
step_taken s d k step x valid at shows = takes_step s d k step x (step_is s d k step valid at) shows

-- and then it has made one step more
pub shows_next : (s : Scenario) (d k : ℕ) (step : Step) (x y : Device) → IsValid s → step_at s d k ≡ Some step
    → ShowsAfter s d k x
    → ((f : Machine) → Shows x f → Shows y (step_after f step)) → ShowsAfter s d (k + 1) y
shows_next s d k step x y valid at shows next = λ class steps row.
    let stands : slice_get steps k ≡ Some step = step_stands s d k step class steps row at in
    subst (λ n. Shows y (state_at class steps n)) (sym (add-one k))
    (subst (λ f. Shows y f) (sym (state-more steps k step (start class) stands))
    (next (state_at class steps k) (shows class steps row)))

-- what it outputs is what the row says
pub outputs_next : (s : Scenario) (d k : ℕ) (step : Step) (x : Device) (out : List Output) → IsValid s
    → step_at s d k ≡ Some step
    → ShowsAfter s d k x → ((f : Machine) → Shows x f → out ≡ step_outputs f step) → out ≡ out_at s d k
outputs_next s d k step x out valid at shows puts =
    puts_out s d k step out (step_is s d k step valid at)
    (λ class steps row. puts (state_at class steps k) (shows class steps row))

pub shows_first : (s : Scenario) (devices : List Device) (d : ℕ) (x : Device) → AreStarted s devices
    → slice_get devices d ≡ Some x
    → ShowsAfter s d 0 x
shows_first s devices d x started at = λ class steps row. started.each d x at class steps row

pub place_below : (s : Scenario) (d k : ℕ) (step : Step) → IsValid s → step_at s d k ≡ Some step → k < 4096
place_below s d k step valid at = (step_is s d k step valid at).early

pub row_below : (s : Scenario) (d k : ℕ) (step : Step) → step_at s d k ≡ Some step → d < length s.rows
row_below s d k step at =
    let found = in_row (slice_get s.rows d) k step at in
    slice_get_within s.rows d found.0 found.1

-- ---- where the step may have failed

pub ok_outputs : {E : Type 0} (s : Scenario) (d k : ℕ) (step : Step) (x : Device) (r : Result (List Output) E)
    → IsValid s
    → step_at s d k ≡ Some step → ShowsAfter s d k x
    → ((f : Machine) → Shows x f → IfOk r (λ o. o ≡ step_outputs f step))
    → IfOk r (λ o. o ≡ out_at s d k)
ok_outputs s d k step x (Ok out) valid at shows puts = outputs_next s d k step x out valid at shows puts
ok_outputs s d k step x (Err e) valid at shows puts = tt

pub ok_shows : {A E : Type 0} (s : Scenario) (d k : ℕ) (step : Step) (x y : Device) (r : Result A E) → IsValid s
    → step_at s d k ≡ Some step → ShowsAfter s d k x
    → ((f : Machine) → Shows x f → OnOk r (Shows y (step_after f step)))
    → OnOk r (ShowsAfter s d (k + 1) y)
ok_shows s d k step x y (Ok a) valid at shows next = shows_next s d k step x y valid at shows next
ok_shows s d k step x y (Err e) valid at shows next = tt
