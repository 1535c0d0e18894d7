-- What a device shows that has made the first steps of its row.
use Rattle.std.proofs.Common.{◌≡◌, ℕ, ◌<◌, ◌≤◌, length, None, Some, sym, ap}
use Rattle.std.proofs.Common.{◌∙◌}
use Rattle.std.proofs.lemmas.Option.{slice_get_past}
use Rattle.object_defs.specs.Path.{full_path}
use Rattle.object_defs.specs.declared.path.Path.{Path}
use Rattle.device_machine.specs.State.{Machine, Device, value_in}
use Rattle.scenario_image.specs.Scenario.{Scenario, IsValid}
use Rattle.scenario_image.specs.Play.{state_at}
use Rattle.scenario_image.proofs.RowLaws.{row_of}
use Rattle.fleet_core.specs.Board.{ShowsAfter}
use Rattle.debugger.specs.Shown.{ShowsState, state_with, state_in_row, state_of, value_of, observations_of}

-- the state of a row's device, and that a device shows it
pub record IsShown (s : Scenario) (d k : ℕ) (x : Device) : Type 0 where
  pub state : Machine
  pub is : state_of s d k ≡ Some state
  pub kept : x.flat.kept ≡ state.kept

pub shown_is : (s : Scenario) (d k : ℕ) (x : Device) → IsValid s → d < length s.rows → ShowsAfter s d k x
    → IsShown s d k x
shown_is s d k x valid within shows =
    let found = row_of s d valid within in
    let here = shows found.class found.steps found.row in
    record {
      state = state_at found.class found.steps k;
      is = ap (λ r. state_in_row s r k) found.row.row ∙ ap (λ c. state_with c found.steps k) found.row.stated;
      kept = here.kept;
    }

pub shows_state : (s : Scenario) (d k : ℕ) (x : Device) → IsValid s → d < length s.rows → ShowsAfter s d k x
    → ShowsState (state_of s d k) x
shows_state s d k x valid within shows =
    let found = row_of s d valid within in (
      state_at found.class found.steps k,
      ap (λ r. state_in_row s r k) found.row.row ∙ ap (λ c. state_with c found.steps k) found.row.stated,
      shows found.class found.steps found.row,
    )

pub value_is : (s : Scenario) (d k : ℕ) (x : Device) (path : Path) → IsValid s → d < length s.rows → ShowsAfter s d k x
    → value_in x.flat.kept (full_path path) ≡ value_of (state_of s d k) path
value_is s d k x path valid within shows =
    let shown = shown_is s d k x valid within shows in
    ap (λ kept. value_in kept (full_path path)) shown.kept ∙ sym (ap (λ m. value_of m path) shown.is)

pub observations_are : (s : Scenario) (d k : ℕ) (x : Device) → IsValid s → d < length s.rows → ShowsAfter s d k x
    → x.flat.kept.observations ≡ observations_of (state_of s d k)
observations_are s d k x valid within shows =
    let shown = shown_is s d k x valid within shows in
    ap (λ kept. kept.observations) shown.kept ∙ sym (ap observations_of shown.is)

-- where there is no row there is no value
pub no_value : (s : Scenario) (d k : ℕ) (path : Path) → length s.rows ≤ d → value_of (state_of s d k) path ≡ None
no_value s d k path past = ap (λ r. value_of (state_in_row s r k) path) (slice_get_past s.rows d past)
