-- What is shown of a device at a place of a run.
use Rattle.std.specs.Prelude.{◌≡◌, ℕ, zero, suc, List, [], take, Option, None, Some, slice_get}
use Rattle.lwm2m_values.specs.declared.value.Value.{Value}
use Rattle.object_defs.specs.Path.{full_path}
use Rattle.object_defs.specs.declared.path.Path.{Path}
use Rattle.notifier.specs.declared.observation.Observation.{Observation}
use Rattle.device_template.specs.Template.{Template}
use Rattle.device_machine.specs.State.{Device, Machine, Shows, value_in}
use Rattle.device_machine.specs.declared.output.Output.{Output}
use Rattle.scenario_image.specs.declared.step.Step.{Step}
use Rattle.scenario_image.specs.Scenario.{Row, Scenario}
use Rattle.scenario_image.specs.Play.{state_at}
use Rattle.trace_file.specs.declared.entry.Entry.{Entry}
use Rattle.fleet_core.specs.Run.{made_by, out_at, step_at}

-- ---- what a row says

abbrev pub state_with : Option Template → List Step → ℕ → Option Machine
state_with None steps k = None
state_with (Some class) steps k = Some (state_at class steps k)

abbrev pub state_in_row : Scenario → Option Row → ℕ → Option Machine
state_in_row s None k = None
state_in_row s (Some row) k = state_with (slice_get s.classes row.class) row.steps k

-- the flat state of a device after the first k steps of its row; none where it has no row
abbrev pub state_of : Scenario → ℕ → ℕ → Option Machine
state_of s d k = state_in_row s (slice_get s.rows d) k

abbrev pub value_of : Option Machine → Path → Option Value
value_of None path = None
value_of (Some f) path = value_in f.kept (full_path path)

abbrev pub observations_of : Option Machine → List Observation
observations_of None = []
observations_of (Some f) = f.kept.observations

-- what a device outputs at the last of its first k steps; nothing before its first one
abbrev pub latest : Scenario → ℕ → ℕ → List Output
latest s d zero = []
latest s d (suc k) = out_at s d k

-- the last of the first k steps of a device; none before its first one
abbrev pub latest_step : Scenario → ℕ → ℕ → Option Step
latest_step s d zero = None
latest_step s d (suc k) = step_at s d k

-- the flat state right before it
abbrev pub state_before : Scenario → ℕ → ℕ → Option Machine
state_before s d zero = None
state_before s d (suc k) = state_of s d k

-- there is this flat state, and the device shows it
abbrev pub ShowsState : Option Machine → Device → Type 0
ShowsState state x = (f : Machine) × (state ≡ Some f) × Shows x f

-- ---- at a place: after as many steps as the device has entries before it

-- the value at a path
abbrev pub value_shown : Scenario → List Entry → ℕ → ℕ → Path → Option Value
value_shown s es n d path = value_of (state_of s d (made_by d (take n es))) path

-- the observations, in the order of registration
abbrev pub observations_shown : Scenario → List Entry → ℕ → ℕ → List Observation
observations_shown s es n d = observations_of (state_of s d (made_by d (take n es)))

-- the outputs of the device's latest entry
abbrev pub outputs_shown : Scenario → List Entry → ℕ → ℕ → List Output
outputs_shown s es n d = latest s d (made_by d (take n es))

-- the step of the device's latest entry
abbrev pub step_shown : Scenario → List Entry → ℕ → ℕ → Option Step
step_shown s es n d = latest_step s d (made_by d (take n es))

-- the flat state of the device right before that step
abbrev pub before_shown : Scenario → List Entry → ℕ → ℕ → Option Machine
before_shown s es n d = state_before s d (made_by d (take n es))
