-- What a row outputs, from the start of its class.
use Rattle.std.specs.Prelude.{◌≡◌, ℕ, List, Some, length, slice_get}
use Rattle.device_template.specs.Template.{Template}
use Rattle.device_machine.specs.declared.output.Output.{Output}
use Rattle.scenario_image.specs.declared.step.Step.{Step}
use Rattle.scenario_image.specs.Play.{start, IsRowOf, PutsOut}
use Rattle.scenario_image.specs.Scenario.{Scenario}

-- a device of a scenario, played from the start of its class, outputs this: a list for each step of its row, in order
pub record AreRowOutputs (s : Scenario) (device : ℕ) (all : List (List Output)) : Type 0 where
  pub class : Template
  pub steps : List Step
  pub row : IsRowOf s device class steps
  pub count : length all ≡ length steps
  pub each : (k : ℕ) (outputs : List Output) → slice_get all k ≡ Some outputs → PutsOut (start class) steps k outputs
