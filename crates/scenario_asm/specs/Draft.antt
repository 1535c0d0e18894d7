-- What the lines of a scenario's text have stated so far.
use Rattle.std.specs.Prelude.{ℕ, ◌<◌, Bool, false, [], length, Option, None, Some, IfSome}
use Rattle.device_template.specs.Template.{Template}
use Rattle.scenario_image.specs.Scenario.{Scenario, with_class}

-- what was stated so far
pub record Draft : Type 0 where
  -- whether `scenario 1` was
  pub begun : Bool
  -- the classes but for the open one, and the devices with their steps
  pub scenario : Scenario
  -- the open class: the one begun last, until a device follows
  pub open_class : Option Template
  -- the object that was stated last in it
  pub object : Option ℕ

-- nothing was stated
abbrev pub nothing : Draft
nothing = record { begun = false; scenario = record { classes = []; rows = [] }; open_class = None; object = None }

abbrev pub with_open : Scenario → Option Template → Scenario
with_open s None = s
with_open s (Some class) = with_class s class

-- the scenario, whose last class is the open one, where there is one
abbrev pub closed_scenario : Draft → Scenario
closed_scenario d = with_open d.scenario d.open_class

-- the open class is one of 256 at most
abbrev pub HasRoom : Draft → Type 0
HasRoom d = IfSome d.open_class (λ _. length d.scenario.classes < 256)
