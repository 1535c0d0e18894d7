-- What contracts see of outputs.
use Rattle.std.specs.Prelude.{List, [], ◌∷◌}
use Rattle.device_machine.specs.declared.output.Output.{Output}
use Rattle.device_machine.specs.declared.output.Items.{Items}
use Rattle.device_machine.specs.declared.output.Items.TheVariants.{One, Listed}

abbrev pub items_of : Items → List Output
items_of (One output) = output ∷ []
items_of (Listed outputs) = outputs.items
