use Rattle.std.specs.Prelude.{ℕ, List}
use Rattle.lwm2m_values.specs.declared.value.Value.{Value}

-- the values of resource instances with their numbers
abbrev pub PartList : Type 0
PartList = List (ℕ × Value)
