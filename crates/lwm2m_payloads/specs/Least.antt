-- How many bytes records take at the least, as clauses of private functions name it. No promise rests on it.
use Rattle.std.specs.Prelude.{ℕ, ◌+◌, List, [], ◌∷◌, length}
use Rattle.lwm2m_values.specs.declared.value.Value.{Value}
use Rattle.lwm2m_values.specs.declared.value.Value.TheVariants.{Text, Whole, Flag, Opaque, Moment, Link}
use Rattle.object_defs.specs.declared.definition.ResourceDef.{ResourceDef}
use Rattle.object_defs.specs.declared.path.Path.TheVariants as path
use Rattle.instance_store.specs.Stored.{Stored}
use Rattle.lwm2m_payloads.specs.Nodes.{Pairs, shown_in}

-- no more than the bytes of a value
abbrev pub least_bytes : Value → ℕ
least_bytes (Text t) = length t
least_bytes (Whole _) = 1
least_bytes (Flag _) = 1
least_bytes (Opaque b) = length b
least_bytes (Moment _) = 1
least_bytes (Link _ _) = 1

-- no more than the records of these values take, each with two bytes before its own
abbrev pub least_of : Pairs → ℕ
least_of [] = 0
least_of (e ∷ es) = 2 + least_bytes e.1 + least_of es

-- and no more than the record of an instance of an object does
abbrev pub least_of_instance : Stored → List ResourceDef → ℕ → ℕ → ℕ
least_of_instance stored resources object i = 2 + least_of (shown_in stored resources (path.Instance object i))

abbrev pub least_of_instances : Stored → List ResourceDef → ℕ → List ℕ → ℕ
least_of_instances stored resources object [] = 0
least_of_instances stored resources object (i ∷ instances) =
    least_of_instance stored resources object i + least_of_instances stored resources object instances
