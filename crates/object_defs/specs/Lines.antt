-- A list of lines, of which the first that applies decides.
use Rattle.std.specs.Prelude.{Bool, List, [], ◌∷◌, Option, None, Some, if◌then◌else◌}

-- the value of the first line that applies
abbrev pub first_line : {X : Type 0} → List (Bool × X) → Option X
first_line [] = None
first_line (line ∷ lines) = if line.0 then Some line.1 else first_line lines
