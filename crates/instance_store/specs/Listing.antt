-- What a listing of values shows.
use Rattle.std.specs.Prelude.{List, map as map_list}
use Rattle.std.proofs.Common.{Bor}
use Rattle.lwm2m_values.specs.declared.value.Value.{Value}
use Rattle.object_defs.specs.declared.path.FullPath.{FullPath}

-- the pairs of full paths and borrowed values, as pairs of full paths and values
abbrev pub shown_pairs : List (FullPath × Bor Value) → List (FullPath × Value)
shown_pairs pairs = map_list (λ p. (p.0, p.1.now)) pairs
