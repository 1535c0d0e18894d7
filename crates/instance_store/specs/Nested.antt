-- A finite map of finite maps as one finite map: the keys of the outer one joined to those of the inner ones.
use Rattle.std.specs.Prelude.{List, [], ◌∷◌, ◌++◌, map as map_list}
use Rattle.std.specs.declared.cmp.Ordering.{Ordering}
use Rattle.std.specs.FinMap as map

-- entries whose keys are each joined to one outer key
abbrev pub block : {N K P V : Type 0} → (N → K → P) → N → List (K × V) → List (P × V)
block up n es = map_list (λ e. (up n e.0, e.1)) es

-- the entries of all inner maps, one map after another
abbrev pub flat_entries : {N K P V : Type 0} {S : K → K → Ordering} → (N → K → P) → List (N × map.FinMap S V)
    → List (P × V)
flat_entries up [] = []
flat_entries up (e ∷ es) = block up e.0 (map.entries e.1) ++ flat_entries up es

abbrev pub joined_map : {N K P V : Type 0} {Q : N → N → Ordering} {S : K → K → Ordering} {R : P → P → Ordering}
    → (N → K → P) → map.FinMap Q (map.FinMap S V) → map.FinMap R V
joined_map up m = map.from_entries (flat_entries up (map.entries m))
