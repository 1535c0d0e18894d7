-- What clauses of private functions name. No promise rests on it.
use Rattle.std.specs.Prelude.{ℕ, ℤ, List, [], ◌∷◌, map as map_list, length, IsFalse}
use Rattle.std.specs.Int.Digits.{number_from_digits}
use Rattle.std.specs.List.{list_any}
use Rattle.std.specs.FinMap as map
use Rattle.object_defs.specs.declared.path.Path.{Path}
use Rattle.notifier.specs.declared.attribute.AttributeKey.{AttributeKey}
use Rattle.notifier.specs.declared.attribute.Change.{Change}
use Rattle.notifier.specs.declared.attribute.Name.{Name}
use Rattle.notifier.specs.declared.attribute.Name.TheVariants as name
use Rattle.notifier.specs.declared.entries.Key.{Key}
use Rattle.notifier.specs.Attributes.{Numbers, assigned_number}
use Rattle.notifier.specs.Query.{is_of}

-- the numbers that the entries of an ordered map are
abbrev pub numbers_in : List (AttributeKey × ℤ) → Numbers
numbers_in es = map.from_entries es

-- no two changes are of one name
abbrev pub AreOfDistinctNames : List Change → Type 0
AreOfDistinctNames [] = Unit {0}
AreOfDistinctNames (c ∷ cs) = IsFalse (list_any (is_of c.name) cs) × AreOfDistinctNames cs

abbrev pub all_names : List Name
all_names = name.Pmin ∷ name.Pmax ∷ name.Gt ∷ name.Lt ∷ name.St ∷ []

-- the change of an attribute to the number that it has here, or to none; and of each of some names
abbrev pub change_as_in : Numbers → ℕ → Path → Name → Change
change_as_in m server place n = record { name = n; number = assigned_number m server place n }

abbrev pub changes_as_in : Numbers → ℕ → Path → List Name → List Change
changes_as_in m server place ns = map_list (change_as_in m server place) ns

-- the bytes of a token as one number, the highest first
abbrev pub token_number : List ℕ → ℕ
token_number token = number_from_digits 256 token

-- the key of the observation of a server under a token
abbrev pub name_key : ℕ → List ℕ → Key
name_key server token = record { server = server; len = length token; token = token_number token }
