-- How a table keeps its items, by ascending numbers, as clauses of private functions name it. No promise rests on it.
use Rattle.std.specs.Prelude.{◌≡◌, ℕ, suc, ◌==◌, cond, List, [], ◌∷◌, length}
use Rattle.std.specs.List.{zip}
use Rattle.std.specs.List.Sorted.{IsStrictlyIncreasing}
use Rattle.std.specs.Ordering.{nat_cmp}
use Rattle.std.specs.FinMap as map

-- items by their numbers
abbrev pub TableOf : Type 0 → Type 0
TableOf T = map.FinMap nat_cmp T

-- the table of these numbers and, each beside its number, these items
abbrev pub table_of : {T : Type 0} → List ℕ → List T → TableOf T
table_of numbers items = map.from_entries (zip numbers items)

-- the numbers ascend, and each has an item
pub record IsTable {T : Type 0} (numbers : List ℕ) (items : List T) : Type 0 where
  pub ascending : IsStrictlyIncreasing numbers
  pub paired : length items ≡ length numbers

-- the index of a number in a list, or the list's length where there is none
abbrev pub index_in : List ℕ → ℕ → ℕ
index_in [] n = 0
index_in (x ∷ xs) n = cond (x == n) 0 (suc (index_in xs n))
