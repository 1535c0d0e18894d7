-- Entries in pages.
use Rattle.std.specs.Prelude.{◌≡◌, ℕ, ◌+◌, ◌≤◌, List, [], length, vec_capacity}
use Rattle.std.specs.Global.{Vec}
use Rattle.std.specs.List.{AllByRecursion, flat_map}
use Rattle.trace_file.specs.declared.entry.Entry.{Entry}

-- what contracts see of pages: the entries, in order, and how many more there is room for
pub record PagesModel : Type 0 where
  pub held : List Entry
  pub room : ℕ

-- the entries of pages, page after page
abbrev pub entries_in : List (Vec Entry) → List Entry
entries_in pages = flat_map (λ p. p.items) pages

abbrev pub IsFullPage : Vec Entry → Type 0
IsFullPage page = length page.items ≡ 256

-- the page is empty, and has the memory for 256 entries
abbrev pub IsSparePage : Vec Entry → Type 0
IsSparePage page = (page.items ≡ []) × (256 ≤ vec_capacity page)

-- each page but the last one is full; the last one, and each spare one, has the memory for 256 entries; and the list of
-- the full ones, which is as long as places says, has a place for each spare one
pub record ArePages (full : List (Vec Entry)) (places : ℕ) (last : Vec Entry) (spare : List (Vec Entry)) : Type 0 where
  pub before : AllByRecursion IsFullPage full
  pub within : length last.items ≤ 256
  pub memory : 256 ≤ vec_capacity last
  pub after : AllByRecursion IsSparePage spare
  pub fits : length full + length spare ≤ places
