-- JSON values (RFC 8259) as tables: an object has its members in the order in which they are written.
use Rattle.std.specs.Prelude.{ℕ, ℤ, List, [], ◌∷◌}
use Rattle.serde_json.specs.Data.{Data, Items, Members, put}
use Rattle.serde_json.specs.Data as json
use Rattle.serde_json.specs.Find.{of_integer}
use Rattle.serde_json.specs.View.{items_of}

-- a member of an object: its key and its value
abbrev pub Field : Type 0
Field = List ℕ × Data

abbrev pub fields_json : List Field → Members
fields_json [] = json.no_members
fields_json (f ∷ fs) = json.member f.0 f.1 (fields_json fs)

-- an object with these members
abbrev pub object_json : List Field → Data
object_json fields = json.object (fields_json fields)

-- an array of these values
abbrev pub list_json : List Data → Data
list_json values = json.array (items_of values)

-- a number from 0 on, and any integer
abbrev pub number_json : ℕ → Data
number_json n = json.number (json.unsigned n)

abbrev pub integer_json : ℤ → Data
integer_json z = json.number (of_integer z)

-- the same value as a reader holds it: the members of each object in the order of their keys, each of which goes to
-- its place among those before it
abbrev mutual
  pub by_key : Data → Data
  by_key json.null = json.null
  by_key (json.boolean b) = json.boolean b
  by_key (json.number n) = json.number n
  by_key (json.string s) = json.string s
  by_key (json.array ds) = json.array (items_by_key ds)
  by_key (json.object ms) = json.object (members_by_key ms json.no_members)

  pub items_by_key : Items → Items
  items_by_key json.no_items = json.no_items
  items_by_key (json.item d ds) = json.item (by_key d) (items_by_key ds)

  pub members_by_key : Members → Members → Members
  members_by_key json.no_members found = found
  members_by_key (json.member k d ms) found = members_by_key ms (put k (by_key d) found)
