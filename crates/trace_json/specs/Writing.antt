-- How values are written, and what makes a text read as its value.
use Rattle.std.specs.Prelude.{◌≡◌, ℕ, ◌^◌, ◌<◌, pos, negsuc, List, [], ◌∷◌, ◌++◌, Some}
use Rattle.json.specs.Token.{Token}
use Rattle.json.specs.Token as token
use Rattle.json.specs.Tree.{json_tokens}
use Rattle.serde_json.specs.Data.{Data, Items, Members, Num}
use Rattle.serde_json.specs.Data as json
use Rattle.serde_json.specs.Read.{read}
use Rattle.serde_json.specs.Written.{compact_text, outline}
use Rattle.scenario_words.specs.Words.{IsLine, ended_line}
use Rattle.trace_json.specs.Json.{Field, by_key}

-- the line of a value: its text, which has no space, and LF
unfoldable pub json_line : Data → List ℕ
json_line d = ended_line (compact_text d)

-- the text of a value is one line, and is read as the value
pub record IsReadAgain (d : Data) : Type 0 where
  pub line : IsLine (compact_text d)
  pub read_is : read (compact_text d) ≡ Some (by_key d)

-- ---- for private clauses

-- an integer of 64 bits: it is read as itself
abbrev pub Is64Bit : Num → Type 0
Is64Bit (json.unsigned n) = n < 2 ^ 64
Is64Bit (json.negative (pos n)) = ⊥
Is64Bit (json.negative (negsuc n)) = n < 2 ^ 63
Is64Bit (json.float x) = ⊥

-- each number in a value is one
abbrev mutual
  pub Has64Bits : Data → Type 0
  Has64Bits json.null = Unit {0}
  Has64Bits (json.boolean b) = Unit {0}
  Has64Bits (json.number n) = Is64Bit n
  Has64Bits (json.string s) = Unit {0}
  Has64Bits (json.array ds) = ItemsHave64Bits ds
  Has64Bits (json.object ms) = MembersHave64Bits ms

  pub ItemsHave64Bits : Items → Type 0
  ItemsHave64Bits json.no_items = Unit {0}
  ItemsHave64Bits (json.item d ds) = Has64Bits d × ItemsHave64Bits ds

  pub MembersHave64Bits : Members → Type 0
  MembersHave64Bits json.no_members = Unit {0}
  MembersHave64Bits (json.member k d ms) = Has64Bits d × MembersHave64Bits ms

-- the tokens of a value, and those of a member
abbrev pub tokens_of : Data → List Token
tokens_of d = json_tokens (outline d)

abbrev pub member_tokens : List ℕ → Data → List Token
member_tokens k d = token.key k ∷ tokens_of d

-- those of the members of an object
abbrev pub fields_tokens : List Field → List Token
fields_tokens [] = []
fields_tokens (f ∷ fs) = member_tokens f.0 f.1 ++ fields_tokens fs
