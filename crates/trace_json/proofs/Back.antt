-- The entry that an object was written for, found again from what is read.
use Rattle.std.proofs.Common.{◌≡◌, ℕ, ◌+◌, ◌*◌, ◌==◌, ℤ, pos, negsuc, Bool, false, cond, codes, List, []}
use Rattle.std.proofs.Common.{Option, None, Some, Result, Ok, Err, refl, ap, slice_index}
use Rattle.hex.specs.Hex.{decode_of, encode_upper}
use Rattle.hex.specs.declared.error.FromHexError.{FromHexError}
use Rattle.hex.proofs.HexLemmas.{decode_of-encode_upper}
use Rattle.byte_layout.specs.Exact.{IsBytes}
use Rattle.lwm2m_values.specs.Value.{IsGood}
use Rattle.lwm2m_values.specs.declared.value.Value.{Value}
use Rattle.lwm2m_values.specs.declared.value.Value.TheVariants.{Text, Whole, Flag, Opaque, Moment, Link}
use Rattle.object_defs.specs.declared.path.Path.{Path}
use Rattle.object_defs.specs.declared.path.Path.TheVariants.{Object}
use Rattle.object_defs.specs.Path.{path_text}
use Rattle.scenario_words.specs.declared.cause.Cause.{Cause}
use Rattle.scenario_words.specs.PathWord.{IsPath, path_of}
use Rattle.scenario_words.proofs.PathLaws.{path_again as path_read}
use Rattle.serde_json.specs.Data.{Data, Items, Num}
use Rattle.serde_json.specs.Data as json
use Rattle.serde_json.specs.Find.{get, of_integer}
use Rattle.trace_json.specs.Json.{by_key}
use Rattle.trace_json.specs.Steps.{value_json}

-- ---- members of what was read

abbrev some_data : Option Data → Data
some_data None = json.null
some_data (Some d) = d

abbrev pub data_at : List ℕ → Data → Data
data_at key d = some_data (get key d)

abbrev pub text_in : Data → List ℕ
text_in (json.string s) = s
text_in _ = []

abbrev natural_in : Num → ℕ
natural_in (json.unsigned n) = n
natural_in _ = 0

abbrev pub number_in : Data → ℕ
number_in (json.number n) = natural_in n
number_in _ = 0

abbrev whole_in : Num → ℤ
whole_in (json.unsigned n) = pos n
whole_in (json.negative z) = z
whole_in (json.float x) = pos 0

abbrev pub integer_in : Data → ℤ
integer_in (json.number n) = whole_in n
integer_in _ = pos 0

abbrev pub flag_in : Data → Bool
flag_in (json.boolean b) = b
flag_in _ = false

whole_again : (z : ℤ) → integer_in (json.number (of_integer z)) ≡ z
whole_again (pos n) = refl
whole_again (negsuc n) = refl

-- ---- bytes in hex, and paths

abbrev ok_bytes : Result (List ℕ) FromHexError → List ℕ
ok_bytes (Ok bytes) = bytes
ok_bytes (Err e) = []

abbrev pub bytes_in : Data → List ℕ
bytes_in d = ok_bytes (decode_of (text_in d))

pub bytes_again : (bytes : List ℕ) → IsBytes bytes → bytes_in (json.string (encode_upper bytes)) ≡ bytes
bytes_again bytes h = ap ok_bytes (decode_of-encode_upper bytes h)

abbrev ok_path : Result Path Cause → Path
ok_path (Ok p) = p
ok_path (Err e) = Object 0

abbrev pub path_in : Data → Path
path_in d = ok_path (path_of (text_in d))

pub path_again : (p : Path) → IsPath p → path_in (json.string (path_text p)) ≡ p
path_again p h = ap ok_path (path_read p h)

-- ---- values

-- the first two letters of the name of a kind, by which kinds differ
abbrev letters : List ℕ → ℕ
letters w = slice_index w 0 * 256 + slice_index w 1

abbrev pub is_named : List ℕ → Data → Bool
is_named name d = letters (text_in (data_at (codes "kind") d)) == letters name

abbrev pub value_in : Data → Value
value_in d =
    cond (is_named (codes "text") d) (Text (text_in (data_at (codes "value") d)))
    (cond (is_named (codes "integer") d) (Whole (integer_in (data_at (codes "value") d)))
    (cond (is_named (codes "boolean") d) (Flag (flag_in (data_at (codes "value") d)))
    (cond (is_named (codes "opaque") d) (Opaque (bytes_in (data_at (codes "value") d)))
    (cond (is_named (codes "time") d) (Moment (integer_in (data_at (codes "value") d)))
    (Link (number_in (data_at (codes "object") d)) (number_in (data_at (codes "instance") d)))))))

pub value_again : (v : Value) → IsGood v → value_in (by_key (value_json v)) ≡ v
unfolding value_json
value_again (Text t) good = refl
value_again (Whole z) good = ap Whole (whole_again z)
value_again (Flag b) good = refl
value_again (Opaque bytes) good = ap Opaque (bytes_again bytes good.0)
value_again (Moment z) good = ap Moment (whole_again z)
value_again (Link o i) good = refl
