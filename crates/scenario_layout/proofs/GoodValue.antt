-- Good values, paths and kinds have bytes.
use Rattle.std.proofs.Common.{◌≡◌, ℕ, ◌<◌, ◌≤◌, true, false, List, [], ◌++◌, length, Option, None, Some, refl, arith}
use Rattle.std.specs.Prelude.{nat_lt, IfSome}
use Rattle.std.specs.Int.{w8, w16}
use Rattle.std.specs.Str.{IsUtf8}
use Rattle.std.proofs.lemmas.Str.{is_utf8-from_IsUtf8, IsUtf8-from_is_utf8}
use Rattle.std.proofs.lemmas.Bool.{lt-ltb, ltb-true}
use Rattle.byte_layout.proofs.Steps.{behind_front, front_bytes}
use Rattle.byte_layout.specs.Exact.{IsBytes}
use Rattle.byte_layout.specs.Layout.{number, raw, layout_with_test}
use Rattle.byte_layout.specs.declared.fault.Break.TheVariants.{BadField}
use Rattle.byte_layout.proofs.Fields.{number_good, number_below, raw_good}
use Rattle.byte_layout.proofs.Signed.{signed64_good, signed64_fits}
use Rattle.lwm2m_values.specs.declared.kind.ValueKind.{ValueKind}
use Rattle.lwm2m_values.specs.declared.kind.ValueKind.TheVariants as kinds
use Rattle.lwm2m_values.specs.declared.value.Value.{Value}
use Rattle.lwm2m_values.specs.declared.value.Value.TheVariants as values
use Rattle.lwm2m_values.specs.Value.{kind_of, IsGood}
use Rattle.object_defs.specs.declared.path.FullPath.{FullPath}
use Rattle.object_defs.specs.declared.path.InstancePath.{InstancePath}
use Rattle.scenario_layout.specs.Value.{place, part_number, path, kind, text, opaque, of_kind, fits, value}

pub place_good : (p : InstancePath) → p.object < 65536 → p.instance < 65536 → place.Good p
unfolding place
place_good p o i = (number_good w16 p.object o, (number_good w16 p.instance i, refl))

part_good : (n : Option ℕ) → IfSome n (λ m. m < 65536) → part_number.Good n
unfolding part_number
part_good None h = ((number_good w8 0 (omega arith), refl), refl)
part_good (Some n) h = ((number_good w8 1 (omega arith), refl), (number_good w16 n h, refl))

pub path_good : (p : FullPath) → p.object < 65536 → p.instance < 65536 → p.resource < 65536
    → IfSome p.part (λ m. m < 65536) → path.Good p
unfolding path
path_good p o i r n = (
  number_good w16 p.object o,
  (number_good w16 p.instance i, (number_good w16 p.resource r, (part_good p.part n, refl))),
)

pub kind_good : (k : ValueKind) → kind.Good k
unfolding kind
kind_good kinds.Text = ((number_good w8 0 (omega arith), refl), refl)
kind_good kinds.Whole = ((number_good w8 1 (omega arith), refl), refl)
kind_good kinds.Flag = ((number_good w8 2 (omega arith), refl), refl)
kind_good kinds.Opaque = ((number_good w8 3 (omega arith), refl), refl)
kind_good kinds.Moment = ((number_good w8 4 (omega arith), refl), refl)
kind_good kinds.Link = ((number_good w8 5 (omega arith), refl), refl)

text_good : (t : List ℕ) → IsUtf8 t → length t ≤ 255 → text.Good t
unfolding text
text_good t utf8 short =
    ((number_good w8 (length t) (omega (arith, short)), raw_good (length t) t refl), is_utf8-from_IsUtf8 t utf8)

opaque_good : (b : List ℕ) → length b ≤ 1024 → opaque.Good b
unfolding opaque
opaque_good b short = (
  (number_good w16 (length b) (omega (arith, short)), lt-ltb (length b) 1025 (omega (arith, short))),
  raw_good (length b) b refl,
)

flag_good : (n : ℕ) → n < 2 → (layout_with_test BadField (λ m. nat_lt m 2) (number w8)).Good n
flag_good n lt = (number_good w8 n (omega (arith, lt)), lt-ltb n 2 lt)

held_good : (v : Value) → IsGood v → (of_kind (kind_of v)).Good v
held_good (values.Text t) good = (text_good t good.0 good.1, refl)
held_good (values.Whole z) good = (signed64_good z good, refl)
held_good (values.Flag true) good = (flag_good 1 (omega arith), refl)
held_good (values.Flag false) good = (flag_good 0 (omega arith), refl)
held_good (values.Opaque b) good = (opaque_good b good.1, refl)
held_good (values.Moment z) good = (signed64_good z good, refl)
held_good (values.Link o i) good = (number_good w16 o good.0, (number_good w16 i good.1, refl))

-- a valid value has bytes wherever its kind fits
pub value_good : (wanted : Option ValueKind) (v : Value) → IsGood v → fits wanted (kind_of v) ≡ true
    → (value wanted).Good v
unfolding value
value_good wanted v good fit = ((kind_good (kind_of v), fit), held_good v good)

pub good_text : (t : List ℕ) → text.Good t → IsUtf8 t × (length t ≤ 255)
unfolding text
good_text t h = (
  IsUtf8-from_is_utf8 t h.1,
  (let below : length t < 256 = number_below w8 (length t) h.0.0 in omega arith),
)

raw_bytes : (n : ℕ) (front a : List ℕ) → IsBytes (front ++ (raw n).spell a) → IsBytes a
unfolding raw
raw_bytes n front a h = behind_front front a h

good_opaque : (b : List ℕ) → opaque.Good b → IsBytes (opaque.spell b) → IsBytes b × (length b ≤ 1024)
unfolding opaque
good_opaque b h bytes = (
  raw_bytes (length b) ((number w16).spell (length b)) b bytes,
  (let below : length b < 1025 = ltb-true (length b) 1025 h.0.1 in omega arith),
)

held_is_good : (v : Value) → (of_kind (kind_of v)).Good v → IsBytes ((of_kind (kind_of v)).spell v) → IsGood v
held_is_good (values.Text t) h bytes = good_text t h.0
held_is_good (values.Whole z) h bytes = signed64_fits z h.0
held_is_good (values.Flag b) h bytes = tt
held_is_good (values.Opaque b) h bytes = good_opaque b h.0 (front_bytes (opaque.spell b) [] bytes)
held_is_good (values.Moment z) h bytes = signed64_fits z h.0
held_is_good (values.Link o i) h bytes = (number_below w16 o h.0, number_below w16 i h.1.0)

-- what has bytes, and spells bytes, is a valid value whose kind fits
pub good_value : (wanted : Option ValueKind) (v : Value) → (value wanted).Good v → IsBytes ((value wanted).spell v)
    → IsGood v × (fits wanted (kind_of v) ≡ true)
unfolding value
good_value wanted v h bytes =
    (held_is_good v h.1 (behind_front (kind.spell (kind_of v)) ((of_kind (kind_of v)).spell v) bytes), h.0.1)
