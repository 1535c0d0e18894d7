-- What payloads say, as functions: the value that a plain text or bytes spell, and the trees of TLV.
use Rattle.std.specs.Prelude.{ℕ, zero, suc, ◌+◌, ◌/◌, ◌%◌, ◌==◌, nat_lt, nat_le, ℤ, pos, neg_ℤ, List, [], ◌∷◌, length}
use Rattle.std.specs.Prelude.{take, drop, Bool, true, false, ◌&&◌, if◌then◌else◌, Option, Some, None, option_map}
use Rattle.std.specs.List.{list_all, before_first, after_first}
use Rattle.std.specs.Option.{option_zip}
use Rattle.std.specs.Result.{result_ok}
use Rattle.std.specs.Int.{Width, w8, w16, w32, w64, from_be_bytes, cast_signed}
use Rattle.std.specs.Int.Digits.{number_from_digits}
use Rattle.std.specs.Char.{digit_value}
use Rattle.std.specs.Str.{is_utf8}
use Rattle.std.specs.Str.Parse.{digits_value}
use Rattle.base64.specs.GeneralPurpose.{decode_of}
use Rattle.base64.specs.Engines.{standard}
use Rattle.lwm2m_values.specs.declared.value.Value.{Value}
use Rattle.lwm2m_values.specs.declared.value.Value.TheVariants.{Text, Whole, Flag, Opaque, Moment, Link}
use Rattle.lwm2m_values.specs.declared.kind.ValueKind.{ValueKind}
use Rattle.lwm2m_values.specs.declared.kind.ValueKind.TheVariants as kind
use Rattle.lwm2m_values.specs.declared.level.RecordType.{RecordType}
use Rattle.lwm2m_values.specs.declared.level.RecordType.TheVariants.{Instance, Part, Multi, Single}
use Rattle.lwm2m_values.specs.declared.level.Around.{Around}
use Rattle.lwm2m_values.specs.declared.level.Around.TheVariants.{Top, InInstance, InMulti}
use Rattle.lwm2m_values.specs.Tree.{Tree, Trees, instance, multi, part, single, none, more}
use Rattle.lwm2m_values.specs.Tlv.{is_allowed}
use Rattle.lwm2m_values.specs.Value.{is_within}

-- whether these are bytes, numbers below 256
abbrev pub are_bytes : List ℕ → Bool
are_bytes bytes = list_all (λ b. nat_lt b 256) bytes

-- whether a value keeps to the limits of its kind
abbrev pub is_good : Value → Bool
is_good (Text t) = is_utf8 t && nat_le (length t) 255
is_good (Whole z) = is_within 9223372036854775808 z
is_good (Flag b) = true
is_good (Opaque b) = are_bytes b && nat_le (length b) 1024
is_good (Moment z) = is_within 9223372036854775808 z
is_good (Link o i) = nat_lt o 65536 && nat_lt i 65536

-- the value, where it keeps to them
abbrev pub if_good : Option Value → Option Value
if_good None = None
if_good (Some v) = if is_good v then Some v else None

-- the number that one decimal digit or more write
abbrev pub number_of_text : List ℕ → Option ℕ
number_of_text [] = None
number_of_text (c ∷ cs) =
    if list_all (λ d. nat_lt (digit_value d) 10) (c ∷ cs) then Some (digits_value 10 (c ∷ cs)) else None

-- the number that such digits write, alone or after a minus sign
abbrev pub signed_of_text : List ℕ → Option ℤ
signed_of_text [] = None
signed_of_text (c ∷ cs) =
    if c == 45 then option_map (λ n. neg_ℤ (pos n)) (number_of_text cs) else option_map pos (number_of_text (c ∷ cs))

-- false where the bytes are `off` alone, true where they are `on` alone
abbrev pub flag_by : ℕ → ℕ → List ℕ → Option Bool
flag_by off on [] = None
flag_by off on (b ∷ []) = if b == off then Some false else (if b == on then Some true else None)
flag_by off on (b ∷ c ∷ bytes) = None

-- the two numbers before and after the first colon
abbrev pub pair_of_text : List ℕ → Option (ℕ × ℕ)
pair_of_text t =
    option_zip (number_of_text (before_first (λ c. c == 58) t)) (number_of_text (after_first (λ c. c == 58) t))

-- the bytes that base64 decodes to (RFC 4648 section 4)
abbrev pub opaque_of_text : List ℕ → Option (List ℕ)
opaque_of_text t = if are_bytes t then result_ok (decode_of standard t) else None

-- the value of this kind that the plain text spells, its limits left aside
abbrev pub spelled_by_text : ValueKind → List ℕ → Option Value
spelled_by_text kind.Text t = Some (Text t)
spelled_by_text kind.Whole t = option_map Whole (signed_of_text t)
spelled_by_text kind.Flag t = option_map Flag (flag_by 48 49 t)
spelled_by_text kind.Opaque t = option_map Opaque (opaque_of_text t)
spelled_by_text kind.Moment t = option_map Moment (signed_of_text t)
spelled_by_text kind.Link t = option_map (λ p. Link p.0 p.1) (pair_of_text t)

-- the valid value of this kind that the plain text spells, where there is one (OMA LwM2M 1.1 Core, plain text)
unfoldable pub value_of_text : ValueKind → List ℕ → Option Value
value_of_text kind text = if_good (spelled_by_text kind text)

-- the width of an Integer of n bytes
abbrev pub width_of : ℕ → Option Width
width_of n = if n == 1 then Some w8 else (if n == 2 then Some w16
    else (if n == 4 then Some w32 else (if n == 8 then Some w64 else None)))

-- the number that one, two, four or eight bytes are in two's complement, the highest byte first
abbrev pub integer_of_bytes : List ℕ → Option ℤ
integer_of_bytes bytes =
    if are_bytes bytes then option_map (λ w. cast_signed w (from_be_bytes w bytes)) (width_of (length bytes)) else None

-- the two numbers that four bytes are
abbrev pub pair_of_bytes : List ℕ → Option (ℕ × ℕ)
pair_of_bytes bytes =
    if are_bytes bytes && (length bytes == 4)
    then Some (from_be_bytes w16 (take 2 bytes), from_be_bytes w16 (drop 2 bytes)) else None

-- the value of this kind that the bytes are, its limits left aside
abbrev pub spelled_by_bytes : ValueKind → List ℕ → Option Value
spelled_by_bytes kind.Text b = Some (Text b)
spelled_by_bytes kind.Whole b = option_map Whole (integer_of_bytes b)
spelled_by_bytes kind.Flag b = option_map Flag (flag_by 0 1 b)
spelled_by_bytes kind.Opaque b = Some (Opaque b)
spelled_by_bytes kind.Moment b = option_map Moment (integer_of_bytes b)
spelled_by_bytes kind.Link b = option_map (λ p. Link p.0 p.1) (pair_of_bytes b)

-- the valid value of this kind with these bytes, as TLV has them, where there is one (OMA LwM2M 1.1 Core, data types)
unfoldable pub value_of_bytes : ValueKind → List ℕ → Option Value
value_of_bytes kind bytes = if_good (spelled_by_bytes kind bytes)

-- the type of bits 7 and 6
abbrev pub type_of_bits : ℕ → Option RecordType
type_of_bits n =
    if n == 0 then Some Instance else (if n == 1 then Some Part
    else (if n == 2 then Some Multi else (if n == 3 then Some Single else None)))

-- how many bytes the identifier has, by bit 5
abbrev pub id_width : ℕ → ℕ
id_width first = 1 + first / 32 % 2

-- how many bytes the length field has, by bits 4 and 3
abbrev pub size_width : ℕ → ℕ
size_width first = first / 8 % 4

-- the length of the content, by the bytes after the identifier
abbrev pub size_of : ℕ → List ℕ → ℕ
size_of first behind =
    if size_width first == 0 then first % 8 else number_from_digits 256 (take (size_width first) behind)

-- a record: its type, its identifier, its content, and what stands after it
pub record Record : Type 0 where
  pub kind : RecordType
  pub id : ℕ
  pub content : List ℕ
  pub rest : List ℕ

-- the record of this first byte, with the bytes after its head
abbrev pub record_of : ℕ → List ℕ → RecordType → Record
record_of first rest kind =
    let behind = drop (id_width first) rest in
    let inside = drop (size_width first) behind in
    record {
      kind = kind;
      id = number_from_digits 256 (take (id_width first) rest);
      content =
          take (size_of first behind) inside;
      rest = drop (size_of first behind) inside;
    }

-- whether its head and its content end within the bytes
abbrev pub is_whole : ℕ → List ℕ → Bool
is_whole first rest =
    nat_le (id_width first + size_width first + size_of first (drop (id_width first) rest)) (length rest)

-- the record that the bytes begin with, where it is whole
abbrev pub record_at : List ℕ → Option Record
record_at [] = None
record_at (first ∷ rest) =
    if is_whole first rest then option_map (record_of first rest) (type_of_bits (first / 64)) else None

-- the tree of a record of this type, with what it holds read by its level
abbrev pub tree_of_record : (Around → List ℕ → Option Trees) → RecordType → ℕ → List ℕ → Option Tree
tree_of_record within Instance id content = option_map (instance id) (within InInstance content)
tree_of_record within Multi id content = option_map (multi id) (within InMulti content)
tree_of_record within Part id content = Some (part id content)
tree_of_record within Single id content = Some (single id content)

-- a tree before others
abbrev pub with_tree : Option Tree → Option Trees → Option Trees
with_tree None nodes = None
with_tree (Some t) None = None
with_tree (Some t) (Some nodes) = Some (more t nodes)

-- the trees of a record, where it may stand there, and of what stands after it
abbrev pub nodes_from : (Around → List ℕ → Option Trees) → Around → Option Record → Option Trees
nodes_from within level None = None
nodes_from within level (Some r) =
    if is_allowed level r.kind then with_tree (tree_of_record within r.kind r.id r.content) (within level r.rest)
    else None

-- the trees whose records the bytes are, at this level; the first number bounds the steps, of which each takes two
-- bytes or more
unfoldable pub read_nodes : ℕ → Around → List ℕ → Option Trees
read_nodes steps level [] = Some none
read_nodes zero level (b ∷ bytes) = None
read_nodes (suc steps) level (b ∷ bytes) = nodes_from (read_nodes steps) level (record_at (b ∷ bytes))

-- the trees whose TLV the bytes are, where there are some (OMA LwM2M 1.1 Core, TLV format)
unfoldable pub nodes_of_bytes : List ℕ → Option Trees
nodes_of_bytes bytes = read_nodes (length bytes) Top bytes
