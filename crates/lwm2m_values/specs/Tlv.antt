-- TLV (OMA LwM2M 1.1 Core, TLV format): which bytes are records of which trees, and what is at fault where they are
-- none.
use Rattle.std.specs.Prelude.{◌≡◌, ℕ, ◌+◌, ◌-◌, ◌*◌, ◌/◌, ◌%◌, ◌<◌, nat_lt, List, [], ◌∷◌, ◌++◌, length, Bool, true}
use Rattle.std.specs.Prelude.{false, if◌then◌else◌, ◌==◌, Option, Some, None}
use Rattle.std.specs.Int.Digits.{number_from_digits}
use Rattle.lwm2m_values.specs.declared.level.RecordType.{RecordType}
use Rattle.lwm2m_values.specs.declared.level.RecordType.TheVariants.{Instance, Part, Multi, Single}
use Rattle.lwm2m_values.specs.declared.level.Around.{Around}
use Rattle.lwm2m_values.specs.declared.level.Around.TheVariants.{Top, InInstance, InMulti}
use Rattle.lwm2m_values.specs.declared.fault.TlvFault.{TlvFault}
use Rattle.lwm2m_values.specs.declared.fault.TlvFault.TheVariants.{Cut, Nesting}
use Rattle.lwm2m_values.specs.Tree.{Tree, Trees, instance, multi, part, single, none, more}

-- bits 7 and 6 of the first byte
abbrev pub type_bits : RecordType → ℕ
type_bits Instance = 0
type_bits Part = 1
type_bits Multi = 2
type_bits Single = 3

-- an Instance holds Multiple Resources and Resources, a Multiple Resource holds Resource Instances, and all may stand
-- at the top
abbrev pub is_allowed : Around → RecordType → Bool
is_allowed Top _ = true
is_allowed InInstance Multi = true
is_allowed InInstance Single = true
is_allowed InInstance Instance = false
is_allowed InInstance Part = false
is_allowed InMulti Part = true
is_allowed InMulti Instance = false
is_allowed InMulti Multi = false
is_allowed InMulti Single = false

-- what holds records is the level of those within
abbrev pub level_within : RecordType → Option Around
level_within Instance = Some InInstance
level_within Multi = Some InMulti
level_within Part = None
level_within Single = None

-- these bytes stand before a content of this size: the first byte, the identifier in one byte or two by bit 5, and a
-- length field of as many bytes as bits 4 and 3 say; with none, bits 2 to 0 are the length
pub record IsHead (head : List ℕ) (kind : RecordType) (id size : ℕ) : Type 0 where
  pub first : ℕ
  pub id_bytes : List ℕ
  pub size_bytes : List ℕ
  pub parts : head ≡ first ∷ (id_bytes ++ size_bytes)
  pub kind_is : type_bits kind ≡ first / 64
  pub id_width : length id_bytes ≡ 1 + first / 32 % 2
  pub id_is : id ≡ number_from_digits 256 id_bytes
  pub size_width : length size_bytes ≡ first / 8 % 4
  pub size_is : size ≡ (if first / 8 % 4 == 0 then first % 8 else number_from_digits 256 size_bytes)

-- no record stands at the front of the bytes: the first would go past their end
abbrev pub IsCut : List ℕ → Type 0
IsCut bytes = (head content rest : List ℕ) (kind : RecordType) (id : ℕ) → IsHead head kind id (length content)
    → bytes ≡ head ++ (content ++ rest) → ⊥

abbrev mutual
  -- a record of this type, identifier and content is the record of this tree
  pub Holds : Tree → RecordType → ℕ → List ℕ → Type 0
  Holds (instance i inner) kind id content = (kind ≡ Instance) × (i ≡ id) × IsNodes inner InInstance content
  Holds (multi i inner) kind id content = (kind ≡ Multi) × (i ≡ id) × IsNodes inner InMulti content
  Holds (part i bytes) kind id content = (kind ≡ Part) × (i ≡ id) × (bytes ≡ content)
  Holds (single i bytes) kind id content = (kind ≡ Single) × (i ≡ id) × (bytes ≡ content)

  -- the bytes are the records of these trees, each in any spelling, one after the other, and each may stand there
  pub IsNodes : Trees → Around → List ℕ → Type 0
  IsNodes none level bytes = bytes ≡ []
  IsNodes (more node nodes) level bytes =
      (kind : RecordType) × (id : ℕ) × (head : List ℕ) × (content : List ℕ) × (rest : List ℕ)
      × IsHead head kind id (length content)
      × (bytes ≡ head ++ (content ++ rest)) × (is_allowed level kind ≡ true) × Holds node kind id content
      × IsNodes nodes level rest

-- the bytes are TLV of these trees
abbrev pub IsTlv : Trees → List ℕ → Type 0
IsTlv nodes bytes = IsNodes nodes Top bytes

-- the bytes begin with the records of these trees, and this is after them
abbrev pub IsFront : Around → List ℕ → Trees → List ℕ → Type 0
IsFront level bytes nodes rest = (front : List ℕ) × IsNodes nodes level front × (bytes ≡ front ++ rest)

-- After whole records stands the first fault from the left: a record that is cut, one that is not allowed there, or one
-- with a fault in its content.
pub data HasFault : Around → List ℕ → TlvFault → Type 0 where
  cut : (level : Around) (bytes : List ℕ) (nodes : Trees) (rest : List ℕ) → IsFront level bytes nodes rest
      → 0 < length rest → IsCut rest → HasFault level bytes Cut
  nesting : (level : Around) (bytes : List ℕ) (nodes : Trees) (kind : RecordType) (id : ℕ) (head content rest : List ℕ)
      → IsFront level bytes nodes (head ++ (content ++ rest))
      → IsHead head kind id (length content) → is_allowed level kind ≡ false → HasFault level bytes Nesting
  within : (level inner : Around) (bytes : List ℕ) (nodes : Trees) (kind : RecordType) (id : ℕ)
      (head content rest : List ℕ) (fault : TlvFault) → IsFront level bytes nodes (head ++ (content ++ rest))
      → IsHead head kind id (length content) → is_allowed level kind ≡ true → level_within kind ≡ Some inner
      → HasFault inner content fault → HasFault level bytes fault

-- The first record is at fault: it is cut, or not allowed there, or so is the first record of its content.
pub data HasEarlyFault : Around → List ℕ → TlvFault → Type 0 where
  early_cut : (level : Around) (bytes : List ℕ) → 0 < length bytes → IsCut bytes → HasEarlyFault level bytes Cut
  early_nesting : (level : Around) (bytes : List ℕ) (kind : RecordType) (id : ℕ) (head content rest : List ℕ)
      → IsHead head kind id (length content) → bytes ≡ head ++ (content ++ rest) → is_allowed level kind ≡ false
      → HasEarlyFault level bytes Nesting
  early_within : (level inner : Around) (bytes : List ℕ) (kind : RecordType) (id : ℕ) (head content rest : List ℕ)
      (fault : TlvFault) → IsHead head kind id (length content) → bytes ≡ head ++ (content ++ rest)
      → is_allowed level kind ≡ true → level_within kind ≡ Some inner → HasEarlyFault inner content fault
      → HasEarlyFault level bytes fault

-- two bytes of a number, the high one first
abbrev pub two_bytes : ℕ → List ℕ
two_bytes n = n / 256 ∷ n % 256 ∷ []

-- an identifier in one byte where it fits, else in two
abbrev pub id_field : ℕ → List ℕ
id_field id = if nat_lt id 256 then id ∷ [] else two_bytes id

-- the shortest length field: none below 8, else one byte, two or three
abbrev pub size_field : ℕ → List ℕ
size_field n = if nat_lt n 8 then [] else (if nat_lt n 256 then n ∷ []
    else (if nat_lt n 65536 then two_bytes n else n / 65536 ∷ two_bytes (n % 65536)))

-- the shortest head, with bits 2 to 0 zero where there is a length field
abbrev pub shortest_head : RecordType → ℕ → ℕ → List ℕ
shortest_head kind id size =
    (64 * type_bits kind + 32 * (length (id_field id) - 1) + 8 * length
    (size_field size) + (if nat_lt size 8 then size else 0)) ∷ (id_field id ++ size_field size)

abbrev pub shortest_record : RecordType → ℕ → List ℕ → List ℕ
shortest_record kind id content = shortest_head kind id (length content) ++ content

abbrev mutual
  -- the shortest record of a tree
  pub shortest_node : Tree → List ℕ
  shortest_node (instance id inner) = shortest_record Instance id (shortest_tlv inner)
  shortest_node (multi id inner) = shortest_record Multi id (shortest_tlv inner)
  shortest_node (part id bytes) = shortest_record Part id bytes
  shortest_node (single id bytes) = shortest_record Single id bytes

  -- the shortest TLV of trees
  pub shortest_tlv : Trees → List ℕ
  shortest_tlv none = []
  shortest_tlv (more node nodes) = shortest_node node ++ shortest_tlv nodes

-- a length field has at most three bytes
abbrev pub IsContent : List ℕ → Type 0
IsContent content = length content < 16777216

abbrev mutual
  -- the tree may stand there, and what it holds may stand within
  pub IsNested : Around → Tree → Type 0
  IsNested level (instance id inner) = (is_allowed level Instance ≡ true) × AreNested InInstance inner
  IsNested level (multi id inner) = (is_allowed level Multi ≡ true) × AreNested InMulti inner
  IsNested level (part id bytes) = is_allowed level Part ≡ true
  IsNested level (single id bytes) = is_allowed level Single ≡ true

  pub AreNested : Around → Trees → Type 0
  AreNested level none = Unit {0}
  AreNested level (more node nodes) = IsNested level node × AreNested level nodes

abbrev mutual
  -- each content, in its shortest TLV, fits a length field
  pub IsShort : Tree → Type 0
  IsShort (instance id inner) = AreShort inner × IsContent (shortest_tlv inner)
  IsShort (multi id inner) = AreShort inner × IsContent (shortest_tlv inner)
  IsShort (part id bytes) = IsContent bytes
  IsShort (single id bytes) = IsContent bytes

  pub AreShort : Trees → Type 0
  AreShort none = Unit {0}
  AreShort (more node nodes) = IsShort node × AreShort nodes

-- nested as the format says, each content below 16,777,216 bytes: what can be written
abbrev pub IsWritable : Trees → Type 0
IsWritable nodes = AreNested Top nodes × AreShort nodes
