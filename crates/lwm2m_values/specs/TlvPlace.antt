-- Where bytes stop being TLV: the first record at fault from the left, its place, and what it lacks.
use Rattle.std.specs.Prelude.{◌≡◌, ℕ, ◌+◌, ◌<◌, List, [], ◌∷◌, ◌++◌, length, true, false, Some}
use Rattle.lwm2m_values.specs.declared.fault.TlvFault.{TlvFault}
use Rattle.lwm2m_values.specs.declared.fault.TlvFault.TheVariants.{Cut}
use Rattle.lwm2m_values.specs.declared.fault.TlvFault.TheVariants as fault
use Rattle.lwm2m_values.specs.declared.level.RecordType.{RecordType}
use Rattle.lwm2m_values.specs.declared.level.Around.{Around}
use Rattle.lwm2m_values.specs.declared.place.TlvLack.{TlvLack}
use Rattle.lwm2m_values.specs.declared.place.TlvLack.TheVariants.{Head, Content, Nesting}
use Rattle.lwm2m_values.specs.declared.place.TlvPlace.{TlvPlace}
use Rattle.lwm2m_values.specs.Tree.{Trees}
use Rattle.lwm2m_values.specs.Reading.{id_width, size_width}
use Rattle.lwm2m_values.specs.Tlv.{IsHead, IsNodes, is_allowed, level_within}

-- how many bytes the header takes: the first, and then, by its bits, those of the identifier and of the length field
abbrev pub header_size : List ℕ → ℕ
header_size [] = 1
header_size (first ∷ bytes) = 1 + id_width first + size_width first

-- the record at the front goes past the end of the bytes: its header does, or its content after a whole header
pub data IsLack : List ℕ → TlvLack → Type 0 where
  in_header : (bytes : List ℕ) → length bytes < header_size bytes
      → IsLack bytes (Head (header_size bytes) (length bytes))
  in_content : (bytes head rest : List ℕ) (kind : RecordType) (id size : ℕ) → IsHead head kind id size
      → bytes ≡ head ++ rest → length rest < size → IsLack bytes (Content size (length rest))

-- the first n bytes are whole records, each allowed there, and this is after them
abbrev pub IsAfter : Around → List ℕ → ℕ → List ℕ → Type 0
IsAfter level bytes n rest =
    (nodes : Trees) × (front : List ℕ) × IsNodes nodes level front × (n ≡ length front) × (bytes ≡ front ++ rest)

-- The bytes begin at the place `start`. After whole records stands the first fault from the left: a record that is cut,
-- one that is not allowed there, or one with a fault in its content. The place of a cut record or of one that is not
-- allowed is that of its first byte.
pub data HasFaultAt : Around → ℕ → List ℕ → TlvPlace → Type 0 where
  at_cut : (level : Around) (start n : ℕ) (bytes rest : List ℕ) (lack : TlvLack) → IsAfter level bytes n rest
      → 0 < length rest → IsLack rest lack
      → HasFaultAt level start bytes (record { at = start + n; lack = lack })
  at_nesting : (level : Around) (start n : ℕ) (bytes : List ℕ) (kind : RecordType) (id : ℕ)
      (head content rest : List ℕ) → IsAfter level bytes n (head ++ (content ++ rest))
      → IsHead head kind id (length content) → is_allowed level kind ≡ false
      → HasFaultAt level start bytes (record { at = start + n; lack = Nesting kind level })
  at_within : (level inner : Around) (start n : ℕ) (bytes : List ℕ) (kind : RecordType) (id : ℕ)
      (head content rest : List ℕ) (place : TlvPlace) → IsAfter level bytes n (head ++ (content ++ rest))
      → IsHead head kind id (length content) → is_allowed level kind ≡ true → level_within kind ≡ Some inner
      → HasFaultAt inner (start + n + length head) content place → HasFaultAt level start bytes place

-- the fault that `read_tlv` returns for it
abbrev pub tlv_fault : TlvLack → TlvFault
tlv_fault (Head needed left) = Cut
tlv_fault (Content size left) = Cut
tlv_fault (Nesting kind around) = fault.Nesting
