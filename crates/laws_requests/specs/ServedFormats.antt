-- Which formats a path serves (OMA LwM2M 1.1 Core, data formats; which of them, and the default, is this profile's).
use Rattle.std.specs.Prelude.{◌≡◌, ◌≢◌, ◌↔◌, ◌⊎◌, ℕ, false, List, Option, None, Some}
use Rattle.lwm2m_values.specs.declared.kind.ValueKind.{ValueKind}
use Rattle.lwm2m_values.specs.declared.kind.ValueKind.TheVariants.{Opaque}
use Rattle.object_defs.specs.Catalog.{definition_of}
use Rattle.object_defs.specs.declared.definition.ObjectDef.{ObjectDef}
use Rattle.object_defs.specs.declared.definition.ResourceDef.{ResourceDef}
use Rattle.object_defs.specs.declared.path.Path.{Path}
use Rattle.object_defs.specs.declared.path.Path.TheVariants.{Resource, Part}
use Rattle.lwm2m_payloads.specs.Formats.{format_number}
use Rattle.lwm2m_payloads.specs.declared.format.Format.{Format}
use Rattle.lwm2m_payloads.specs.declared.format.Format.TheVariants.{PlainText, OctetStream, Tlv}
use Rattle.device_requests.specs.Read.{format_at}
use Rattle.device_requests.specs.Refusals.{lacks_format, to_create, to_execute}

-- a path that stands for one value of a kind: a single resource, or a part
pub data StandsForOne (catalog : List ObjectDef) : Path → ValueKind → Type 0 where
  one_single_value : (o i r : ℕ) (d : ResourceDef) → definition_of catalog o r ≡ Some d → d.multiple ≡ false
      → StandsForOne catalog (Resource o i r) d.kind
  one_part_value : (o i r n : ℕ) (d : ResourceDef) → definition_of catalog o r ≡ Some d
      → StandsForOne catalog (Part o i r n) d.kind

-- the format that a request gets: the one that it names, where the path serves it, else the default one; every path
-- serves TLV, a path that stands for one value plain text too, and for one Opaque value application/octet-stream
pub data GetsFormat (catalog : List ObjectDef) (path : Path) : Option ℕ → Format → Type 0 where
  named_tlv : GetsFormat catalog path (Some 11542) Tlv
  named_text : (kind : ValueKind) → StandsForOne catalog path kind → GetsFormat catalog path (Some 0) PlainText
  named_bytes : StandsForOne catalog path Opaque → GetsFormat catalog path (Some 42) OctetStream
  default_bytes : StandsForOne catalog path Opaque → GetsFormat catalog path None OctetStream
  default_text : (kind : ValueKind) → StandsForOne catalog path kind → kind ≢ Opaque
      → GetsFormat catalog path None PlainText
  default_tlv : ((kind : ValueKind) → ¬ (StandsForOne catalog path kind)) → GetsFormat catalog path None Tlv

abbrev pub FormatsAreServed : Type 0
FormatsAreServed =
    (catalog : List ObjectDef) (path : Path) (number : Option ℕ) (format : Format)
    → (format_at catalog path number ≡ Some format) ↔ GetsFormat catalog path number format

-- a format that is named is given, or none
abbrev pub NamedIsGiven : Type 0
NamedIsGiven =
    (catalog : List ObjectDef) (path : Path) (n : ℕ) (format : Format)
    → format_at catalog path (Some n) ≡ Some format → format_number format ≡ n

-- each path has a default format, and serves it where it is named
abbrev pub DefaultIsServed : Type 0
DefaultIsServed =
    (catalog : List ObjectDef) (path : Path)
    → (format : Format) × (format_at catalog path None ≡ Some format)
    × (format_at catalog path (Some (format_number format)) ≡ Some format)

-- a Create takes TLV or no format, an Execute plain text or none
abbrev pub OthersTakeOne : Type 0
OthersTakeOne =
    (catalog : List ObjectDef) (path : Path) (number : Option ℕ) (payload : List ℕ)
    → ((lacks_format catalog path (to_create number payload) ≡ false)
    ↔ ((number ≡ None) ⊎ (number ≡ Some 11542)))
    × ((lacks_format catalog path (to_execute number payload) ≡ false) ↔ ((number ≡ None) ⊎ (number ≡ Some 0)))
