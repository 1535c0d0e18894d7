-- The formats of a payload (OMA LwM2M 1.1 Core, data formats), and which of them a path serves.
use Rattle.std.specs.Prelude.{ℕ, ◌==◌, Bool, true, false, Option, None, Some, if◌then◌else◌}
use Rattle.lwm2m_values.specs.declared.kind.ValueKind.{ValueKind}
use Rattle.lwm2m_values.specs.declared.kind.ValueKind.TheVariants as kind
use Rattle.object_defs.specs.declared.definition.ResourceDef.{ResourceDef}
use Rattle.object_defs.specs.declared.path.Path.{Path}
use Rattle.object_defs.specs.declared.path.Path.TheVariants.{Resource, Part}
use Rattle.lwm2m_payloads.specs.declared.format.Format.{Format}
use Rattle.lwm2m_payloads.specs.declared.format.Format.TheVariants.{PlainText, OctetStream, Tlv}

-- the number of a format, by which Accept and Content-Format name it
abbrev pub format_number : Format → ℕ
format_number PlainText = 0
format_number OctetStream = 42
format_number Tlv = 11542

-- what a path stands for: one value of a kind, or more than one
pub data Extent : Type 0 where
  one : ValueKind → Extent
  many : Extent

-- one value of this kind, or more than one
abbrev pub extent_with : Option ValueKind → Extent
extent_with None = many
extent_with (Some k) = one k

abbrev pub extent_as : Option ResourceDef → Extent
extent_as None = many
extent_as (Some d) = if d.multiple then many else one d.kind

abbrev pub part_as : Option ResourceDef → Extent
part_as None = many
part_as (Some d) = one d.kind

-- a single resource and a part stand for one value
abbrev pub extent_of : Path → Option ResourceDef → Extent
extent_of (Resource _ _ _) definition = extent_as definition
extent_of (Part _ _ _ _) definition = part_as definition
extent_of _ definition = many

-- without a number: application/octet-stream for one Opaque value, plain text for one other value, TLV for more
abbrev pub default_format : Extent → Format
default_format many = Tlv
default_format (one kind.Opaque) = OctetStream
default_format (one _) = PlainText

-- one Opaque value is served as application/octet-stream
abbrev pub is_opaque : Extent → Bool
is_opaque (one kind.Opaque) = true
is_opaque _ = false

-- one value is served as plain text
abbrev pub is_one : Extent → Bool
is_one many = false
is_one (one _) = true

-- the format of this number, where it is served
abbrev pub served_format : Extent → ℕ → Option Format
served_format extent number =
    if number == 11542 then Some Tlv
    else if number == 0 then (if is_one extent then Some PlainText else None)
    else if number == 42 then (if is_opaque extent then Some OctetStream else None)
    else None

-- the format that a request names, or the default one, where it is served
abbrev pub format_for : Extent → Option ℕ → Option Format
format_for extent None = Some (default_format extent)
format_for extent (Some number) = served_format extent number
