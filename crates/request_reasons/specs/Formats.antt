-- Rule 10: the format that a request names, and those that are served there.
use Rattle.std.specs.Prelude.{◌≡◌, ℕ, Bool, true, false, not, List, Option, None, Some}
use Rattle.object_defs.specs.declared.definition.ObjectDef.{ObjectDef}
use Rattle.object_defs.specs.declared.path.Path.{Path}
use Rattle.lwm2m_payloads.specs.Formats.{format_number}
use Rattle.lwm2m_payloads.specs.declared.format.Format.{Format}
use Rattle.lwm2m_payloads.specs.declared.format.Format.TheVariants.{PlainText, OctetStream, Tlv}
use Rattle.device_requests.specs.Refusals.{Purpose, lacks_format, to_create, to_delete, to_discover, to_execute}
use Rattle.device_requests.specs.Refusals.{to_read, to_write, to_write_attributes}
use Rattle.request_reasons.specs.declared.format.Served.{Served}
use Rattle.request_reasons.specs.declared.format.Served.TheVariants.{TlvAlone, PlainTextAlone, PlainTextAndTlv, All}

-- the formats of a choice
abbrev pub is_served : Served → Format → Bool
is_served TlvAlone PlainText = false
is_served TlvAlone OctetStream = false
is_served TlvAlone Tlv = true
is_served PlainTextAlone PlainText = true
is_served PlainTextAlone OctetStream = false
is_served PlainTextAlone Tlv = false
is_served PlainTextAndTlv PlainText = true
is_served PlainTextAndTlv OctetStream = false
is_served PlainTextAndTlv Tlv = true
is_served All PlainText = true
is_served All OctetStream = true
is_served All Tlv = true

-- the number of the format that a request names: by Accept what is to be read, by Content-Format what is given
abbrev pub format_named : Purpose → Option ℕ
format_named (to_read accept) = accept
format_named to_discover = None
format_named (to_write mode format payload) = format
format_named (to_write_attributes queries) = None
format_named (to_create format payload) = format
format_named (to_execute format payload) = format
format_named to_delete = None

-- the same request with a format of this number
abbrev pub with_format : ℕ → Purpose → Purpose
with_format number (to_read accept) = to_read (Some number)
with_format number to_discover = to_discover
with_format number (to_write mode format payload) = to_write mode (Some number) payload
with_format number (to_write_attributes queries) = to_write_attributes queries
with_format number (to_create format payload) = to_create (Some number) payload
with_format number (to_execute format payload) = to_execute (Some number) payload
with_format number to_delete = to_delete

-- a request names a format of this number, and exactly these would not be refused there
pub record IsUnserved (catalog : List ObjectDef) (path : Path) (purpose : Purpose) (number : ℕ) (served : Served)
    : Type 0 where
  pub named : format_named purpose ≡ Some number
  pub formats : (format : Format)
      → lacks_format catalog path (with_format (format_number format) purpose) ≡ not (is_served served format)
