-- Where a payload stops being TLV, in words.
use Rattle.std.specs.Prelude.{ℕ, ◌==◌, List, ◌++◌, codes, if◌then◌else◌}
use Rattle.std.specs.Fmt.{decimal}
use Rattle.lwm2m_values.specs.declared.level.RecordType.{RecordType}
use Rattle.lwm2m_values.specs.declared.level.RecordType.TheVariants as record_type
use Rattle.lwm2m_values.specs.declared.level.Around.{Around}
use Rattle.lwm2m_values.specs.declared.level.Around.TheVariants.{Top, InInstance, InMulti}
use Rattle.lwm2m_values.specs.declared.place.TlvLack.{TlvLack}
use Rattle.lwm2m_values.specs.declared.place.TlvLack.TheVariants.{Head, Content, Nesting}
use Rattle.lwm2m_values.specs.declared.place.TlvPlace.{TlvPlace}
use Rattle.request_reasons.specs.LengthWords.{byte_count}

abbrev pub record_type_text : RecordType → List ℕ
record_type_text record_type.Instance = codes "an object instance"
record_type_text record_type.Part = codes "a resource instance"
record_type_text record_type.Multi = codes "a multiple resource"
record_type_text record_type.Single = codes "a resource"

abbrev pub around_text : Around → List ℕ
around_text Top = codes "the payload"
around_text InInstance = codes "an object instance"
around_text InMulti = codes "a multiple resource"

abbrev pub left_text : ℕ → List ℕ
left_text left = if left == 1 then codes "1 is left" else decimal left ++ codes " are left"

-- what the record lacks: bytes of its header, bytes of its value, or leave to stand there
abbrev pub lack_words : TlvLack → List ℕ
lack_words (Head needed left) =
    codes "a record's header of " ++ (byte_count needed ++ (codes " is cut after " ++ decimal left))
lack_words (Content length left) =
    codes "a value of " ++ (byte_count length ++ (codes " is to follow, and " ++ left_text left))
lack_words (Nesting kind around) = record_type_text kind ++ (codes " stands within " ++ around_text around)

abbrev pub tlv_words : TlvPlace → List ℕ
tlv_words place =
    codes "the payload is not TLV: at byte " ++ (decimal place.at ++ (codes " " ++ lack_words place.lack))
