-- What of a payload, of queries or of arguments is not valid, in words.
use Rattle.std.specs.Prelude.{ℕ, ◌==◌, nat_lt, List, [], ◌∷◌, ◌++◌, length, Option, None, Some, codes, if◌then◌else◌}
use Rattle.std.specs.Fmt.{decimal}
use Rattle.std.specs.Str.{is_utf8}
use Rattle.device_requests.specs.Discover.{thousandths_text}
use Rattle.lwm2m_payloads.specs.declared.fault.PayloadFault.{PayloadFault}
use Rattle.lwm2m_payloads.specs.declared.fault.PayloadFault.TheVariants as fault
use Rattle.lwm2m_payloads.specs.declared.fault.RecordFault.{RecordFault}
use Rattle.lwm2m_payloads.specs.declared.fault.RecordFault.TheVariants as record_fault
use Rattle.lwm2m_payloads.specs.declared.format.Format.{Format}
use Rattle.lwm2m_payloads.specs.declared.format.Format.TheVariants.{Tlv}
use Rattle.notifier.specs.declared.fault.QueryFault.{QueryFault}
use Rattle.notifier.specs.declared.fault.QueryFault.TheVariants as query
use Rattle.object_defs.specs.Path.{object_in, path_text}
use Rattle.object_defs.specs.declared.definition.Ops.{Ops}
use Rattle.object_defs.specs.declared.definition.Ops.TheVariants as ops
use Rattle.object_defs.specs.declared.path.Path.{Path}
use Rattle.object_defs.specs.declared.path.Path.TheVariants.{Instance}
use Rattle.scenario_words.specs.HexWord.{hex_word}
use Rattle.scenario_words.specs.Quoted.{quoted_word}
use Rattle.scenario_words.specs.ValueWords.{kind_word}
use Rattle.request_reasons.specs.LengthWords.{length_words}
use Rattle.request_reasons.specs.TlvWords.{tlv_words}
use Rattle.request_reasons.specs.declared.unfit.Standing.{Standing}
use Rattle.request_reasons.specs.declared.unfit.Unfit.{Unfit}
use Rattle.request_reasons.specs.declared.unfit.Unfit.TheVariants.{NotArguments, Query, Inconsistent, NotTlv, Payload}
use Rattle.request_reasons.specs.declared.unfit.Unfit.TheVariants.{Taken, NoNumber}

-- bytes: in quotes where they are UTF-8, else in hex
abbrev pub bytes_text : List ℕ → List ℕ
bytes_text bytes = if is_utf8 bytes then quoted_word bytes else hex_word bytes

abbrev pub ops_text : Ops → List ℕ
ops_text ops.R = codes "R"
ops_text ops.W = codes "W"
ops_text ops.RW = codes "RW"
ops_text ops.E = codes "E"

-- ---- queries

-- why a query is no valid change
abbrev pub query_text : QueryFault → List ℕ
query_text query.UnknownName = codes "its name is not pmin, pmax, gt, lt or st"
query_text query.Repeated = codes "an earlier query has its name"
query_text query.BadNumber = codes "its number is not valid"
query_text query.Level = codes "gt, lt and st are for a single resource of a number"
query_text query.Memory = codes "memory ran out"

-- the byte at which the number of a query of this length stops being one
abbrev pub end_words : ℕ → Option ℕ → List ℕ
end_words length None = []
end_words length (Some at) = if nat_lt at length then codes ": at byte " ++ decimal at else codes ": it ends too early"

abbrev pub query_words : ℕ → List ℕ → QueryFault → Option ℕ → List ℕ
query_words place bytes why at =
    codes "query " ++ (decimal place ++ (codes " is " ++ (bytes_text bytes ++ (codes ", and " ++ (query_text why ++
    end_words (length bytes) at)))))

-- a number of gt, lt or st, as a Discover shows it
abbrev pub standing_words : List ℕ → Standing → List ℕ
standing_words name standing =
    name ++ (codes " " ++ (thousandths_text standing.number ++
    (if standing.is_given then codes " is given" else codes " stood before")))

abbrev pub disagreement_words : Standing → Standing → Option Standing → List ℕ
disagreement_words gt lt None =
    codes "gt, lt and st would not agree: " ++ (standing_words (codes "gt") gt ++ (codes ", " ++
    standing_words (codes "lt") lt))
disagreement_words gt lt (Some st) =
    codes "gt, lt and st would not agree: " ++ (standing_words (codes "gt") gt ++ (codes ", " ++ (standing_words (codes
    "lt") lt ++ (codes ", " ++ standing_words (codes "st") st))))

-- ---- arguments

-- the byte at which a payload stops being arguments, or its length, where it ends too early
abbrev pub argument_words : ℕ → Option ℕ → List ℕ
argument_words at (Some byte) =
    codes "the payload is not a list of arguments: byte " ++ (decimal at ++ (codes " is 0x" ++ hex_word (byte ∷ [])))
argument_words at None =
    codes "the payload is not a list of arguments: it ends too early, after " ++ (decimal at ++ codes " bytes")

-- ---- records

-- why a record is refused
abbrev pub record_text : RecordFault → List ℕ
record_text record_fault.Number = codes "does not have the number of the path"
record_text record_fault.Undefined = codes "is of no resource of the object"
record_text (record_fault.Operations operations) =
    codes "is of a resource with the operations " ++ ops_text operations
record_text record_fault.Form = codes "is not of the type that is needed there"
record_text (record_fault.Value kind length) =
    codes "is not a value of the kind " ++ (kind_word kind ++ length_words Tlv kind length)
record_text (record_fault.Part part kind length) =
    codes "has a part " ++ (decimal part ++ (codes " that is not of its kind" ++ length_words Tlv kind length))
record_text (record_fault.PartTwice part) = codes "has part " ++ (decimal part ++ codes " twice")
record_text record_fault.Empty = codes "has no part, and its resource is mandatory"
record_text record_fault.Twice = codes "has the number of a later record"

abbrev pub record_words : ℕ → ℕ → RecordFault → List ℕ
record_words place number why =
    codes "record " ++ (decimal place ++ (codes ", of number " ++ (decimal number ++ (codes ", " ++ record_text why))))

-- ---- payloads

-- why a payload gives nothing, in the format in which it is read
abbrev pub fault_words : Format → PayloadFault → List ℕ
fault_words format (fault.NotValue kind length) =
    codes "the payload is not a value of the kind " ++ (kind_word kind ++ length_words format kind length)
fault_words format fault.NotTlv = codes "the payload is not TLV"
fault_words format (fault.Records count) = codes "there are " ++ (decimal count ++ codes " records, not 1")
fault_words format (fault.Record place number why) = record_words place number why
fault_words format (fault.Mandatory resource) =
    codes "resource " ++ (decimal resource ++ codes " is mandatory, and not given")

-- ---- new instances

-- a number that a new instance does not get
abbrev pub taken_words : Path → ℕ → List ℕ
taken_words path number =
    if number == 65535 then codes "no instance has the number 65535"
    else codes "there is an instance " ++ (path_text (Instance (object_in path) number) ++ codes " already")

-- ---- all of them

abbrev pub unfit_words : Path → Unfit → List ℕ
unfit_words path (NotArguments at byte) = argument_words at byte
unfit_words path (Query place bytes why at) = query_words place bytes why at
unfit_words path (Inconsistent gt lt st) = disagreement_words gt lt st
unfit_words path (NotTlv place) = tlv_words place
unfit_words path (Payload format why) = fault_words format why
unfit_words path (Taken number) = taken_words path number
unfit_words path NoNumber = codes "no number of an instance is free"
