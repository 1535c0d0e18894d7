-- The objects of values, of steps and of outputs.
use Rattle.std.specs.Prelude.{ℕ, List, [], ◌∷◌, codes, map, Option, None, Some}
use Rattle.coap_codec.specs.Reading.{reading_of}
use Rattle.lwm2m_values.specs.declared.value.Value.{Value}
use Rattle.lwm2m_values.specs.declared.value.Value.TheVariants.{Text, Whole, Flag, Opaque, Moment, Link}
use Rattle.lwm2m_values.specs.Value.{kind_of}
use Rattle.object_defs.specs.Path.{path_text}
use Rattle.device_machine.specs.Acts.{act_name}
use Rattle.device_machine.specs.declared.event.Event.TheVariants.{Recv, Put, Firmware, Tick}
use Rattle.device_machine.specs.declared.output.Output.{Output}
use Rattle.device_machine.specs.declared.output.Output.TheVariants.{Send, Act}
use Rattle.scenario_image.specs.declared.step.Step.{Step}
use Rattle.scenario_image.specs.declared.step.Step.TheVariants.{Event, Post, Need}
use Rattle.scenario_words.specs.ValueWords.{kind_word}
use Rattle.message_words.specs.Text.{reading_text}
use Rattle.hex.specs.Hex.{encode_upper}
use Rattle.serde_json.specs.Data.{Data, null, boolean, string}
use Rattle.trace_json.specs.Json.{Field, integer_json, list_json, number_json, object_json}

-- bytes in hex, in upper case; no bytes are an empty string
abbrev pub hex_json : List ℕ → Data
hex_json bytes = string (encode_upper bytes)

-- an object that begins with the name of its kind
abbrev pub kind_json : List ℕ → List Field → Data
kind_json name fields = object_json ((codes "kind", string name) ∷ fields)

-- ---- values

abbrev pub value_fields : Value → List Field
value_fields (Text t) = (codes "value", string t) ∷ []
value_fields (Whole z) = (codes "value", integer_json z) ∷ []
value_fields (Flag b) = (codes "value", boolean b) ∷ []
value_fields (Opaque bytes) = (codes "value", hex_json bytes) ∷ []
value_fields (Moment z) = (codes "value", integer_json z) ∷ []
value_fields (Link o i) = (codes "object", number_json o) ∷ (codes "instance", number_json i) ∷ []

-- a value, with the name of its kind in scenario text
unfoldable pub value_json : Value → Data
value_json v = kind_json (kind_word (kind_of v)) (value_fields v)

-- ---- datagrams

-- a datagram, with the server that it comes from or goes to, and what it says
abbrev pub datagram_fields : ℕ → List ℕ → List Field
datagram_fields server bytes =
    (codes "server", number_json server) ∷ (codes "datagram", hex_json bytes)
    ∷ (codes "words", string (reading_text (reading_of bytes))) ∷ []

-- ---- steps

-- what happens in a step; null where the row has no such step
unfoldable pub event_json : Option Step → Data
event_json None = null
event_json (Some (Event (Recv server bytes))) = kind_json (codes "recv") (datagram_fields server bytes)
event_json (Some (Event (Put path value))) =
    kind_json (codes "put") ((codes "path", string (path_text path)) ∷ (codes "value", value_json value) ∷ [])
event_json (Some (Event (Firmware code))) = kind_json (codes "firmware") ((codes "code", number_json code) ∷ [])
event_json (Some (Event (Tick seconds))) = kind_json (codes "tick") ((codes "seconds", number_json seconds) ∷ [])
event_json (Some (Post group)) = kind_json (codes "post") ((codes "group", number_json group) ∷ [])
event_json (Some (Need group count)) =
    kind_json (codes "need") ((codes "group", number_json group) ∷ (codes "count", number_json count) ∷ [])

-- ---- outputs

-- what a device outputs: a datagram that it sends, or another act
unfoldable pub output_json : Output → Data
output_json (Send server bytes) = kind_json (codes "send") (datagram_fields server bytes)
output_json (Act act) = kind_json (codes "act") ((codes "act", string (act_name act)) ∷ [])

-- outputs in their order
abbrev pub outputs_json : List Output → Data
outputs_json outputs = list_json (map output_json outputs)
