-- What a datagram says, in words.
use Rattle.std.specs.Prelude.{◌≡◌, ℕ, ◌==◌, nat_le, true, ◌&&◌, ◌||◌, List, [], ◌∷◌, ◌++◌, Option, None, Some}
use Rattle.std.specs.Prelude.{Result, Ok, Err, codes, if◌then◌else◌}
use Rattle.std.specs.Fmt.{decimal}
use Rattle.std.specs.List.{list_all}
use Rattle.std.specs.Str.{is_utf8}
use Rattle.coap_codec.specs.declared.fault.CoapFault.{CoapFault}
use Rattle.coap_codec.specs.declared.fault.CoapFault.TheVariants as faults
use Rattle.coap_codec.specs.Message.{Message}
use Rattle.scenario_words.specs.HexWord.{hex_word}
use Rattle.scenario_words.specs.Quoted.{quoted_word}
use Rattle.message_words.specs.Names.{type_name, code_text, format_text}
use Rattle.message_words.specs.Options.{options_text, format_in}

-- a token, where there is one
abbrev pub token_text : List ℕ → List ℕ
token_text [] = []
token_text (b ∷ bs) = codes ", token " ++ hex_word (b ∷ bs)

-- a payload of a Content-Format: in quotes where that is text/plain or link-format and the bytes are UTF-8, else in hex
abbrev pub payload_text : ℕ → List ℕ → List ℕ
payload_text format payload =
    if (format == 0 || format == 40) && is_utf8 payload then quoted_word payload else hex_word payload

-- a Content-Format, and the payload after it where there is one
abbrev pub formatted_payload : ℕ → List ℕ → List ℕ
formatted_payload format [] = format_text format
formatted_payload format (b ∷ bs) = format_text format ++ codes " " ++ payload_text format (b ∷ bs)

-- Content-Format and payload, where there are such
abbrev pub content_text : Option ℕ → List ℕ → List ℕ
content_text (Some format) payload = codes ", " ++ formatted_payload format payload
content_text None [] = []
content_text None (b ∷ bs) = codes ", payload " ++ hex_word (b ∷ bs)

-- a message: type, code, message ID, token, options, Content-Format and payload
abbrev pub message_text : Message → List ℕ
message_text m =
    type_name m.kind ++ codes " " ++ code_text m.code ++ codes ", message " ++ decimal m.mid ++ token_text m.token
    ++ options_text 0 m.options ++ content_text (format_in 0 m.options) m.payload

-- why bytes are not a message
abbrev pub fault_reason : CoapFault → List ℕ
fault_reason faults.Short = codes "fewer than four bytes"
fault_reason faults.Version = codes "a version other than 1"
fault_reason faults.TokenLength = codes "a token length above 8"
fault_reason faults.EmptyWithData = codes "an empty message with bytes behind its header"
fault_reason faults.OptionCut = codes "the bytes end within a token or an option"
fault_reason faults.OptionReserved = codes "a reserved nibble"
fault_reason faults.OptionNumber = codes "an option number above 65535"
fault_reason faults.PayloadEmpty = codes "a payload marker with no payload"
fault_reason faults.Memory = codes "out of memory"

-- bytes that are not a message
abbrev pub no_message : CoapFault → List ℕ
no_message fault = codes "no message: " ++ fault_reason fault

-- what bytes were read as
abbrev pub reading_text : Result Message CoapFault → List ℕ
reading_text (Ok m) = message_text m
reading_text (Err fault) = no_message fault

-- a text without control characters below 32, so without a line feed
abbrev pub IsOneLine : List ℕ → Type 0
IsOneLine text = list_all (λ b. nat_le 32 b) text ≡ true
