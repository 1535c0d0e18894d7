use Rattle.std.specs.Prelude.{ℕ, ◌+◌, ◌*◌, ◌/◌, ◌%◌, ◌==◌, zero, suc, List, [], ◌∷◌, length, take, drop, slice_index}
use Rattle.std.specs.Prelude.{if◌then◌else◌, Option, None, Some, Result, Ok, Err}
use Rattle.coap_codec.specs.declared.kind.Kind.{Kind}
use Rattle.coap_codec.specs.declared.kind.Kind.TheVariants.{Con, Non, Ack, Rst}
use Rattle.coap_codec.specs.declared.option.Opt.{Opt}
use Rattle.coap_codec.specs.declared.fault.CoapFault.{CoapFault}
use Rattle.coap_codec.specs.Message.{Message}
use Rattle.coap_codec.specs.Fault.{token_length, header_fault, width, amount, place_fault}

-- the type of these two bits (RFC 7252 section 3)
abbrev pub kind_of : ℕ → Kind
kind_of n = if n == 0 then Con else (if n == 1 then Non else (if n == 2 then Ack else Rst))

-- options that were found, and the payload after them
pub record OptionsAndPayload : Type 0 where
  pub options : List Opt
  pub payload : List ℕ

-- the option of this first byte, after one of this number (RFC 7252 section 3.1)
abbrev pub option_here : ℕ → ℕ → List ℕ → Opt
option_here number first rest =
    let behind = drop (width (first / 16)) rest in
    record {
      number = number + amount (first / 16) rest;
      value =
          take (amount (first % 16) behind) (drop (width (first % 16)) behind);
    }

-- what stands after that option
abbrev pub behind_option : ℕ → List ℕ → List ℕ
behind_option first rest =
    let behind = drop (width (first / 16)) rest in
    drop (amount (first % 16) behind) (drop (width (first % 16)) behind)

-- an option before what was found after it
abbrev pub with_option : Opt → Result OptionsAndPayload CoapFault → Result OptionsAndPayload CoapFault
with_option o (Ok found) = Ok (record found { options = o ∷ found.options })
with_option o (Err fault) = Err fault

-- options and payload at a place: what is wrong there, and how the bytes after an option are read
abbrev pub read_place : (ℕ → List ℕ → Result OptionsAndPayload CoapFault) → ℕ → List ℕ → Option CoapFault
    → Result OptionsAndPayload CoapFault
read_place behind number bytes (Some fault) = Err fault
read_place behind number [] None = Ok (record { options = []; payload = [] })
read_place behind number (first ∷ rest) None =
    if first == 255 then Ok (record { options = []; payload = rest })
    else (let o = option_here number first rest in with_option o (behind o.number (behind_option first rest)))

-- options and payload after an option of the second number; the first bounds the steps, of which
-- there is at most one a byte (RFC 7252 section 3.1)
unfoldable pub read_options : ℕ → ℕ → List ℕ → Result OptionsAndPayload CoapFault
read_options zero number bytes = Ok (record { options = []; payload = [] })
read_options (suc steps) number bytes = read_place (read_options steps) number bytes (place_fault number bytes)

-- the message of a header, its token and what was found after them (RFC 7252 section 3)
abbrev pub message_of : List ℕ → Result OptionsAndPayload CoapFault → Result Message CoapFault
message_of bytes (Ok found) =
    Ok (record {
      kind = kind_of (slice_index bytes 0 / 16 % 4);
      code = slice_index bytes 1;
      mid = 256 * slice_index bytes 2 + slice_index bytes 3;
      token = take (token_length bytes) (drop 4 bytes);
      options = found.options;
      payload = found.payload;
    })
message_of bytes (Err fault) = Err fault

-- the fault before the options, or else the message of what they are
abbrev pub read_behind : List ℕ → Option CoapFault → Result Message CoapFault
read_behind bytes (Some fault) = Err fault
read_behind bytes None = message_of bytes (read_options (length bytes) 0 (drop (4 + token_length bytes) bytes))

-- what bytes say: the message that they spell, or else their fault
unfoldable pub reading_of : List ℕ → Result Message CoapFault
reading_of bytes = read_behind bytes (header_fault bytes)
