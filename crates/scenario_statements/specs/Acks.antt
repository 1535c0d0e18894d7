-- An Empty ACK, which people have words for and scenario text has none: `ack S MID`, as `reset S MID` is an Empty RST.
use Rattle.std.specs.Prelude.{ℕ, ◌==◌, ◌&&◌, Bool, true, false, List, [], ◌∷◌, Option, None, Some, Result, Ok, Err}
use Rattle.std.specs.Prelude.{codes, if◌then◌else◌}
use Rattle.std.specs.Fmt.{decimal}
use Rattle.std.specs.List.{join_with_byte}
use Rattle.std.specs.Str.{bytes_eq}
use Rattle.coap_codec.specs.declared.fault.CoapFault.{CoapFault}
use Rattle.coap_codec.specs.declared.kind.Kind.{Kind}
use Rattle.coap_codec.specs.declared.kind.Kind.TheVariants.{Ack as Acknowledgement, Con, Non, Rst}
use Rattle.coap_codec.specs.Message.{Message, spelling}
use Rattle.scenario_words.specs.declared.cause.Cause.{Cause}
use Rattle.scenario_words.specs.Number.{number_of}
use Rattle.scenario_words.specs.Reading.{◌>>=◌, check_of_end, word_by}
use Rattle.scenario_statements.specs.declared.acks.Ack.{Ack}

-- the message that acknowledges the one of this message ID, and says no more (RFC 7252 section 4.2)
abbrev pub empty_ack : ℕ → Message
empty_ack mid = record { kind = Acknowledgement; code = 0; mid = mid; token = []; options = []; payload = [] }

-- its datagram
abbrev pub ack_datagram : ℕ → List ℕ
ack_datagram mid = spelling (empty_ack mid)

-- `ack S MID`
abbrev pub ack_words : ℕ → ℕ → List (List ℕ)
ack_words server mid = codes "ack" ∷ decimal server ∷ decimal mid ∷ []

abbrev pub ack_line : ℕ → ℕ → List ℕ
ack_line server mid = join_with_byte 32 (ack_words server mid)

-- the words after `ack`: the server, the message ID, and no more
abbrev pub ack_from : List (List ℕ) → Result Ack Cause
ack_from ws = do
  s ← word_by (number_of 1 65534) ws
  m ← word_by (number_of 0 65535) s.1
  e ← check_of_end m.1
  Ok (record { server = s.0; mid = m.0 })

abbrev pub ack_if : Result Ack Cause → Option Ack
ack_if (Ok a) = Some a
ack_if (Err cause) = None

-- what words say that are `ack S MID`
abbrev pub said_ack : List (List ℕ) → Option Ack
said_ack [] = None
said_ack (w ∷ ws) = if bytes_eq w (codes "ack") then ack_if (ack_from ws) else None

abbrev pub is_ack : Kind → Bool
is_ack Con = false
is_ack Non = false
is_ack Acknowledgement = true
is_ack Rst = false

-- the message ID of an Empty ACK: of the type ACK and the code 0.00 (RFC 7252 section 4.1)
abbrev pub ack_of : Message → Option ℕ
ack_of m = if is_ack m.kind && m.code == 0 then Some m.mid else None

-- the same, of what bytes were read as
abbrev pub acknowledged_id : Result Message CoapFault → Option ℕ
acknowledged_id (Ok m) = ack_of m
acknowledged_id (Err fault) = None
