-- What a reply and a record take over of a request. Clauses of private functions name it; no promise rests on it.
use Rattle.std.specs.Prelude.{ℕ, List, []}
use Rattle.coap_codec.specs.declared.kind.Kind.{Kind}
use Rattle.coap_codec.specs.Message.{Message}

-- a message of this type, message ID and token, so that rules of messages can be named: its code is never looked at
abbrev pub message_with : Kind → ℕ → List ℕ → Message
message_with kind mid token =
    record { kind = kind; code = 1; mid = mid; token = token; options = []; payload = [] }
