-- The history of a device: the datagrams that went between it and its servers, in their order.
use Rattle.std.specs.Prelude.{ℕ, ◌-◌, List, Option}
use Rattle.std.specs.Result.{result_ok}
use Rattle.coap_codec.specs.Message.{Message}
use Rattle.coap_codec.specs.Reading.{reading_of}
use Rattle.server_lint.specs.declared.sender.Sender.{Sender}

-- a datagram: the step of the device at which it went, the second, who sent it, the server that sent or received it
pub record Transmission : Type 0 where
  pub step : ℕ
  pub second : ℕ
  pub sender : Sender
  pub server : ℕ
  pub bytes : List ℕ

-- the message that its bytes spell, if they spell one (RFC 7252 section 3)
abbrev pub message_of : Transmission → Option Message
message_of t = result_ok (reading_of t.bytes)

-- how many seconds after an earlier one it went
abbrev pub seconds_since : Transmission → Transmission → ℕ
seconds_since earlier t = t.second - earlier.second
