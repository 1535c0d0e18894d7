-- The messages of an observation (RFC 7641 section 4).
use Rattle.std.specs.Prelude.{ℕ, List, ◌++◌, Option, option_map}
use Rattle.coap_codec.specs.Message.{Message, spelling}
use Rattle.coap_codec.specs.OptionNumber.{observe_option, content_format_option}
use Rattle.coap_codec.specs.Options.{number_option}
use Rattle.coap_codec.specs.declared.kind.Kind.{Kind}
use Rattle.coap_codec.specs.declared.option.Opt.{Opt}
use Rattle.notifier.specs.declared.observation.Observation.{Observation}
use Rattle.notifier.specs.declared.observation.Timer.{Timer}
use Rattle.device_requests.specs.Answer.{code_byte}
use Rattle.device_requests.specs.Ruling.{code_of}
use Rattle.device_requests.specs.declared.answer.Answer.{Answer}
use Rattle.device_notifications.specs.declared.datagram.Datagram.{Datagram}

-- Observe with this number, and Content-Format
abbrev pub observe_options : Option ℕ → List Opt
observe_options number = number_option observe_option number

abbrev pub format_options : Option ℕ → List Opt
format_options format = number_option content_format_option format

-- an answer as a message of the device's own: of this type and message ID, with the observation's token
abbrev pub notification : Kind → Observation → ℕ → Option ℕ → Answer → Message
notification kind o mid number answer =
    record {
      kind = kind;
      code = code_byte (code_of answer.ruling);
      mid = mid;
      token = o.token;
      options = observe_options number ++ format_options answer.format;
      payload = answer.payload;
    }

-- that message, on its way to the observation's server
abbrev pub datagram_of : Kind → Observation → ℕ → Option ℕ → Answer → Datagram
datagram_of kind o mid number answer =
    record { server = o.server; bytes = spelling (notification kind o mid number answer) }

-- bytes that an observation's notification is sent again with, on their way to its server
abbrev pub resent_datagram : Observation → Timer → Datagram
resent_datagram o timer = record { server = o.server; bytes = timer.bytes }

-- the open notification of an observation, if it has one
abbrev pub open_notification : Observation → Option Datagram
open_notification o = option_map (resent_datagram o) o.timer
