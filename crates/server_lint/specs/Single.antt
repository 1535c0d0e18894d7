-- What a datagram is by itself.
use Rattle.std.specs.Prelude.{ℕ, ◌==◌, nat_le, nat_lt, Bool, true, false, not, ◌&&◌, List, [], ◌∷◌, length}
use Rattle.std.specs.Prelude.{Option, None, Some}
use Rattle.std.specs.List.{list_any}
use Rattle.coap_codec.specs.declared.kind.Kind.{Kind}
use Rattle.coap_codec.specs.declared.kind.Kind.TheVariants.{Con, Non, Ack, Rst}
use Rattle.coap_codec.specs.Message.{Message}
use Rattle.coap_codec.specs.declared.option.Opt.{Opt}
use Rattle.coap_codec.specs.OptionNumber.{accept_option, content_format_option, observe_option, uri_path_option}
use Rattle.coap_codec.specs.OptionNumber.{uri_port_option}
use Rattle.device_requests.specs.Operation.{get}
use Rattle.device_requests.specs.Options.{has_unrecognized_critical, observe_of}
use Rattle.server_lint.specs.declared.sender.Sender.{Sender}
use Rattle.server_lint.specs.declared.sender.Sender.TheVariants.{Server, Device}
use Rattle.server_lint.specs.History.{Transmission, message_of}

abbrev pub is_server : Sender → Bool
is_server Server = true
is_server Device = false

-- a server sent it
abbrev pub is_from_server : Transmission → Bool
is_from_server t = is_server t.sender

-- a type whose messages have a message ID of their own; an acknowledgement and a reset have that of what they answer
-- (RFC 7252 section 4.4)
abbrev pub has_own_id : Kind → Bool
has_own_id Con = true
has_own_id Non = true
has_own_id Ack = false
has_own_id Rst = false

abbrev pub is_con : Kind → Bool
is_con Con = true
is_con Non = false
is_con Ack = false
is_con Rst = false

-- a message that is confirmable (RFC 7252 section 4.2)
abbrev pub is_confirmable : Option Message → Bool
is_confirmable None = false
is_confirmable (Some m) = is_con m.kind

-- a message that answers another by its message ID: an acknowledgement, a reset (RFC 7252 section 4.2)
abbrev pub is_reply : Option Message → Bool
is_reply None = false
is_reply (Some m) = not (has_own_id m.kind)

abbrev pub is_rst : Kind → Bool
is_rst Con = false
is_rst Non = false
is_rst Ack = false
is_rst Rst = true

-- a reset, which is Empty; another one is ignored (RFC 7252 sections 4.2 and 4.3)
abbrev pub is_reset : Option Message → Bool
is_reset None = false
is_reset (Some m) = is_rst m.kind && m.code == 0

-- an acknowledgement or a reset that is not Empty (RFC 7252 section 4.2)
abbrev pub is_full_reply : Option Message → Bool
is_full_reply None = false
is_full_reply (Some m) = not (has_own_id m.kind) && not (m.code == 0)

-- a request: it has an ID of its own, and a code of class 0 that is not 0.00 (RFC 7252 section 12.1)
abbrev pub is_request : Message → Bool
is_request m = (has_own_id m.kind && nat_lt 0 m.code) && nat_lt m.code 32

abbrev pub is_some_request : Option Message → Bool
is_some_request None = false
is_some_request (Some m) = is_request m

-- a request with a critical option that devices do not recognize (RFC 7252 section 5.4.1)
abbrev pub has_unknown_option : Option Message → Bool
has_unknown_option None = false
has_unknown_option (Some m) = is_request m && has_unrecognized_critical m.options

-- a segment of the path that has no bytes
abbrev pub is_empty_segment : Opt → Bool
is_empty_segment o = o.number == uri_path_option && length o.value == 0

-- a request of which a segment of the path has no bytes (RFC 7252 section 5.10.1)
abbrev pub has_empty_segment : Option Message → Bool
has_empty_segment None = false
has_empty_segment (Some m) = is_request m && list_any is_empty_segment m.options

-- Max-Age and Size1 (RFC 7252 sections 5.10.5 and 5.10.9)
abbrev pub max_age_option : ℕ
max_age_option = 14

abbrev pub size1_option : ℕ
size1_option = 60

-- the options whose value is a number (RFC 7252 section 5.10, RFC 7641 section 2)
abbrev pub number_options : List ℕ
number_options =
    observe_option ∷ uri_port_option ∷ content_format_option ∷ max_age_option ∷ accept_option ∷ size1_option ∷ []

abbrev pub begins_with_zero : List ℕ → Bool
begins_with_zero [] = false
begins_with_zero (b ∷ bs) = b == 0

-- a number in more bytes than the fewest (RFC 7252 section 3.2)
abbrev pub is_long_number : Opt → Bool
is_long_number o = list_any (λ number. number == o.number) number_options && begins_with_zero o.value

abbrev pub has_long_number : Option Message → Bool
has_long_number None = false
has_long_number (Some m) = list_any is_long_number m.options

abbrev pub is_zero : Option ℕ → Bool
is_zero None = false
is_zero (Some n) = n == 0

-- a GET whose Observe is 0: it registers (RFC 7641 section 2)
abbrev pub registers : Option Message → Bool
registers None = false
registers (Some m) = is_request m && (m.code == get && is_zero (observe_of m.options))

-- a server asks in it for an observation
abbrev pub is_registration : Transmission → Bool
is_registration t = is_from_server t && registers (message_of t)

abbrev pub has_observe : Message → Bool
has_observe m = list_any (λ o. o.number == observe_option) m.options

-- 2.05 Content (RFC 7252 section 12.1.2)
abbrev pub content_code : ℕ
content_code = 69

-- 2.05 with an Observe, which takes an observation (RFC 7641 section 4.1)
abbrev pub is_taken : Option Message → Bool
is_taken None = false
is_taken (Some m) = m.code == content_code && has_observe m

-- 2.05 without an Observe, which takes none (RFC 7641 section 4.1)
abbrev pub is_not_taken : Option Message → Bool
is_not_taken None = false
is_not_taken (Some m) = m.code == content_code && not (has_observe m)

-- a code of class 4: 4.00 to 4.31 (RFC 7252 section 5.9.2)
abbrev pub is_client_error : Option Message → Bool
is_client_error None = false
is_client_error (Some m) = nat_le 128 m.code && nat_lt m.code 160

abbrev pub lacks_observe : Option Message → Bool
lacks_observe None = false
lacks_observe (Some m) = not (has_observe m)
