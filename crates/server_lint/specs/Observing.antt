-- Tokens, and the observations of a server as datagrams show them (RFC 7641).
use Rattle.std.specs.Prelude.{ℕ, ◌≡◌, ◌==◌, nat_lt, Bool, true, false, not, ◌&&◌, ◌||◌, List, ◌∷◌, ◌++◌, find}
use Rattle.std.specs.Prelude.{Option, None, Some, is_some, if◌then◌else◌}
use Rattle.std.specs.Cmp.Lexicographic.{pointwise}
use Rattle.std.specs.List.{Any}
use Rattle.coap_codec.specs.Message.{Message}
use Rattle.device_requests.specs.Options.{segments_of}
use Rattle.server_lint.specs.History.{Transmission, message_of, seconds_since}
use Rattle.server_lint.specs.Pairs.{replies, resets}
use Rattle.server_lint.specs.Single.{is_from_server, is_registration, is_some_request, is_taken, lacks_observe}

-- this holds of one of the datagrams and those after it
pub record AnyThen (P : Transmission → List Transmission → Type 0) (all : List Transmission) : Type 0 where
  pub past : List Transmission
  pub this : Transmission
  pub rest : List Transmission
  pub stands : all ≡ past ++ this ∷ rest
  pub holds : P this rest

-- the token of a request; an Empty message has none (RFC 7252 sections 4.1 and 5.3.1)
abbrev pub has_token_of : Option Message → Option Message → Bool
has_token_of None m = false
has_token_of (Some request) None = false
has_token_of (Some request) (Some m) = not (m.code == 0) && pointwise ◌==◌ request.token m.token

-- it went between the device and the server of a request, with its token
abbrev pub shares_token : Transmission → Transmission → Bool
shares_token request t = request.server == t.server && has_token_of (message_of request) (message_of t)

-- the device sent it to the server of a request, with its token
abbrev pub is_sent_for : Transmission → Transmission → Bool
is_sent_for request t = not (is_from_server t) && shares_token request t

-- the message, where the device sent it
abbrev pub sent_message : Option Transmission → Option Message
sent_message None = None
sent_message (Some t) = if is_from_server t then None else message_of t

-- the response to a request, among the datagrams after it: the next message between the device and its server with its
-- token, where the device sent that (RFC 7252 section 5.3.2)
abbrev pub response_to : Transmission → List Transmission → Option Message
response_to request after = sent_message (find (λ t. shares_token request t) after)

-- the paths have the same segments, byte by byte (RFC 7252 section 5.10.1)
abbrev pub has_path_of : Option Message → Option Message → Bool
has_path_of None m = false
has_path_of (Some request) None = false
has_path_of (Some request) (Some m) =
    pointwise (pointwise ◌==◌) (segments_of request.options) (segments_of m.options)

abbrev pub shares_path : Transmission → Transmission → Bool
shares_path request t = has_path_of (message_of request) (message_of t)

-- the server sent another request with the token, and the device responded
pub record IsAnsweredToo (earlier t : Transmission) (rest : List Transmission) : Type 0 where
  pub received : is_from_server t ≡ true
  pub token : shares_token earlier t ≡ true
  pub request : is_some_request (message_of t) ≡ true
  pub answered : is_some (response_to t rest) ≡ true

-- the device sent a message with the token, and the server reset it
pub record IsReset (earlier t : Transmission) (rest : List Transmission) : Type 0 where
  pub sent : is_sent_for earlier t ≡ true
  pub reset : Any (λ later. resets t later ≡ true) rest

-- the device sent a message with the token, but without an Observe
abbrev pub ends : Transmission → Transmission → Bool
ends request t = is_sent_for request t && lacks_observe (message_of t)

-- a registration and the datagrams after it: the device took the observation, and it lives. Since then the device has
-- responded to no other request with the token, and sent nothing with it that has no Observe, and the server has reset
-- nothing that the device sent with it (RFC 7641 sections 3.6, 4.1 and 4.2)
pub record Lives (registration : Transmission) (after : List Transmission) : Type 0 where
  pub registered : is_registration registration ≡ true
  pub taken : is_taken (response_to registration after) ≡ true
  pub alone : AnyThen (IsAnsweredToo registration) after → ⊥
  pub observed : Any (λ t. ends registration t ≡ true) after → ⊥
  pub kept : AnyThen (IsReset registration) after → ⊥

-- the device sent something with the token of a registration fewer than n seconds before
abbrev pub is_sent_within : ℕ → Transmission → Transmission → Transmission → Bool
is_sent_within seconds registration this t = is_sent_for registration t && nat_lt (seconds_since t this) seconds

-- the device sent it with the token of a request, or acknowledges or resets the request
abbrev pub responds : Transmission → Transmission → Bool
responds request t = is_sent_for request t || replies request t
