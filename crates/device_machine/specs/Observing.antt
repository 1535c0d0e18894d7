-- What the reply to a request leaves of the observations (RFC 7641 sections 3 and 4; that there are 32 at most is this
-- profile's).
use Rattle.std.specs.Prelude.{◌≡◌, ℕ, nat_le, Bool, true, false, not, ◌&&◌, List, length, Option, None, Some}
use Rattle.std.specs.Prelude.{if◌then◌else◌}
use Rattle.coap_codec.specs.Message.{Message}
use Rattle.coap_codec.specs.declared.kind.Kind.{Kind}
use Rattle.coap_codec.specs.declared.kind.Kind.TheVariants.{Con, Non, Ack, Rst}
use Rattle.object_defs.specs.declared.path.Path.{Path}
use Rattle.notifier.specs.Observed.{has_name, number_for, with_registered, without_cancelled}
use Rattle.notifier.specs.declared.observation.Observation.{Observation}
use Rattle.device_requests.specs.Answer.{is_content}
use Rattle.device_requests.specs.Observe.{interest_of}
use Rattle.device_requests.specs.declared.answer.Answer.{Answer}
use Rattle.device_requests.specs.declared.observe.Interest.{Interest}
use Rattle.device_requests.specs.declared.observe.Interest.TheVariants.{Register, Cancel}
use Rattle.device_notifications.specs.Report.{report_of}
use Rattle.device_machine.specs.State.{DeviceState, with_observations}

-- the Observe number of a reply, where it has one, and the observations then
pub record ObserveResult : Type 0 where
  pub number : Option ℕ
  pub left : List Observation

-- this number, and these observations, are what is noted
pub record Notes (number : Option ℕ) (old new : DeviceState) (noted : ObserveResult) : Type 0 where
  pub number_is : number ≡ noted.number
  pub kept_is : new ≡ with_observations old noted.left

-- no Observe
abbrev pub no_observe : List Observation → ObserveResult
no_observe observations = record { number = None; left = observations }

-- the message ID of the reply to a request: its own in an acknowledgement, else the device's next
abbrev pub reply_mid : ℕ → Message → Kind → ℕ
reply_mid next_id m Con = m.mid
reply_mid next_id m Non = next_id
reply_mid next_id m Ack = m.mid
reply_mid next_id m Rst = m.mid

-- whether the reply to a request of this type is a NON
abbrev pub replies_non : Kind → Bool
replies_non Con = false
replies_non Non = true
replies_non Ack = false
replies_non Rst = false

-- an observation that begins with the reply of this content, closed: the reply awaits no acknowledgement
abbrev pub new_observation : DeviceState → ℕ → Message → Path → Option ℕ → List ℕ → Observation
new_observation kept server m path accept payload =
    record {
      server = server;
      token = m.token;
      path = path;
      accept = accept;
      report = report_of kept.client path payload;
      second = kept.clock;
      number = 0;
      non = replies_non m.kind;
      mid = reply_mid kept.next_id m m.kind;
      timer = None;
    }

-- there are 32, none of them of this name
abbrev pub lacks_place : List Observation → ℕ → List ℕ → Bool
lacks_place observations server token = not (has_name observations server token) && nat_le 32 (length observations)

-- an observation is registered where there is a place for it
abbrev pub after_registration : List Observation → Observation → ObserveResult
after_registration observations new =
    if lacks_place observations new.server new.token then no_observe observations
    else record {
      number = Some (number_for observations new.server new.token);
      left = with_registered observations new;
    }

-- the content of a Read that registers begins an observation, or renews that of its name; a refusal ends that
abbrev pub noted_read : DeviceState → ℕ → Message → Path → Option ℕ → Answer → ObserveResult
noted_read kept server m path accept answer =
    if is_content answer then after_registration kept.observations
    (new_observation kept server m path accept answer.payload)
    else no_observe (without_cancelled kept.observations server m.token)

-- one that cancels ends the observation of its name, whatever is answered
abbrev pub noted_by : DeviceState → ℕ → Message → Answer → Option Interest → ObserveResult
noted_by kept server m answer None = no_observe kept.observations
noted_by kept server m answer (Some (Register path accept)) = noted_read kept server m path accept answer
noted_by kept server m answer (Some Cancel) = no_observe (without_cancelled kept.observations server m.token)

-- what a request with this answer leaves of the observations
abbrev pub observe_result : DeviceState → ℕ → Message → Answer → ObserveResult
observe_result kept server m answer = noted_by kept server m answer (interest_of m)
