-- What is stated below a step of what a device outputs.
use Rattle.std.specs.Prelude.{◌≡◌, ℕ, ◌+◌, ◌<◌, ◌≤◌, ◌==◌, ◌&&◌, nat_le, Bool, IsTrue, List, length, take, Option}
use Rattle.std.specs.Prelude.{None, Some, slice_get}
use Rattle.std.specs.List.{list_any, sum_by}
use Rattle.coap_codec.specs.declared.option.Opt.{Opt}
use Rattle.coap_codec.specs.Message.{Message, Spells}
use Rattle.coap_codec.specs.Number.{big_endian}
use Rattle.coap_codec.specs.OptionNumber.{observe_option}
use Rattle.device_requests.specs.declared.answer.Act.{Act as Deed}
use Rattle.device_machine.specs.declared.output.Output.{Output}
use Rattle.device_machine.specs.declared.output.Output.TheVariants as outputs
use Rattle.case_text.specs.declared.answer.Answer.{Answer}
use Rattle.case_text.specs.declared.stated.OutputStated.{OutputStated}
use Rattle.case_text.specs.declared.stated.OutputStated.TheVariants.{Nothing, Send, Code, Notification, Act, More}
use Rattle.case_text.specs.declared.stated.Stated.{Stated}
use Rattle.case_text.specs.declared.stated.Stated.TheVariants as states
use Rattle.case_play.specs.Digits.{Matches}

-- ---- one output

-- this payload, if one is stated
abbrev pub HasPayload : Option (List ℕ) → List ℕ → Type 0
HasPayload None payload = Unit {0}
HasPayload (Some text) payload = payload ≡ text

-- the datagram is a message of this code, with this payload if one is stated (RFC 7252 section 3)
pub record IsMessage (code : ℕ) (text : Option (List ℕ)) (bytes : List ℕ) : Type 0 where
  pub message : Message
  pub spells : Spells bytes message
  pub code_is : message.code ≡ code
  pub payload : HasPayload text message.payload

-- an Observe option of this value, which has at most three bytes (RFC 7641 section 2)
abbrev pub is_observe : ℕ → Opt → Bool
is_observe number option =
    (option.number == observe_option) && nat_le (length option.value) 3 && (big_endian option.value == number)

-- the datagram is a message with an Observe option of this value, and with this payload
pub record IsNotification (number : ℕ) (text : List ℕ) (bytes : List ℕ) : Type 0 where
  pub message : Message
  pub spells : Spells bytes message
  pub observes : IsTrue (list_any (is_observe number) message.options)
  pub payload : message.payload ≡ text

-- an answer states that this server is sent this datagram
abbrev pub StatesSend : OutputStated → ℕ → List ℕ → Type 0
StatesSend (Send server digits) to bytes = (to ≡ server) × Matches digits bytes
StatesSend (Code code text) to bytes = IsMessage code text bytes
StatesSend (Notification number text) to bytes = IsNotification number text bytes
StatesSend stated to bytes = ⊥

-- an answer states that the device does this
abbrev pub StatesAct : OutputStated → Deed → Type 0
StatesAct (Act stated) act = act ≡ stated
StatesAct stated act = ⊥

-- an answer states this output
abbrev pub StatesOne : OutputStated → Output → Type 0
StatesOne stated (outputs.Send server bytes) = StatesSend stated server bytes
StatesOne stated (outputs.Act act) = StatesAct stated act

abbrev pub StatesThis : OutputStated → Option Output → Type 0
StatesThis stated None = ⊥
StatesThis stated (Some output) = StatesOne stated output

-- ---- all outputs of a step

-- how many outputs an answer is about; one that is not on outputs is about none
abbrev pub output_width : OutputStated → ℕ
output_width Nothing = 0
output_width (More count) = count
output_width stated = 1

abbrev pub width : Stated → ℕ
width (states.Output stated) = output_width stated
width stated = 0

-- how many outputs the first i answers are about
abbrev pub width_before : List Answer → ℕ → ℕ
width_before answers i = sum_by (λ a. width a.stated) (take i answers)

-- an answer is so of outputs, of which the answers above it are about the first of this number. What is stated of the
-- whole scenario says nothing of them
abbrev pub IsOutputSo : OutputStated → List Output → ℕ → Type 0
IsOutputSo Nothing outputs before = length outputs ≡ before
IsOutputSo (More count) outputs before = before + count ≤ length outputs
IsOutputSo stated outputs before = StatesThis stated (slice_get outputs before)

abbrev pub IsSo : Stated → List Output → ℕ → Type 0
IsSo (states.Output stated) outputs before = IsOutputSo stated outputs before
IsSo stated outputs before = Unit {0}

-- the answers below a step state its outputs, all of them, in their order
pub record States (answers : List Answer) (outputs : List Output) : Type 0 where
  pub each : (i : ℕ) (answer : Answer) → slice_get answers i ≡ Some answer
      → IsSo answer.stated outputs (width_before answers i)
  pub all : length outputs ≡ width_before answers (length answers)

-- ---- the first answer that is not so

abbrev pub IsSoOr : Option Answer → List Output → ℕ → Type 0
IsSoOr None outputs before = length outputs ≡ before
IsSoOr (Some answer) outputs before = IsSo answer.stated outputs before

-- the answer of this number, counted from 0, is so; after the last one: no output is left
abbrev pub IsSoAt : List Answer → List Output → ℕ → Type 0
IsSoAt answers outputs i = IsSoOr (slice_get answers i) outputs (width_before answers i)

-- those above it are so, and it is not
pub record IsFirstWrong (answers : List Answer) (outputs : List Output) (i : ℕ) : Type 0 where
  pub within : i ≤ length answers
  pub above : (k : ℕ) → k < i → IsSoAt answers outputs k
  pub wrong : IsSoAt answers outputs i → ⊥

-- all are so, or this is the first that is not
abbrev pub IsUnstated : List Answer → List Output → Option ℕ → Type 0
IsUnstated answers outputs None = States answers outputs
IsUnstated answers outputs (Some i) = IsFirstWrong answers outputs i
