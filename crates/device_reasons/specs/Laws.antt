-- What a device does for each reason, as the table of rules has it.
use Rattle.std.specs.Prelude.{◌≡◌, ℕ, false, List, Option, Ok, Some}
use Rattle.coap_codec.specs.Message.{Message}
use Rattle.coap_codec.specs.Reading.{reading_of}
use Rattle.device_requests.specs.Request.{outcome_of}
use Rattle.device_machine.specs.declared.event.Event.TheVariants.{Recv}
use Rattle.device_machine.specs.declared.recorded.Recorded.{Recorded}
use Rattle.device_machine.specs.Reactions.{Reaction, on_acknowledgement, on_outcome, on_reset, reaction_to, repeat_of}
use Rattle.device_machine.specs.Reactions.{reset, sends, sent_to, silence}
use Rattle.device_machine.specs.State.{Machine}
use Rattle.device_reasons.specs.Reasons.{IsArrivalReason}
use Rattle.device_reasons.specs.declared.arrival.ArrivalReason.{ArrivalReason}
use Rattle.device_reasons.specs.declared.arrival.ArrivalReason.TheVariants.{Stranger, MalformedCon, Malformed, OtherCon}
use Rattle.device_reasons.specs.declared.arrival.ArrivalReason.TheVariants.{OtherNon, EmptyReset, EmptyAck, OtherAck}
use Rattle.device_reasons.specs.declared.arrival.ArrivalReason.TheVariants.{OtherReset, RepeatedCon, RepeatedNon}
use Rattle.device_reasons.specs.declared.arrival.ArrivalReason.TheVariants.{Request}

-- the bytes are a request that is recorded with this reply
pub record IsRecorded (f : Machine) (server : ℕ) (bytes : List ℕ) (reply : Option (List ℕ)) : Type 0 where
  pub message : Message
  pub recorded : Recorded
  pub reading : reading_of bytes ≡ Ok message
  pub first : repeat_of f server message ≡ Some recorded
  pub reply_is : recorded.reply ≡ reply

-- the reaction of a device in this flat state to bytes of a server that come for such a reason: nothing, a Reset with
-- the message ID, the recorded reply again, the answer of the first rule that applies, or what an Empty message does to
-- the observations: nothing where it ends or closes none
abbrev pub HasReaction : Machine → ℕ → List ℕ → ArrivalReason → Reaction → Type 0
HasReaction f server bytes (Stranger asking) reaction = reaction ≡ silence f
HasReaction f server bytes (MalformedCon fault mid) reaction = reaction ≡ sends f server (reset mid)
HasReaction f server bytes (Malformed fault) reaction = reaction ≡ silence f
HasReaction f server bytes (OtherCon code mid) reaction = reaction ≡ sends f server (reset mid)
HasReaction f server bytes (OtherNon code) reaction = reaction ≡ silence f
HasReaction f server bytes (EmptyReset mid ended) reaction =
    (reaction ≡ on_reset f server mid) × (ended ≡ 0 → reaction ≡ silence f)
HasReaction f server bytes (EmptyAck mid closes) reaction =
    (reaction ≡ on_acknowledgement f server mid) × (closes ≡ false → reaction ≡ silence f)
HasReaction f server bytes (OtherAck code) reaction = reaction ≡ silence f
HasReaction f server bytes (OtherReset code) reaction = reaction ≡ silence f
HasReaction f server bytes (RepeatedCon mid) reaction =
    (reply : Option (List ℕ)) × IsRecorded f server bytes reply
    × (reaction ≡ record { outputs = sent_to server reply; flat = f })
HasReaction f server bytes (RepeatedNon mid) reaction = reaction ≡ silence f
HasReaction f server bytes (Request reason) reaction =
    (m : Message) × (reading_of bytes ≡ Ok m)
    × (reaction ≡ on_outcome f server m (outcome_of f.kept.client server m))

-- bytes that come for a reason have its reaction
abbrev pub ReasonsDecide : Type 0
ReasonsDecide =
    (f : Machine) (server : ℕ) (bytes : List ℕ) (reason : ArrivalReason) → IsArrivalReason f server bytes reason
    → HasReaction f server bytes reason (reaction_to f (Recv server bytes))
