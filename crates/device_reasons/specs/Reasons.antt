-- Why a device handles a datagram as it does: the first line of the table of rules whose condition holds (RFC 7252
-- sections 4.2 to 4.5).
use Rattle.std.specs.Prelude.{◌≡◌, ◌≢◌, ◌⊎◌, ℕ, true, false, List, None, Some, Ok, Err, count_by, is_some}
use Rattle.std.specs.List.{list_any}
use Rattle.coap_codec.specs.declared.fault.CoapFault.{CoapFault}
use Rattle.coap_codec.specs.declared.kind.Kind.{Kind}
use Rattle.coap_codec.specs.declared.kind.Kind.TheVariants.{Con, Non, Ack, Rst}
use Rattle.coap_codec.specs.Message.{Message}
use Rattle.coap_codec.specs.Reading.{reading_of}
use Rattle.notifier.specs.Observed.{is_awaited, was_sent}
use Rattle.object_defs.specs.Lines.{first_line}
use Rattle.device_requests.specs.Client.{Client, has_account}
use Rattle.device_requests.specs.Laws.{request_lines}
use Rattle.device_requests.specs.Request.{outcome_of}
use Rattle.device_machine.specs.Laws.{IsFresh}
use Rattle.device_machine.specs.Reactions.{claimed_mid, claims_confirmable, is_request, repeat_of}
use Rattle.device_machine.specs.State.{Machine}
use Rattle.request_reasons.specs.Reasons.{IsTold, ruling_of}
use Rattle.request_reasons.specs.declared.reasons.Reason.{Reason}
use Rattle.device_reasons.specs.declared.arrival.ArrivalReason.{ArrivalReason}
use Rattle.device_reasons.specs.declared.arrival.ArrivalReason.TheVariants.{Stranger, MalformedCon, Malformed, OtherCon}
use Rattle.device_reasons.specs.declared.arrival.ArrivalReason.TheVariants.{OtherNon, EmptyReset, EmptyAck, OtherAck}
use Rattle.device_reasons.specs.declared.arrival.ArrivalReason.TheVariants.{OtherReset, RepeatedCon, RepeatedNon}
use Rattle.device_reasons.specs.declared.arrival.ArrivalReason.TheVariants.{Request}

-- the bytes come from an account of the device, and are not a message, for this fault
pub record IsMalformed (f : Machine) (server : ℕ) (bytes : List ℕ) (fault : CoapFault) : Type 0 where
  pub account : has_account f.kept.client server ≡ true
  pub reading : reading_of bytes ≡ Err fault

-- they come from an account, and are a message of this type
pub record IsMessage (f : Machine) (server : ℕ) (bytes : List ℕ) (kind : Kind) (m : Message) : Type 0 where
  pub account : has_account f.kept.client server ≡ true
  pub reading : reading_of bytes ≡ Ok m
  pub kind_is : m.kind ≡ kind

-- why a request is answered so: the reason's rule is the first that applies, and that of the answer, and what it says
-- of the request is so
pub record IsReasonFor (client : Client) (server : ℕ) (m : Message) (reason : Reason) : Type 0 where
  pub first : first_line (request_lines client server m) ≡ Some (ruling_of m reason)
  pub ruling : ruling_of m reason ≡ (outcome_of client server m).answer.ruling
  pub told : IsTold client server m reason

-- why a device in this flat state handles bytes that come from a server as it does
abbrev pub IsArrivalReason : Machine → ℕ → List ℕ → ArrivalReason → Type 0
IsArrivalReason f server bytes (Stranger asking) = (asking ≡ server) × (has_account f.kept.client server ≡ false)
IsArrivalReason f server bytes (MalformedCon fault mid) =
    IsMalformed f server bytes fault × (claims_confirmable bytes ≡ true) × (claimed_mid bytes ≡ mid)
IsArrivalReason f server bytes (Malformed fault) =
    IsMalformed f server bytes fault × (claims_confirmable bytes ≡ false)
IsArrivalReason f server bytes (OtherCon code mid) =
    (m : Message) × IsMessage f server bytes Con m × (is_request m.code ≡ false) × (m.code ≡ code) × (m.mid ≡ mid)
IsArrivalReason f server bytes (OtherNon code) =
    (m : Message) × IsMessage f server bytes Non m × (is_request m.code ≡ false) × (m.code ≡ code)
IsArrivalReason f server bytes (EmptyReset mid ended) =
    (m : Message) × IsMessage f server bytes Rst m × (m.code ≡ 0) × (m.mid ≡ mid)
    × (count_by (was_sent server mid) f.kept.observations ≡ ended)
IsArrivalReason f server bytes (EmptyAck mid closes) =
    (m : Message) × IsMessage f server bytes Ack m × (m.code ≡ 0) × (m.mid ≡ mid)
    × (list_any (is_awaited server mid) f.kept.observations ≡ closes)
IsArrivalReason f server bytes (OtherAck code) =
    (m : Message) × IsMessage f server bytes Ack m × (m.code ≢ 0) × (m.code ≡ code)
IsArrivalReason f server bytes (OtherReset code) =
    (m : Message) × IsMessage f server bytes Rst m × (m.code ≢ 0) × (m.code ≡ code)
IsArrivalReason f server bytes (RepeatedCon mid) =
    (m : Message) × IsMessage f server bytes Con m × (is_request m.code ≡ true)
    × (is_some (repeat_of f server m) ≡ true) × (m.mid ≡ mid)
IsArrivalReason f server bytes (RepeatedNon mid) =
    (m : Message) × IsMessage f server bytes Non m × (is_request m.code ≡ true)
    × (is_some (repeat_of f server m) ≡ true) × (m.mid ≡ mid)
IsArrivalReason f server bytes (Request reason) =
    (m : Message) × IsFresh f server bytes m × ((m.kind ≡ Con) ⊎ (m.kind ≡ Non))
    × IsReasonFor f.kept.client server m reason
