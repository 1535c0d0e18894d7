-- The rule that decides how a datagram is handled.
use Rattle.std.specs.Prelude.{ℕ, Option, None, Some}
use Rattle.request_reasons.specs.Rules.{reason_rule}
use Rattle.device_reasons.specs.declared.arrival.ArrivalReason.{ArrivalReason}
use Rattle.device_reasons.specs.declared.arrival.ArrivalReason.TheVariants.{Stranger, MalformedCon, Malformed, OtherCon}
use Rattle.device_reasons.specs.declared.arrival.ArrivalReason.TheVariants.{OtherNon, EmptyReset, EmptyAck, OtherAck}
use Rattle.device_reasons.specs.declared.arrival.ArrivalReason.TheVariants.{OtherReset, RepeatedCon, RepeatedNon}
use Rattle.device_reasons.specs.declared.arrival.ArrivalReason.TheVariants.{Request}

-- its number, as the words of the reason have it; a stranger's datagram is dropped before all rules
abbrev pub arrival_rule : ArrivalReason → Option ℕ
arrival_rule (Stranger server) = None
arrival_rule (MalformedCon fault mid) = Some 1
arrival_rule (Malformed fault) = Some 1
arrival_rule (OtherCon code mid) = Some 1
arrival_rule (OtherNon code) = Some 1
arrival_rule (EmptyReset mid ended) = Some 1
arrival_rule (EmptyAck mid closes) = Some 1
arrival_rule (OtherAck code) = Some 1
arrival_rule (OtherReset code) = Some 1
arrival_rule (RepeatedCon mid) = Some 2
arrival_rule (RepeatedNon mid) = Some 2
arrival_rule (Request reason) = reason_rule reason
