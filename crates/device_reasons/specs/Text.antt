-- A reason in words.
use Rattle.std.specs.Prelude.{◌≡◌, ℕ, ◌==◌, true, false, List, ◌++◌, codes, if◌then◌else◌}
use Rattle.std.specs.Fmt.{decimal}
use Rattle.coap_codec.specs.declared.fault.CoapFault.{CoapFault}
use Rattle.scenario_words.specs.Words.{ended_line}
use Rattle.message_words.specs.Names.{class_and_detail}
use Rattle.message_words.specs.Text.{fault_reason}
use Rattle.device_machine.specs.State.{Machine}
use Rattle.request_reasons.specs.Words.{reason_text}
use Rattle.device_reasons.specs.Reasons.{IsArrivalReason}
use Rattle.device_reasons.specs.declared.arrival.ArrivalReason.{ArrivalReason}
use Rattle.device_reasons.specs.declared.arrival.ArrivalReason.TheVariants.{Stranger, MalformedCon, Malformed, OtherCon}
use Rattle.device_reasons.specs.declared.arrival.ArrivalReason.TheVariants.{OtherNon, EmptyReset, EmptyAck, OtherAck}
use Rattle.device_reasons.specs.declared.arrival.ArrivalReason.TheVariants.{OtherReset, RepeatedCon, RepeatedNon}
use Rattle.device_reasons.specs.declared.arrival.ArrivalReason.TheVariants.{Request}

-- bytes that are not a message, for this fault
abbrev pub malformed_text : CoapFault → List ℕ → List ℕ
malformed_text fault what = codes "rule 1: not a message (" ++ fault_reason fault ++ codes "), " ++ what

-- an Empty message of this type
abbrev pub empty_text : List ℕ → List ℕ → List ℕ
empty_text kind what = codes "rule 1: an Empty " ++ kind ++ codes ": " ++ what

-- a message of this type and code that is not a request
abbrev pub no_request_text : List ℕ → List ℕ → List ℕ → List ℕ
no_request_text kind code what =
    codes "rule 1: a " ++ kind ++ codes " with code " ++ code ++ codes ", which is not a request: " ++ what

-- either, by its code
abbrev pub other_text : List ℕ → ℕ → List ℕ → List ℕ
other_text kind code what =
    if code == 0 then empty_text kind what else no_request_text kind (class_and_detail code) what

-- an ACK or a Reset that is not Empty
abbrev pub not_empty_text : List ℕ → List ℕ → List ℕ
not_empty_text kind code =
    codes "rule 1: " ++ kind ++ codes " with code " ++ code ++ codes ", which is not Empty: nothing is sent"

-- an Empty Reset, which ends this many observations
abbrev pub empty_reset_text : ℕ → List ℕ
empty_reset_text ended =
    codes "rule 1: an Empty Reset, which is never answered; observations that it ends by its message ID: "
    ++ decimal ended

-- the words of a reason, in one line: the rule by its number, what came, and what the device does; of a request what
-- decides its answer
abbrev pub arrival_reason_text : ArrivalReason → List ℕ
arrival_reason_text (Stranger server) = codes "server " ++ decimal server ++ codes " is not an account of the device"
arrival_reason_text (MalformedCon fault mid) =
    malformed_text fault (codes "but the header says CON: a Reset with its message ID")
arrival_reason_text (Malformed fault) = malformed_text fault (codes "and no header says CON: nothing is sent")
arrival_reason_text (OtherCon code mid) = other_text (codes "CON") code (codes "a Reset with its message ID")
arrival_reason_text (OtherNon code) = other_text (codes "NON") code (codes "nothing is sent")
arrival_reason_text (EmptyReset mid ended) = empty_reset_text ended
arrival_reason_text (EmptyAck mid true) =
    codes "rule 1: an Empty ACK, which is never answered; it closes a confirmable notification with its message ID"
arrival_reason_text (EmptyAck mid false) =
    codes "rule 1: an Empty ACK, which is never answered; no open notification has its message ID"
arrival_reason_text (OtherAck code) = not_empty_text (codes "an ACK") (class_and_detail code)
arrival_reason_text (OtherReset code) = not_empty_text (codes "a Reset") (class_and_detail code)
arrival_reason_text (RepeatedCon mid) = codes "rule 2: a repeat of a CON within 247 s: the recorded reply again"
arrival_reason_text (RepeatedNon mid) = codes "rule 2: a repeat of a NON within 145 s: nothing is sent"
arrival_reason_text (Request reason) = reason_text reason

-- a line, which begins as a comment does, says why a device in this flat state handles bytes of a server as it does
abbrev pub IsReasonLine : Machine → ℕ → List ℕ → List ℕ → Type 0
IsReasonLine f server bytes line =
    (reason : ArrivalReason) × IsArrivalReason f server bytes reason
    × (line ≡ ended_line (codes "    # " ++ arrival_reason_text reason))
