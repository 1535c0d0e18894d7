-- The rules as people read them.
use Rattle.std.specs.Prelude.{ℕ, List, codes}
use Rattle.server_lint.specs.declared.rule.Rule.{Rule}
use Rattle.server_lint.specs.declared.rule.Rule.TheVariants.{NotAMessage, MessageIdReused, RepeatedTooSoon}
use Rattle.server_lint.specs.declared.rule.Rule.TheVariants.{RepeatedTooOften, AnswersNothing}
use Rattle.server_lint.specs.declared.rule.Rule.TheVariants.{NotificationNotAcknowledged, UnknownCriticalOption}
use Rattle.server_lint.specs.declared.rule.Rule.TheVariants.{EmptyPathSegment, ReplyNotEmpty, AcknowledgedLate}
use Rattle.server_lint.specs.declared.rule.Rule.TheVariants.{RepeatedAfterReply, NumberNotShortest, TokenInUse}
use Rattle.server_lint.specs.declared.rule.Rule.TheVariants.{RegisteredWhileFresh, ObservationNotTaken}
use Rattle.server_lint.specs.declared.rule.Rule.TheVariants.{RequestRefused, RequestUnanswered, ObservationLeft}

-- its name
abbrev pub rule_name : Rule → List ℕ
rule_name NotAMessage = codes "not-a-message"
rule_name MessageIdReused = codes "message-id-reused"
rule_name RepeatedTooSoon = codes "repeated-too-soon"
rule_name RepeatedTooOften = codes "repeated-too-often"
rule_name AnswersNothing = codes "answers-nothing"
rule_name NotificationNotAcknowledged = codes "notification-not-acknowledged"
rule_name UnknownCriticalOption = codes "unknown-critical-option"
rule_name EmptyPathSegment = codes "empty-path-segment"
rule_name ReplyNotEmpty = codes "reply-not-empty"
rule_name AcknowledgedLate = codes "acknowledged-late"
rule_name RepeatedAfterReply = codes "repeated-after-reply"
rule_name NumberNotShortest = codes "number-not-shortest"
rule_name TokenInUse = codes "token-in-use"
rule_name RegisteredWhileFresh = codes "registered-while-fresh"
rule_name ObservationNotTaken = codes "observation-not-taken"
rule_name RequestRefused = codes "request-refused"
rule_name RequestUnanswered = codes "request-unanswered"
rule_name ObservationLeft = codes "observation-left"

-- CoAP, and the observing of its resources
abbrev pub coap : List ℕ
coap = codes "RFC 7252"

abbrev pub observing : List ℕ
observing = codes "RFC 7641"

-- the standard that has it
abbrev pub standard_of : Rule → List ℕ
standard_of NotAMessage = coap
standard_of MessageIdReused = coap
standard_of RepeatedTooSoon = coap
standard_of RepeatedTooOften = coap
standard_of AnswersNothing = coap
standard_of NotificationNotAcknowledged = coap
standard_of UnknownCriticalOption = coap
standard_of EmptyPathSegment = coap
standard_of ReplyNotEmpty = coap
standard_of AcknowledgedLate = coap
standard_of RepeatedAfterReply = coap
standard_of NumberNotShortest = coap
standard_of TokenInUse = coap
standard_of RegisteredWhileFresh = observing
standard_of ObservationNotTaken = observing
standard_of RequestRefused = coap
standard_of RequestUnanswered = coap
standard_of ObservationLeft = observing

-- the section of that standard
abbrev pub section_of : Rule → List ℕ
section_of NotAMessage = codes "3"
section_of MessageIdReused = codes "4.4"
section_of RepeatedTooSoon = codes "4.2"
section_of RepeatedTooOften = codes "4.2"
section_of AnswersNothing = codes "4.2"
section_of NotificationNotAcknowledged = codes "4.2"
section_of UnknownCriticalOption = codes "5.4.1"
section_of EmptyPathSegment = codes "5.10.1"
section_of ReplyNotEmpty = codes "4.2"
section_of AcknowledgedLate = codes "4.2"
section_of RepeatedAfterReply = codes "4.2"
section_of NumberNotShortest = codes "3.2"
section_of TokenInUse = codes "5.3.1"
section_of RegisteredWhileFresh = codes "3.3.1"
section_of ObservationNotTaken = codes "4.1"
section_of RequestRefused = codes "5.9.2"
section_of RequestUnanswered = codes "5.2"
section_of ObservationLeft = codes "3.6"

-- what a server does that breaks it
abbrev pub summary_of : Rule → List ℕ
summary_of NotAMessage = codes "sends bytes that are not a message"
summary_of MessageIdReused = codes "uses a message ID again for other bytes before its lifetime has elapsed"
summary_of RepeatedTooSoon = codes "sends a confirmable message again less than 2 s after the one before"
summary_of RepeatedTooOften = codes "sends a confirmable message again more than 4 times within 247 s"
summary_of AnswersNothing = codes "acknowledges or resets nothing that the device sent"
summary_of NotificationNotAcknowledged = codes "neither acknowledges nor resets a confirmable message within 93 s"
summary_of UnknownCriticalOption = codes "sends a request with a critical option that devices do not recognize"
summary_of EmptyPathSegment = codes "sends a request whose path has an empty segment"
summary_of ReplyNotEmpty = codes "acknowledges or resets with a message that is not Empty"
summary_of AcknowledgedLate = codes "acknowledges or resets a confirmable message only after it was sent 5 times"
summary_of RepeatedAfterReply = codes "sends a confirmable message again that the device had acknowledged or reset"
summary_of NumberNotShortest = codes "writes a number in an option with a leading zero byte"
summary_of TokenInUse = codes "sends a request with the token of an observation of another path"
summary_of RegisteredWhileFresh = codes "registers an observation anew less than 65 s after its latest message"
summary_of ObservationNotTaken = codes "registers an observation that the device does not take"
summary_of RequestRefused = codes "sends a request that the device refuses"
summary_of RequestUnanswered = codes "sends a request to which the device sends nothing"
summary_of ObservationLeft = codes "registers an observation and leaves it to live on at the end"
