-- What a finding says.
use Rattle.std.specs.Prelude.{ℕ, ◌-◌, Bool, List, [], ◌++◌, Option, None, Some, codes, count_by, find, reverse}
use Rattle.std.specs.Fmt.{decimal}
use Rattle.coap_codec.specs.Message.{Message}
use Rattle.coap_codec.specs.Reading.{reading_of}
use Rattle.message_words.specs.Names.{class_and_detail}
use Rattle.message_words.specs.Text.{reading_text}
use Rattle.server_lint.specs.declared.rule.Rule.{Rule}
use Rattle.server_lint.specs.declared.rule.Rule.TheVariants.{NotAMessage, MessageIdReused, RepeatedTooSoon}
use Rattle.server_lint.specs.declared.rule.Rule.TheVariants.{RepeatedTooOften, AnswersNothing}
use Rattle.server_lint.specs.declared.rule.Rule.TheVariants.{NotificationNotAcknowledged, UnknownCriticalOption}
use Rattle.server_lint.specs.declared.rule.Rule.TheVariants.{EmptyPathSegment, ReplyNotEmpty, AcknowledgedLate}
use Rattle.server_lint.specs.declared.rule.Rule.TheVariants.{RepeatedAfterReply, NumberNotShortest, TokenInUse}
use Rattle.server_lint.specs.declared.rule.Rule.TheVariants.{RegisteredWhileFresh, ObservationNotTaken}
use Rattle.server_lint.specs.declared.rule.Rule.TheVariants.{RequestRefused, RequestUnanswered, ObservationLeft}
use Rattle.server_lint.specs.History.{Transmission, message_of, seconds_since}
use Rattle.server_lint.specs.Observing.{is_sent_for, response_to}
use Rattle.server_lint.specs.Pairs.{is_again_within, reuses_id}

abbrev pub seconds_after : Transmission → Option Transmission → ℕ
seconds_after t None = 0
seconds_after t (Some earlier) = seconds_since earlier t

-- how many seconds after the last earlier one that passes a test with it
abbrev pub seconds_since_last : (Transmission → Transmission → Bool) → List Transmission → Transmission → ℕ
seconds_since_last test before t = seconds_after t (find (λ earlier. test earlier t) (reverse before))

-- the code of a message, as `4.05`
abbrev pub code_of : Option Message → List ℕ
code_of None = []
code_of (Some m) = class_and_detail m.code

-- what was done with a message ID, by a datagram between these before and after it, in a history that ends in this
-- second
abbrev pub deed_of : Rule → List Transmission → Transmission → List Transmission → ℕ → List ℕ
deed_of NotAMessage before t after end = []
deed_of MessageIdReused before t after end =
    codes " again for other bytes after " ++ decimal (seconds_since_last reuses_id before t) ++ codes " s"
deed_of RepeatedTooSoon before t after end =
    codes " sent again after " ++ decimal (seconds_since_last (is_again_within 2) before t) ++ codes " s"
deed_of RepeatedTooOften before t after end =
    codes " sent again " ++ decimal (count_by (λ earlier. is_again_within 247 earlier t) before)
    ++ codes " times within 247 s"
deed_of AnswersNothing before t after end = codes " answers nothing that was sent"
deed_of NotificationNotAcknowledged before t after end =
    codes " neither acknowledged nor reset in the " ++ decimal (end - t.second) ++ codes " s after it"
deed_of UnknownCriticalOption before t after end = codes " has a critical option that is not recognized"
deed_of EmptyPathSegment before t after end = codes " has an empty segment in its path"
deed_of ReplyNotEmpty before t after end = codes " acknowledges or resets, and is not Empty"
deed_of AcknowledgedLate before t after end = codes " answers what had been sent 5 times"
deed_of RepeatedAfterReply before t after end = codes " sent again after the device had answered it"
deed_of NumberNotShortest before t after end = codes " has a number with a leading zero byte"
deed_of TokenInUse before t after end = codes " has the token of an observation of another path"
deed_of RegisteredWhileFresh before t after end =
    codes " registers anew " ++ decimal (seconds_since_last (λ earlier this. is_sent_for this earlier) before t)
    ++ codes " s after the latest message of its observation"
deed_of ObservationNotTaken before t after end = codes " registers an observation that the device does not take"
deed_of RequestRefused before t after end = codes " is refused: " ++ code_of (response_to t after)
deed_of RequestUnanswered before t after end = codes " is answered by nothing"
deed_of ObservationLeft before t after end = codes " registers an observation that lives on at the end"

-- of a message its ID and what was done with it, of other bytes why they are not a message
abbrev pub text_about : Option Message → Rule → List Transmission → Transmission → List Transmission → ℕ → List ℕ
text_about None rule before t after end = reading_text (reading_of t.bytes)
text_about (Some m) rule before t after end =
    codes "message ID " ++ decimal m.mid ++ deed_of rule before t after end

-- what a finding by this rule says of the datagram between these, in a history that ends in this second
abbrev pub finding_text : Rule → List Transmission → Transmission → List Transmission → ℕ → List ℕ
finding_text rule before t after end = text_about (message_of t) rule before t after end
