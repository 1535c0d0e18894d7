-- What the clauses of private functions name. No promise rests on it.
use Rattle.std.specs.Prelude.{ℕ, ◌≡◌, ◌-◌, ◌==◌, nat_le, nat_lt, Bool, false, not, ◌&&◌, ◌||◌, List, [], ◌∷◌, is_some}
use Rattle.std.specs.Prelude.{true, count_by}
use Rattle.std.specs.List.{list_any}
use Rattle.coap_codec.specs.OptionNumber.{uri_path_option}
use Rattle.coap_codec.specs.declared.option.Opt.{Opt}
use Rattle.server_lint.specs.declared.rule.Rule.{Rule}
use Rattle.server_lint.specs.declared.rule.Rule.TheVariants.{NotAMessage, MessageIdReused, RepeatedTooSoon}
use Rattle.server_lint.specs.declared.rule.Rule.TheVariants.{RepeatedTooOften, AnswersNothing}
use Rattle.server_lint.specs.declared.rule.Rule.TheVariants.{NotificationNotAcknowledged, UnknownCriticalOption}
use Rattle.server_lint.specs.declared.rule.Rule.TheVariants.{EmptyPathSegment, ReplyNotEmpty, AcknowledgedLate}
use Rattle.server_lint.specs.declared.rule.Rule.TheVariants.{RepeatedAfterReply, NumberNotShortest, TokenInUse}
use Rattle.server_lint.specs.declared.rule.Rule.TheVariants.{RegisteredWhileFresh, ObservationNotTaken}
use Rattle.server_lint.specs.declared.rule.Rule.TheVariants.{RequestRefused, RequestUnanswered, ObservationLeft}
use Rattle.server_lint.specs.History.{Transmission, message_of}
use Rattle.server_lint.specs.Observing.{ends, is_sent_for, is_sent_within, responds, response_to, shares_path}
use Rattle.server_lint.specs.Observing.{shares_token}
use Rattle.server_lint.specs.Pairs.{answers, is_again_within, is_repeat, replies, resets, reuses_id}
use Rattle.server_lint.specs.Single.{has_empty_segment, has_long_number, has_unknown_option, is_client_error}
use Rattle.server_lint.specs.Single.{is_confirmable, is_from_server, is_full_reply, is_not_taken, is_registration}
use Rattle.server_lint.specs.Single.{is_reply, is_some_request, is_taken}

abbrev pub was_used : List Transmission → Transmission → Bool
was_used before t = list_any (λ earlier. reuses_id earlier t) before

abbrev pub was_sent_within : ℕ → List Transmission → Transmission → Bool
was_sent_within seconds before t = list_any (λ earlier. is_again_within seconds earlier t) before

abbrev pub times_sent_within : ℕ → List Transmission → Transmission → ℕ
times_sent_within seconds before t = count_by (λ earlier. is_again_within seconds earlier t) before

abbrev pub answers_some : List Transmission → Transmission → Bool
answers_some before t = list_any (λ earlier. answers earlier t) before

abbrev pub is_answered : Transmission → List Transmission → Bool
is_answered t after = list_any (λ later. answers t later) after

abbrev pub is_con_from_server : Transmission → Bool
is_con_from_server t = is_from_server t && is_confirmable (message_of t)

abbrev pub is_unacknowledged : List Transmission → Transmission → List Transmission → ℕ → Bool
is_unacknowledged before t after end =
    not (is_from_server t)
    && (is_confirmable (message_of t)
    && (nat_le 93 (end - t.second) && (not (was_sent_within 247 before t) && not (is_answered t after))))

-- a test passes at one of the datagrams, with those after it
abbrev pub any_then : (Transmission → List Transmission → Bool) → List Transmission → Bool
any_then test [] = false
any_then test (t ∷ rest) = test t rest || any_then test rest

abbrev pub is_repeated : List Transmission → Transmission → Bool
is_repeated before t = list_any (λ earlier. is_repeat earlier t) before

abbrev pub is_request_from_server : Transmission → Bool
is_request_from_server t = is_from_server t && is_some_request (message_of t)

abbrev pub times_again_within : ℕ → Transmission → List Transmission → ℕ
times_again_within seconds t after = count_by (λ again. is_again_within seconds t again) after

abbrev pub is_late_answer : Transmission → Transmission → List Transmission → Bool
is_late_answer this first since =
    answers first this
    && (is_confirmable (message_of first)
    && (nat_le 4 (times_again_within 247 first since) && not (is_answered first since)))

abbrev pub is_late : Transmission → List Transmission → Bool
is_late t before = any_then (is_late_answer t) before

abbrev pub is_replied : Transmission → List Transmission → Bool
is_replied earlier since = list_any (λ t. replies earlier t) since

abbrev pub is_again_after_reply : Transmission → Transmission → List Transmission → Bool
is_again_after_reply this earlier since = is_again_within 247 earlier this && is_replied earlier since

abbrev pub has_replied : Transmission → List Transmission → Bool
has_replied t before = any_then (is_again_after_reply t) before

abbrev pub is_answered_too : Transmission → Transmission → List Transmission → Bool
is_answered_too earlier t rest =
    is_from_server t
    && (shares_token earlier t && (is_some_request (message_of t) && is_some (response_to t rest)))

abbrev pub has_answered_too : Transmission → List Transmission → Bool
has_answered_too registration after = any_then (is_answered_too registration) after

abbrev pub is_reset_in : Transmission → List Transmission → Bool
is_reset_in t rest = list_any (λ later. resets t later) rest

abbrev pub is_reset_later : Transmission → Transmission → List Transmission → Bool
is_reset_later earlier t rest = is_sent_for earlier t && is_reset_in t rest

abbrev pub has_reset : Transmission → List Transmission → Bool
has_reset registration after = any_then (is_reset_later registration) after

abbrev pub has_ended : Transmission → List Transmission → Bool
has_ended registration after = list_any (λ t. ends registration t) after

abbrev pub lives : Transmission → List Transmission → Bool
lives registration after =
    is_registration registration
    && (is_taken (response_to registration after)
    && (not (has_answered_too registration after)
    && (not (has_ended registration after) && not (has_reset registration after))))

abbrev pub is_token_of_other : Transmission → Transmission → List Transmission → Bool
is_token_of_other this registration since =
    shares_token registration this && (lives registration since && not (shares_path registration this))

abbrev pub has_token_of_other : Transmission → List Transmission → Bool
has_token_of_other t before = any_then (is_token_of_other t) before

abbrev pub was_notified_within : ℕ → Transmission → Transmission → List Transmission → Bool
was_notified_within seconds registration this since =
    list_any (λ t. is_sent_within seconds registration this t) since

abbrev pub is_fresh_for : Transmission → Transmission → List Transmission → Bool
is_fresh_for this registration since =
    shares_token registration this
    && (lives registration since
    && (shares_path registration this && was_notified_within 65 registration this since))

abbrev pub has_fresh : Transmission → List Transmission → Bool
has_fresh t before = any_then (is_fresh_for t) before

abbrev pub is_registered_while_fresh : List Transmission → Transmission → Bool
is_registered_while_fresh before t = is_registration t && (not (is_repeated before t) && has_fresh t before)

abbrev pub has_response : Transmission → List Transmission → Bool
has_response t after = list_any (λ later. responds t later) after

abbrev pub is_unanswered : List Transmission → Transmission → List Transmission → Bool
is_unanswered before t after =
    is_request_from_server t && (not (is_repeated before t) && not (has_response t after))

-- the options are none, or begin with a segment of the path
abbrev pub begins_with_segment : List Opt → Type 0
begins_with_segment [] = Unit {0}
begins_with_segment (o ∷ os) = (o.number == uri_path_option) ≡ true

-- whether a rule is broken
abbrev pub breaks : Rule → List Transmission → Transmission → List Transmission → ℕ → Bool
breaks NotAMessage before t after end = is_from_server t && not (is_some (message_of t))
breaks MessageIdReused before t after end = was_used before t
breaks RepeatedTooSoon before t after end = is_con_from_server t && was_sent_within 2 before t
breaks RepeatedTooOften before t after end = is_con_from_server t && nat_lt 4 (times_sent_within 247 before t)
breaks AnswersNothing before t after end =
    is_from_server t && (is_reply (message_of t) && not (answers_some before t))
breaks NotificationNotAcknowledged before t after end = is_unacknowledged before t after end
breaks UnknownCriticalOption before t after end = is_from_server t && has_unknown_option (message_of t)
breaks EmptyPathSegment before t after end = is_from_server t && has_empty_segment (message_of t)
breaks ReplyNotEmpty before t after end = is_from_server t && is_full_reply (message_of t)
breaks AcknowledgedLate before t after end = is_from_server t && (is_reply (message_of t) && is_late t before)
breaks RepeatedAfterReply before t after end = is_con_from_server t && has_replied t before
breaks NumberNotShortest before t after end = is_from_server t && has_long_number (message_of t)
breaks TokenInUse before t after end = is_request_from_server t && has_token_of_other t before
breaks RegisteredWhileFresh before t after end = is_registered_while_fresh before t
breaks ObservationNotTaken before t after end = is_registration t && is_not_taken (response_to t after)
breaks RequestRefused before t after end = is_request_from_server t && is_client_error (response_to t after)
breaks RequestUnanswered before t after end = is_unanswered before t after
breaks ObservationLeft before t after end = lives t after
