-- When a server breaks a rule.
use Rattle.std.specs.Prelude.{ℕ, ◌≡◌, ◌-◌, ◌<◌, ◌≤◌, true, false, List, None, count_by}
use Rattle.std.specs.List.{Any}
use Rattle.server_lint.specs.declared.rule.Rule.{Rule}
use Rattle.server_lint.specs.declared.rule.Rule.TheVariants.{NotAMessage, MessageIdReused, RepeatedTooSoon}
use Rattle.server_lint.specs.declared.rule.Rule.TheVariants.{RepeatedTooOften, AnswersNothing}
use Rattle.server_lint.specs.declared.rule.Rule.TheVariants.{NotificationNotAcknowledged, UnknownCriticalOption}
use Rattle.server_lint.specs.declared.rule.Rule.TheVariants.{EmptyPathSegment, ReplyNotEmpty, AcknowledgedLate}
use Rattle.server_lint.specs.declared.rule.Rule.TheVariants.{RepeatedAfterReply, NumberNotShortest, TokenInUse}
use Rattle.server_lint.specs.declared.rule.Rule.TheVariants.{RegisteredWhileFresh, ObservationNotTaken}
use Rattle.server_lint.specs.declared.rule.Rule.TheVariants.{RequestRefused, RequestUnanswered, ObservationLeft}
use Rattle.server_lint.specs.History.{Transmission, message_of}
use Rattle.server_lint.specs.Observing.{AnyThen, Lives, is_sent_within, responds, response_to, shares_path}
use Rattle.server_lint.specs.Observing.{shares_token}
use Rattle.server_lint.specs.Pairs.{answers, is_again_within, is_repeat, replies, reuses_id}
use Rattle.server_lint.specs.Single.{has_empty_segment, has_long_number, has_unknown_option, is_client_error}
use Rattle.server_lint.specs.Single.{is_confirmable, is_from_server, is_full_reply, is_not_taken, is_registration}
use Rattle.server_lint.specs.Single.{is_reply, is_some_request}

-- a datagram among those before and after it, in a history that ends in this second
pub record Place : Type 0 where
  pub before : List Transmission
  pub this : Transmission
  pub after : List Transmission
  pub end : ℕ

-- a server sent it, and its bytes are not a message (RFC 7252 section 3)
pub record IsNotAMessage (p : Place) : Type 0 where
  pub received : is_from_server p.this ≡ true
  pub unread : message_of p.this ≡ None

-- its message ID was used before for other bytes, and that one's lifetime has not elapsed (RFC 7252 section 4.4)
abbrev pub IsReused : Place → Type 0
IsReused p = Any (λ earlier. reuses_id earlier p.this ≡ true) p.before

-- a server sent it, and it is confirmable
pub record IsConFromServer (t : Transmission) : Type 0 where
  pub received : is_from_server t ≡ true
  pub con : is_confirmable (message_of t) ≡ true

-- it is sent again less than 2 s after it was sent before, which is ACK_TIMEOUT (RFC 7252 sections 4.2 and 4.8)
pub record IsTooSoon (p : Place) : Type 0 where
  pub con : IsConFromServer p.this
  pub again : Any (λ earlier. is_again_within 2 earlier p.this ≡ true) p.before

-- it was sent more than 1 + 4 times within EXCHANGE_LIFETIME, with this one: MAX_RETRANSMIT is 4 (RFC 7252 sections 4.2
-- and 4.8)
pub record IsTooOften (p : Place) : Type 0 where
  pub con : IsConFromServer p.this
  pub many : 4 < count_by (λ earlier. is_again_within 247 earlier p.this) p.before

-- a server sent an acknowledgement or a reset that answers nothing that the device sent before (RFC 7252 section 4.2)
pub record IsAnswerOfNothing (p : Place) : Type 0 where
  pub received : is_from_server p.this ≡ true
  pub reply : is_reply (message_of p.this) ≡ true
  pub nothing : Any (λ earlier. answers earlier p.this ≡ true) p.before → ⊥

-- the device sent something confirmable for the first time, nothing after it answers it, and 93 s have passed, which is
-- MAX_TRANSMIT_WAIT (RFC 7252 sections 4.2 and 4.8.2)
pub record IsNotAcknowledged (p : Place) : Type 0 where
  pub sent : is_from_server p.this ≡ false
  pub con : is_confirmable (message_of p.this) ≡ true
  pub passed : 93 ≤ p.end - p.this.second
  pub first : Any (λ earlier. is_again_within 247 earlier p.this ≡ true) p.before → ⊥
  pub unanswered : Any (λ later. answers p.this later ≡ true) p.after → ⊥

-- a server sent a request with a critical option that devices do not recognize (RFC 7252 section 5.4.1)
pub record HasUnknownOption (p : Place) : Type 0 where
  pub received : is_from_server p.this ≡ true
  pub unknown : has_unknown_option (message_of p.this) ≡ true

-- a server sent a request of which a segment of the path is empty (RFC 7252 section 5.10.1)
pub record HasEmptySegment (p : Place) : Type 0 where
  pub received : is_from_server p.this ≡ true
  pub empty : has_empty_segment (message_of p.this) ≡ true

-- a server sent an acknowledgement or a reset that is not Empty (RFC 7252 section 4.2)
pub record IsReplyNotEmpty (p : Place) : Type 0 where
  pub received : is_from_server p.this ≡ true
  pub full : is_full_reply (message_of p.this) ≡ true

-- it answers what the device had sent 1 + 4 times from this first one on, and nothing had answered that: MAX_RETRANSMIT
-- is 4 (RFC 7252 section 4.8)
pub record IsLateAnswer (this first : Transmission) (since : List Transmission) : Type 0 where
  pub con : is_confirmable (message_of first) ≡ true
  pub answer : answers first this ≡ true
  pub resent : 4 ≤ count_by (λ again. is_again_within 247 first again) since
  pub unanswered : Any (λ t. answers first t ≡ true) since → ⊥

-- a server sent an acknowledgement or a reset of something that had been sent 5 times (RFC 7252 section 4.2)
pub record IsLate (p : Place) : Type 0 where
  pub received : is_from_server p.this ≡ true
  pub reply : is_reply (message_of p.this) ≡ true
  pub late : AnyThen (IsLateAnswer p.this) p.before

-- it is an earlier one again, within EXCHANGE_LIFETIME, though the device had acknowledged or reset that since
pub record IsAgainAfterReply (this earlier : Transmission) (since : List Transmission) : Type 0 where
  pub again : is_again_within 247 earlier this ≡ true
  pub replied : Any (λ t. replies earlier t ≡ true) since

-- a server sent something confirmable again that the device had acknowledged or reset (RFC 7252 section 4.2)
pub record IsRepeatedAfterReply (p : Place) : Type 0 where
  pub con : IsConFromServer p.this
  pub replied : AnyThen (IsAgainAfterReply p.this) p.before

-- a server wrote a number in an option with more bytes than the fewest (RFC 7252 section 3.2)
pub record HasLongNumber (p : Place) : Type 0 where
  pub received : is_from_server p.this ≡ true
  pub long : has_long_number (message_of p.this) ≡ true

-- a server sent it, and it is a request
pub record IsRequestFromServer (t : Transmission) : Type 0 where
  pub received : is_from_server t ≡ true
  pub request : is_some_request (message_of t) ≡ true

-- an earlier registration has its token and another path, and its observation lives
pub record IsTokenOfOther (this registration : Transmission) (since : List Transmission) : Type 0 where
  pub token : shares_token registration this ≡ true
  pub other : shares_path registration this ≡ false
  pub lives : Lives registration since

-- a server sent a request with the token of an observation of another path, which lives (RFC 7252 section 5.3.1)
pub record IsTokenInUse (p : Place) : Type 0 where
  pub request : IsRequestFromServer p.this
  pub used : AnyThen (IsTokenOfOther p.this) p.before

-- an earlier registration has its token and its path, its observation lives, and the device sent something with that
-- token less than 60 + 5 s ago: what has no Max-Age is fresh for 60 s
pub record IsFreshFor (this registration : Transmission) (since : List Transmission) : Type 0 where
  pub token : shares_token registration this ≡ true
  pub same : shares_path registration this ≡ true
  pub lives : Lives registration since
  pub fresh : Any (λ t. is_sent_within 65 registration this t ≡ true) since

-- a server registers anew, which is no repeat, while what it was sent last is fresh (RFC 7641 section 3.3.1)
pub record IsRegisteredWhileFresh (p : Place) : Type 0 where
  pub registered : is_registration p.this ≡ true
  pub anew : Any (λ earlier. is_repeat earlier p.this ≡ true) p.before → ⊥
  pub fresh : AnyThen (IsFreshFor p.this) p.before

-- a server registers, and the response is content without an Observe (RFC 7641 section 4.1)
pub record IsNotTaken (p : Place) : Type 0 where
  pub registered : is_registration p.this ≡ true
  pub refused : is_not_taken (response_to p.this p.after) ≡ true

-- a server sent a request, and the code of the response is of class 4 (RFC 7252 section 5.9.2)
pub record IsRefused (p : Place) : Type 0 where
  pub request : IsRequestFromServer p.this
  pub refused : is_client_error (response_to p.this p.after) ≡ true

-- a server sent a request, which is no repeat, and nothing that the device sent to it later has its token, or
-- acknowledges or resets it (RFC 7252 section 5.2)
pub record IsUnanswered (p : Place) : Type 0 where
  pub request : IsRequestFromServer p.this
  pub anew : Any (λ earlier. is_repeat earlier p.this ≡ true) p.before → ⊥
  pub unanswered : Any (λ t. responds p.this t ≡ true) p.after → ⊥

-- a server registers, and the observation lives at the end (RFC 7641 section 3.6)
abbrev pub IsLeft : Place → Type 0
IsLeft p = Lives p.this p.after

-- the rule is broken there
abbrev pub IsBroken : Rule → Place → Type 0
IsBroken NotAMessage p = IsNotAMessage p
IsBroken MessageIdReused p = IsReused p
IsBroken RepeatedTooSoon p = IsTooSoon p
IsBroken RepeatedTooOften p = IsTooOften p
IsBroken AnswersNothing p = IsAnswerOfNothing p
IsBroken NotificationNotAcknowledged p = IsNotAcknowledged p
IsBroken UnknownCriticalOption p = HasUnknownOption p
IsBroken EmptyPathSegment p = HasEmptySegment p
IsBroken ReplyNotEmpty p = IsReplyNotEmpty p
IsBroken AcknowledgedLate p = IsLate p
IsBroken RepeatedAfterReply p = IsRepeatedAfterReply p
IsBroken NumberNotShortest p = HasLongNumber p
IsBroken TokenInUse p = IsTokenInUse p
IsBroken RegisteredWhileFresh p = IsRegisteredWhileFresh p
IsBroken ObservationNotTaken p = IsNotTaken p
IsBroken RequestRefused p = IsRefused p
IsBroken RequestUnanswered p = IsUnanswered p
IsBroken ObservationLeft p = IsLeft p
