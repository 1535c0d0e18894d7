-- A rule is broken exactly where its test says so.
use Rattle.std.proofs.Common.{◌≡◌, ℕ, ◌-◌, Bool, true, false, not, ◌&&◌, List, refl, nat_le}
use Rattle.std.specs.Prelude.{Option, None, Some, is_some}
use Rattle.std.specs.List.{Any, list_any}
use Rattle.std.proofs.lemmas.List.Folds.{Any-from_list_any, list_any-from_Any}
use Rattle.std.proofs.lemmas.Bool.{and_from, not-true, leb-true, le-leb, ltb-true, lt-ltb}
use Rattle.lemmas.proofs.Tests.{and_first, and_second, never_both}
use Rattle.server_lint.specs.declared.rule.Rule.{Rule}
use Rattle.server_lint.specs.declared.rule.Rule.TheVariants.{NotAMessage, MessageIdReused, RepeatedTooSoon}
use Rattle.server_lint.specs.declared.rule.Rule.TheVariants.{RepeatedTooOften, AnswersNothing}
use Rattle.server_lint.specs.declared.rule.Rule.TheVariants.{NotificationNotAcknowledged, UnknownCriticalOption}
use Rattle.server_lint.specs.declared.rule.Rule.TheVariants.{EmptyPathSegment, ReplyNotEmpty, AcknowledgedLate}
use Rattle.server_lint.specs.declared.rule.Rule.TheVariants.{RepeatedAfterReply, NumberNotShortest, TokenInUse}
use Rattle.server_lint.specs.declared.rule.Rule.TheVariants.{RegisteredWhileFresh, ObservationNotTaken}
use Rattle.server_lint.specs.declared.rule.Rule.TheVariants.{RequestRefused, RequestUnanswered, ObservationLeft}
use Rattle.server_lint.specs.History.{Transmission, message_of}
use Rattle.server_lint.specs.Inside.{answers_some, breaks, has_answered_too, has_ended, has_fresh, has_replied}
use Rattle.server_lint.specs.Inside.{has_reset, has_response, has_token_of_other, is_again_after_reply, is_answered}
use Rattle.server_lint.specs.Inside.{any_then, is_answered_too, is_con_from_server, is_fresh_for, is_late, is_late_answer}
use Rattle.server_lint.specs.Inside.{is_registered_while_fresh, is_repeated, is_replied, is_request_from_server}
use Rattle.server_lint.specs.Inside.{is_reset_later, is_token_of_other, is_unanswered, lives, times_again_within}
use Rattle.server_lint.specs.Inside.{times_sent_within, was_notified_within, was_sent_within}
use Rattle.server_lint.specs.Observing.{AnyThen, IsAnsweredToo, IsReset, Lives, ends, is_sent_for, is_sent_within}
use Rattle.server_lint.specs.Observing.{responds, response_to, shares_path, shares_token}
use Rattle.server_lint.specs.Pairs.{answers, is_again_within, is_repeat, replies, resets, reuses_id}
use Rattle.server_lint.specs.Rules.{IsAgainAfterReply, IsBroken, IsFreshFor, IsLateAnswer, IsRegisteredWhileFresh}
use Rattle.server_lint.specs.Rules.{IsRequestFromServer, IsTokenOfOther, IsUnanswered, Place}
use Rattle.server_lint.specs.Single.{is_confirmable, is_from_server, is_registration, is_reply, is_some_request}
use Rattle.server_lint.specs.Single.{is_taken}
use Rattle.server_lint.proofs.Then.{then_holds, then_passes}

denied : (b : Bool) → (b ≡ true → ⊥) → not b ≡ true
denied true h = absurd (h refl)
denied false h = refl

no_value : {X : Type 0} (o : Option X) → not (is_some o) ≡ true → o ≡ None
no_value None h = refl
no_value (Some x) h = cc

is_no_value : {X : Type 0} (o : Option X) → o ≡ None → not (is_some o) ≡ true
is_no_value None h = refl
is_no_value (Some x) h = cc

-- nothing passes a test that no element passes
none_of : {X : Type 0} (p : X → Bool) (xs : List X) → not (list_any p xs) ≡ true → Any (λ x. p x ≡ true) xs → ⊥
none_of p xs h some = never_both (list_any p xs) (list_any-from_Any p xs some) (not-true (list_any p xs) h)

of_none : {X : Type 0} (p : X → Bool) (xs : List X) → (Any (λ x. p x ≡ true) xs → ⊥) → not (list_any p xs) ≡ true
of_none p xs none = denied (list_any p xs) (λ h. none (Any-from_list_any p xs h))

is_not : (b : Bool) → b ≡ false → not b ≡ true
is_not true h = cc
is_not false h = refl

-- ---- what stands among earlier ones

answered_too : (earlier t : Transmission) (rest : List Transmission) → is_answered_too earlier t rest ≡ true
    → IsAnsweredToo earlier t rest
answered_too earlier t rest h =
    let one : (shares_token earlier t && (is_some_request (message_of t) && is_some (response_to t rest))) ≡ true =
    and_second _ _ h in
    let two : (is_some_request (message_of t) && is_some (response_to t rest)) ≡ true = and_second _ _ one in
    record {
      received = and_first _ _ h;
      token = and_first _ _ one;
      request = and_first _ _ two;
      answered = and_second _ _ two;
    }

is_too : (earlier t : Transmission) (rest : List Transmission) → IsAnsweredToo earlier t rest
    → is_answered_too earlier t rest ≡ true
is_too earlier t rest b =
    and_from _ _ b.received (and_from _ _ b.token (and_from _ _ b.request b.answered))

reset_later : (earlier t : Transmission) (rest : List Transmission) → is_reset_later earlier t rest ≡ true
    → IsReset earlier t rest
reset_later earlier t rest h =
    record {
      sent = and_first _ _ h;
      reset = Any-from_list_any (λ later. resets t later) rest (and_second _ _ h);
    }

is_later : (earlier t : Transmission) (rest : List Transmission) → IsReset earlier t rest
    → is_reset_later earlier t rest ≡ true
is_later earlier t rest b = and_from _ _ b.sent (list_any-from_Any (λ later. resets t later) rest b.reset)

-- nothing passes a test with those after it where the test never passes
none_then : (P : Transmission → List Transmission → Type 0) (test : Transmission → List Transmission → Bool)
    → ((t : Transmission) (rest : List Transmission) → P t rest → test t rest ≡ true) → (all : List Transmission)
    → not (any_then test all) ≡ true → AnyThen P all → ⊥
none_then P test means all h some =
    never_both (any_then test all) (then_passes P test means all some) (not-true (any_then test all) h)

of_none_then : (P : Transmission → List Transmission → Type 0) (test : Transmission → List Transmission → Bool)
    → ((t : Transmission) (rest : List Transmission) → test t rest ≡ true → P t rest) → (all : List Transmission)
    → (AnyThen P all → ⊥) → not (any_then test all) ≡ true
of_none_then P test means all none =
    denied (any_then test all) (λ h. none (then_holds P test means all h))

living : (registration : Transmission) (after : List Transmission) → lives registration after ≡ true
    → Lives registration after
living registration after h =
    let one : (is_taken (response_to registration after) && (not (has_answered_too registration after)
    && (not (has_ended registration after) && not (has_reset registration after)))) ≡ true = and_second _ _ h in
    let two : (not (has_answered_too registration after)
    && (not (has_ended registration after) && not (has_reset registration after))) ≡ true = and_second _ _ one in
    let three : (not (has_ended registration after) && not (has_reset registration after)) ≡ true
    = and_second _ _ two in
    record {
      registered = and_first _ _ h;
      taken = and_first _ _ one;
      alone = none_then (IsAnsweredToo registration) (is_answered_too registration) (is_too registration) after
          (and_first _ _ two);
      observed = none_of (λ t. ends registration t) after (and_first _ _ three);
      kept = none_then (IsReset registration) (is_reset_later registration) (is_later registration) after
          (and_second _ _ three);
    }

is_living : (registration : Transmission) (after : List Transmission) → Lives registration after
    → lives registration after ≡ true
is_living registration after b =
    and_from _ _ b.registered (and_from _ _ b.taken
    (and_from _ _ (of_none_then (IsAnsweredToo registration) (is_answered_too registration) (answered_too registration)
    after b.alone)
    (and_from _ _ (of_none (λ t. ends registration t) after b.observed)
    (of_none_then (IsReset registration) (is_reset_later registration) (reset_later registration) after b.kept))))

late_answer : (this first : Transmission) (since : List Transmission) → is_late_answer this first since ≡ true
    → IsLateAnswer this first since
late_answer this first since h =
    let one : (is_confirmable (message_of first) && (nat_le 4 (times_again_within 247 first since)
    && not (is_answered first since))) ≡ true = and_second _ _ h in
    let two : (nat_le 4 (times_again_within 247 first since) && not (is_answered first since)) ≡ true
    = and_second _ _ one in
    record {
      con = and_first _ _ one;
      answer = and_first _ _ h;
      resent = leb-true 4 (times_again_within 247 first since) (and_first _ _ two);
      unanswered = none_of (λ t. answers first t) since (and_second _ _ two);
    }

is_late_one : (this first : Transmission) (since : List Transmission) → IsLateAnswer this first since
    → is_late_answer this first since ≡ true
is_late_one this first since b =
    and_from _ _ b.answer (and_from _ _ b.con
    (and_from _ _ (le-leb 4 (times_again_within 247 first since) b.resent)
    (of_none (λ t. answers first t) since b.unanswered)))

again_after : (this earlier : Transmission) (since : List Transmission)
    → is_again_after_reply this earlier since ≡ true → IsAgainAfterReply this earlier since
again_after this earlier since h =
    record {
      again = and_first _ _ h;
      replied = Any-from_list_any (λ t. replies earlier t) since (and_second _ _ h);
    }

is_again_one : (this earlier : Transmission) (since : List Transmission) → IsAgainAfterReply this earlier since
    → is_again_after_reply this earlier since ≡ true
is_again_one this earlier since b =
    and_from _ _ b.again (list_any-from_Any (λ t. replies earlier t) since b.replied)

of_other : (this registration : Transmission) (since : List Transmission)
    → is_token_of_other this registration since ≡ true → IsTokenOfOther this registration since
of_other this registration since h =
    let one : (lives registration since && not (shares_path registration this)) ≡ true = and_second _ _ h in
    record {
      token = and_first _ _ h;
      other = not-true (shares_path registration this) (and_second _ _ one);
      lives = living registration since (and_first _ _ one);
    }

is_of_other : (this registration : Transmission) (since : List Transmission)
    → IsTokenOfOther this registration since → is_token_of_other this registration since ≡ true
is_of_other this registration since b =
    and_from _ _ b.token
    (and_from _ _ (is_living registration since b.lives) (is_not (shares_path registration this) b.other))

fresh_for : (this registration : Transmission) (since : List Transmission)
    → is_fresh_for this registration since ≡ true → IsFreshFor this registration since
fresh_for this registration since h =
    let one : (lives registration since && (shares_path registration this
    && was_notified_within 65 registration this since)) ≡ true = and_second _ _ h in
    let two : (shares_path registration this && was_notified_within 65 registration this since) ≡ true
    = and_second _ _ one in
    record {
      token = and_first _ _ h;
      same = and_first _ _ two;
      lives = living registration since (and_first _ _ one);
      fresh = Any-from_list_any (λ t. is_sent_within 65 registration this t) since (and_second _ _ two);
    }

is_fresh_one : (this registration : Transmission) (since : List Transmission) → IsFreshFor this registration since
    → is_fresh_for this registration since ≡ true
is_fresh_one this registration since b =
    and_from _ _ b.token
    (and_from _ _ (is_living registration since b.lives)
    (and_from _ _ b.same (list_any-from_Any (λ t. is_sent_within 65 registration this t) since b.fresh)))

asked : (t : Transmission) → is_request_from_server t ≡ true → IsRequestFromServer t
asked t h = record { received = and_first _ _ h; request = and_second _ _ h }

is_asked : (t : Transmission) → IsRequestFromServer t → is_request_from_server t ≡ true
is_asked t b = and_from _ _ b.received b.request

-- ---- each rule

abbrev place : List Transmission → Transmission → List Transmission → ℕ → Place
place before t after end = record { before = before; this = t; after = after; end = end }

pub broken : (rule : Rule) (before : List Transmission) (t : Transmission) (after : List Transmission) (end : ℕ)
    → breaks rule before t after end ≡ true → IsBroken rule (place before t after end)
broken NotAMessage before t after end h =
    record { received = and_first _ _ h; unread = no_value (message_of t) (and_second _ _ h) }
broken MessageIdReused before t after end h = Any-from_list_any (λ e. reuses_id e t) before h
broken RepeatedTooSoon before t after end h =
    let con : is_con_from_server t ≡ true = and_first _ _ h in
    record {
      con = record { received = and_first _ _ con; con = and_second _ _ con };
      again = Any-from_list_any (λ e. is_again_within 2 e t) before (and_second _ _ h);
    }
broken RepeatedTooOften before t after end h =
    let con : is_con_from_server t ≡ true = and_first _ _ h in
    record {
      con = record { received = and_first _ _ con; con = and_second _ _ con };
      many = ltb-true 4 (times_sent_within 247 before t) (and_second _ _ h);
    }
broken AnswersNothing before t after end h =
    let rest : (is_reply (message_of t) && not (answers_some before t)) ≡ true = and_second _ _ h in
    record {
      received = and_first _ _ h;
      reply = and_first _ _ rest;
      nothing = none_of (λ e. answers e t) before (and_second _ _ rest);
    }
broken NotificationNotAcknowledged before t after end h =
    let one : (is_confirmable (message_of t) && (nat_le 93 (end - t.second)
    && (not (was_sent_within 247 before t) && not (is_answered t after)))) ≡ true = and_second _ _ h in
    let two : (nat_le 93 (end - t.second) && (not (was_sent_within 247 before t) && not (is_answered t after))) ≡ true
    = and_second _ _ one in
    let three : (not (was_sent_within 247 before t) && not (is_answered t after)) ≡ true = and_second _ _ two in
    record {
      sent = not-true (is_from_server t) (and_first _ _ h);
      con = and_first _ _ one;
      passed = leb-true 93 (end - t.second) (and_first _ _ two);
      first = none_of (λ e. is_again_within 247 e t) before (and_first _ _ three);
      unanswered = none_of (λ later. answers t later) after (and_second _ _ three);
    }
broken UnknownCriticalOption before t after end h =
    record { received = and_first _ _ h; unknown = and_second _ _ h }
broken EmptyPathSegment before t after end h = record { received = and_first _ _ h; empty = and_second _ _ h }
broken ReplyNotEmpty before t after end h = record { received = and_first _ _ h; full = and_second _ _ h }
broken AcknowledgedLate before t after end h =
    let rest : (is_reply (message_of t) && is_late t before) ≡ true = and_second _ _ h in
    record {
      received = and_first _ _ h;
      reply = and_first _ _ rest;
      late = then_holds (IsLateAnswer t) (is_late_answer t) (late_answer t) before (and_second _ _ rest);
    }
broken RepeatedAfterReply before t after end h =
    let con : is_con_from_server t ≡ true = and_first _ _ h in
    record {
      con = record { received = and_first _ _ con; con = and_second _ _ con };
      replied = then_holds (IsAgainAfterReply t) (is_again_after_reply t) (again_after t) before (and_second _ _ h);
    }
broken NumberNotShortest before t after end h = record { received = and_first _ _ h; long = and_second _ _ h }
broken TokenInUse before t after end h =
    record {
      request = asked t (and_first _ _ h);
      used = then_holds (IsTokenOfOther t) (is_token_of_other t) (of_other t) before (and_second _ _ h);
    }
broken RegisteredWhileFresh before t after end h =
    let one : (not (is_repeated before t) && has_fresh t before) ≡ true = and_second _ _ h in
    record {
      registered = and_first _ _ h;
      anew = none_of (λ e. is_repeat e t) before (and_first _ _ one);
      fresh = then_holds (IsFreshFor t) (is_fresh_for t) (fresh_for t) before (and_second _ _ one);
    }
broken ObservationNotTaken before t after end h =
    record { registered = and_first _ _ h; refused = and_second _ _ h }
broken RequestRefused before t after end h =
    record { request = asked t (and_first _ _ h); refused = and_second _ _ h }
broken RequestUnanswered before t after end h =
    let one : (not (is_repeated before t) && not (has_response t after)) ≡ true = and_second _ _ h in
    record {
      request = asked t (and_first _ _ h);
      anew = none_of (λ e. is_repeat e t) before (and_first _ _ one);
      unanswered = none_of (λ later. responds t later) after (and_second _ _ one);
    }
broken ObservationLeft before t after end h = living t after h

pub breaking : (rule : Rule) (before : List Transmission) (t : Transmission) (after : List Transmission) (end : ℕ)
    → IsBroken rule (place before t after end) → breaks rule before t after end ≡ true
breaking NotAMessage before t after end b =
    and_from _ _ b.received (is_no_value (message_of t) b.unread)
breaking MessageIdReused before t after end b = list_any-from_Any (λ e. reuses_id e t) before b
breaking RepeatedTooSoon before t after end b =
    and_from _ _ (and_from _ _ b.con.received b.con.con)
    (list_any-from_Any (λ e. is_again_within 2 e t) before b.again)
breaking RepeatedTooOften before t after end b =
    and_from _ _ (and_from _ _ b.con.received b.con.con) (lt-ltb 4 (times_sent_within 247 before t) b.many)
breaking AnswersNothing before t after end b =
    and_from _ _ b.received (and_from _ _ b.reply (of_none (λ e. answers e t) before b.nothing))
breaking NotificationNotAcknowledged before t after end b =
    and_from _ _ (is_not (is_from_server t) b.sent) (and_from _ _ b.con
    (and_from _ _ (le-leb 93 (end - t.second) b.passed)
    (and_from _ _ (of_none (λ e. is_again_within 247 e t) before b.first)
    (of_none (λ later. answers t later) after b.unanswered))))
breaking UnknownCriticalOption before t after end b = and_from _ _ b.received b.unknown
breaking EmptyPathSegment before t after end b = and_from _ _ b.received b.empty
breaking ReplyNotEmpty before t after end b = and_from _ _ b.received b.full
breaking AcknowledgedLate before t after end b =
    and_from _ _ b.received
    (and_from _ _ b.reply (then_passes (IsLateAnswer t) (is_late_answer t) (is_late_one t) before b.late))
breaking RepeatedAfterReply before t after end b =
    and_from _ _ (and_from _ _ b.con.received b.con.con)
    (then_passes (IsAgainAfterReply t) (is_again_after_reply t) (is_again_one t) before b.replied)
breaking NumberNotShortest before t after end b = and_from _ _ b.received b.long
breaking TokenInUse before t after end b =
    and_from _ _ (is_asked t b.request)
    (then_passes (IsTokenOfOther t) (is_token_of_other t) (is_of_other t) before b.used)
breaking RegisteredWhileFresh before t after end b =
    and_from _ _ b.registered (and_from _ _ (of_none (λ e. is_repeat e t) before b.anew)
    (then_passes (IsFreshFor t) (is_fresh_for t) (is_fresh_one t) before b.fresh))
breaking ObservationNotTaken before t after end b = and_from _ _ b.registered b.refused
breaking RequestRefused before t after end b = and_from _ _ (is_asked t b.request) b.refused
breaking RequestUnanswered before t after end b =
    and_from _ _ (is_asked t b.request) (and_from _ _ (of_none (λ e. is_repeat e t) before b.anew)
    (of_none (λ later. responds t later) after b.unanswered))
breaking ObservationLeft before t after end b = is_living t after b
