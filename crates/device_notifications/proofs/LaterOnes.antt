-- What an observation is later: of the same server and token, and its messages are those of the one before.
use Rattle.std.proofs.Common.{◌≡◌, ℕ, zero, suc, ◌+◌, Bool, true, false, List, [], ◌∷◌, ◌++◌, Option, None, Some, refl}
use Rattle.std.proofs.Common.{sym, ◌∙◌}
use Rattle.std.specs.Bool.{if◌then◌else◌}
use Rattle.std.specs.List.{AllByRecursion}
use Rattle.std.specs.Option.{option_map}
use Rattle.std.proofs.Math.Logic.{inl, inr}
use Rattle.lemmas.proofs.Lists.{each_appended, each_weaker}
use Rattle.coap_codec.specs.Message.{spelling}
use Rattle.coap_codec.specs.declared.kind.Kind.{Kind}
use Rattle.coap_codec.specs.declared.kind.Kind.TheVariants.{Con, Non}
use Rattle.notifier.specs.Observed.{next_number}
use Rattle.notifier.specs.declared.observation.Observation.{Observation}
use Rattle.notifier.specs.declared.observation.Timer.{Timer}
use Rattle.device_requests.specs.Answer.{code_byte}
use Rattle.device_requests.specs.Client.{Client}
use Rattle.device_requests.specs.Ruling.{code_of}
use Rattle.device_requests.specs.declared.answer.Answer.{Answer}
use Rattle.device_notifications.specs.declared.datagram.Datagram.{Datagram}
use Rattle.device_notifications.specs.Laws.{IsLater, IsLaterOneOf, IsMessageOf, IsOfOneOf, is_con}
use Rattle.device_notifications.specs.Message.{datagram_of, format_options, observe_options, open_notification}
use Rattle.device_notifications.specs.Second.{after_next_notification, next_notification, notified_kind, present_answer}
use Rattle.device_notifications.specs.Second.{second, seconds, sends_nons, turn_of}
use Rattle.device_notifications.proofs.Turns.{by_all, of_option}

-- ---- an observation, later

pub same_message : (kind : Kind) (o p : Observation) (mid : ℕ) (number : Option ℕ) (answer : Answer)
    → p.server ≡ o.server → p.token ≡ o.token
    → datagram_of kind p mid number answer ≡ datagram_of kind o mid number answer
same_message kind o p mid number answer server token = λ j. record {
  server = server j;
  bytes = spelling (record {
    kind = kind;
    code = code_byte (code_of answer.ruling);
    mid = mid;
    token = token j;
    options = observe_options number ++ format_options answer.format;
    payload = answer.payload;
  });
}

-- its messages are those of the one before
message_of : (o p : Observation) (d : Datagram) → IsLater o p → IsMessageOf p d → IsMessageOf o d
message_of o p d later (inl m) =
    inl (m.0, m.1, m.2, m.3, m.4 ∙ same_message m.0 o p m.1 m.2 m.3 later.server later.token)
message_of o p d later (inr is_open) = later.open_of d is_open

pub later_than : (o p q : Observation) → IsLater o p → IsLater p q → IsLater o q
later_than o p q h k =
    record {
      server = k.server ∙ h.server;
      token = k.token ∙ h.token;
      open_of = λ d is_open. message_of o p d h (k.open_of d is_open);
    }

pub itself : (o : Observation) → IsLater o o
itself o = record { server = refl; token = refl; open_of = λ d is_open. inr is_open }

-- bytes on their way to a server
abbrev on_its_way : ℕ → List ℕ → Datagram
on_its_way server bytes = record { server = server; bytes = bytes }

opened_as : (b : Bool) (server first : ℕ) (bytes : List ℕ) (d : Datagram)
    → option_map (λ (t : Timer). on_its_way server t.bytes)
    (if b then None else Some (record { bytes = bytes; first = first })) ≡ Some d → on_its_way server bytes ≡ d
opened_as true server first bytes d h = let f : ⊥ = cc in absurd f
opened_as false server first bytes d h = cc

-- one that has been notified
pub told_later : (client : Client) (clock next_id : ℕ) (o : Observation) (answer : Answer)
    → IsLater o (after_next_notification client clock next_id o answer)
told_later client clock next_id o answer =
    record {
      server = refl;
      token = refl;
      open_of = λ d is_open. inl (
        notified_kind client,
        next_id,
        Some (next_number o.number),
        answer,
        sym (opened_as (sends_nons client) o.server client.notify
            (next_notification client next_id o answer).bytes d is_open),
      );
    }

opens_as : (b : Bool) (server first : ℕ) (bytes : List ℕ)
    → option_map (λ (t : Timer). on_its_way server t.bytes)
    (if b then None else Some (record { bytes = bytes; first = first }))
    ≡ (if is_con (if b then Non else Con) then Some (on_its_way server bytes) else None)
opens_as true server first bytes = refl
opens_as false server first bytes = refl

-- what it has open then
pub opens_it : (client : Client) (clock next_id : ℕ) (o : Observation) (answer : Answer)
    → open_notification (after_next_notification client clock next_id o answer)
    ≡ (if is_con (notified_kind client) then Some (next_notification client next_id o answer) else None)
opens_it client clock next_id o answer =
    opens_as (sends_nons client) o.server client.notify (next_notification client next_id o answer).bytes

-- ---- one of these, later

later_one_of : (os : List Observation) (p q : Observation) → IsLater p q → IsLaterOneOf os p → IsLaterOneOf os q
later_one_of [] p q later h = h
later_one_of (o ∷ os) p q later (inl h) = inl (later_than o p q h later)
later_one_of (o ∷ os) p q later (inr h) = inr (later_one_of os p q later h)

pub later_in : (os left : List Observation) → AllByRecursion (IsLaterOneOf os) left → (p : Observation)
    → IsLaterOneOf left p → IsLaterOneOf os p
later_in os [] all p h = absurd h
later_in os (q ∷ left) all p (inl h) = later_one_of os q p h all.0
later_in os (q ∷ left) all p (inr h) = later_in os left all.1 p h

pub later_left : (os more : List Observation) (p : Observation) → IsLaterOneOf os p → IsLaterOneOf (os ++ more) p
later_left [] more p h = absurd h
later_left (o ∷ os) more p (inl h) = inl h
later_left (o ∷ os) more p (inr h) = inr (later_left os more p h)

pub later_right : (more os : List Observation) (p : Observation) → IsLaterOneOf os p → IsLaterOneOf (more ++ os) p
later_right [] os p h = h
later_right (o ∷ more) os p h = inr (later_right more os p h)

-- each is one of them
pub own : (os : List Observation) → AllByRecursion (IsLaterOneOf os) os
own [] = tt
own (o ∷ os) =
    (inl (itself o), each_weaker (IsLaterOneOf os) (IsLaterOneOf (o ∷ os)) (λ p h. inr h) os (own os))

-- its messages are of one of them
message_later : (os : List Observation) (q : Observation) (d : Datagram) → IsLaterOneOf os q → IsMessageOf q d
    → IsOfOneOf os d
message_later [] q d h m = h
message_later (o ∷ os) q d (inl h) m = inl (message_of o q d h m)
message_later (o ∷ os) q d (inr h) m = inr (message_later os q d h m)

pub of_left : (os left : List Observation) → AllByRecursion (IsLaterOneOf os) left → (d : Datagram) → IsOfOneOf left d
    → IsOfOneOf os d
of_left os [] all d h = absurd h
of_left os (q ∷ left) all d (inl h) = message_later os q d all.0 h
of_left os (q ∷ left) all d (inr h) = of_left os left all.1 d h

pub message_left : (os more : List Observation) (d : Datagram) → IsOfOneOf os d → IsOfOneOf (os ++ more) d
message_left [] more d h = absurd h
message_left (o ∷ os) more d (inl h) = inl h
message_left (o ∷ os) more d (inr h) = inr (message_left os more d h)

pub message_right : (more os : List Observation) (d : Datagram) → IsOfOneOf os d → IsOfOneOf (more ++ os) d
message_right [] os d h = h
message_right (o ∷ more) os d h = inr (message_right more os d h)

-- ---- what turns and seconds leave and send

turn_left : (client : Client) (clock next_id : ℕ) (o : Observation) (os : List Observation)
    → AllByRecursion (IsLaterOneOf (o ∷ os)) (turn_of client clock next_id o).left
turn_left client clock next_id o os =
    by_all client clock next_id o (λ t. AllByRecursion (IsLaterOneOf (o ∷ os)) t.left)
    (λ is content due. (inl (told_later client clock next_id o (present_answer client o)), tt))
    (λ is content rests. (inl (itself o), tt)) (λ is no_content. tt) (λ is. (inl (itself o), tt))
    (λ is. (inl (itself o), tt)) (λ is. tt)

pub second_left : (client : Client) (clock next_id : ℕ) (os : List Observation)
    → AllByRecursion (IsLaterOneOf os) (second client clock next_id os).left
second_left client clock next_id [] = tt
second_left client clock next_id (o ∷ os) =
    let t = turn_of client clock next_id o in
    each_appended (IsLaterOneOf (o ∷ os)) t.left (second client clock t.next_id os).left
    (turn_left client clock next_id o os)
    (each_weaker (IsLaterOneOf os) (IsLaterOneOf (o ∷ os)) (λ p h. inr h) (second client clock t.next_id os).left
    (second_left client clock t.next_id os))

pub seconds_left : (client : Client) (clock n next_id : ℕ) (os : List Observation)
    → AllByRecursion (IsLaterOneOf os) (seconds client clock n next_id os).left
seconds_left client clock zero next_id os = own os
seconds_left client clock (suc n) next_id os =
    let t = second client (clock + 1) next_id os in
    each_weaker (IsLaterOneOf t.left) (IsLaterOneOf os) (later_in os t.left (second_left client (clock + 1) next_id os))
    (seconds client (clock + 1) n t.next_id t.left).left (seconds_left client (clock + 1) n t.next_id t.left)

turn_sent : (client : Client) (clock next_id : ℕ) (o : Observation) (os : List Observation)
    → AllByRecursion (IsOfOneOf (o ∷ os)) (turn_of client clock next_id o).sent
turn_sent client clock next_id o os =
    by_all client clock next_id o (λ t. AllByRecursion (IsOfOneOf (o ∷ os)) t.sent)
    (λ is content due. (
      inl (inl (notified_kind client, next_id, Some (next_number o.number), present_answer client o, refl)),
      tt,
    ))
    (λ is content rests. tt)
    (λ is no_content. (inl (inl (Non, next_id, None, present_answer client o, refl)), tt))
    (λ is. tt)
    (λ is. of_option (open_notification o) (IsOfOneOf (o ∷ os)) (λ d is_open. inl (inr is_open)))
    (λ is. tt)

pub second_sent : (client : Client) (clock next_id : ℕ) (os : List Observation)
    → AllByRecursion (IsOfOneOf os) (second client clock next_id os).sent
second_sent client clock next_id [] = tt
second_sent client clock next_id (o ∷ os) =
    let t = turn_of client clock next_id o in
    each_appended (IsOfOneOf (o ∷ os)) t.sent (second client clock t.next_id os).sent
    (turn_sent client clock next_id o os)
    (each_weaker (IsOfOneOf os) (IsOfOneOf (o ∷ os)) (λ d h. inr h) (second client clock t.next_id os).sent
    (second_sent client clock t.next_id os))

pub seconds_sent : (client : Client) (clock n next_id : ℕ) (os : List Observation)
    → AllByRecursion (IsOfOneOf os) (seconds client clock n next_id os).sent
seconds_sent client clock zero next_id os = tt
seconds_sent client clock (suc n) next_id os =
    let t = second client (clock + 1) next_id os in
    each_appended (IsOfOneOf os) t.sent (seconds client (clock + 1) n t.next_id t.left).sent
    (second_sent client (clock + 1) next_id os)
    (each_weaker (IsOfOneOf t.left) (IsOfOneOf os) (of_left os t.left (second_left client (clock + 1) next_id os))
    (seconds client (clock + 1) n t.next_id t.left).sent (seconds_sent client (clock + 1) n t.next_id t.left))
