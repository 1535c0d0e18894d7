-- The datagrams that a device sends of its own are messages.
use Rattle.std.proofs.Common.{◌≡◌, ℕ, zero, suc, ◌+◌, ◌%◌, ◌<◌, ◌≤◌, Bool, true, false}
use Rattle.std.proofs.Common.{List, [], ◌∷◌, ◌++◌, length, map, Option, None, Some}
use Rattle.std.proofs.Common.{option_map, refl, subst, arith}
use Rattle.std.specs.Bool.{if◌then◌else◌}
use Rattle.std.specs.List.{AllByRecursion}
use Rattle.std.proofs.lemmas.Option.{same_Some, none-some}
use Rattle.lemmas.proofs.Lists.{each_appended}
use Rattle.coap_codec.specs.Message.{IsOptionList, IsWellFormed, Message, spelling}
use Rattle.coap_codec.specs.Options.{number_option}
use Rattle.coap_codec.specs.declared.option.Opt.{Opt}
use Rattle.coap_codec.specs.declared.kind.Kind.{Kind}
use Rattle.coap_codec.specs.declared.kind.Kind.TheVariants.{Non}
use Rattle.coap_codec.proofs.OneReading.{read_spelling}
use Rattle.notifier.specs.Observed.{HasToken, next_number}
use Rattle.notifier.specs.declared.observation.Observation.{Observation}
use Rattle.notifier.specs.declared.observation.Timer.{Timer}
use Rattle.device_requests.specs.Answer.{code_byte}
use Rattle.device_requests.specs.Client.{Client}
use Rattle.device_requests.specs.Ruling.{code_of}
use Rattle.device_requests.specs.declared.answer.Answer.{Answer}
use Rattle.device_requests.specs.declared.answer.Code.{Code}
use Rattle.device_requests.specs.declared.answer.Code.TheVariants.{Created, Deleted, Changed, Content, BadRequest}
use Rattle.device_requests.specs.declared.answer.Code.TheVariants.{Unauthorized, BadOption, NotFound, MethodNotAllowed}
use Rattle.device_requests.specs.declared.answer.Code.TheVariants.{NotAcceptable, UnsupportedContentFormat}
use Rattle.device_requests.specs.declared.answer.Code.TheVariants.{InternalServerError}
use Rattle.device_notifications.specs.Message.{datagram_of, format_options, open_notification, resent_datagram}
use Rattle.device_notifications.specs.Second.{Sweep, after_next_notification, next_notification, notified_kind}
use Rattle.device_notifications.specs.Second.{present_answer, second, seconds, sends_nons, turn_of}
use Rattle.device_notifications.specs.declared.datagram.Datagram.{Datagram}
use Rattle.device_notifications.proofs.Turns.{by_all, of_option}
use Rattle.device_notifications.proofs.Options.{format_follows}
use Rattle.device_machine.specs.Reactions.{send_of, sweep_in}
use Rattle.device_machine.specs.State.{Machine}
use Rattle.device_machine.specs.Reactions.{Reaction}
use Rattle.device_machine.specs.Reactions.{reaction_to}
use Rattle.device_machine.specs.declared.event.Event.TheVariants.{Tick}
use Rattle.device_machine.proofs.Naming.{numbered}
use Rattle.laws_device.specs.Messages.{HasMessages}
use Rattle.laws_device.proofs.Served.{first}
use Rattle.laws_device.specs.Messages.{IsMessage, IsSound, SendsMessage, StartsSound}

-- ---- a message with a code of class 2, 4 or 5

code_fits : (code : Code) → (code_byte code < 256) × (0 < code_byte code)
code_fits Created = (omega arith, omega arith)
code_fits Deleted = (omega arith, omega arith)
code_fits Changed = (omega arith, omega arith)
code_fits Content = (omega arith, omega arith)
code_fits BadRequest = (omega arith, omega arith)
code_fits Unauthorized = (omega arith, omega arith)
code_fits BadOption = (omega arith, omega arith)
code_fits NotFound = (omega arith, omega arith)
code_fits MethodNotAllowed = (omega arith, omega arith)
code_fits NotAcceptable = (omega arith, omega arith)
code_fits UnsupportedContentFormat = (omega arith, omega arith)
code_fits InternalServerError = (omega arith, omega arith)

is_zero : (n : ℕ) → n ≡ 0 → 0 < n → ⊥
is_zero n h k = omega (arith, h, k)

abbrev pub message_of : Kind → Code → ℕ → List ℕ → List Opt → List ℕ → Message
message_of kind code mid token options payload =
    record {
      kind = kind;
      code = code_byte code;
      mid = mid;
      token = token;
      options = options;
      payload = payload;
    }

pub spelled : (kind : Kind) (code : Code) (mid : ℕ) (token : List ℕ) (options : List Opt) (payload : List ℕ)
    → mid < 65536 → length token ≤ 8 → IsOptionList 0 options
    → IsMessage (spelling (message_of kind code mid token options payload))
spelled kind code mid token options payload h k o =
    let good : IsWellFormed (message_of kind code mid token options payload) = record {
      code = (code_fits code).0;
      mid = h;
      token = k;
      options = o;
      empty = λ z. absurd (is_zero (code_byte code) z (code_fits code).1);
    } in (
      message_of kind code mid token options payload,
      record { well_formed = good; parts = refl },
      read_spelling (message_of kind code mid token options payload) good,
    )

-- ---- what observations send

notification_options : (number format : Option ℕ) → IsOptionList 0 (number_option 6 number ++ format_options format)
notification_options number format =
    numbered 0 6 number (format_options format) (omega arith) (omega arith) (format_follows 0 format (omega arith))
    (format_follows 6 format (omega arith))

notified : (kind : Kind) (o : Observation) (mid : ℕ) (number : Option ℕ) (answer : Answer) → HasToken o → mid < 65536
    → IsMessage (datagram_of kind o mid number answer).bytes
notified kind o mid number answer h k =
    spelled kind (code_of answer.ruling) mid o.token
    (number_option 6 number ++ format_options answer.format) answer.payload k h
    (notification_options number answer.format)

pub id_fits : (n : ℕ) → (n + 1) % 65536 < 65536
id_fits n = omega arith

abbrev HasMessage : Datagram → Type 0
HasMessage d = IsMessage d.bytes

-- all that is sent is a message, and the message ID and the observations fit then
record Fits (t : Sweep) : Type 0 where
  sent : AllByRecursion HasMessage t.sent
  left : AllByRecursion HasMessages t.left
  next_id : t.next_id < 65536

-- a Confirmable notification is sent again with the bytes of a message
timer_fits : (none : Bool) (bytes : List ℕ) (first : ℕ) (timer : Timer) → IsMessage bytes
    → (if none then None else Some (record { bytes = bytes; first = first })) ≡ Some timer → IsMessage timer.bytes
timer_fits true bytes first timer h e = absurd (none-some timer e)
timer_fits false bytes first timer h e =
    subst (λ (t : Timer). IsMessage t.bytes) (same_Some (record { bytes = bytes; first = first }) timer e) h

open_fits : (o : Observation) (timer : Option Timer) (d : Datagram)
    → ((t : Timer) → timer ≡ Some t → IsMessage t.bytes) → option_map (resent_datagram o) timer ≡ Some d → HasMessage d
open_fits o None d h e = absurd (none-some d e)
open_fits o (Some t) d h e = subst HasMessage (same_Some (resent_datagram o t) d e) (h t refl)

told_fits : (client : Client) (clock next_id : ℕ) (o : Observation) (answer : Answer) → HasMessages o
    → next_id < 65536 → HasMessages (after_next_notification client clock next_id o answer)
told_fits client clock next_id o answer h k =
    record {
      token = h.token;
      open_is = λ timer e. timer_fits (sends_nons client) (next_notification client next_id o answer).bytes
          client.notify timer
          (notified (notified_kind client) o next_id (Some (next_number o.number)) answer h.token k) e;
    }

turn_fits : (client : Client) (clock next_id : ℕ) (o : Observation) → HasMessages o → next_id < 65536
    → Fits (turn_of client clock next_id o)
turn_fits client clock next_id o h k =
    by_all client clock next_id o Fits
    (λ is content due. record {
      sent = (
        notified (notified_kind client) o next_id (Some (next_number o.number)) (present_answer client o) h.token k,
        tt,
      );
      left = (told_fits client clock next_id o (present_answer client o) h k, tt);
      next_id = id_fits next_id;
    })
    (λ is content rests. record { sent = tt; left = (h, tt); next_id = k })
    (λ is no_content. record {
      sent = (notified Non o next_id None (present_answer client o) h.token k, tt);
      left = tt;
      next_id = id_fits next_id;
    })
    (λ is. record { sent = tt; left = (h, tt); next_id = k })
    (λ is. record {
      sent = of_option (open_notification o) HasMessage (λ d is_open. open_fits o o.timer d h.open_is is_open);
      left = (h, tt);
      next_id = k;
    })
    (λ is. record { sent = tt; left = tt; next_id = k })

second_fits : (client : Client) (clock next_id : ℕ) (os : List Observation) → AllByRecursion HasMessages os
    → next_id < 65536
    → Fits (second client clock next_id os)
second_fits client clock next_id [] h k = record { sent = tt; left = tt; next_id = k }
second_fits client clock next_id (o ∷ os) h k =
    let t = turn_of client clock next_id o in
    let u = second client clock t.next_id os in
    let a = turn_fits client clock next_id o h.0 k in
    let b = second_fits client clock t.next_id os h.1 a.next_id in
    record {
      sent = each_appended HasMessage t.sent u.sent a.sent b.sent;
      left = each_appended HasMessages t.left u.left a.left b.left;
      next_id = b.next_id;
    }

seconds_fit : (client : Client) (clock n next_id : ℕ) (os : List Observation) → AllByRecursion HasMessages os
    → next_id < 65536
    → Fits (seconds client clock n next_id os)
seconds_fit client clock zero next_id os h k = record { sent = tt; left = h; next_id = k }
seconds_fit client clock (suc n) next_id os h k =
    let t = second client (clock + 1) next_id os in
    let a = second_fits client (clock + 1) next_id os h k in
    let b = seconds_fit client (clock + 1) n t.next_id t.left a.left a.next_id in
    record {
      sent = each_appended HasMessage t.sent (seconds client (clock + 1) n t.next_id t.left).sent a.sent b.sent;
      left = b.left;
      next_id = b.next_id;
    }

put_out : (ds : List Datagram) → AllByRecursion HasMessage ds → AllByRecursion SendsMessage (map send_of ds)
put_out [] h = tt
put_out (d ∷ ds) h = (h.0, put_out ds h.1)

-- all that a reaction sends is a message, and the device is sound then
pub record Keeps (r : Reaction) : Type 0 where
  pub sent : AllByRecursion SendsMessage r.outputs
  pub sound : IsSound r.flat

pub ticks : (f : Machine) (n : ℕ) → IsSound f → Keeps (reaction_to f (Tick n))
ticks f n h =
    let fits = seconds_fit f.kept.client f.kept.clock n f.kept.next_id f.kept.observations h.observations h.next_id in
    record {
      sent = put_out (sweep_in f.kept n).sent fits.sent;
      sound = record { next_id = fits.next_id; observations = fits.left; replies = h.replies };
    }

pub starts : StartsSound
starts class = record { next_id = omega arith; observations = tt; replies = tt }
