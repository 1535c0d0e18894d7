-- What the observations do in a class whose notifications are Non-confirmable.
use Rattle.std.proofs.Common.{◌≡◌, ℕ, zero, suc, ◌+◌, ◌==◌, true, List, [], ◌∷◌, None, Some, refl, sym, ap, subst, ◌∙◌}
use Rattle.std.specs.Bool.{if◌then◌else◌}
use Rattle.std.specs.List.{AllByRecursion}
use Rattle.lemmas.proofs.Lists.{each_appended}
use Rattle.coap_codec.specs.declared.kind.Kind.TheVariants.{Con, Non}
use Rattle.notifier.specs.Observed.{after_notification, next_number}
use Rattle.notifier.specs.Resending.{turn_with}
use Rattle.notifier.specs.declared.observation.Observation.{Observation}
use Rattle.device_requests.specs.Client.{Client}
use Rattle.device_notifications.specs.declared.evaluation.Evaluation.{Evaluation}
use Rattle.device_notifications.specs.declared.evaluation.Evaluation.TheVariants.{Quiet, Sends, Gone}
use Rattle.device_notifications.specs.ConfirmableLaws.{EvaluatesWithNons, IsClosed, StaysClosedWithNons, turn_with_nons}
use Rattle.device_notifications.specs.Message.{datagram_of}
use Rattle.device_notifications.specs.Outbox.{id_after}
use Rattle.device_notifications.specs.Report.{report_of}
use Rattle.device_notifications.specs.Second.{evaluation_of, next_notification, second, turn_as, turn_by}
use Rattle.device_notifications.specs.Second.{turn_of}

as_non : (client : Client) (clock next_id : ℕ) (o : Observation) (v : Evaluation) → client.notify ≡ 0
    → turn_by client clock next_id o v ≡ turn_with_nons client clock next_id o v
as_non client clock next_id o Quiet off = refl
as_non client clock next_id o (Sends answer) off =
    let nons : (client.notify == 0) ≡ true = ap (λ n. n == 0) off in
    let bytes = (next_notification client next_id o answer).bytes in
    λ i. record {
      sent = datagram_of (if nons i then Non else Con) o next_id (Some (next_number o.number)) answer ∷ [];
      left = after_notification clock next_id (report_of client o.path answer.payload)
          (if nons i then None else Some (record { bytes = bytes; first = client.notify })) o ∷ [];
      next_id = id_after next_id;
    }
as_non client clock next_id o (Gone answer) off = refl

pub evaluates : EvaluatesWithNons
evaluates client clock next_id o off closed =
    ap (λ t. turn_as client clock next_id o (turn_with o.second t clock)) closed
    ∙ as_non client clock next_id o (evaluation_of client clock o) off

closed_by : (client : Client) (clock next_id : ℕ) (o : Observation) (v : Evaluation) → IsClosed o
    → AllByRecursion IsClosed (turn_with_nons client clock next_id o v).left
closed_by client clock next_id o Quiet closed = (closed, tt)
closed_by client clock next_id o (Sends answer) closed = (refl, tt)
closed_by client clock next_id o (Gone answer) closed = tt

closed_in_turn : (client : Client) (clock next_id : ℕ) (o : Observation) → client.notify ≡ 0 → IsClosed o
    → AllByRecursion IsClosed (turn_of client clock next_id o).left
closed_in_turn client clock next_id o off closed =
    subst (λ t. AllByRecursion IsClosed t.left) (sym (evaluates client clock next_id o off closed))
    (closed_by client clock next_id o (evaluation_of client clock o) closed)

closed_in_second : (client : Client) (clock next_id : ℕ) (os : List Observation) → client.notify ≡ 0
    → AllByRecursion IsClosed os → AllByRecursion IsClosed (second client clock next_id os).left
closed_in_second client clock next_id [] off closed = tt
closed_in_second client clock next_id (o ∷ os) off closed =
    each_appended IsClosed (turn_of client clock next_id o).left _ (closed_in_turn client clock next_id o off closed.0)
    (closed_in_second client clock (turn_of client clock next_id o).next_id os off closed.1)

pub stays_closed : StaysClosedWithNons
stays_closed client clock zero next_id os off closed = closed
stays_closed client clock (suc n) next_id os off closed =
    let t = second client (clock + 1) next_id os in
    stays_closed client (clock + 1) n t.next_id t.left off (closed_in_second client (clock + 1) next_id os off closed)
