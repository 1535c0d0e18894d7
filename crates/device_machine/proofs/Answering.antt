-- A request gets one reply, whose code is that of the first line that applies.
use Rattle.std.proofs.Common.{◌≡◌, ℕ, Bool, true, false, ◌∷◌, ◌++◌, Option, None, Some, Err, option_map, refl, ap}
use Rattle.std.proofs.Common.{◌∙◌}
use Rattle.std.specs.Bool.{if◌then◌else◌}
use Rattle.device_requests.specs.Options.{has_unrecognized_critical, segments_of, path_of}
use Rattle.coap_codec.specs.Message.{Message, spelling}
use Rattle.coap_codec.specs.declared.kind.Kind.TheVariants.{Con, Non, Ack}
use Rattle.device_requests.specs.Answer.{Outcome}
use Rattle.device_requests.specs.declared.ruling.Ruling.TheVariants.{Options}
use Rattle.device_requests.specs.Request.{outcome_for, outcome_of, request_on}
use Rattle.device_machine.specs.Observing.{observe_result}
use Rattle.device_machine.specs.State.{Machine, with_client}
use Rattle.device_machine.specs.Reactions.{on_outcome, outputs_of_act, reply_to, response, sent_to}
use Rattle.device_machine.specs.declared.output.Output.TheVariants.{Send}
use Rattle.device_machine.specs.Laws.{ConfirmableAnswers, NonConfirmableAnswers, NonConfirmableRejects}
use Rattle.device_requests.proofs.Answering.{says}
use Rattle.device_machine.proofs.Repeating.{first_con, first_non}

-- the Observe number of the reply to a request with this outcome
abbrev number_with : Machine → ℕ → Message → Outcome → Option ℕ
number_with f server m outcome = (observe_result (with_client f.kept outcome.client) server m outcome.answer).number

replied : (f : Machine) (server : ℕ) (m : Message) (outcome : Outcome) → m.kind ≡ Con
    → (on_outcome f server m outcome).outputs
    ≡ Send server (spelling (response Ack m.mid m.token
    (number_with f server m outcome) outcome.answer)) ∷ outputs_of_act
    outcome.answer.act
replied f server m outcome k =
    ap (λ kind. sent_to server (option_map spelling
    (reply_to f.kept.next_id m kind (number_with f server m outcome) outcome.answer))
    ++ outputs_of_act outcome.answer.act) k

-- a fresh confirmable request
pub acknowledged : ConfirmableAnswers
acknowledged f server bytes m fresh k =
    let outcome = outcome_of f.kept.client server m in
    record {
      reply = response Ack m.mid m.token (number_with f server m outcome) outcome.answer;
      act = outcome.answer.act;
      sent = ap (λ r. r.outputs) (first_con f server bytes m fresh k) ∙ replied f server m outcome k;
      kind_is = refl;
      mid_is = refl;
      token = refl;
      said = outcome.answer.ruling;
      code = refl;
      line = says f.kept.client server m;
    }

-- what replies to a non-confirmable request
replied_non : (f : Machine) (server : ℕ) (m : Message) (outcome : Outcome) (refused : Bool) → m.kind ≡ Non
    → has_unrecognized_critical m.options ≡ refused
    → (on_outcome f server m outcome).outputs
    ≡ sent_to server (option_map spelling (if refused then None
    else Some (response Non f.kept.next_id m.token (number_with f server m outcome) outcome.answer)))
    ++ outputs_of_act outcome.answer.act
replied_non f server m outcome refused k h =
    ap (λ kind. sent_to server (option_map spelling
    (reply_to f.kept.next_id m kind (number_with f server m outcome) outcome.answer))
    ++ outputs_of_act outcome.answer.act) k
    ∙ ap (λ b. sent_to server (option_map spelling
    (if b then None else Some (response Non f.kept.next_id m.token
    (number_with f server m outcome) outcome.answer)))
    ++ outputs_of_act outcome.answer.act) h

pub answered_non : NonConfirmableAnswers
answered_non f server bytes m fresh k h =
    let outcome = outcome_of f.kept.client server m in
    record {
      reply = response Non f.kept.next_id m.token (number_with f server m outcome) outcome.answer;
      act = outcome.answer.act;
      sent = ap (λ r. r.outputs) (first_non f server bytes m fresh k) ∙ replied_non f server m outcome false k h;
      kind_is = refl;
      mid_is = refl;
      token = refl;
      said = outcome.answer.ruling;
      code = refl;
      line = says f.kept.client server m;
    }

pub rejected_non : NonConfirmableRejects
rejected_non f server bytes m fresh k h =
    ap (λ r. r.outputs) (first_non f server bytes m fresh k)
    ∙ replied_non f server m (outcome_of f.kept.client server m) true k h
    ∙ ap (λ b. outputs_of_act (outcome_for f.kept.client server m
    (if b then Err Options else request_on m (path_of (segments_of m.options)))).answer.act) h
