-- What a request leaves that is answered and recorded with what is noted.
use Rattle.std.proofs.Common.{◌≡◌, ℕ, Bool, List, Option, subst, ◌∙◌}
use Rattle.coap_codec.specs.Message.{Message}
use Rattle.coap_codec.specs.declared.kind.Kind.{Kind}
use Rattle.device_requests.specs.Answer.{Leaves}
use Rattle.device_requests.specs.Client.{Client}
use Rattle.device_requests.specs.Request.{outcome_of}
use Rattle.device_requests.specs.declared.answer.Act.{Act as Deed}
use Rattle.device_requests.specs.declared.answer.Answer.{Answer}
use Rattle.device_requests.specs.declared.observe.Interest.{Interest}
use Rattle.device_requests.specs.Observe.{interest_of}
use Rattle.device_requests.specs.Options.{has_unrecognized_critical}
use Rattle.device_machine.specs.Asked.{message_with}
use Rattle.device_machine.specs.Observing.{Notes, ObserveResult, noted_by, observe_result}
use Rattle.device_machine.specs.State.{Machine, with_client, with_observations}
use Rattle.device_machine.specs.Reactions.{on_fresh, on_noted, on_outcome, reply_to, reply_with}

-- a request is answered and recorded with what is noted
pub taken : (f h : Machine) (server : ℕ) (m : Message) (client : Client) (answer : Answer)
    (interest : Option Interest) (number : Option ℕ) (reply : Option Message) (act : Option Deed)
    → Leaves answer client (outcome_of f.kept.client server m) → interest ≡ interest_of m
    → Notes number (with_client f.kept client) h.kept (noted_by (with_client f.kept client) server m answer interest)
    → h.recorded ≡ f.recorded
    → reply ≡ reply_to h.kept.next_id m m.kind number answer → act ≡ answer.act
    → on_fresh h server m h.kept reply act ≡ on_outcome f server m (outcome_of f.kept.client server m)
taken f h server m client answer interest number reply act leaves asks noted_so same replied acts =
    let before = with_client f.kept client in
    let told : Client → Answer → ObserveResult = λ c a. observe_result (with_client f.kept c) server m a in
    let notes : Notes number before h.kept (told client answer) =
    subst (λ o. Notes number before h.kept (noted_by before server m answer o)) asks noted_so in
    let state : h ≡ record {
      kept = with_observations (with_client f.kept client) (told client answer).left;
      recorded =
          f.recorded;
    } =
    λ i. record { kept = notes.kept_is i; recorded = same i } in
    let reply_is : reply ≡ reply_to f.kept.next_id m m.kind (told client answer).number answer =
    replied ∙ (λ i. reply_to (notes.kept_is i).next_id m m.kind (notes.number_is i) answer) in
    (λ i. on_fresh (state i) server m (state i).kept (reply_is i) (acts i))
    ∙ (λ i. on_noted f server m (record { answer = leaves.says i; client = leaves.then_client i })
    (told (leaves.then_client i) (leaves.says i)))

-- so the reply to what was taken over of a message is that to the message
pub replied_to : (f : Machine) (server : ℕ) (m : Message) (kind : Kind) (mid : ℕ) (token : List ℕ) (rejected : Bool)
    (number : Option ℕ) (answer : Answer) → kind ≡ m.kind → mid ≡ m.mid → token ≡ m.token
    → rejected ≡ has_unrecognized_critical m.options
    → on_fresh f server (message_with kind mid token) f.kept
    (reply_with f.kept.next_id kind mid token rejected number answer) answer.act
    ≡ on_fresh f server m f.kept (reply_to f.kept.next_id m m.kind number answer) answer.act
replied_to f server m kind mid token rejected number answer k i t r =
    λ j. on_fresh f server (message_with (k j) (i j) (t j)) f.kept
    (reply_with f.kept.next_id (k j) (i j) (t j) (r j) number answer) answer.act
