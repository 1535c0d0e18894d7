-- A plain Read is taken as its message is.
use Rattle.std.proofs.Common.{◌≡◌, ℕ, ◌+◌, ◌<◌, true, false, List, [], drop, Option, None, Some, Result, Ok, Err}
use Rattle.std.proofs.Common.{MatchOption, MatchResult, refl, sym, ap, subst, ◌∙◌, arith}
use Rattle.coap_codec.specs.Fault.{BreaksOff, HasEarlyFault, HasFault, header_fault, place_fault, token_length}
use Rattle.coap_codec.specs.Message.{Message, Spells, kind_number}
use Rattle.coap_codec.specs.Reading.{reading_of}
use Rattle.coap_codec.specs.declared.fault.CoapFault.{CoapFault}
use Rattle.coap_codec.specs.declared.kind.Kind.{Kind}
use Rattle.coap_codec.specs.declared.kind.Kind.TheVariants.{Con, Non, Ack, Rst}
use Rattle.coap_codec.proofs.OneReading.{never_both}
use Rattle.coap_codec.proofs.Soundness.{AreBytes, spelled_from_reading}
use Rattle.device_requests.specs.Client.{has_account}
use Rattle.device_requests.specs.Observe.{interest_for}
use Rattle.device_requests.specs.Outcomes.{read_answer}
use Rattle.device_requests.specs.PlainRead.{IsPlainRead}
use Rattle.device_requests.specs.Request.{outcome_for, outcome_of}
use Rattle.device_requests.specs.declared.answer.Answer.{Answer}
use Rattle.object_defs.specs.declared.path.Path.{Path}
use Rattle.device_machine.specs.Asked.{message_with}
use Rattle.device_machine.specs.Memory.{datagram_takes_memory, message_takes_memory, request_takes_memory}
use Rattle.device_machine.specs.Reactions.{Gives, again, is_request, on_fresh, on_message, on_outcome, on_request, reply_with}
use Rattle.device_machine.specs.Reactions.{reaction_to, repeat_of}
use Rattle.device_machine.specs.State.{Machine}
use Rattle.device_machine.specs.declared.event.Event.TheVariants.{Recv}
use Rattle.device_machine.specs.declared.output.Output.{Output}
use Rattle.device_machine.specs.declared.recorded.Recorded.{Recorded}
use Rattle.device_machine.proofs.Copying.{grows_taken}
use Rattle.device_machine.proofs.Places.{replied_to, taken}
use Rattle.device_machine.proofs.Repeating.{asked_con, asked_non, reached}

-- an early fault is a fault
early_so : (o : Option CoapFault) (rest : List ℕ) (f : CoapFault)
    → MatchOption o (place_fault 0 rest ≡ Some f) (λ g. g ≡ f) → MatchOption o (BreaksOff 0 rest f) (λ g. g ≡ f)
early_so None rest f h = record { whole = []; rest = rest; is_list = tt; parts = refl; place = h }
early_so (Some g) rest f h = h

early : (bytes : List ℕ) (f : CoapFault) → HasEarlyFault bytes f → HasFault bytes f
early bytes f = early_so (header_fault bytes) (drop (4 + token_length bytes) bytes) f

-- the message of a plain Read is a request
requested : (f : Machine) (server : ℕ) (m : Message) (kind : Kind) → kind_number kind < 2 → m.code ≡ 1
    → on_message f server m kind ≡ on_request f server m (repeat_of f server m)
requested f server m Con low code = asked_con f server m _ (ap is_request code) refl
requested f server m Non low code = asked_non f server m _ (ap is_request code) refl
requested f server m Ack low code = absurd (omega (arith, low))
requested f server m Rst low code = absurd (omega (arith, low))

-- so what its datagram gives is what the request gives
pub plain_reaction : (f : Machine) (server : ℕ) (bytes : List ℕ) (kind : Kind) (mid : ℕ) (token : List ℕ) (path : Path)
    (m : Message) → has_account f.kept.client server ≡ true → kind_number kind < 2 → reading_of bytes ≡ Ok m
    → IsPlainRead kind mid token path m
    → on_request f server m (repeat_of f server m) ≡ reaction_to f (Recv server bytes)
plain_reaction f server bytes kind mid token path m known low reads is =
    sym (reached f server bytes m known reads
    ∙ ap (λ k. on_message f server m k) is.kind_is
    ∙ requested f server m kind low is.code_is)

-- it is a repeat by its type and message ID
pub plain_repeat : (f : Machine) (server : ℕ) (kind : Kind) (mid : ℕ) (token : List ℕ) (path : Path) (m : Message)
    → IsPlainRead kind mid token path m → repeat_of f server (message_with kind mid []) ≡ repeat_of f server m
plain_repeat f server kind mid token path m is =
    λ j. repeat_of f server (message_with (sym is.kind_is j) (sym is.mid_is j) [])

-- it is answered as a Read of its path, and asks nothing of the observations
pub plain_outcome : (f : Machine) (server : ℕ) (kind : Kind) (mid : ℕ) (token : List ℕ) (path : Path) (m : Message)
    (answer : Answer) → IsPlainRead kind mid token path m
    → answer ≡ read_answer f.kept.client server path None
    → on_fresh f server (message_with kind mid token) f.kept
    (reply_with f.kept.next_id kind mid token false None answer) answer.act
    ≡ on_outcome f server m (outcome_of f.kept.client server m)
plain_outcome f server kind mid token path m answer is says =
    replied_to f server m kind mid token false None answer (sym is.kind_is) (sym is.mid_is) (sym is.token_is)
    (sym is.understood)
    ∙ taken f f server m f.kept.client answer None None _ answer.act
    (record {
      says = says ∙ sym (ap (λ r. (outcome_for f.kept.client server m r).answer) is.asks);
      then_client = sym (ap (λ r. (outcome_for f.kept.client server m r).client) is.asks);
    })
    (sym (ap interest_for is.asks))
    (record { number_is = refl; kept_is = refl })
    refl refl refl

-- a repeat is answered with what replied first
pub plain_again : (f : Machine) (server : ℕ) (kind : Kind) (mid : ℕ) (token : List ℕ) (path : Path) (m : Message)
    (first : Recorded) (outputs : List Output) → IsPlainRead kind mid token path m
    → Some first ≡ repeat_of f server (message_with kind mid []) → outputs ≡ again server kind first.reply
    → Gives outputs f (on_request f server m (repeat_of f server m))
plain_again f server kind mid token path m first outputs is found sent =
    subst (λ o. Gives outputs f (on_request f server m o)) (found ∙ plain_repeat f server kind mid token path m is)
    (record {
      sent = sent ∙ ap (λ k. again server k first.reply) (sym is.kind_is);
      then_flat = refl;
    })

takes : (f : Machine) (server : ℕ) (m : Message) (kind : Kind) → kind_number kind < 2 → m.code ≡ 1
    → request_takes_memory kind (repeat_of f server m) ≡ true → message_takes_memory f server m kind ≡ true
takes f server m Con low code h = rw (ap is_request code, h) refl
takes f server m Non low code h = rw (ap is_request code, h) refl
takes f server m Ack low code h = absurd (omega (arith, low))
takes f server m Rst low code h = absurd (omega (arith, low))

-- it takes memory where the request does
pub plain_memory : (f : Machine) (server : ℕ) (bytes : List ℕ) (kind : Kind) (mid : ℕ) (token : List ℕ) (path : Path)
    (m : Message) → AreBytes bytes → kind_number kind < 2 → reading_of bytes ≡ Ok m
    → IsPlainRead kind mid token path m → request_takes_memory kind (repeat_of f server m) ≡ true
    → datagram_takes_memory bytes ≡ true
plain_memory f server bytes kind mid token path m all low reads is h =
    let spells : Spells bytes m = spelled_from_reading bytes m all reads in
    grows_taken f server bytes m spells
    (λ fault has. absurd (never_both bytes m fault spells (early bytes fault has)))
    (subst (λ k. message_takes_memory f server m k ≡ true) (sym is.kind_is)
    (takes f server m kind low is.code_is h))

-- what holds of the message that is read, where there is one
pub of_reading : {X : Type 0} (bytes : List ℕ) (P : Message → Type 0) (r : Result Message CoapFault)
    → reading_of bytes ≡ r → MatchResult r P (λ f. ⊥)
    → ((m : Message) → reading_of bytes ≡ Ok m → P m → X) → X
of_reading bytes P (Ok m) e h gives = gives m e h
of_reading bytes P (Err f) e h gives = absurd h
