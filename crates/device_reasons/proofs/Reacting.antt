-- The reaction to bytes that come for a reason.
use Rattle.std.proofs.Common.{◌≡◌, ℕ, ◌+◌, Bool, true, false, not, cond, inl, inr, List, [], ◌∷◌, Option, None, Some}
use Rattle.std.proofs.Common.{is_some, refl, sym, ap, ◌∙◌, arith}
use Rattle.std.specs.List.{count_by, filter, list_any}
use Rattle.std.proofs.lemmas.List.Sums.{sum_by-cons}
use Rattle.std.proofs.lemmas.Bool.{ne_eqb}
use Rattle.coap_codec.specs.Message.{Message}
use Rattle.coap_codec.specs.declared.fault.CoapFault.{CoapFault}
use Rattle.coap_codec.specs.declared.kind.Kind.{Kind}
use Rattle.coap_codec.specs.declared.kind.Kind.TheVariants.{Con, Non, Ack, Rst}
use Rattle.device_machine.specs.declared.event.Event.TheVariants.{Recv}
use Rattle.device_machine.specs.declared.recorded.Recorded.{Recorded}
use Rattle.device_machine.specs.Reactions.{on_message, on_noise, on_request, reaction_to, repeat_of}
use Rattle.device_machine.specs.Reactions.{on_reset, sent_to, silence}
use Rattle.device_machine.specs.State.{Machine, with_observations}
use Rattle.notifier.specs.Observed.{is_awaited, was_sent}
use Rattle.device_machine.proofs.Closing.{others}
use Rattle.device_machine.proofs.Repeating.{first_con, first_non, reached, asked_con, asked_non}
use Rattle.device_reasons.specs.Laws.{HasReaction, ReasonsDecide}
use Rattle.device_reasons.specs.Reasons.{IsArrivalReason, IsMalformed, IsMessage}
use Rattle.device_reasons.specs.declared.arrival.ArrivalReason.{ArrivalReason}
use Rattle.device_reasons.specs.declared.arrival.ArrivalReason.TheVariants.{Stranger, MalformedCon, Malformed, OtherCon}
use Rattle.device_reasons.specs.declared.arrival.ArrivalReason.TheVariants.{OtherNon, EmptyReset, EmptyAck, OtherAck}
use Rattle.device_reasons.specs.declared.arrival.ArrivalReason.TheVariants.{OtherReset, RepeatedCon, RepeatedNon}
use Rattle.device_reasons.specs.declared.arrival.ArrivalReason.TheVariants.{Request}

-- bytes of an account that are not a message
noise : (f : Machine) (server : ℕ) (bytes : List ℕ) (fault : CoapFault) → IsMalformed f server bytes fault
    → reaction_to f (Recv server bytes) ≡ on_noise f server bytes
noise f server bytes fault h = rw (h.account, h.reading) refl

-- a message of an account, by its type
handled : (f : Machine) (server : ℕ) (bytes : List ℕ) (kind : Kind) (m : Message) → IsMessage f server bytes kind m
    → reaction_to f (Recv server bytes) ≡ on_message f server m kind
handled f server bytes kind m h = reached f server bytes m h.account h.reading ∙ ap (on_message f server m) h.kind_is

-- what is recorded of a repeat
recorded_of : (found : Option Recorded) → is_some found ≡ true → (r : Recorded) × (found ≡ Some r)
recorded_of None h = cc
recorded_of (Some r) h = (r, refl)

-- a repeat, by its type
again_con : (f : Machine) (server : ℕ) (m : Message) (r : Recorded) → m.kind ≡ Con
    → on_request f server m (Some r) ≡ record { outputs = sent_to server r.reply; flat = f }
again_con f server m r h = rw h refl

again_non : (f : Machine) (server : ℕ) (m : Message) (r : Recorded) → m.kind ≡ Non
    → on_request f server m (Some r) ≡ silence f
again_non f server m r h = rw h refl

-- a Reset that ends no observation
keeps_all : {X : Type 0} (p : X → Bool) (xs : List X) → count_by p xs ≡ 0 → filter (λ x. not (p x)) xs ≡ xs
keeps_all p [] h = refl
keeps_all p (x ∷ xs) h =
    elim (p x) as (λ b. cond b 1 0 + count_by p xs ≡ 0
    → cond (not b) (x ∷ filter (λ y. not (p y)) xs) (filter (λ y. not (p y)) xs) ≡ x ∷ xs) [
      | true ↦ λ k. absurd (omega (arith, k))
      | false ↦ λ k. ap (λ ys. x ∷ ys) (keeps_all p xs (omega (arith, k)))
    ] (sym (sum_by-cons (λ y. cond (p y) 1 0) x xs) ∙ h)

ends_none : (f : Machine) (server mid : ℕ) → count_by (was_sent server mid) f.kept.observations ≡ 0
    → on_reset f server mid ≡ silence f
ends_none f server mid h =
    ap (λ os. record { outputs = []; flat = record f { kept = with_observations f.kept os } })
    (keeps_all (was_sent server mid) f.kept.observations h)

pub decides : ReasonsDecide
decides f server bytes (Stranger asking) h = rw h.1 refl
decides f server bytes (MalformedCon fault mid) h = noise f server bytes fault h.0 ∙ rw (h.1, h.2) refl
decides f server bytes (Malformed fault) h = noise f server bytes fault h.0 ∙ rw h.1 refl
decides f server bytes (OtherCon code mid) h = handled f server bytes Con h.0 h.1 ∙ rw (h.2, h.4) refl
decides f server bytes (OtherNon code) h = handled f server bytes Non h.0 h.1 ∙ rw h.2 refl
decides f server bytes (EmptyReset mid ended) h =
    let reset : reaction_to f (Recv server bytes) ≡ on_reset f server mid =
    handled f server bytes Rst h.0 h.1 ∙ rw (h.2, h.3) refl in
    (reset, λ none. reset ∙ ends_none f server mid (h.4 ∙ none))
decides f server bytes (EmptyAck mid closes) h = (
  handled f server bytes Ack h.0 h.1 ∙ rw (h.2, h.3) refl,
  λ none. others f server bytes h.0 h.1.account h.1.reading h.1.kind_is
      (inr (ap (λ id. list_any (is_awaited server id) f.kept.observations) h.3 ∙ h.4 ∙ none)),
)
decides f server bytes (OtherAck code) h = handled f server bytes Ack h.0 h.1 ∙ rw (ne_eqb h.0.code 0 h.2) refl
decides f server bytes (OtherReset code) h = handled f server bytes Rst h.0 h.1 ∙ rw (ne_eqb h.0.code 0 h.2) refl
decides f server bytes (RepeatedCon mid) h =
    let found = recorded_of (repeat_of f server h.0) h.3 in (
      found.0.reply,
      record { message = h.0; recorded = found.0; reading = h.1.reading; first = found.1; reply_is = refl },
      handled f server bytes Con h.0 h.1 ∙ asked_con f server h.0 (Some found.0) h.2 found.1
          ∙ again_con f server h.0 found.0 h.1.kind_is,
    )
decides f server bytes (RepeatedNon mid) h =
    let found = recorded_of (repeat_of f server h.0) h.3 in
    handled f server bytes Non h.0 h.1 ∙ asked_non f server h.0 (Some found.0) h.2 found.1
    ∙ again_non f server h.0 found.0 h.1.kind_is
decides f server bytes (Request reason) h = (
  h.0,
  h.1.reading,
  elim h.2 [ inl con ↦ first_con f server bytes h.0 h.1 con | inr non ↦ first_non f server bytes h.0 h.1 non ],
)
