-- What goes over a wire, one packet after another.
use Rattle.std.proofs.Common.{◌≡◌, ℕ, ◌+◌, ◌<◌, List, [], ◌∷◌, ◌++◌, length, take, get_or, Option, None}
use Rattle.std.proofs.Common.{Some, refl, sym, ap, ◌∙◌, append_assoc, append-nil, add_assoc, add-zero}
use Rattle.std.proofs.Common.{zero-add}
use Rattle.std.proofs.lemmas.Grind.{take_at_read}
use Rattle.std.proofs.lemmas.List.Elements.{filter_map-append}
use Rattle.device_machine.specs.declared.output.Output.{Output}
use Rattle.live_link.specs.declared.packet.Packet.{Packet}
use Rattle.live_link.specs.declared.session.LiveEnd.{LiveEnd}
use Rattle.live_link.specs.declared.session.LiveEnd.TheVariants.{SendFault, Memory}
use Rattle.live_link.specs.Wire.{Traffic, Carries, traffic_and}
use Rattle.live_link.specs.Live.{packet_in, packets_in, failures_at, most_refusals}
use Rattle.live_link.specs.Serving.{AreSent, AreCutShort}

-- the one, then the other
both : (t a b : Traffic) → traffic_and (traffic_and t a) b ≡ traffic_and t (traffic_and a b)
both t a b =
    let h = append_assoc t.received a.received b.received in
    let s = append_assoc t.taken a.taken b.taken in
    let f = add_assoc t.failures a.failures b.failures in
    let r = add_assoc t.refusals a.refusals b.refusals in
    cc

pub carries_both : (x y z : Option Traffic) (a b c : Traffic) → Carries x y a → Carries y z b → traffic_and a b ≡ c
    → Carries x z c
carries_both x y None a b c h k e = tt
carries_both x None (Some z) a b c h k e = absurd k
carries_both None (Some y) (Some z) a b c h k e = absurd h
carries_both (Some x) (Some y) (Some z) a b c h k e =
    k ∙ ap (λ t. traffic_and t b) h ∙ both x a b ∙ ap (traffic_and x) e

traffic_of : List (Option Packet) → List Packet → ℕ → ℕ → Traffic
traffic_of h s f r = record { received = h; taken = s; failures = f; refusals = r }

same_parts : (h k : List (Option Packet)) (s t : List Packet) (f g r q : ℕ) → h ≡ k → s ≡ t → f ≡ g → r ≡ q
    → traffic_of h s f r ≡ traffic_of k t g q
same_parts h k s t f g r q a c d e = cc

none_more : (t : Traffic) → t ≡ traffic_and t (record { received = []; taken = []; failures = 0; refusals = 0 })
unfolding traffic_of
none_more t =
    same_parts t.received (t.received ++ []) t.taken (t.taken ++ []) t.failures (t.failures + 0)
    t.refusals (t.refusals + 0) (sym (append-nil t.received)) (sym (append-nil t.taken))
    (sym (add-zero t.failures)) (sym (add-zero t.refusals))

pub carries_none : (x : Option Traffic)
    → Carries x x (record { received = []; taken = []; failures = 0; refusals = 0 })
carries_none None = tt
carries_none (Some t) = none_more t

pub none_sent : (old : List Packet) (before : Option Traffic) → AreSent [] 0 0 old old before before
none_sent old before = record { noted = sym (append-nil old); told = carries_none before }

pub sent_more : (gone more : List Packet) (failures refusals : ℕ) (old mid new : List Packet)
    (before between after : Option Traffic) → AreSent gone 0 0 old mid before between
    → AreSent more failures refusals mid new between after
    → AreSent (gone ++ more) failures refusals old new before after
sent_more gone more failures refusals old mid new before between after h k =
    let f = zero-add failures in
    let r = zero-add refusals in
    record {
      noted = k.noted ∙ ap (λ l. l ++ more) h.noted ∙ append_assoc old gone more;
      told = carries_both before between after _ _ _ h.told k.told cc;
    }

pub cut_behind : (end : LiveEnd) (gone all rest whole : List Packet) (old mid new : List Packet)
    (before between after : Option Traffic) → AreSent gone 0 0 old mid before between
    → AreCutShort end all mid new between after → gone ++ all ++ rest ≡ whole
    → AreCutShort end whole old new before after
cut_behind end gone all rest whole old mid new before between after h k e =
    record {
      sending = k.sending;
      gone = gone ++ k.gone;
      failed = k.failed;
      rest = k.rest ++ rest;
      all_are = sym e ∙ ap (λ l. gone ++ l ++ rest) k.all_are
          ∙ ap (λ l. l ++ rest) (sym (append_assoc gone k.gone (k.failed ∷ k.rest)))
          ∙ append_assoc (gone ++ k.gone) (k.failed ∷ k.rest) rest;
      sent = sent_more gone k.gone (failures_at end) (most_refusals end) old mid new before between after h k.sent;
    }

pub one_sent : (packet : Packet) (old new : List Packet) (before after : Option Traffic) → new ≡ old ++ packet ∷ []
    → Carries before after (record { received = []; taken = packet ∷ []; failures = 0; refusals = 0 })
    → AreSent (packet ∷ []) 0 0 old new before after
one_sent packet old new before after e told = record { noted = e; told = told }

pub one_failed : (packet : Packet) (old new : List Packet) (before after : Option Traffic) → new ≡ old
    → Carries before after (record { received = []; taken = []; failures = 1; refusals = 0 })
    → AreCutShort SendFault (packet ∷ []) old new before after
one_failed packet old new before after e told =
    record {
      sending = tt;
      gone = [];
      failed = packet;
      rest = [];
      all_are = refl;
      sent = record { noted = e ∙ sym (append-nil old); told = told };
    }

pub one_refused : (packet : Packet) (old new : List Packet) (before after : Option Traffic) → new ≡ old
    → Carries before after (record { received = []; taken = []; failures = 0; refusals = 1 })
    → AreCutShort Memory (packet ∷ []) old new before after
one_refused packet old new before after e told =
    record {
      sending = tt;
      gone = [];
      failed = packet;
      rest = [];
      all_are = refl;
      sent = record { noted = e ∙ sym (append-nil old); told = told };
    }

-- the packets among the outputs, with the one at the index
pub packets_more : (outputs : List Output) (i : ℕ) (o : Output) → i < length outputs → o ≡ get_or outputs i o
    → packets_in (take (i + 1) outputs) ≡ packets_in (take i outputs) ++ packets_in (o ∷ [])
packets_more outputs i o l e =
    ap packets_in ((take_at_read outputs i o l).1 ∙ ap (λ x. take i outputs ++ x ∷ []) (sym e))
    ∙ filter_map-append packet_in (take i outputs) (o ∷ [])
