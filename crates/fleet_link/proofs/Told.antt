-- What goes through ports, one call after another.
use Rattle.std.proofs.Common.{◌≡◌, ℕ, ◌+◌, ◌<◌, List, [], ◌∷◌, ◌++◌, take, length, get_or, Option, None, Some}
use Rattle.std.proofs.Common.{◌⊎◌, inl, inr, cond, refl, sym, ap, subst, ◌∙◌, append_assoc, append-nil, add_assoc}
use Rattle.std.proofs.Common.{add-zero, zero-add}
use Rattle.std.proofs.lemmas.Bool.{cases_eq, eq-eqb, ne_eqb}
use Rattle.device_machine.specs.declared.output.Output.{Output}
use Rattle.live_link.proofs.Sent.{packets_more}
use Rattle.live_link.specs.Live.{packets_in}
use Rattle.live_link.specs.Wire.{AreRead}
use Rattle.live_link.specs.declared.packet.Packet.{Packet}
use Rattle.fleet_link.specs.Traffic.{Carries, ReceivedPacket, Traffic, at_port, no_traffic, sent_all, traffic_and}

-- ---- traffic

-- the one, then the other
both : (t a b : Traffic) → traffic_and (traffic_and t a) b ≡ traffic_and t (traffic_and a b)
both t a b =
    let h = append_assoc t.handed a.handed b.handed in
    let s = append_assoc t.sent a.sent b.sent in
    let f = add_assoc t.failures a.failures b.failures in
    cc

pub carries_both : (x y z : Option Traffic) (a b c : Traffic) → Carries x y a → Carries y z b → traffic_and a b ≡ c
    → Carries x z c
carries_both x y None a b c h k e = tt
carries_both x None (Some z) a b c h k e = absurd k
carries_both None (Some y) (Some z) a b c h k e = absurd h
carries_both (Some x) (Some y) (Some z) a b c h k e =
    k ∙ ap (λ t. traffic_and t b) h ∙ both x a b ∙ ap (traffic_and x) e

abbrev pub traffic_of : List ReceivedPacket → List Packet → ℕ → Traffic
traffic_of h s f = record { handed = h; sent = s; failures = f }

same_parts : (h k : List ReceivedPacket) (s t : List Packet) (f g : ℕ) → h ≡ k → s ≡ t → f ≡ g
    → traffic_of h s f ≡ traffic_of k t g
same_parts h k s t f g a b c = cc

pub and_none : (t : Traffic) → traffic_and t no_traffic ≡ t
and_none t =
    same_parts (t.handed ++ []) t.handed (t.sent ++ []) t.sent (t.failures + 0) t.failures (append-nil t.handed)
    (append-nil t.sent) (add-zero t.failures)

pub none_and : (t : Traffic) → traffic_and no_traffic t ≡ t
none_and t =
    same_parts t.handed t.handed t.sent t.sent (0 + t.failures) t.failures refl refl (zero-add t.failures)

pub carries_none : (x : Option Traffic) → Carries x x no_traffic
carries_none None = tt
carries_none (Some t) = sym (and_none t)

pub carries_same : (x y : Option Traffic) (a b : Traffic) → Carries x y a → a ≡ b → Carries x y b
carries_same x y a b h e = subst (Carries x y) e h

-- nothing more
pub carries_on : (x y z : Option Traffic) (a : Traffic) → Carries x y a → Carries y z no_traffic → Carries x z a
carries_on x y z a h k = carries_both x y z a no_traffic a h k (and_none a)

-- first nothing
pub carries_late : (x y z : Option Traffic) (a : Traffic) → Carries x y no_traffic → Carries y z a → Carries x z a
carries_late x y z a h k = carries_both x y z no_traffic a a h k (none_and a)

-- ---- the port of a device

pub at_port_same : (d : ℕ) (t : Traffic) → at_port d d t ≡ t
at_port_same d t = ap (λ b. cond b t no_traffic) (eq-eqb d d refl)

pub at_port_other : (d e : ℕ) (t : Traffic) → (e ≡ d → ⊥) → at_port d e t ≡ no_traffic
at_port_other d e t h = ap (λ b. cond b t no_traffic) (ne_eqb d e (λ x. h (sym x)))

at_port_both : (d e : ℕ) (a b : Traffic) → (d ≡ e) ⊎ (d ≡ e → ⊥)
    → traffic_and (at_port d e a) (at_port d e b) ≡ at_port d e (traffic_and a b)
at_port_both d e a b (inl same) =
    let p = ap (λ x. cond x a no_traffic) (eq-eqb d e same) in
    let q = ap (λ x. cond x b no_traffic) (eq-eqb d e same) in
    let r = ap (λ x. cond x (traffic_and a b) no_traffic) (eq-eqb d e same) in
    ap (λ x. traffic_and x (at_port d e b)) p ∙ ap (traffic_and a) q ∙ sym r
at_port_both d e a b (inr other) =
    let p = ap (λ x. cond x a no_traffic) (ne_eqb d e other) in
    let q = ap (λ x. cond x b no_traffic) (ne_eqb d e other) in
    let r = ap (λ x. cond x (traffic_and a b) no_traffic) (ne_eqb d e other) in
    ap (λ x. traffic_and x (at_port d e b)) p ∙ ap (traffic_and no_traffic) q ∙ none_and no_traffic ∙ sym r

at_port_none : (d e : ℕ) → (d ≡ e) ⊎ (d ≡ e → ⊥) → at_port d e no_traffic ≡ no_traffic
at_port_none d e (inl same) = ap (λ x. cond x no_traffic no_traffic) (eq-eqb d e same)
at_port_none d e (inr other) = ap (λ x. cond x no_traffic no_traffic) (ne_eqb d e other)

-- ---- sending

-- nothing was sent
pub none_sent : (d e : ℕ) (x : Option Traffic) → Carries x x (at_port d e (sent_all []))
none_sent d e x = carries_same x x no_traffic _ (carries_none x) (sym (at_port_none d e (cases_eq d e)))

-- what an output sends, after what those before it sent
pub one_more : (d e : ℕ) (x y z : Option Traffic) (outputs : List Output) (i : ℕ) (o : Output)
    → Carries x y (at_port d e (sent_all (packets_in (take i outputs))))
    → Carries y z (at_port d e (sent_all (packets_in (o ∷ [])))) → i < length outputs → o ≡ get_or outputs i o
    → Carries x z (at_port d e (sent_all (packets_in (take (i + 1) outputs))))
one_more d e x y z outputs i o h k l is =
    carries_both x y z _ _ _ h k
    (at_port_both d e (sent_all (packets_in (take i outputs))) (sent_all (packets_in (o ∷ []))) (cases_eq d e)
    ∙ ap (λ ps. at_port d e (traffic_of [] ps 0)) (sym (packets_more outputs i o l is)))

-- ---- a list that is told

pub read_both : (x y z : Option (List ℕ)) (a b c : List ℕ) → AreRead x y a → AreRead y z b → a ++ b ≡ c → AreRead x z c
read_both x y None a b c h k e = tt
read_both x None (Some z) a b c h k e = absurd k
read_both None (Some y) (Some z) a b c h k e = absurd h
read_both (Some x) (Some y) (Some z) a b c h k e =
    k ∙ ap (λ l. l ++ b) h ∙ append_assoc x a b ∙ ap (λ l. x ++ l) e

-- nothing and nothing is nothing
pub still_none : (x y z : Option (List ℕ)) → AreRead x y [] → AreRead y z [] → AreRead x z []
still_none x y z h k = read_both x y z [] [] [] h k refl
