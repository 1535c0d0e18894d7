-- What ports in memory tell, with one datagram more.
use Rattle.std.proofs.Common.{◌≡◌, ℕ, ◌⊎◌, inl, inr, cond, Bool, true, false, List, [], ◌∷◌, ◌++◌, Option, None, Some}
use Rattle.std.proofs.Common.{sym, ap, subst, ◌∙◌, append-nil, add-zero}
use Rattle.std.specs.List.{filter_map}
use Rattle.std.proofs.lemmas.Bool.{cases_eq, eq-eqb, ne_eqb}
use Rattle.std.proofs.lemmas.List.Elements.{filter_map-append}
use Rattle.live_link.specs.declared.packet.Packet.{Packet}
use Rattle.fleet_link.specs.declared.memory.ScriptedPorts.{ScriptedPorts}
use Rattle.fleet_link.specs.declared.memory.Sending.{Sending}
use Rattle.fleet_link.specs.Memory.{received_by, sent_if, sent_in, told_by}
use Rattle.fleet_link.specs.Traffic.{Carries, Traffic, at_port, sent_all, traffic_and}
use Rattle.fleet_link.proofs.Told.{carries_same, traffic_of}

-- what the one more sends from a port
part : (sending : Sending) (e : ℕ) → List Packet
part sending e = filter_map (sent_if e) (sending ∷ [])

own_part : (sending : Sending) (e : ℕ) → (sending.device ≡ e) ⊎ (sending.device ≡ e → ⊥)
    → at_port sending.device e (sent_all (sending.packet ∷ [])) ≡ traffic_of [] (part sending e) 0
unfolding part
own_part sending e (inl same) =
    let b = eq-eqb sending.device e same in
    ap (λ x. cond x (sent_all (sending.packet ∷ [])) (traffic_of [] [] 0)) b ∙ ap (λ x. traffic_of [] x 0)
    (sym (ap (λ x. filter_map (λ (s : Sending). cond x (Some s.packet) None) (sending ∷ [])) b))
own_part sending e (inr other) =
    let b = ne_eqb sending.device e other in
    ap (λ x. cond x (sent_all (sending.packet ∷ [])) (traffic_of [] [] 0)) b ∙ ap (λ x. traffic_of [] x 0)
    (sym (ap (λ x. filter_map (λ (s : Sending). cond x (Some s.packet) None) (sending ∷ [])) b))

told_of : Bool → Traffic → List Packet → Option Traffic
told_of whole received sent =
    cond whole (Some (record { handed = received.handed; sent = sent; failures = received.failures })) None

grown : (received : Traffic) (sent more : List Packet)
    → traffic_of received.handed (sent ++ more) received.failures
    ≡ traffic_and (traffic_of received.handed sent received.failures) (traffic_of [] more 0)
grown received sent more =
    let h = append-nil received.handed in
    let f = add-zero received.failures in
    cc

told_on : (whole : Bool) (received : Traffic) (sent more : List Packet)
    → Carries (told_of whole received sent) (told_of whole received (sent ++ more)) (traffic_of [] more 0)
unfolding told_of
told_on true received sent more = grown received sent more
told_on false received sent more = tt

pub sent_more : (old new : ScriptedPorts) (sending : Sending) → new.sent.items ≡ old.sent.items ++ sending ∷ []
    → new.calls ≡ old.calls → new.whole ≡ old.whole → (e : ℕ)
    → Carries (told_by old e) (told_by new e) (at_port sending.device e (sent_all (sending.packet ∷ [])))
unfolding told_of part
sent_more old new sending sent calls whole e =
    let grows : sent_in new.sent.items e ≡ sent_in old.sent.items e ++ part sending e =
    ap (λ s. sent_in s e) sent ∙ filter_map-append (sent_if e) old.sent.items (sending ∷ []) in
    let after : told_of old.whole (received_by old.calls e) (sent_in old.sent.items e ++ part sending e)
    ≡ told_by new e =
    ap (told_of old.whole (received_by old.calls e)) (sym grows)
    ∙ ap (λ r. told_of old.whole (received_by r e) (sent_in new.sent.items e)) (sym calls)
    ∙ ap (λ w. told_of w (received_by new.calls e) (sent_in new.sent.items e)) (sym whole) in
    carries_same (told_by old e) (told_by new e) _ _
    (subst (λ t. Carries (told_by old e) t (traffic_of [] (part sending e) 0)) after
    (told_on old.whole (received_by old.calls e) (sent_in old.sent.items e) (part sending e)))
    (sym (own_part sending e (cases_eq sending.device e)))
