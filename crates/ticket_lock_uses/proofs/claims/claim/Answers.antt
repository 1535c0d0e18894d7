use Rattle.std.proofs.Common.{◌≡◌, [], not, sym, ap, ◌∙◌, subst}
use Rattle.std.specs.Prelude.{◌==◌, filter, IfSome, IfNone, Contains}
use Rattle.ticket_lock.specs.Log.{Adds}
use Rattle.ticket_lock.specs.Lock.{found_or}
use Rattle.ticket_lock.specs.Names.{lowest_work}
use Rattle.ticket_lock_uses.specs.Board.{board_log, places_out}
use Rattle.ticket_lock_uses.proofs.Places.{claim_adds, claim_contains, claim_others, claim_none}
use Rattle.ticket_lock_uses.proofs.claims.claim.Goals as goal

pub give-requires : goal.give-requires
give-requires g c =
    let h = c.in-Ok.held in let new = c.claim-place.new.self in let is = c.in-Ok.ensures.view.1 in
    let low : c.number-worker.result ≡ h.seat.me.0.low = c.number-worker.ensures ∙ sym (ap (λ v. v.low) is) in
    let found : found_or h.seat.me.0.stage new ≡ h.value = ap (λ v. found_or v.stage new) is in
    let same = c.value_mut.ensures.value in
    let claimed = claim_adds c.value_mut.result.now new c.number-worker.result c.claim-place.result
    c.claim-place.ensures.some c.claim-place.ensures.none in
    subst (λ n. Adds board_log n (found_or h.seat.me.0.stage new) new) low
    (subst (λ x. Adds board_log c.number-worker.result x new) (same ∙ sym found) claimed)

pub returns-in-Ok-clause-claimed : goal.returns-in-Ok-clause-claimed
returns-in-Ok-clause-claimed g c =
    let h = c.in-Ok.held in let new = c.claim-place.new.self in let is = c.in-Ok.ensures.view.1 in
    let low : c.number-worker.result ≡ h.seat.me.0.low = c.number-worker.ensures ∙ sym (ap (λ v. v.low) is) in
    let work : places_out c.number-worker.result new 0 ≡ lowest_work c.give.result.seat.me.0 [] =
    ap (λ n. places_out n new 0) low ∙ sym (c.give.ensures.work []) in
    subst (λ l. IfSome c.claim-place.result (λ i. Contains l i)) work
    (claim_contains c.value_mut.result.now new c.number-worker.result c.claim-place.result
    c.claim-place.ensures.some)

pub returns-in-Ok-clause-others : goal.returns-in-Ok-clause-others
returns-in-Ok-clause-others g c =
    let h = c.in-Ok.held in let old = c.value_mut.result.now in let new = c.claim-place.new.self in let worker =
    c.number-worker.result in let is = c.in-Ok.ensures.view.1 in
    let low : worker ≡ h.seat.me.0.low = c.number-worker.ensures ∙ sym (ap (λ v. v.low) is) in
    let now : places_out worker new 0 ≡ lowest_work c.give.result.seat.me.0 [] =
    ap (λ n. places_out n new 0) low ∙ sym (c.give.ensures.work []) in
    let was : places_out worker old 0 ≡ lowest_work c.args.pass.seat.me.0 [] =
    ap (λ b. places_out worker b 0) c.value_mut.ensures.value
    ∙ (ap (λ n. places_out n h.value 0) c.number-worker.ensures ∙ sym (c.in-Ok.ensures.work [])) in
    subst (λ l. IfSome c.claim-place.result (λ i. filter (λ j. not (j == i)) l ≡ lowest_work c.args.pass.seat.me.0 []))
    now
    (subst (λ l. IfSome c.claim-place.result (λ i. filter (λ j. not (j == i)) (places_out worker new 0) ≡ l)) was
    (claim_others old new worker c.claim-place.result c.claim-place.ensures.some))

pub returns-in-Ok-clause-none : goal.returns-in-Ok-clause-none
returns-in-Ok-clause-none g c =
    let h = c.in-Ok.held in let old = c.value_mut.result.now in let new = c.claim-place.new.self in let worker =
    c.number-worker.result in let is = c.in-Ok.ensures.view.1 in
    let low : worker ≡ h.seat.me.0.low = c.number-worker.ensures ∙ sym (ap (λ v. v.low) is) in
    let now : places_out worker new 0 ≡ lowest_work c.give.result.seat.me.0 [] =
    ap (λ n. places_out n new 0) low ∙ sym (c.give.ensures.work []) in
    let was : places_out worker old 0 ≡ lowest_work c.args.pass.seat.me.0 [] =
    ap (λ b. places_out worker b 0) c.value_mut.ensures.value
    ∙ (ap (λ n. places_out n h.value 0) c.number-worker.ensures ∙ sym (c.in-Ok.ensures.work [])) in
    subst (λ l. IfNone c.claim-place.result (l ≡ lowest_work c.args.pass.seat.me.0 [])) now
    (subst (λ l. IfNone c.claim-place.result (places_out worker new 0 ≡ l)) was
    (claim_none old new worker c.claim-place.result c.claim-place.ensures.none))
