-- What is caused is sent, and what is open is sent again, in its second.
use Rattle.std.proofs.Common.{◌≡◌, ℕ, zero, suc, ◌+◌, ◌<◌, true, List, [], ◌∷◌, ◌++◌, None, refl, sym}
use Rattle.std.proofs.Common.{ap, subst, ◌∙◌, arith}
use Rattle.std.specs.List.{Contains}
use Rattle.std.specs.Option.{option_to_list}
use Rattle.std.proofs.lemmas.List.Elements.{Contains-append_left, Contains-append_right}
use Rattle.lemmas.proofs.Tests.{never_both}
use Rattle.notifier.specs.Resending.{turn_at, turn_with}
use Rattle.notifier.specs.declared.observation.Observation.{Observation}
use Rattle.notifier.specs.declared.turn.Turn.{Turn}
use Rattle.notifier.specs.declared.turn.Turn.TheVariants.{Evaluate, Wait, Resend, Expire}
use Rattle.device_requests.specs.Client.{Client}
use Rattle.device_notifications.specs.Laws.{Notifies, Repeats}
use Rattle.device_notifications.specs.Second.{is_due_now, present_answer, second, seconds, turn_as, turn_of}
use Rattle.device_notifications.specs.declared.datagram.Datagram.{Datagram}
use Rattle.device_notifications.proofs.Turns.{by_all, first_of, resends_one}
use Rattle.laws_device.specs.Notifying.{CausedIsSent, IsDue, IsTold, IsToldAgain, OpenIsSentAgain, SecondsSendAgain}
use Rattle.laws_device.specs.Notifying.{SecondsSendCaused}
use Rattle.laws_device.proofs.Causes.{due_of}

-- ---- what one observation sends

not_wait : Evaluate ≡ Wait → ⊥
not_wait h = cc

pub not_resend : Evaluate ≡ Resend → ⊥
not_resend h = cc

pub not_expire : Evaluate ≡ Expire → ⊥
not_expire h = cc

-- a closed observation is evaluated, and has no other turn
pub only_evaluated : (o : Observation) (clock : ℕ) (t : Turn) → o.timer ≡ None → turn_at o clock ≡ t → Evaluate ≡ t
only_evaluated o clock t closed is = sym (ap (λ timer. turn_with o.second timer clock) closed) ∙ is

told_by : (client : Client) (clock next_id : ℕ) (o : Observation) → IsDue client clock o
    → IsTold client clock o (turn_of client clock next_id o).sent
told_by client clock next_id o h =
    let due_now : is_due_now client clock o (present_answer client o).payload ≡ true =
    due_of client clock o h.waited h.cause in
    by_all client clock next_id o (λ t. IsTold client clock o t.sent)
    (λ is content due. (
      _,
      first_of _ [],
      record { mid = next_id; evaluated = is; message = refl; content = content; waited = h.waited },
    ))
    (λ is content rests. absurd (never_both _ due_now rests))
    (λ is no_content. absurd (never_both _ h.content no_content))
    (λ is. absurd (not_wait (only_evaluated o clock Wait h.closed is)))
    (λ is. absurd (not_resend (only_evaluated o clock Resend h.closed is)))
    (λ is. absurd (not_expire (only_evaluated o clock Expire h.closed is)))

told_again_by : (client : Client) (clock next_id : ℕ) (o : Observation) → turn_at o clock ≡ Resend
    → IsToldAgain clock o (turn_of client clock next_id o).sent
told_again_by client clock next_id o is =
    let there = resends_one o clock is in
    subst (IsToldAgain clock o)
    (sym (ap (λ t. (turn_as client clock next_id o t).sent) is ∙ ap option_to_list there.1))
    (there.0, first_of there.0 [], record { resends = is; message = there.1 })

-- ---- is among what all of them send

-- among these datagrams is such a one
abbrev Among : (Datagram → Type 0) → List Datagram → Type 0
Among Q ds = (d : Datagram) × Contains ds d × Q d

among_later : (Q : Datagram → Type 0) (xs ys : List Datagram) → Among Q ys → Among Q (xs ++ ys)
among_later Q xs ys h = (h.0, Contains-append_right xs ys h.0 h.1, h.2)

among_first : (Q : Datagram → Type 0) (xs ys : List Datagram) → Among Q xs → Among Q (xs ++ ys)
among_first Q xs ys h = (h.0, Contains-append_left xs ys h.0 h.1, h.2)

in_second : (client : Client) (clock next_id : ℕ) (os : List Observation) (o : Observation) (Q : Datagram → Type 0)
    → Contains os o
    → ((id : ℕ) → Among Q (turn_of client clock id o).sent) → Among Q (second client clock next_id os).sent
in_second client clock next_id [] o Q h sends = absurd (omega (arith, h.1))
in_second client clock next_id (p ∷ os) o Q (zero, inside, is) sends =
    let t = turn_of client clock next_id p in
    among_first Q t.sent (second client clock t.next_id os).sent
    (subst (λ q. Among Q (turn_of client clock next_id q).sent) (sym is) (sends next_id))
in_second client clock next_id (p ∷ os) o Q (suc k, inside, is) sends =
    let t = turn_of client clock next_id p in
    among_later Q t.sent (second client clock t.next_id os).sent
    (in_second client clock t.next_id os o Q (k, omega arith, is) sends)

-- and of what they send in more seconds
in_seconds : (client : Client) (clock n k next_id : ℕ) (os : List Observation) (o : Observation)
    (Q : ℕ → Datagram → Type 0) → k < n → Contains (seconds client clock k next_id os).left o
    → ((id : ℕ) → Among (Q (clock + (k + 1))) (turn_of client (clock + (k + 1)) id o).sent)
    → Among (Q (clock + (k + 1))) (seconds client clock n next_id os).sent
in_seconds client clock zero k next_id os o Q within there sends = absurd (omega (arith, within))
in_seconds client clock (suc n) zero next_id os o Q within there sends =
    let t = second client (clock + 1) next_id os in
    let at : clock + (0 + 1) ≡ clock + 1 = omega arith in
    subst (λ c. Among (Q c) (t.sent ++ (seconds client (clock + 1) n t.next_id t.left).sent)) (sym at)
    (among_first (Q (clock + 1)) t.sent (seconds client (clock + 1) n t.next_id t.left).sent
    (in_second client (clock + 1) next_id os o (Q (clock + 1)) there
    (subst (λ c. (id : ℕ) → Among (Q c) (turn_of client c id o).sent) at sends)))
in_seconds client clock (suc n) (suc k) next_id os o Q within there sends =
    let t = second client (clock + 1) next_id os in
    let at : clock + (suc k + 1) ≡ clock + 1 + (k + 1) = omega arith in
    subst (λ c. Among (Q c) (t.sent ++ (seconds client (clock + 1) n t.next_id t.left).sent)) (sym at)
    (among_later (Q (clock + 1 + (k + 1))) t.sent (seconds client (clock + 1) n t.next_id t.left).sent
    (in_seconds client (clock + 1) n k t.next_id t.left o Q (omega (arith, within)) there
    (subst (λ c. (id : ℕ) → Among (Q c) (turn_of client c id o).sent) at sends)))

-- ---- the laws

pub caused_is_sent : CausedIsSent
caused_is_sent client clock next_id os o there due =
    in_second client clock next_id os o (Notifies client clock o) there (λ id. told_by client clock id o due)

pub seconds_send_caused : SecondsSendCaused
seconds_send_caused client clock n k next_id os o within there due =
    in_seconds client clock n k next_id os o (λ c. Notifies client c o) within there
    (λ id. told_by client (clock + (k + 1)) id o due)

pub open_is_sent_again : OpenIsSentAgain
open_is_sent_again client clock next_id os o there is =
    in_second client clock next_id os o (Repeats clock o) there (λ id. told_again_by client clock id o is)

pub seconds_send_again : SecondsSendAgain
seconds_send_again client clock n k next_id os o within there is =
    in_seconds client clock n k next_id os o (λ c. Repeats c o) within there
    (λ id. told_again_by client (clock + (k + 1)) id o is)
