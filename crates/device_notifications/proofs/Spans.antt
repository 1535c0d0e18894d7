-- What holds of one second holds of many.
use Rattle.std.proofs.Common.{◌≡◌, ℕ, zero, suc, ◌+◌, List, sym, ap, subst, ◌∙◌, arith}
use Rattle.std.proofs.lemmas.List.{append_assoc}
use Rattle.lemmas.proofs.Lists.{each_appended, each_weaker}
use Rattle.notifier.specs.declared.observation.Observation.{Observation}
use Rattle.device_requests.specs.Client.{Client}
use Rattle.device_notifications.specs.declared.datagram.Datagram.{Datagram}
use Rattle.device_notifications.specs.Laws.{IsOf, IsInOneOf, SecondsAdd, SecondsSendAfterPmin}
use Rattle.device_notifications.specs.Second.{Sweep, and_then, second, seconds}
use Rattle.device_notifications.proofs.Turns.{sends_after_pmin}

-- ---- seconds add up

in_turn : (a b c : Sweep) → and_then a (and_then b c) ≡ and_then (and_then a b) c
in_turn a b c = λ i. record { sent = sym (append_assoc a.sent b.sent c.sent) i; left = c.left; next_id = c.next_id }

pub seconds_add : SecondsAdd
seconds_add client clock zero b next_id os =
    let none : 0 + b ≡ b = omega arith in
    let same : clock ≡ clock + 0 = omega arith in
    ap (λ n. seconds client clock n next_id os) none ∙ ap (λ c. seconds client c b next_id os) same
seconds_add client clock (suc a) b next_id os =
    let t = second client (clock + 1) next_id os in
    let u = seconds client (clock + 1) a t.next_id t.left in
    let one : suc a + b ≡ suc (a + b) = omega arith in
    let at : clock + 1 + a ≡ clock + suc a = omega arith in
    ap (λ n. seconds client clock n next_id os) one
    ∙ ap (λ r. and_then t r) (seconds_add client (clock + 1) a b t.next_id t.left)
    ∙ in_turn t u (seconds client (clock + 1 + a) b u.next_id u.left)
    ∙ ap (λ c. and_then (and_then t u) (seconds client c b u.next_id u.left)) at

-- ---- each datagram of many seconds is some observation's, in one of them

in_first : (client : Client) (clock n next_id : ℕ) (os : List Observation) (d : Datagram) → IsOf client (clock + 1) os d
    → IsInOneOf client clock (suc n) next_id os d
in_first client clock n next_id os d h =
    let at : clock + 1 ≡ clock + (0 + 1) = omega arith in
    (0, omega arith, subst (λ c. IsOf client c os d) at h)

in_later : (client : Client) (clock n next_id : ℕ) (os : List Observation) (d : Datagram)
    → IsInOneOf client (clock + 1) n (second client (clock + 1) next_id os).next_id
    (second client (clock + 1) next_id os).left d
    → IsInOneOf client clock (suc n) next_id os d
in_later client clock n next_id os d h =
    let at : clock + 1 + (h.0 + 1) ≡ clock + (suc h.0 + 1) = omega arith in
    (suc h.0, omega (arith, h.1), subst (λ c. IsOf client c (seconds client clock (suc h.0) next_id os).left d) at h.2)

pub seconds_send_after_pmin : SecondsSendAfterPmin
seconds_send_after_pmin client clock zero next_id os = tt
seconds_send_after_pmin client clock (suc n) next_id os =
    let t = second client (clock + 1) next_id os in
    each_appended (IsInOneOf client clock (suc n) next_id os) t.sent
    (seconds client (clock + 1) n t.next_id t.left).sent
    (each_weaker (IsOf client (clock + 1) os) (IsInOneOf client clock (suc n) next_id os)
    (in_first client clock n next_id os) t.sent (sends_after_pmin client (clock + 1) next_id os))
    (each_weaker (IsInOneOf client (clock + 1) n t.next_id t.left) (IsInOneOf client clock (suc n) next_id os)
    (in_later client clock n next_id os)
    (seconds client (clock + 1) n t.next_id t.left).sent
    (seconds_send_after_pmin client (clock + 1) n t.next_id t.left))
