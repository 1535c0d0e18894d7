-- The message IDs that a second takes.
use Rattle.std.proofs.Common.{◌≡◌, ℕ, ◌+◌, ◌%◌, ◌<◌, Bool, true, false, List, [], ◌∷◌, cond, length, Some, refl}
use Rattle.std.proofs.Common.{sym, ap, ◌∙◌, arith}
use Rattle.std.specs.Bool.{if◌then◌else◌}
use Rattle.std.specs.Option.{option_to_list}
use Rattle.std.proofs.lemmas.List.{length-append}
use Rattle.std.proofs.lemmas.List.Sums.{sum_by-cons}
use Rattle.notifier.specs.Resending.{turn_at}
use Rattle.notifier.specs.declared.observation.Observation.{Observation}
use Rattle.notifier.specs.declared.turn.Turn.{Turn}
use Rattle.notifier.specs.declared.turn.Turn.TheVariants.{Evaluate, Wait, Resend, Expire}
use Rattle.device_requests.specs.Client.{Client}
use Rattle.device_notifications.specs.declared.datagram.Datagram.{Datagram}
use Rattle.device_notifications.specs.Laws.{TakesIds, is_resend, resends_in}
use Rattle.device_notifications.specs.Message.{open_notification}
use Rattle.device_notifications.specs.Second.{Sweep, second, turn_of}
use Rattle.device_notifications.proofs.Turns.{by_all, resends_one}

id_fits : (n : ℕ) → (n + 1) % 65536 < 65536
id_fits n = omega arith

same_id : (n : ℕ) → n < 65536 → n ≡ (n + 0) % 65536
same_id n h = omega (arith, h)

-- how many message IDs a turn takes
record TurnTakes (clock next_id : ℕ) (o : Observation) (sweep : Sweep) : Type 0 where
  pub fresh : ℕ
  pub sent : length sweep.sent ≡ fresh + (if is_resend (turn_at o clock) then 1 else 0)
  pub ids : sweep.next_id ≡ (next_id + fresh) % 65536
  pub fits : sweep.next_id < 65536

as_many : (b : Bool) (n : ℕ) → b ≡ false → n ≡ n + (if b then 1 else 0)
as_many true n h = let f : ⊥ = cc in absurd f
as_many false n h = omega arith

none_sent : (t u : Turn) (n : ℕ) → t ≡ u → is_resend u ≡ false → n ≡ n + (if is_resend t then 1 else 0)
none_sent t u n is off = as_many (is_resend t) n (ap is_resend is ∙ off)

one_sent : (o : Observation) (t : Turn) (d : Datagram) → open_notification o ≡ Some d → t ≡ Resend
    → length (option_to_list (open_notification o)) ≡ 0 + (if is_resend t then 1 else 0)
one_sent o t d is_open is =
    ap (λ x. length (option_to_list x)) is_open ∙ sym (ap (λ (u : Turn). 0 + (if is_resend u then 1 else 0)) is)

id_by : (client : Client) (clock next_id : ℕ) (o : Observation) → next_id < 65536
    → TurnTakes clock next_id o (turn_of client clock next_id o)
id_by client clock next_id o h =
    by_all client clock next_id o (λ t. TurnTakes clock next_id o t)
    (λ is content due. record {
      fresh = 1;
      sent = none_sent (turn_at o clock) Evaluate 1 is refl;
      ids = refl;
      fits = id_fits next_id;
    })
    (λ is content rests. record {
      fresh = 0;
      sent = none_sent (turn_at o clock) Evaluate 0 is refl;
      ids = same_id next_id h;
      fits = h;
    })
    (λ is no_content. record {
      fresh = 1;
      sent = none_sent (turn_at o clock) Evaluate 1 is refl;
      ids = refl;
      fits = id_fits next_id;
    })
    (λ is. record {
      fresh = 0;
      sent = none_sent (turn_at o clock) Wait 0 is refl;
      ids = same_id next_id h;
      fits = h;
    })
    (λ is. let there = resends_one o clock is in record {
      fresh = 0;
      sent = one_sent o (turn_at o clock) there.0 there.1 is;
      ids = same_id next_id h;
      fits = h;
    })
    (λ is. record {
      fresh = 0;
      sent = none_sent (turn_at o clock) Expire 0 is refl;
      ids = same_id next_id h;
      fits = h;
    })

ids_add : (start middle finish a b : ℕ) → middle ≡ (start + a) % 65536 → finish ≡ (middle + b) % 65536
    → finish ≡ (start + (a + b)) % 65536
ids_add start middle finish a b h k = omega (arith, h, k)

count_by_next : (b : Bool) (n : ℕ) → (cond b 1 0) + n ≡ (if b then 1 else 0) + n
count_by_next true n = refl
count_by_next false n = refl

count_next : (clock : ℕ) (o : Observation) (os : List Observation)
    → resends_in clock (o ∷ os) ≡ (if is_resend (turn_at o clock) then 1 else 0) + resends_in clock os
count_next clock o os =
    sum_by-cons (λ x. cond (is_resend (turn_at x clock)) 1 0) o os
    ∙ count_by_next (is_resend (turn_at o clock)) (resends_in clock os)

pub counts_message_ids : (client : Client) (clock next_id : ℕ) (os : List Observation) → next_id < 65536
    → TakesIds clock next_id os (second client clock next_id os)
counts_message_ids client clock next_id [] h = record { fresh = 0; sent = refl; ids = same_id next_id h }
counts_message_ids client clock next_id (o ∷ os) h =
    let here = id_by client clock next_id o h in
    let t = turn_of client clock next_id o in
    let rest = second client clock t.next_id os in
    let later = counts_message_ids client clock t.next_id os here.fits in
    record {
      fresh = here.fresh + later.fresh;
      sent = let sizes = length-append t.sent rest.sent in
          let count = count_next clock o os in
          omega (arith, sizes, count, here.sent, later.sent);
      ids = ids_add next_id t.next_id rest.next_id here.fresh later.fresh here.ids later.ids;
    }
