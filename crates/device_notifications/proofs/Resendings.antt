-- An open notification that nothing answers, second by second (RFC 7252 section 4.2).
use Rattle.std.proofs.Common.{◌≡◌, ℕ, zero, suc, ◌+◌, ◌*◌, ◌<◌, ◌≤◌, nat_le, Bool, true, false, cond, [], ◌∷◌}
use Rattle.std.proofs.Common.{◌++◌, replicate, Some, refl, sym, ap, ◌∙◌, ◌⊎◌, inl, inr, arith}
use Rattle.std.specs.Bool.{if◌then◌else◌}
use Rattle.std.specs.Option.{option_map, option_to_list}
use Rattle.std.proofs.lemmas.Bool.{le-leb, leb-true}
use Rattle.std.proofs.lemmas.Bool.Decides.{nat_tests}
use Rattle.std.proofs.lemmas.List.{append-nil, replicate_more}
use Rattle.notifier.specs.Resending.{turn_at, turn_of_resending, turn_with}
use Rattle.notifier.specs.declared.observation.Observation.{Observation}
use Rattle.notifier.specs.declared.observation.Timer.{Timer}
use Rattle.notifier.specs.declared.turn.Turn.{Turn}
use Rattle.notifier.specs.declared.turn.Turn.TheVariants.{Wait, Resend, Expire}
use Rattle.notifier.proofs.Timeouts.{not_evaluated, resent as resent_when, timed_out}
use Rattle.device_requests.specs.Client.{Client}
use Rattle.device_notifications.specs.ConfirmableLaws.{SendsFiveTimesAtMost, resends_within}
use Rattle.device_notifications.specs.Message.{resent_datagram}
use Rattle.device_notifications.specs.Second.{Sweep, and_then, seconds, turn_of}
use Rattle.device_notifications.proofs.Spans.{seconds_add}
use Rattle.device_notifications.proofs.Turns.{by_turn}

-- ---- how often it has been sent again, one second later

-- how many of four tests pass
abbrev tally : Bool → Bool → Bool → Bool → ℕ
tally a b c d = 0 + cond a 1 0 + cond b 1 0 + cond c 1 0 + cond d 1 0

reached : (m n : ℕ) → suc n ≡ m → (nat_le m n ≡ false) × (nat_le m (suc n) ≡ true)
reached m n h = (grind (arith, nat_tests), grind (arith, nat_tests))

as_before_by : (m n : ℕ) (b : Bool) → nat_le m n ≡ b → (suc n ≡ m → ⊥) → nat_le m (suc n) ≡ b
as_before_by m n true is other = grind (arith, nat_tests)
as_before_by m n false is other = grind (arith, nat_tests)

as_before : (m n : ℕ) → (suc n ≡ m → ⊥) → nat_le m (suc n) ≡ nat_le m n
as_before m n other = as_before_by m n (nat_le m n) refl other

-- the second after n seconds is that of a resending
abbrev IsAt : ℕ → ℕ → Type 0
IsAt first n =
    (suc n ≡ 1 * first) ⊎ ((suc n ≡ 3 * first) ⊎ ((suc n ≡ 7 * first) ⊎ (suc n ≡ 15 * first)))

first_more : (b c d : Bool) → tally true b c d ≡ tally false b c d + 1
first_more b c d = omega arith

second_more : (a c d : Bool) → tally a true c d ≡ tally a false c d + 1
second_more a c d = omega arith

third_more : (a b d : Bool) → tally a b true d ≡ tally a b false d + 1
third_more a b d = omega arith

fourth_more : (a b c : Bool) → tally a b c true ≡ tally a b c false + 1
fourth_more a b c = omega arith

grows : (first n : ℕ) → 0 < first → IsAt first n → resends_within first (suc n) ≡ resends_within first n + 1
grows first n some (inl h) =
    let here = reached (1 * first) n h in
    (λ i. tally (here.1 i) (as_before (3 * first) n (λ k. omega (arith, some, h, k)) i)
    (as_before (7 * first) n (λ k. omega (arith, some, h, k)) i)
    (as_before (15 * first) n (λ k. omega (arith, some, h, k)) i))
    ∙ first_more (nat_le (3 * first) n) (nat_le (7 * first) n) (nat_le (15 * first) n)
    ∙ ap (λ b. tally b (nat_le (3 * first) n) (nat_le (7 * first) n) (nat_le (15 * first) n) + 1) (sym here.0)
grows first n some (inr (inl h)) =
    let here = reached (3 * first) n h in
    (λ i. tally (as_before (1 * first) n (λ k. omega (arith, some, h, k)) i) (here.1 i)
    (as_before (7 * first) n (λ k. omega (arith, some, h, k)) i)
    (as_before (15 * first) n (λ k. omega (arith, some, h, k)) i))
    ∙ second_more (nat_le (1 * first) n) (nat_le (7 * first) n) (nat_le (15 * first) n)
    ∙ ap (λ b. tally (nat_le (1 * first) n) b (nat_le (7 * first) n) (nat_le (15 * first) n) + 1) (sym here.0)
grows first n some (inr (inr (inl h))) =
    let here = reached (7 * first) n h in
    (λ i. tally (as_before (1 * first) n (λ k. omega (arith, some, h, k)) i)
    (as_before (3 * first) n (λ k. omega (arith, some, h, k)) i) (here.1 i)
    (as_before (15 * first) n (λ k. omega (arith, some, h, k)) i))
    ∙ third_more (nat_le (1 * first) n) (nat_le (3 * first) n) (nat_le (15 * first) n)
    ∙ ap (λ b. tally (nat_le (1 * first) n) (nat_le (3 * first) n) b (nat_le (15 * first) n) + 1) (sym here.0)
grows first n some (inr (inr (inr h))) =
    let here = reached (15 * first) n h in
    (λ i. tally (as_before (1 * first) n (λ k. omega (arith, some, h, k)) i)
    (as_before (3 * first) n (λ k. omega (arith, some, h, k)) i)
    (as_before (7 * first) n (λ k. omega (arith, some, h, k)) i) (here.1 i))
    ∙ fourth_more (nat_le (1 * first) n) (nat_le (3 * first) n) (nat_le (7 * first) n)
    ∙ ap (λ b. tally (nat_le (1 * first) n) (nat_le (3 * first) n) (nat_le (7 * first) n) b + 1) (sym here.0)

keeps : (first n : ℕ) → (IsAt first n → ⊥) → resends_within first (suc n) ≡ resends_within first n
keeps first n never =
    λ i. tally (as_before (1 * first) n (λ h. never (inl h)) i) (as_before (3 * first) n (λ h. never (inr (inl h))) i)
    (as_before (7 * first) n (λ h. never (inr (inr (inl h)))) i)
    (as_before (15 * first) n (λ h. never (inr (inr (inr h)))) i)

-- past the last timeout there is none
none_past : (first n : ℕ) → 0 < first → 31 * first ≤ suc n → IsAt first n → ⊥
none_past first n some past (inl h) = omega (arith, some, past, h)
none_past first n some past (inr (inl h)) = omega (arith, some, past, h)
none_past first n some past (inr (inr (inl h))) = omega (arith, some, past, h)
none_past first n some past (inr (inr (inr h))) = omega (arith, some, past, h)

-- ---- by the clock

-- it is the second of a resending
abbrev IsOneOf : ℕ → ℕ → ℕ → Type 0
IsOneOf s first clock =
    (clock ≡ s + first) ⊎ ((clock ≡ s + 3 * first) ⊎ ((clock ≡ s + 7 * first) ⊎ (clock ≡ s + 15 * first)))

since : (s first n : ℕ) → IsOneOf s first (s + n + 1) → IsAt first n
since s first n (inl h) = inl (omega (arith, h))
since s first n (inr (inl h)) = inr (inl (omega (arith, h)))
since s first n (inr (inr (inl h))) = inr (inr (inl (omega (arith, h))))
since s first n (inr (inr (inr h))) = inr (inr (inr (omega (arith, h))))

shown : (s first n : ℕ) → IsAt first n → IsOneOf s first (s + n + 1)
shown s first n (inl h) = inl (omega (arith, h))
shown s first n (inr (inl h)) = inr (inl (omega (arith, h)))
shown s first n (inr (inr (inl h))) = inr (inr (inl (omega (arith, h))))
shown s first n (inr (inr (inr h))) = inr (inr (inr (omega (arith, h))))

wait_is_no_resending : Wait ≡ Resend → ⊥
wait_is_no_resending h = cc

wait_is_no_end : Wait ≡ Expire → ⊥
wait_is_no_end h = cc

resend_is_no_end : Resend ≡ Expire → ⊥
resend_is_no_end h = cc

not_yet_by : (m n : ℕ) (b : Bool) → nat_le m n ≡ b → (m ≤ n → ⊥) → b ≡ false
not_yet_by m n true is never = absurd (never (leb-true m n is))
not_yet_by m n false is never = refl

not_yet : (m n : ℕ) → (m ≤ n → ⊥) → nat_le m n ≡ false
not_yet m n never = not_yet_by m n (nat_le m n) refl never

-- the last timeout is still to come
to_come : (s first n : ℕ) (t : Turn) → turn_of_resending s first (s + n + 1) ≡ t → (t ≡ Expire → ⊥)
    → nat_le (31 * first) (suc n) ≡ false
to_come s first n t is other =
    not_yet (31 * first) (suc n) (λ past. other (sym is ∙ (timed_out s first (s + n + 1)).1 (omega (arith, past))))

-- ---- the seconds

-- what has come of it after n seconds
abbrev so_far : Observation → Timer → ℕ → ℕ → Bool → Sweep
so_far o timer n next_id over =
    record {
      sent = replicate (resends_within timer.first n) (resent_datagram o timer);
      left = if over then [] else o ∷ [];
      next_id = next_id;
    }

-- and after one more, in which this is its turn
abbrev followed : Observation → Timer → ℕ → Sweep → Sweep
followed o timer n t =
    record {
      sent = replicate (resends_within timer.first n) (resent_datagram o timer) ++ ((t.sent ++ []) ++ []);
      left = t.left ++ [];
      next_id = t.next_id;
    }

one_turn : (client : Client) (o : Observation) (timer : Timer) (n next_id : ℕ) → o.timer ≡ Some timer → 0 < timer.first
    → followed o timer n (turn_of client (o.second + n + 1) next_id o)
    ≡ so_far o timer (suc n) next_id (nat_le (31 * timer.first) (suc n))
one_turn client o timer n next_id is_open some =
    let clock = o.second + n + 1 in
    let d = resent_datagram o timer in
    let turn : turn_of_resending o.second timer.first clock ≡ turn_at o clock =
    ap (λ t. turn_with o.second t clock) (sym is_open) in
    by_turn client clock next_id o
    (λ t. followed o timer n t ≡ so_far o timer (suc n) next_id (nat_le (31 * timer.first) (suc n)))
    (λ is. absurd (not_evaluated o.second timer.first clock (turn ∙ is)))
    (λ is.
    let same = keeps timer.first n (λ at. wait_is_no_resending
    (sym (turn ∙ is) ∙ (resent_when o.second timer.first clock some).1 (shown o.second timer.first n at))) in
    let over = to_come o.second timer.first n Wait (turn ∙ is) wait_is_no_end in
    λ i. record {
      sent = (append-nil (replicate (resends_within timer.first n) d) ∙ ap (λ k. replicate k d) (sym same)) i;
      left = if sym over i then [] else o ∷ [];
      next_id = next_id;
    })
    (λ is.
    let more = grows timer.first n some (since o.second timer.first n
    ((resent_when o.second timer.first clock some).0 (turn ∙ is))) in
    let over = to_come o.second timer.first n Resend (turn ∙ is) resend_is_no_end in
    λ i. record {
      sent = (ap (λ t. replicate (resends_within timer.first n) d
          ++ ((option_to_list (option_map (resent_datagram o) t) ++ []) ++ [])) is_open
          ∙ replicate_more (resends_within timer.first n) d ∙ ap (λ k. replicate k d) (sym more)) i;
      left = if sym over i then [] else o ∷ [];
      next_id = next_id;
    })
    (λ is.
    let past : 31 * timer.first ≤ suc n =
    omega (arith, (timed_out o.second timer.first clock).0 (turn ∙ is)) in
    let same = keeps timer.first n (none_past timer.first n some past) in
    let over = le-leb (31 * timer.first) (suc n) past in
    λ i. record {
      sent = (append-nil (replicate (resends_within timer.first n) d) ∙ ap (λ k. replicate k d) (sym same)) i;
      left = if sym over i then [] else o ∷ [];
      next_id = next_id;
    })

later : (m n : ℕ) → m ≤ n → m ≤ suc n
later m n h = omega (arith, h)

one_more : (client : Client) (o : Observation) (timer : Timer) (n next_id : ℕ) (over : Bool) → o.timer ≡ Some timer
    → 0 < timer.first → nat_le (31 * timer.first) n ≡ over
    → and_then (so_far o timer n next_id over)
    (seconds client (o.second + n) 1 next_id (so_far o timer n next_id over).left)
    ≡ so_far o timer (suc n) next_id (nat_le (31 * timer.first) (suc n))
one_more client o timer n next_id true is_open some is =
    let d = resent_datagram o timer in
    let past = later (31 * timer.first) n (leb-true (31 * timer.first) n is) in
    let same = keeps timer.first n (none_past timer.first n some past) in
    let over = le-leb (31 * timer.first) (suc n) past in
    λ i. record {
      sent = (append-nil (replicate (resends_within timer.first n) d) ∙ ap (λ k. replicate k d) (sym same)) i;
      left = if sym over i then [] else o ∷ [];
      next_id = next_id;
    }
one_more client o timer n next_id false is_open some is = one_turn client o timer n next_id is_open some

early : (m : ℕ) → 0 < m → nat_le m 0 ≡ false
early m h = grind (arith, nat_tests)

none_yet : (first : ℕ) → 0 < first → 0 ≡ resends_within first 0
none_yet first some =
    λ i. tally (sym (early (1 * first) (omega (arith, some))) i) (sym (early (3 * first) (omega (arith, some))) i)
    (sym (early (7 * first) (omega (arith, some))) i) (sym (early (15 * first) (omega (arith, some))) i)

pub five_times : SendsFiveTimesAtMost
five_times client o timer zero next_id is_open some =
    let yet = early (31 * timer.first) (omega (arith, some)) in
    λ i. record {
      sent = replicate (none_yet timer.first some i) (resent_datagram o timer);
      left = if sym yet i then [] else o ∷ [];
      next_id = next_id;
    }
five_times client o timer (suc n) next_id is_open some =
    let one : suc n ≡ n + 1 = omega arith in
    ap (λ k. seconds client o.second k next_id (o ∷ [])) one
    ∙ seconds_add client o.second n 1 next_id (o ∷ [])
    ∙ ap (λ (x : Sweep). and_then x (seconds client (o.second + n) 1 x.next_id x.left))
    (five_times client o timer n next_id is_open some)
    ∙ one_more client o timer n next_id (nat_le (31 * timer.first) n) is_open some refl
