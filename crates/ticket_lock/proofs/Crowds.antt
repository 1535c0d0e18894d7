-- Splitting and joining passes keep the rule, and a pass with all numbers is alone.
use Rattle.std.proofs.Common.{◌≡◌, ◌≢◌, ℕ, ◌+◌, ◌*◌, ◌/◌, ◌<◌, inr, ⊎_elim, Bool, true, false, ◌||◌, List, [], ◌∷◌}
use Rattle.std.proofs.Common.{◌++◌, min, ◌≤◌, set, refl, sym, ap, ◌∙◌, subst, arith, Option, Some, None}
use Rattle.std.proofs.lemmas.Bool.{false≢true}
use mathlib.Core.Option.{some, some-injective}
use mathlib.Core.Logic.{dite}
use native.Mathlib.Decide.{ℕ_discrete, dec_lt}
use lib.ListN.{get_elem?}
use Rattle.atomic_table.specs.Table.{State, Final, Seen}
use Rattle.atomic_table.proofs.Lists.{at_set, set_else}
use Rattle.ticket_lock.specs.declared.rule.TheConstants.{NUMBERS, LAST}
use Rattle.ticket_lock.specs.declared.rule.View.{View}
use Rattle.ticket_lock.specs.Log.{Reading, shares}
use Rattle.ticket_lock.specs.Lock.{IsAt, is_resting, HasTicket, HasNumber, AreNeighbours, IsApart, Knows, Fits}
use Rattle.ticket_lock.specs.Changes.{empty_view, lower_part, upper_part, joined_view}
use Rattle.ticket_lock.proofs.Views.{same_at, each_end, some_end, pairs_end, set_swap}
use Rattle.ticket_lock.proofs.Neighbours.{in_one}
use Rattle.ticket_lock.proofs.Logs.{shorter_begins}
use Rattle.ticket_lock.proofs.Aware.{both_aware, lower_aware, upper_aware, sees_all}
use Rattle.ticket_lock.proofs.Stages.{no_turn, even_home, resting_lives, no_ticket, ticket_lives}
use Rattle.ticket_lock.proofs.Steps.{flip, changes}

either_true : (a b : Bool) (P : Type 0) → (a ≡ true → P) → (b ≡ true → P) → (a || b) ≡ true → P
either_true true b P f g e = f refl
either_true false b P f g e = g e

module _ {T E S O : Type 0} (R : Reading T E S O) (opened : T × ℕ) where
  -- a view comes in
  pub comes : (s : State (Option T) (View T E S O)) (f : Fits R opened s) (w : View T E S O)
      → Knows R f.next f.serving f.value w → ((j : ℕ) (u : View T E S O) → IsAt s.views j u → IsApart w u)
      → Fits R opened record { words = s.words; homes = s.homes; views = s.views ++ w ∷ [] }
  comes s f w mine apart = record {
    next = f.next;
    serving = f.serving;
    value = f.value;
    words = f.words;
    homes = f.homes;
    served = f.served;
    drawn = f.drawn;
    subject = f.subject;
    begun = f.begun;
    each = each_end (Knows R f.next f.serving f.value) s.views w mine f.each;
    apart = pairs_end IsApart flip s.views f.apart w apart;
    held = λ t lo hi. some_end (λ u. HasTicket u.stage t) s.views w (f.held t lo hi);
  }

  pub split_fits : (s : State (Option T) (View T E S O)) (f : Fits R opened s) (id : ℕ) (v : View T E S O)
      → IsAt s.views id v → is_resting v.stage ≡ true → 1 < v.count
      → Fits R opened record {
        words = s.words;
        homes = s.homes;
        views = set s.views id (lower_part v) ++ upper_part v ∷ [];
      }
  unfolding changes
  split_fits s f id v at rest two = let k = f.each id v at in let live = resting_lives v.stage rest in let inside =
      k.within live in
      let kept : Fits R opened record { words = s.words; homes = s.homes; views = set s.views id (lower_part v) } =
      changes R opened s f id v (lower_part v) at s.words s.homes f.next f.serving f.value f.words f.homes
      (f.served, f.drawn, f.subject, f.begun)
      record {
        stands = k.stands;
        empty = λ e. absurd (false≢true (sym e ∙ live));
        within = λ _. (omega arith, inside.1, omega arith);
        seen_end = k.seen_end;
        turn = λ t e. absurd (no_turn t e);
        earlier = k.earlier;
        aware = λ l. lower_aware R f.value v (omega arith) (k.aware l);
      }
      (λ u p h. h) (λ j u _ _ p h. record { numbers = λ n a b. p.numbers n (a.0, omega arith) b; tickets = p.tickets })
      (λ t lo hi. inr (lo, hi, λ h. h)) in
      comes record { words = s.words; homes = s.homes; views = set s.views id (lower_part v) } kept (upper_part v)
      record {
        stands = k.stands;
        empty = λ e. absurd (false≢true (sym e ∙ live));
        within = λ _. (omega arith, omega arith, omega arith);
        seen_end = k.seen_end;
        turn = λ t e. absurd (no_turn t e);
        earlier = k.earlier;
        aware = λ l. upper_aware R f.value v (omega arith) (k.aware l);
      }
      (λ j u a. ⊎_elim
      (λ (t : (j ≡ id) × (lower_part v ≡ u)). subst
      (IsApart (upper_part v)) t.1 record {
        numbers = λ n p q. absurd (omega arith);
        tickets =
            λ n p q. no_ticket v.stage n rest p;
      })
      (λ (t : (j ≢ id) × IsAt s.views j u). let p =
      f.apart id j v u at t.1 (λ e. t.0 (sym e)) in record
      { numbers = λ n x y. p.numbers n (omega arith, omega arith) y; tickets = p.tickets })
      (at_set s.views id j (lower_part v) u a))

  pub join_fits : (s : State (Option T) (View T E S O)) (f : Fits R opened s) (id : ℕ) (v : View T E S O) (other : ℕ)
      (w : View T E S O) → IsAt s.views id v → other ≢ id → IsAt s.views other w
      → is_resting v.stage ≡ true → is_resting w.stage ≡ true → AreNeighbours v w
      → Fits R opened record {
        words = s.words;
        homes = s.homes;
        views = set (set s.views id (joined_view v w)) other empty_view;
      }
  unfolding changes
  join_fits s f id v other w at ne there rest rest' next =
      let k = f.each id v at in let l = f.each other w there in let live = resting_lives v.stage rest in let live' =
      resting_lives w.stage rest' in
      let inside = k.within live in let inside' = l.within live' in
      let within : (1 ≤ min v.low w.low) × (min v.low w.low + (v.count + w.count) ≤ NUMBERS + 1) = ⊎_elim
      (λ (above : v.low + v.count ≡ w.low). (omega arith, omega arith))
      (λ (below : w.low + w.count ≡ v.low). (omega arith, omega arith)) next in
      let empty : State (Option T) (View T E S O) =
      record { words = s.words; homes = s.homes; views = set s.views other empty_view } in
      let spent : Fits R opened empty =
      changes R opened s f other w empty_view there s.words s.homes f.next f.serving f.value f.words f.homes
      (f.served, f.drawn, f.subject, f.begun)
      record {
        stands = tt;
        empty = λ _. refl;
        within = λ e. absurd (false≢true e);
        seen_end = λ e. absurd (false≢true e);
        turn = λ t e. absurd (no_turn t e);
        earlier = ([], refl);
        aware = λ e. absurd (false≢true e);
      }
      (λ u p h. h) (λ j u _ _ p h. record {
        numbers = λ n a b. let x = a.1 in absurd (omega arith);
        tickets =
            λ n a b. a;
      }) (λ t lo hi. inr (lo, hi, λ h. absurd (no_ticket w.stage t rest' h))) in
      subst (λ vs. Fits R opened record { words = s.words; homes = s.homes; views = vs })
      (set_swap s.views other id empty_view (joined_view v w) ne)
      (changes R opened empty spent id v (joined_view v w)
      (set_else s.views other id empty_view (λ e. ne (sym e)) ∙ at) s.words s.homes f.next f.serving f.value f.words
      f.homes (f.served, f.drawn, f.subject, f.begun)
      record {
        stands = tt;
        empty = λ e. absurd (false≢true (sym e));
        within = λ _. (omega arith, within.0, within.1);
        seen_end = either_true v.end w.end (f.next ≡ LAST) k.seen_end l.seen_end;
        turn = λ t e. absurd (no_turn t e);
        earlier = let a = k.aware live in let b =
            l.aware live' in shorter_begins v.front w.front a.after b.after (sym a.front ∙ b.front);
        aware = λ _. both_aware R f.value v w inside.0 next (k.aware live) (l.aware live');
      }
      (λ u p h. h)
      (λ j u ne' a p h. ⊎_elim
      (λ (t : (j ≡ other) × (empty_view ≡ u)). subst
      (IsApart (joined_view v w)) t.1 record {
        numbers = λ n x y. let z = y.1 in absurd (omega arith);
        tickets =
            λ n x y. x;
      })
      (λ (t : (j ≢ other) × IsAt s.views j u). let q = f.apart other j w u there t.1 (λ e. t.0 (sym e)) in record {
        numbers = λ n x y. ⊎_elim (λ (h : HasNumber v n). p.numbers n h y) (λ (h : HasNumber w n). q.numbers n h y)
            (in_one v w next n x);
        tickets = λ n x y. x;
      })
      (at_set s.views other j empty_view u a))
      (λ t lo hi. inr (lo, hi, λ h. absurd (no_ticket v.stage t rest h))))

  -- while a pass with all numbers has no ticket, nobody has one: all that were drawn are served, and the value is at
  -- home
  pub alone : (s : State (Option T) (View T E S O)) (f : Fits R opened s) (id : ℕ) (v : View T E S O)
      → IsAt s.views id v → is_resting v.stage ≡ true → v.count ≡ NUMBERS
      → (v.low ≡ 1) × (f.serving ≡ 2 * f.next)
  alone s f id v at rest all = let k = f.each id v at in let inside =
      k.within (resting_lives v.stage rest) in let served = f.served in
      let one : v.low ≡ 1 = omega arith in (
        one,
        dite (dec_lt (f.serving / 2) f.next)
            (λ lt.
            let h = f.held (f.serving / 2) (omega arith) lt in
            let j = h.0 in let u = h.1 in
            absurd (dite (ℕ_discrete j id)
            (λ e. no_ticket v.stage (f.serving / 2) rest
            (subst (λ x. HasTicket x.stage (f.serving / 2))
            (same_at s.views id u v (subst (λ i. IsAt s.views i u) e h.2) at) h.3))
            (λ ne. let there =
            (f.each j u h.2).within (ticket_lives u.stage (f.serving / 2) h.3)
            in (f.apart id j v u at h.2 (λ e. ne (sym e))).numbers u.low (omega arith, omega arith)
            (omega arith, omega arith))))
            (λ ge. omega arith),
      )

  -- a resting pass that knows the turn knows the next ticket
  pub turn_next : (s : State (Option T) (View T E S O)) (f : Fits R opened s) (id : ℕ) (v : View T E S O) (t : ℕ)
      → IsAt s.views id v → v.turn ≡ Some t → is_resting v.stage ≡ true
      → f.next ≡ t
  turn_next s f id v t at knows rest = let q = (f.each id v at).turn t knows in let now = q.1 in let all =
      (alone s f id v at rest q.0).1 in omega arith

  -- what is left at the end: the value, with what the last pass knows of it
  pub record Closes (v : View T E S O) (x : T) : Type 0 where
    pub entries : R.entries x ≡ v.front
    pub subject : R.subject x ≡ R.subject opened.0
    pub shares : v.shares ≡ shares R x 1 NUMBERS

  pub closes : (id : ℕ) (v : View T E S O) (ws : List ℕ) (xs : List (Option T))
      → Final (Seen (Fits R opened) id v) ws xs → is_resting v.stage ≡ true → v.count ≡ NUMBERS
      → (x : T) × (get_elem? xs 0 ≡ some (Some x)) × Closes v x
  closes id v ws xs final rest all = let s = final.0 in let f = final.1.0 in let at = final.1.1 in let a =
      alone s f id v at rest all in
      let k = (f.each id v at).aware (resting_lives v.stage rest) in (
        f.value,
        final.4 0 (Some f.value) (ap (λ h. get_elem? h 0) f.homes ∙ ap some (even_home f.serving f.next f.value a.1)),
        record {
          entries = sees_all R f.value v a.0 all k;
          subject = f.subject;
          shares = k.shares ∙ (λ i. shares R f.value (a.0 i) (all i));
        },
      )

  -- what is taken out of the slot at the end is the value
  module _ (id : ℕ) (v : View T E S O) (ws : List ℕ) (xs : List (Option T))
      (final : Final (Seen (Fits R opened) id v) ws xs) (rest : is_resting v.stage ≡ true) (all : v.count ≡ NUMBERS)
      (r : Option T) (taken : get_elem? xs 0 ≡ some r) where
    same_taken : r ≡ Some (closes id v ws xs final rest all).0
    same_taken = some-injective r (Some (closes id v ws xs final rest all).0)
        (sym taken ∙ (closes id v ws xs final rest all).1)

    pub closed_some : r ≡ None → ⊥
    closed_some e = let c = closes id v ws xs final rest all in let same : r ≡ Some c.0 = same_taken in cc

    pub closed_as : (y : T) → r ≡ Some y → Closes v y
    closed_as y e = let c = closes id v ws xs final rest all in let same : r ≡ Some c.0 =
        same_taken in let is : c.0 ≡ y = cc in subst (Closes v) is c.2
