-- Each step keeps the rule.
use Rattle.std.proofs.Common.{◌≡◌, ◌≢◌, ℕ, ◌+◌, ◌*◌, ◌/◌, ◌%◌, ◌<◌, ◌≤◌, ◌⊎◌, inl, inr, ⊎_elim, Bool, true, false, List}
use Rattle.std.proofs.Common.{[], ◌∷◌, get_or, set, refl, sym, ap, ◌∙◌, subst, arith, Option, Some}
use Rattle.std.proofs.lemmas.Bool.{false≢true}
use mathlib.Core.Option.{none, some}
use mathlib.Core.Option as maybe
use mathlib.Core.Logic.{dite}
use native.Mathlib.Decide.{ℕ_discrete}
use lib.ListN.{get_elem?}
use lib.Seq.{set-get_or}
use Rattle.atomic_table.specs.Table.{State, keeps, takes, gives, stepped}
use Rattle.ticket_lock.specs.declared.rule.TheConstants.{NUMBERS, LAST}
use Rattle.ticket_lock.specs.declared.rule.View.{View}
use Rattle.ticket_lock.specs.declared.rule.Stage.TheVariants.{Waiting, Inside}
use Rattle.ticket_lock.specs.Log.{Reading, Adds}
use Rattle.ticket_lock.specs.Lock.{IsAt, home_of, is_live, is_resting, HasTicket, Stands, IsApart, Knows, Fits}
use Rattle.ticket_lock.specs.Changes.{with_stage, view_inside, view_after_give}
use Rattle.ticket_lock.proofs.Views.{set_at, each_set, some_set, pairs_set}
use Rattle.ticket_lock.proofs.Aware.{still_aware, arrived_aware, given_aware}
use Rattle.ticket_lock.proofs.Logs.{begins_both}
use Rattle.ticket_lock.proofs.Stages.{turn_before, even_home, odd_home, resting_lives, no_ticket, ticket_drawn}
use Rattle.ticket_lock.proofs.Stages.{stands_drawn, stands_entered, stands_left}

module _ {T E S O : Type 0} where
  -- where a pass has a number, no other has all
  not_all : (v u : View T E S O) → IsApart v u → (0 < v.count) × (1 ≤ v.low) × (v.low + v.count ≤ NUMBERS + 1)
      → (b : Bool) → (b ≡ false → u.count ≡ 0)
      → (b ≡ true → (0 < u.count) × (1 ≤ u.low) × (u.low + u.count ≤ NUMBERS + 1)) → u.count ≡ NUMBERS → ⊥
  not_all v u p within false empty inside all = let zero = empty refl in omega arith
  not_all v u p within true empty inside all = let has =
      inside refl in p.numbers v.low (omega arith, omega arith) (omega arith, omega arith)

  pub flip : (v w : View T E S O) → IsApart v w → IsApart w v
  flip v w a = record { numbers = λ n p q. a.numbers n q p; tickets = λ t p q. a.tickets t q p }

module _ {T E S O : Type 0} (R : Reading T E S O) (opened : T × ℕ) where
  -- the words, the slot and the view at one place change
  unfoldable pub changes : (s : State (Option T) (View T E S O)) (f : Fits R opened s) (id : ℕ) (v w : View T E S O)
      → IsAt s.views id v
      → (words : List ℕ) (homes : List (maybe.Option (Option T))) (next serving : ℕ) (value : T)
      → words ≡ next ∷ serving ∷ [] → homes ≡ home_of (serving % 2) value ∷ []
      → (serving ≤ 2 * next) × (next ≤ LAST) × (R.subject value ≡ R.subject opened.0) × (opened.1 ≤ next)
      → Knows R next serving value w
      → ((u : View T E S O) → IsApart v u → Knows R f.next f.serving f.value u → Knows R next serving value u)
      → ((j : ℕ) (u : View T E S O) → j ≢ id → IsAt s.views j u → IsApart v u → Knows R f.next f.serving f.value u
      → IsApart w u)
      → ((t : ℕ) → serving / 2 ≤ t → t < next → HasTicket w.stage t
      ⊎ ((f.serving / 2 ≤ t) × (t < f.next) × (HasTicket v.stage t → HasTicket w.stage t)))
      → Fits R opened record { words = words; homes = homes; views = set s.views id w }
  changes s f id v w at words homes next serving value is home bounds mine others apart held = record {
    next = next;
    serving = serving;
    value = value;
    words = is;
    homes = home;
    served = bounds.0;
    drawn = bounds.1;
    subject = bounds.2;
    begun = bounds.3;
    each = each_set (Knows R next serving value) s.views id w mine
        (λ j u ne a. others u (f.apart id j v u at a (λ e. ne (sym e))) (f.each j u a));
    apart = pairs_set IsApart flip s.views f.apart id w
        (λ j u ne a. apart j u ne a (f.apart id j v u at a (λ e. ne (sym e))) (f.each j u a));
    held = λ t lo hi. ⊎_elim (λ (h : HasTicket w.stage t). (id, w, set_at s.views id v w at, h))
        (λ (h : (f.serving / 2 ≤ t) × (t < f.next) × (HasTicket v.stage t → HasTicket w.stage t)). some_set
        (λ u. HasTicket u.stage t) s.views id v w at h.2 (f.held t h.0 h.1)) (held t lo hi);
  }

  -- nothing changes but whether the end was seen
  pub stays : (s : State (Option T) (View T E S O)) (f : Fits R opened s) (id : ℕ) (v : View T E S O) (b : Bool) (i : ℕ)
      (c : List (ℕ × Option T)) → IsAt s.views id v → (b ≡ true → f.next ≡ LAST)
      → Fits R opened (stepped s i (get_or s.words i 0) id c (record v { end = b }) keeps)
  stays s f id v b i c at seen = let k =
      f.each id v at in changes s f id v (record v { end = b }) at
      (set s.words i (get_or s.words i 0)) s.homes f.next f.serving f.value
      (set-get_or s.words i 0 ∙ f.words) f.homes (f.served, f.drawn, f.subject, f.begun)
      record {
        stands = k.stands;
        empty = k.empty;
        within = k.within;
        seen_end = seen;
        turn = k.turn;
        earlier = k.earlier;
        aware = λ live. let a =
            k.aware live in record {
              after = a.after;
              front = a.front;
              others = a.others;
              subject = a.subject;
              shares =
                  a.shares;
            };
      }
      (λ u a h. h) (λ j u _ _ a h. record { numbers = a.numbers; tickets = a.tickets })
      (λ t lo hi. inr (lo, hi, λ h. h))

  pub draw_fits : (s : State (Option T) (View T E S O)) (f : Fits R opened s) (id : ℕ) (v : View T E S O) (t : ℕ)
      (c : List (ℕ × Option T)) → IsAt s.views id v → f.next ≡ t → t < LAST → is_resting v.stage ≡ true
      → Fits R opened (stepped s 0 (t + 1) id c (with_stage v (Waiting t)) keeps)
  draw_fits s f id v t c at is small rest = let k = f.each id v at in let live = resting_lives v.stage rest in let a =
      k.aware live in let some = k.within live in
      let served = f.served in let begun = f.begun in
      changes s f id v (with_stage v (Waiting t)) at (set s.words 0 (t + 1)) s.homes (t + 1) f.serving f.value
      (ap (λ ws. set ws 0 (t + 1)) f.words) f.homes (omega arith, omega arith, f.subject, omega arith)
      record {
        stands = (omega arith, omega arith);
        empty = λ e. absurd (false≢true (sym e));
        within = λ _. some;
        seen_end = λ e. let q = k.seen_end e in absurd (omega arith);
        turn = k.turn;
        earlier = k.earlier;
        aware = λ _. record {
          after = a.after;
          front = a.front;
          others = a.others;
          subject = a.subject;
          shares =
              a.shares;
        };
      }
      (λ u _ h. record {
        stands = subst (λ n. Stands (n + 1) f.serving f.value u.stage) is
            (stands_drawn f.next f.serving f.value u.stage h.stands);
        empty = h.empty;
        within = h.within;
        seen_end = λ e. let q = h.seen_end e in absurd (omega arith);
        turn = h.turn;
        earlier = h.earlier;
        aware = h.aware;
      })
      (λ j u _ _ p h. record {
        numbers = p.numbers;
        tickets = λ n e m. let q =
            ticket_drawn f.next f.serving f.value u.stage n h.stands m in absurd (omega arith);
      })
      (λ n lo hi. dite (ℕ_discrete t n) (λ e. inl e)
      (λ ne. inr (lo, omega arith, λ h. absurd (no_ticket v.stage n rest h))))

  pub enter_fits : (s : State (Option T) (View T E S O)) (f : Fits R opened s) (id : ℕ) (v : View T E S O) (t : ℕ)
      (c : List (ℕ × Option T)) → IsAt s.views id v → f.serving ≡ 2 * t → v.stage ≡ Waiting t
      → (get_elem? s.homes 0 ≡ some (some (Some f.value)))
      × Fits R opened (stepped s 1 (2 * t + 1) id c (view_inside R v t f.value) (takes 0 (Some f.value)))
  enter_fits s f id v t c at is waits = let k = f.each id v at in let live : is_live v.stage ≡ true =
      ap is_live waits in let some' = k.within live in
      let stands : (f.serving ≤ 2 * t) × (t < f.next) =
      subst (Stands f.next f.serving f.value) waits k.stands in let early = stands.1 in (
        ap (λ h. get_elem? h 0) f.homes ∙ ap some (even_home f.serving t f.value is),
        changes s f id v (view_inside R v t f.value) at (set s.words 1 (2 * t + 1)) (set s.homes 0 none) f.next
            (2 * t + 1) f.value (ap (λ ws. set ws 1 (2 * t + 1)) f.words)
            (ap (λ h. set h 0 none) f.homes ∙ ap (λ h. h ∷ []) (sym (odd_home (2 * t + 1) t f.value refl)))
            (omega arith, f.drawn, f.subject, f.begun)
            record {
              stands = (refl, early, refl);
              empty = λ e. absurd (false≢true (sym e));
              within = λ _. some';
              seen_end = k.seen_end;
              turn = λ u e. let q = k.turn u e in let now = q.1 in (q.0, omega arith);
              earlier = begins_both v.earlier v.front (R.entries f.value) k.earlier
                  ((k.aware live).after, (k.aware live).front);
              aware = λ _. arrived_aware R f.value v t (k.aware live);
            }
            (λ u p h. record {
              stands = stands_entered f.next t f.value u.stage
                  (λ m. p.tickets t (subst (λ st. HasTicket st t) (sym waits) refl) m)
                  (subst (λ n. Stands f.next n f.value u.stage) is h.stands);
              empty = h.empty;
              within = h.within;
              seen_end = h.seen_end;
              turn = λ n e. let q = h.turn n e in let now = q.1 in (q.0, omega arith);
              earlier = h.earlier;
              aware = h.aware;
            })
            (λ j u _ _ p h. record {
              numbers = p.numbers;
              tickets =
                  λ n e m. p.tickets n (subst (λ st. HasTicket st n) (sym waits) e) m;
            })
            (λ n lo hi. inr (omega arith, hi, λ h. subst (λ st. HasTicket st n) waits h)),
      )

  pub leave_fits : (s : State (Option T) (View T E S O)) (f : Fits R opened s) (id : ℕ) (v : View T E S O) (t : ℕ)
      (x y : T) → IsAt s.views id v → v.stage ≡ Inside t x → Adds R v.low x y
      → Fits R opened (stepped s 1 (2 * t + 2) id ((0, Some y) ∷ []) (view_after_give R v y) gives)
  leave_fits s f id v t x y at inside adds = let k = f.each id v at in let live : is_live v.stage ≡ true =
      ap is_live inside in let some' = k.within live in let aware = k.aware live in
      let stands : (f.serving ≡ 2 * t + 1) × (t < f.next) × (x ≡ f.value) =
      subst (Stands f.next f.serving f.value) inside k.stands in let is = stands.0 in let early = stands.1 in
      let adds' : Adds R v.low f.value y = subst (λ z. Adds R v.low z y) stands.2 adds in
      changes s f id v (view_after_give R v y) at (set s.words 1 (2 * t + 2)) (set s.homes 0 (some (Some y))) f.next
      (2 * t + 2) y
      (ap (λ ws. set ws 1 (2 * t + 2)) f.words)
      (ap (λ h. set h 0 (some (Some y))) f.homes
      ∙ ap (λ h. h ∷ []) (sym (even_home (2 * t + 2) (t + 1) y (omega arith))))
      (omega arith, f.drawn, adds'.subject ∙ f.subject, f.begun)
      record {
        stands = tt;
        empty = λ e. absurd (false≢true (sym e));
        within = λ _. some';
        seen_end = k.seen_end;
        turn = λ u e. let b = turn_before v.turn u e in let q = k.turn b.0 b.1 in let was = q.1 in let next =
            b.2 in (q.0, omega arith);
        earlier = begins_both v.earlier (R.entries f.value) (R.entries y)
            (begins_both v.earlier v.front (R.entries f.value) k.earlier (aware.after, aware.front))
            (adds'.added, adds'.entries);
        aware = λ _. given_aware R y v (aware.subject ∙ ap Some (sym adds'.subject));
      }
      (λ u p h. record {
        stands = stands_left f.next t f.value y u.stage
            (λ m. p.tickets t (subst (λ st. HasTicket st t) (sym inside) refl) m)
            (subst (λ n. Stands f.next n f.value u.stage) is h.stands);
        empty = h.empty;
        within = h.within;
        seen_end = h.seen_end;
        turn = λ n e. absurd (not_all v u p some' (is_live u.stage) h.empty h.within (h.turn n e).0);
        earlier = h.earlier;
        aware = λ l. still_aware R f.value y v.low u adds' (omega arith) (omega arith)
            (λ m. p.numbers v.low (omega arith, omega arith) m) (h.aware l);
      })
      (λ j u _ _ p h. record { numbers = p.numbers; tickets = λ n e m. e })
      (λ n lo hi. inr (
        omega arith,
        hi,
        λ h. let same : t ≡ n =
            subst (λ st. HasTicket st n) inside h in absurd (omega arith),
      ))
