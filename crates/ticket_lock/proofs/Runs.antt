-- Every list of steps keeps the rule.
use Rattle.std.proofs.Common.{◌≡◌, ◌≢◌, ℕ, ◌+◌, ◌*◌, ◌/◌, ◌%◌, ◌<◌, ◌≤◌, true, List, [], ◌∷◌, get_or, set, refl, sym}
use Rattle.std.proofs.Common.{ap, ◌∙◌, subst, arith, Option, Some}
use Rattle.std.proofs.lemmas.Bool.{false≢true, eqb-true}
use mathlib.Core.Option.{some, none, some-injective, some-ne-none}
use mathlib.Core.Logic.{dite}
use native.Mathlib.Decide.{ℕ_discrete}
use lib.ListN.{get_elem?}
use lib.Seq.{set-get_or}
use Rattle.atomic_table.specs.Table.{State}
use Rattle.ticket_lock.specs.declared.rule.TheConstants.{LAST}
use Rattle.ticket_lock.specs.declared.rule.View.{View}
use Rattle.ticket_lock.specs.declared.rule.Stage.{Stage}
use Rattle.ticket_lock.specs.declared.rule.Stage.TheVariants.{Spent, Resting, Waiting, Inside}
use Rattle.ticket_lock.specs.Log.{Reading}
use Rattle.ticket_lock.specs.Lock.{IsAt, is_inside, HasTicket, Stands, Knows, Fits}
use Rattle.ticket_lock.specs.Changes.{opening_view, view_inside}
use Rattle.ticket_lock.specs.Moves.{Move, splits, joins, loads, draws, enters, leaves, closes, initial_lock, Steps, Run}
use Rattle.ticket_lock.specs.Moves.{IsExclusive, Law}
use Rattle.ticket_lock.proofs.Aware.{whole_aware}
use Rattle.ticket_lock.proofs.Stages.{one_turn, even_home, odd_home}
use Rattle.ticket_lock.proofs.Steps.{stays, draw_fits, enter_fits, leave_fits}
use Rattle.ticket_lock.proofs.Crowds.{split_fits, join_fits}

module _ {T : Type 0} where
  -- the ticket that is served, by the four cases
  served_inside : (next serving : ℕ) (value : T) (st : Stage T) → serving % 2 ≡ 1 → Stands next serving value st
      → HasTicket st (serving / 2) → (x : T) × (st ≡ Inside (serving / 2) x)
  served_inside next serving value Spent odd h k = absurd k
  served_inside next serving value Resting odd h k = absurd k
  served_inside next serving value (Waiting u) odd h k = absurd (let p = h.0 in omega arith)
  served_inside next serving value (Inside u x) odd h k = (x, ap (λ t. Inside t x) k)

  inside_served : (next serving : ℕ) (value : T) (st : Stage T) → is_inside st ≡ true → Stands next serving value st
      → (serving % 2 ≡ 1) × HasTicket st (serving / 2)
  inside_served next serving value Spent e h = absurd (false≢true e)
  inside_served next serving value Resting e h = absurd (false≢true e)
  inside_served next serving value (Waiting u) e h = absurd (false≢true e)
  inside_served next serving value (Inside u x) e h = let p = h.0 in (omega arith, omega arith)

module _ {T E S O : Type 0} (R : Reading T E S O) (opened : T × ℕ) where
  exclusive : (s : State (Option T) (View T E S O)) → Fits R opened s → IsExclusive s
  exclusive s f = let is : get_or s.words 1 0 ≡ f.serving = ap (λ ws. get_or ws 1 0) f.words in let served =
      f.served in record {
        one = λ i j v w a b p q. dite (ℕ_discrete i j) (λ e. e) (λ ne.
            absurd ((f.apart i j v w a b ne).tickets (f.serving / 2)
            (inside_served f.next f.serving f.value v.stage p (f.each i v a).stands).1
            (inside_served f.next f.serving f.value w.stage q (f.each j w b).stands).1));
        at_home = λ even. (
          f.value,
          ap (λ h. get_elem? h 0) f.homes ∙ ap some (even_home f.serving (f.serving / 2) f.value (omega arith)),
        );
        out = λ odd.
            let odd' : f.serving % 2 ≡ 1 = ap (λ n. n % 2) (sym is) ∙ odd in
            let h = f.held (f.serving / 2) (omega arith) (omega arith) in
            let k = served_inside f.next f.serving f.value h.1.stage odd' (f.each h.0 h.1 h.2).stands h.3 in (
              ap (λ l. get_elem? l 0) f.homes ∙ ap some (odd_home f.serving (f.serving / 2) f.value (omega arith)),
              (h.0, h.1, k.0, h.2, k.1 ∙ ap (λ n. Inside (n / 2) k.0) (sym is)),
            );
        inside = λ i v a p. ap (λ n. n % 2) is ∙ (inside_served f.next f.serving f.value v.stage p
            (f.each i v a).stands).0;
      }

  -- one step
  keeps_rule : (m : Move T) (s t : State (Option T) (View T E S O)) → Steps R m s t → Fits R opened s → Fits R opened t
  keeps_rule (splits id) s t h f = subst (Fits R opened) (sym h.4) (split_fits R opened s f id h.0 h.1 h.2 h.3)
  keeps_rule (joins id other) s t h f =
      subst (Fits R opened) (sym h.8) (join_fits R opened s f id h.0 other h.1 h.2 h.4 h.3 h.5 h.6 h.7)
  keeps_rule (loads id) s t h f = let is : get_or s.words 0 0 ≡ f.next = ap (λ ws. get_or ws 0 0) f.words in
      dite (ℕ_discrete (get_or s.words 0 0) LAST)
      (λ hit. subst (Fits R opened) (ap (λ ws. record
      { words = ws; homes = s.homes; views = set s.views id (record h.0 { end = true }) }) (set-get_or s.words 0 0)
      ∙ sym (h.3 hit))
      (stays R opened s f id h.0 true 0 [] h.1 (λ _. sym is ∙ hit)))
      (λ miss. subst (Fits R opened) (sym (h.4 miss)) f)
  keeps_rule (draws id ticket) s t h f = let is : get_or s.words 0 0 ≡ f.next = ap (λ ws. get_or ws 0 0) f.words in
      dite (ℕ_discrete (get_or s.words 0 0) ticket)
      (λ hit. subst (Fits R opened) (sym (h.4 hit))
      (draw_fits R opened s f id h.0 ticket [] h.1 (sym is ∙ hit) h.3 h.2))
      (λ miss. subst (Fits R opened) (sym (h.5 miss)) f)
  keeps_rule (enters id) s t h f = let is : get_or s.words 1 0 ≡ f.serving = ap (λ ws. get_or ws 1 0) f.words in
      dite (ℕ_discrete (get_or s.words 1 0) (2 * h.1))
      (λ hit.
      let e = enter_fits R opened s f id h.0 h.1 [] h.2 (sym is ∙ hit) h.3 in
      let k = h.4 hit in
      let two : some (Some f.value) ≡ some (Some k.0) =
      some-injective (some (Some f.value)) (some (Some k.0)) (sym e.0 ∙ k.1) in
      let one : Some f.value ≡ Some k.0 = some-injective (Some f.value) (Some k.0) two in
      let same : f.value ≡ k.0 = cc in
      subst (Fits R opened) (ap (λ x. record {
        words = set s.words 1 (2 * h.1 + 1);
        homes = set s.homes 0 none;
        views =
            set s.views id (view_inside R h.0 h.1 x);
      }) same ∙ sym k.2) e.1)
      (λ miss. subst (Fits R opened) (sym (h.5 miss)) f)
  keeps_rule (leaves id y) s t h f =
      subst (Fits R opened) (sym h.6) (leave_fits R opened s f id h.0 h.1 h.2 y h.3 h.4 h.5)
  keeps_rule (closes id) s t h f = subst (Fits R opened) (sym h.4) f

  runs_fit : (moves : List (Move T)) (s u : State (Option T) (View T E S O)) → Run R moves s u → Fits R opened s
      → Fits R opened u
  runs_fit [] s u run f = subst (Fits R opened) (sym run) f
  runs_fit (m ∷ ms) s u run f = runs_fit ms run.0 u run.3 (keeps_rule m s run.0 run.1 f)

module _ {T E S O : Type 0} (R : Reading T E S O) where
  -- the lock as it is made
  pub made_fits : (first : ℕ) (x : T) → first ≤ LAST → Fits R (x, first) (initial_lock R first x)
  made_fits first x small = record {
    next = first;
    serving = 2 * first;
    value = x;
    words = refl;
    homes = ap (λ h. h ∷ []) (sym (even_home (2 * first) first x refl));
    served = omega arith;
    drawn = small;
    subject = refl;
    begun = omega arith;
    each = λ i v a. subst (Knows R first (2 * first) x) (first_view i v a) record {
      stands = tt;
      empty = λ e. absurd (false≢true (sym e));
      within = λ _. (omega arith, omega arith, omega arith);
      seen_end = λ e. eqb-true first LAST e;
      turn = λ t e. (refl, let same = one_turn first t e in omega arith);
      earlier = (R.entries x, refl);
      aware = λ _. whole_aware R x first;
    };
    apart = λ i j v w a b ne. absurd (ne (first_place i v a ∙ sym (first_place j w b)));
    held = λ t lo hi. absurd (omega arith);
  }
    where
      first_view : (i : ℕ) (v : View T E S O) → IsAt (opening_view R x first ∷ []) i v → opening_view R x first ≡ v
      first_view Rattle.std.proofs.Common.zero v a = some-injective (opening_view R x first) v a
      first_view (Rattle.std.proofs.Common.suc i) v a = absurd (some-ne-none v (sym a))

      first_place : (i : ℕ) (v : View T E S O) → IsAt (opening_view R x first ∷ []) i v → i ≡ 0
      first_place Rattle.std.proofs.Common.zero v a = refl
      first_place (Rattle.std.proofs.Common.suc i) v a = absurd (some-ne-none v (sym a))

  pub law : Law R
  law first x small moves s run = let f =
      runs_fit R (x, first) moves (initial_lock R first x) s run
      (made_fits first x small) in (f, exclusive R (x, first) s f)
