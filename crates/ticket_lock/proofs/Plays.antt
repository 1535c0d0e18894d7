-- What each call of the table owes: its step keeps the rule, and tells what it says.
use Rattle.std.proofs.Common.{◌≡◌, ℕ, ◌+◌, ◌*◌, ◌/◌, ◌<◌, ◌≤◌, true, eqb, List, [], ◌∷◌, get_or, refl, sym, ap, ◌∙◌}
use Rattle.std.proofs.Common.{subst, arith, Option, Some, eq-eqb, ne_eqb}
use mathlib.Core.Option.{none}
use mathlib.Core.Logic.{dite}
use native.Mathlib.Decide.{ℕ_discrete}
use prog.Atomic.{either}
use Rattle.atomic_table.specs.Table.{Me, step, keeps, takes, gives, rest, stepped, Allows, Splits, Joins}
use Rattle.atomic_table.proofs.Lists.{set_else}
use Rattle.ticket_lock.specs.declared.rule.TheConstants.{LAST}
use Rattle.ticket_lock.specs.declared.rule.View.{View}
use Rattle.ticket_lock.specs.declared.rule.Stage.TheVariants.{Waiting, Inside}
use Rattle.ticket_lock.specs.Log.{Reading, Adds}
use Rattle.ticket_lock.specs.Lock.{is_live, is_resting, is_inside, ticket_of, found_or, holds_slot, AreNeighbours, Fits}
use Rattle.ticket_lock.specs.Changes.{empty_view, with_end_seen, with_stage, lower_part, upper_part, joined_view}
use Rattle.ticket_lock.specs.Changes.{view_inside, view_after_give, Looked, Drew, Entered, Left}
use Rattle.ticket_lock.proofs.Stages.{insider, one_slot}
use Rattle.ticket_lock.proofs.Steps.{stays, draw_fits, enter_fits, leave_fits}
use Rattle.ticket_lock.proofs.Crowds.{split_fits, join_fits, turn_next}

module _ {T E S O : Type 0} (R : Reading T E S O) (opened : T × ℕ) (slots id : ℕ)
    (me : Me (Option T) (View T E S O)) where
  pub looks : Allows (Fits R opened) slots id me 0 (λ n. n) (Looked R (step slots 0 0 0 none) me)
  looks s f _ at _ = let x : ℕ = get_or s.words 0 0 in let is : x ≡ f.next =
      ap (λ ws. get_or ws 0 0) f.words in let drawn = f.drawn in let k = f.each id me.0 at in
      let most : x ≤ LAST = omega arith in
      let turn : (t : ℕ) → me.0.turn ≡ Some t → is_resting me.0.stage ≡ true → x ≡ t =
      λ t e rest. is ∙ turn_next R opened s f id me.0 t at e rest in
      dite (ℕ_discrete x LAST)
      (λ hit. (
        with_end_seen me.0,
        keeps,
        tt,
        stays R opened s f id me.0 true 0 me.1 at (λ _. sym is ∙ hit),
        record {
          most = most;
          last = λ _. refl;
          other = λ ne. absurd (ne hit);
          seen_end = λ _. hit;
          turn = turn;
          aware = λ live. (f.value, k.aware live);
          earlier = k.earlier;
        },
      ))
      (λ miss. (
        me.0,
        keeps,
        tt,
        stays R opened s f id me.0 me.0.end 0 me.1 at k.seen_end,
        record {
          most = most;
          last = λ e. absurd (miss e);
          other = λ _. refl;
          seen_end = λ e. is ∙ k.seen_end e;
          turn = turn;
          aware = λ live. (f.value, k.aware live);
          earlier = k.earlier;
        },
      ))

  pub draws : (t : ℕ) → t < LAST → is_resting me.0.stage ≡ true
      → Allows (Fits R opened) slots id me 0 (λ n. either (eqb n t) (t + 1) n) (Drew (step slots 0 t (t + 1) none) me)
  draws t small rest s f _ at _ = let x : ℕ = get_or s.words 0 0 in let is : x ≡ f.next =
      ap (λ ws. get_or ws 0 0) f.words in
      let w : View T E S O = with_stage me.0 (Waiting t) in
      dite (ℕ_discrete x t)
      (λ hit. (
        w,
        keeps,
        tt,
        subst (λ b. Fits R opened (stepped s 0 (either b (t + 1) x) id me.1 w keeps)) (sym (eq-eqb x t hit))
            (draw_fits R opened s f id me.0 t me.1 at (sym is ∙ hit) small rest),
        ((λ _. refl), λ ne. absurd (ne hit)),
      ))
      (λ miss. (
        me.0,
        keeps,
        tt,
        subst (λ b. Fits R opened (stepped s 0 (either b (t + 1) x) id me.1 me.0 keeps)) (sym (ne_eqb x t miss))
            (stays R opened s f id me.0 me.0.end 0 me.1 at (f.each id me.0 at).seen_end),
        ((λ e. absurd (miss e)), λ _. refl),
      ))

  pub enters : (t : ℕ) → me.0.stage ≡ Waiting t
      → Allows (Fits R opened) slots id me 1 (λ n. either (eqb n (2 * t)) (2 * t + 1) n)
      (Entered R (step slots 1 (2 * t) (2 * t + 1) none) me)
  enters t waits s f _ at _ = let x : ℕ = get_or s.words 1 0 in let is : x ≡ f.serving =
      ap (λ ws. get_or ws 1 0) f.words in
      let due : ℕ = 2 * t in let w : View T E S O = view_inside R me.0 t f.value in let half : t ≡ 2 * t / 2 =
      omega arith in let k = f.each id me.0 at in
      dite (ℕ_discrete x due)
      (λ hit. let e = enter_fits R opened s f id me.0 t me.1 at (sym is ∙ hit) waits in (
        w,
        takes 0 (Some f.value),
        e.0,
        subst (λ b. Fits R opened (stepped s 1 (either b (2 * t + 1) x) id me.1 w (takes 0 (Some f.value))))
            (sym (eq-eqb x due hit)) e.1,
        (
          (λ _. (
            f.value,
            k.aware (ap is_live waits),
            ap (λ u. (view_inside R me.0 u f.value, (0, Some f.value) ∷ me.1)) half,
          )),
          λ ne. absurd (ne hit),
        ),
      ))
      (λ miss. (
        me.0,
        keeps,
        tt,
        subst (λ b. Fits R opened (stepped s 1 (either b (2 * t + 1) x) id me.1 me.0 keeps)) (sym (ne_eqb x due miss))
            (stays R opened s f id me.0 me.0.end 1 me.1 at k.seen_end),
        ((λ e. absurd (miss e)), λ _. refl),
      ))

  pub leaves : (t : ℕ) (x y : T) → me.0.stage ≡ Inside t x → me.1 ≡ (0, Some y) ∷ [] → Adds R me.0.low x y
      → Allows (Fits R opened) slots id me 1 (λ _. 2 * t + 2)
      (λ _. Left R (step slots 1 (2 * t + 2) 0 none) me (2 * t + 2))
  leaves t x y inside holds adds s f _ at _ = let w : View T E S O = view_after_give R me.0 y in (
    w,
    gives,
    tt,
    subst (λ c. Fits R opened (stepped s 1 (2 * t + 2) id c w gives)) (sym holds)
        (leave_fits R opened s f id me.0 t x y at inside adds),
    λ value e. let same : y ≡ value = one_value y value (sym holds ∙ e) in
        λ i. (view_after_give R me.0 (same i), ap rest holds i),
  )
    where
      -- the value in a slot is one
      one_value : (p q : T) → ◌≡◌ {A = List (ℕ × Option T)} ((0, Some p) ∷ []) ((0, Some q) ∷ []) → p ≡ q
      one_value p q e = let a : ℕ × Option T = (0, Some p) in let b : ℕ × Option T = (0, Some q) in let one : a ≡ b =
          cc in let two : Some p ≡ Some q = ap (λ (z : ℕ × Option T). z.1) one in cc

-- the same, from the seat as it was before the value went back into the slot
module _ {T E S O : Type 0} (R : Reading T E S O) (old new : Me (Option T) (View T E S O)) (y : T)
    (holds : holds_slot old.1 ≡ true) (wrote : new ≡ (old.0, (0, Some y) ∷ rest old.1)) where
  wrote_one : new ≡ (old.0, (0, Some y) ∷ [])
  wrote_one = wrote ∙ ap (λ c. (old.0, (0, Some y) ∷ rest c)) (one_slot old.1 holds)

  pub leaves_from : (opened : T × ℕ) (slots id t : ℕ) → is_inside old.0.stage ≡ true → ticket_of old.0.stage ≡ t
      → Adds R old.0.low (found_or old.0.stage y) y
      → Allows (Fits R opened) slots id new 1 (λ _. 2 * t + 2)
      (λ _. Left R (step slots 1 (2 * t + 2) 0 none) new (2 * t + 2))
  leaves_from opened slots id t inside ticket adds =
      let me : Me (Option T) (View T E S O) = (old.0, (0, Some y) ∷ []) in
      subst (λ m. Allows (Fits R opened) slots id m 1 (λ _. 2 * t + 2)
      (λ _. Left R (step slots 1 (2 * t + 2) 0 none) m (2 * t + 2))) (sym wrote_one)
      (leaves R opened slots id me t (found_or old.0.stage y) y
      (insider old.0.stage y inside ∙ ap (λ u. Inside u (found_or old.0.stage y)) ticket) refl adds)

module _ {T E S O : Type 0} (R : Reading T E S O) (opened : T × ℕ) (id : ℕ) (v : View T E S O) where
  pub splits : is_resting v.stage ≡ true → 1 < v.count → Splits (Fits R opened) id v (lower_part v) (upper_part v)
  splits rest two s f at = split_fits R opened s f id v at rest two

  pub joins : (other : ℕ) (w : View T E S O) → is_resting v.stage ≡ true → is_resting w.stage ≡ true
      → AreNeighbours v w → Joins (Fits R opened) id v other w (joined_view v w) empty_view
  joins other w rest rest' next s f at ne there =
      join_fits R opened s f id v other w at ne
      (sym (set_else s.views id other (joined_view v w) ne) ∙ there) rest rest' next
