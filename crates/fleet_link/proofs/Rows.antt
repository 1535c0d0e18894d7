-- A scenario that is put together row by row.
use Rattle.std.proofs.Common.{◌≡◌, ℕ, zero, suc, ◌+◌, ◌<◌, ◌⊎◌, inl, inr, List, [], ◌∷◌, ◌++◌, length, take, get_or}
use Rattle.std.proofs.Common.{count_by, cond, not}
use Rattle.std.proofs.Common.{None, Some, slice_get, refl, sym, ap, subst, ◌∙◌, arith}
use Rattle.std.proofs.lemmas.Grind.{take_at_read}
use Rattle.std.proofs.lemmas.List.Sums.{sum_by_push}
use Rattle.lemmas.proofs.Lists.{item_pushed, length_pushed, pushed_cases}
use Rattle.scenario_image.specs.declared.step.Step.{Step}
use Rattle.scenario_image.specs.Scenario.{last_row, with_last, with_step, Row, Scenario}
use Rattle.scenario_image.proofs.RowLaws.{last_longer}
use Rattle.fleet_link.specs.declared.slot.Slot.{Slot}
use Rattle.fleet_link.specs.Saved.{saved_row, IsSaved}

row_of : ℕ → List Step → Row
row_of class steps = record { class = class; steps = steps }

pub step_more : (rows : List Row) (class : ℕ) (steps : List Step) (old new : Scenario) (step : Step)
    → old.rows ≡ rows ++ record { class = class; steps = steps } ∷ [] → new ≡ with_step old step
    → new.rows ≡ rows ++ record { class = class; steps = steps ++ step ∷ [] } ∷ []
unfolding row_of
step_more rows class steps old new step were is =
    ap (λ (s : Scenario). s.rows) is ∙ ap (λ rs. with_last rs (last_row rs) step) were
    ∙ last_longer rows (row_of class steps) step

-- ---- the rows of devices

pub record AreSaved (s : Scenario) (slots : List Slot) (saved : Scenario) (device : ℕ) : Type 0 where
  pub saved_is : IsSaved s slots saved
  pub next : device ≡ length slots

one_row_more : (s : Scenario) (slots : List Slot) (slot : Slot) (old new : List Row) (class : ℕ) (row : Row)
    → length old ≡ length slots → slice_get s.rows (length slots) ≡ Some row → class ≡ row.class
    → new ≡ old ++ saved_row class slot ∷ []
    → ((e : ℕ) (r : Row) (x : Slot) → slice_get s.rows e ≡ Some r → slice_get slots e ≡ Some x
    → slice_get old e ≡ Some (saved_row r.class x))
    → (e : ℕ) (r : Row) (x : Slot) → slice_get s.rows e ≡ Some r → slice_get (slots ++ slot ∷ []) e ≡ Some x
    → slice_get new e ≡ Some (saved_row r.class x)
one_row_more s slots slot old new class row count here is more each e r x at got =
    ap (λ l. slice_get l e) more ∙ by_place (pushed_cases slots slot e x got)
  where
    still : {X : Type 0} (xs : List X) (y : X) (k : ℕ) (z : X) → slice_get xs k ≡ Some z
        → slice_get (xs ++ y ∷ []) k ≡ Some z
    still [] y k z h = let q : None ≡ Some z = h in absurd cc
    still (w ∷ xs) y zero z h = h
    still (w ∷ xs) y (suc k) z h = still xs y k z h

    by_place : (slice_get slots e ≡ Some x) ⊎ ((e ≡ length slots) × (slot ≡ x))
        → slice_get (old ++ saved_row class slot ∷ []) e ≡ Some (saved_row r.class x)
    by_place (inl h) = still old (saved_row class slot) e (saved_row r.class x) (each e r x at h)
    by_place (inr h) =
        let q : Some r ≡ Some row = sym at ∙ ap (slice_get s.rows) h.0 ∙ here in
        let same : row ≡ r = cc in
        let place : e ≡ length old = h.0 ∙ sym count in
        ap (slice_get (old ++ saved_row class slot ∷ [])) place ∙ item_pushed old (saved_row class slot)
        ∙ ap (λ c. Some (saved_row c slot)) (is ∙ ap (λ (w : Row). w.class) same)
        ∙ ap (λ w. Some (saved_row r.class w)) h.1

pub saved_more : (s : Scenario) (slots more : List Slot) (slot : Slot) (old new : Scenario) (class device next : ℕ)
    (row : Row)
    → AreSaved s slots old device → slice_get s.rows device ≡ Some row → class ≡ row.class
    → new.classes ≡ old.classes
    → new.rows ≡ old.rows ++ record { class = class; steps = slot.recording.steps.items } ∷ []
    → more ≡ slots ++ slot ∷ [] → next ≡ device + 1 → AreSaved s more new next
saved_more s slots more slot old new class device next row h at is classes rows grown then =
    let here : slice_get s.rows (length slots) ≡ Some row = ap (slice_get s.rows) (sym h.next) ∙ at in
    subst (λ l. AreSaved s l new next) (sym grown) (record {
      saved_is = record {
        classes = classes ∙ h.saved_is.classes;
        count = omega (
          arith,
          ap length rows,
          length_pushed old.rows (saved_row class slot),
          length_pushed slots slot,
          h.saved_is.count,
        );
        each = one_row_more s slots slot old.rows new.rows class row h.saved_is.count here is rows h.saved_is.each;
      };
      next = omega (arith, then, h.next, length_pushed slots slot);
    })

pub none_saved : (s saved : Scenario) → saved.classes ≡ s.classes → saved.rows ≡ [] → AreSaved s [] saved 0
none_saved s saved classes rows =
    record {
      saved_is = record {
        classes = classes;
        count = ap length rows;
        each = λ e r x at got. absurd (never e x got);
      };
      next = refl;
    }
  where
    never : (k : ℕ) (x : Slot) → slice_get [] k ≡ Some x → ⊥
    never k x h = let e : None ≡ Some x = h in cc

-- ---- devices whose steps are not all recorded

pub cut_more : (slots : List Slot) (i : ℕ) (x : Slot) (cut one : ℕ) → i < length slots → x ≡ get_or slots i x
    → cut ≡ count_by (λ (slot : Slot). not slot.recording.complete) (take i slots)
    → one ≡ cond (not x.recording.complete) 1 0
    → cut + one ≡ count_by (λ (slot : Slot). not slot.recording.complete) (take (i + 1) slots)
cut_more slots i x cut one l e so_far is =
    let taken : take (i + 1) slots ≡ take i slots ++ x ∷ [] =
    (take_at_read slots i x l).1 ∙ ap (λ y. take i slots ++ y ∷ []) (sym e) in
    ap (λ n. n + one) so_far
    ∙ ap (λ n. count_by (λ (slot : Slot). not slot.recording.complete) (take i slots) + n) is
    ∙ sym (sum_by_push (λ (slot : Slot). cond (not slot.recording.complete) 1 0) (take i slots) x)
    ∙ ap (count_by (λ (slot : Slot). not slot.recording.complete)) (sym taken)
