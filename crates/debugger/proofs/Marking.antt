-- Where a breakpoint holds that looks at one entry.
use Rattle.std.proofs.Common.{◌≡◌, ℕ, ◌+◌, ◌<◌, ◌≤◌, ◌↔◌, eqb, true, ◌&&◌, ◌⊎◌, inl, inr, IsTrue, List}
use Rattle.std.proofs.Common.{Option, None, Some, slice_get, refl, sym, ap, subst, ◌∙◌, arith}
use Rattle.std.specs.List.{list_any}
use Rattle.std.proofs.lemmas.Bool.{eq-eqb, eqb-true, and_parts, and_from, cases_lt}
use Rattle.std.proofs.lemmas.Option.{some_pair_parts}
use Rattle.object_defs.specs.declared.path.Path.{Path}
use Rattle.scenario_image.specs.Scenario.{Scenario}
use Rattle.trace_file.specs.declared.entry.Entry.{Entry}
use Rattle.fleet_core.specs.Run.{step_at, IsRun}
use Rattle.debugger.specs.declared.breaks.Break.{Break}
use Rattle.debugger.specs.declared.breaks.Break.TheVariants.{At, DeviceStep, Changed, Code, Notified}
use Rattle.debugger.specs.Stops.{is_send, has_code, is_tick, Follows, HasStepped, HasSent, HasNotified, Holds}
use Rattle.debugger.specs.Searches.{IsNowhere, marks, change_in}
use Rattle.device_entries.proofs.Runs.{step_counts}

follows : (es : List Entry) (d i : ℕ) (e : Entry) → slice_get es i ≡ Some e → e.device ≡ d → Follows es d (i + 1) e
follows es d i e at own = record { index = i; next = refl; stands = at; own = own }

pub follows_is : (es : List Entry) (d i : ℕ) (e f : Entry) → slice_get es i ≡ Some e → Follows es d (i + 1) f → f ≡ e
follows_is es d i e f at follows =
    let same : follows.index ≡ i = omega (arith, follows.next) in
    let g : Some f ≡ Some e = sym follows.stands ∙ (ap (slice_get es) same ∙ at) in cc

stepped : (s : Scenario) (es : List Entry) (d k i : ℕ) (e : Entry) → IsRun s es → slice_get es i ≡ Some e
    → IsTrue (eqb e.device d && eqb (e.step + 1) k) ↔ HasStepped es d k (i + 1)
stepped s es d k i e run at = (
  λ h.
      let parts = and_parts (eqb e.device d) (eqb (e.step + 1) k) h in
      let own : e.device ≡ d = eqb-true e.device d parts.0 in
      (e, follows es d i e at own, step_counts s es d i e run at own ∙ eqb-true (e.step + 1) k parts.1),
  λ h.
      let same : h.0 ≡ e = follows_is es d i e h.0 at h.1 in
      let own : e.device ≡ d = subst (λ f. f.device ≡ d) same h.1.own in
      and_from (eqb e.device d) (eqb (e.step + 1) k) (eq-eqb e.device d own)
      (eq-eqb (e.step + 1) k (sym (step_counts s es d i e run at own) ∙ h.2)),
)

sent : (es : List Entry) (d code i : ℕ) (e : Entry) → slice_get es i ≡ Some e
    → IsTrue (eqb e.device d && list_any (has_code code) e.outputs) ↔ HasSent es d code (i + 1)
sent es d code i e at = (
  λ h.
      let parts = and_parts (eqb e.device d) (list_any (has_code code) e.outputs) h in
      (e, follows es d i e at (eqb-true e.device d parts.0), parts.1),
  λ h.
      let same : h.0 ≡ e = follows_is es d i e h.0 at h.1 in
      and_from (eqb e.device d) (list_any (has_code code) e.outputs)
      (eq-eqb e.device d (subst (λ f. f.device ≡ d) same h.1.own))
      (subst (λ f. list_any (has_code code) f.outputs ≡ true) same h.2),
)

notified : (s : Scenario) (es : List Entry) (d i : ℕ) (e : Entry) → slice_get es i ≡ Some e
    → IsTrue ((eqb e.device d && is_tick (step_at s d e.step)) && list_any is_send e.outputs) ↔ HasNotified s es d
    (i + 1)
notified s es d i e at = (
  λ h.
      let parts = and_parts (eqb e.device d && is_tick (step_at s d e.step)) (list_any is_send e.outputs) h in
      let first = and_parts (eqb e.device d) (is_tick (step_at s d e.step)) parts.0 in
      (e, follows es d i e at (eqb-true e.device d first.0), first.1, parts.1),
  λ h.
      let same : h.0 ≡ e = follows_is es d i e h.0 at h.1 in
      and_from (eqb e.device d && is_tick (step_at s d e.step)) (list_any is_send e.outputs)
      (and_from (eqb e.device d) (is_tick (step_at s d e.step))
      (eq-eqb e.device d (subst (λ f. f.device ≡ d) same h.1.own))
      (subst (λ f. is_tick (step_at s d f.step) ≡ true) same h.2))
      (subst (λ f. list_any is_send f.outputs ≡ true) same h.3),
)

-- a breakpoint that looks at one entry holds exactly after an entry that it asks for
pub marks_are : (s : Scenario) (es : List Entry) (i : ℕ) (e : Entry) (b : Break) → IsRun s es → slice_get es i ≡ Some e
    → change_in b ≡ None → IsTrue (marks s e i b) ↔ Holds s es b (i + 1)
marks_are s es i e (At n) run at plain = ((λ h. sym (eqb-true n (i + 1) h)), (λ h. eq-eqb n (i + 1) (sym h)))
marks_are s es i e (DeviceStep d k) run at plain = stepped s es d k i e run at
marks_are s es i e (Changed d path) run at plain = let h : ◌≡◌ {A = Option (ℕ × Path)} (Some (d, path)) None = plain
    in absurd cc
marks_are s es i e (Code d code) run at plain = sent es d code i e at
marks_are s es i e (Notified d) run at plain = notified s es d i e at

-- ---- from one place on

nowhere_at : (P : ℕ → Type 0) (from i q : ℕ) → IsNowhere P from i → (P (i + 1) → ⊥) → from < q → q ≤ i + 1
    → (q < i + 1) ⊎ (i + 1 ≤ q) → P q → ⊥
nowhere_at P from i q before here after within (inl less) h = before q after (omega (arith, less)) h
nowhere_at P from i q before here after within (inr more) h =
    let same : q ≡ i + 1 = omega (arith, within, more) in here (subst P same h)

-- nor at the next place
pub nowhere_next : (P : ℕ → Type 0) (from i : ℕ) → IsNowhere P from i → (P (i + 1) → ⊥) → IsNowhere P from (i + 1)
nowhere_next P from i before here = λ q after within. nowhere_at P from i q before here after within
    (cases_lt q (i + 1))

pub nowhere_start : (P : ℕ → Type 0) (from : ℕ) → IsNowhere P from from
nowhere_start P from = λ q after within. absurd (omega (arith, after, within))

-- a breakpoint of a value, by its device and path
pub change_is : (b : Break) (d : ℕ) (path : Path) → change_in b ≡ Some (d, path) → b ≡ Changed d path
change_is (At n) d path h = let e : ◌≡◌ {A = Option (ℕ × Path)} None (Some (d, path)) = h in absurd cc
change_is (DeviceStep i k) d path h = let e : ◌≡◌ {A = Option (ℕ × Path)} None (Some (d, path)) = h in absurd cc
change_is (Changed i p) d path h = let e = some_pair_parts i d p path h in ap (λ k. Changed k p) e.0 ∙ ap (Changed d)
    e.1
change_is (Code i code) d path h = let e : ◌≡◌ {A = Option (ℕ × Path)} None (Some (d, path)) = h in absurd cc
change_is (Notified i) d path h = let e : ◌≡◌ {A = Option (ℕ × Path)} None (Some (d, path)) = h in absurd cc
