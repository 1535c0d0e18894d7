-- Entries that are replayed one after another.
use Rattle.std.proofs.Common.{◌≡◌, ℕ, ◌+◌, ◌<◌, Bool, true, false, List, [], ◌∷◌, ◌++◌, length, take, get_or, add-one}
use Rattle.std.proofs.Common.{refl, sym, ap, subst, ◌∙◌}
use Rattle.std.proofs.lemmas.Grind.{take_at_read}
use Rattle.lemmas.proofs.Lists.{take_none}
use Rattle.device_machine.specs.declared.output.Output.{Output}
use Rattle.device_machine.specs.State.{Device}
use Rattle.scenario_image.specs.declared.step.Step.{Step}
use Rattle.scenario_image.specs.Scenario.{Scenario}
use Rattle.trace_file.specs.declared.entry.Entry.{Entry}
use Rattle.fleet_core.specs.Run.{made_by, entry_of, is_enabled, out_at, Fits, IsRun}
use Rattle.fleet_core.specs.Board.{FleetModel, Holding, ShowsAfter, Continues, Replays}
use Rattle.fleet_core.specs.Verdict.{BreaksAt}
use Rattle.fleet_core.proofs.Posts.{run_push, run_last, made_same, enabled_fits, fits_enabled}
use Rattle.fleet_core.proofs.Board.{Reads, entry_is}

-- ---- one entry

-- the device can't go
pub stands_still : (v : FleetModel) (e : Entry) → is_enabled v.scenario v.entries e.device ≡ false
    → Fits v.scenario v.entries e → ⊥
stands_still v e blocked fits = let e2 : true ≡ false =
    sym (fits_enabled v.scenario v.entries e fits) ∙ blocked in cc

-- an entry of this step with these outputs is the device's next
pub is_next : (s : Scenario) (es : List Entry) (devices : List Holding) (e : Entry) (place : ℕ) (step : Step)
    (old : Holding) (out : List Output) → Reads s es devices e.device place step old → out ≡ out_at s e.device place
    → e.step ≡ place → e.outputs ≡ out → e ≡ entry_of s e.worker e.device es
is_next s es devices e place step old out r made number same =
    entry_is s es devices e.worker e.device place step old e r
    (ap (λ k. record { worker = e.worker; device = e.device; step = k; outputs = e.outputs }) number
    ∙ ap (λ o. record { worker = e.worker; device = e.device; step = place; outputs = o }) (same ∙ made))

-- the device made another entry
pub differs : (v : FleetModel) (s : Scenario) (es : List Entry) (spent : Bool) (devices : List Holding) (e : Entry)
    (place : ℕ) (step : Step) (old : Holding) (out : List Output)
    → record { scenario = s; entries = es; spent = spent } ≡ v → Reads s es devices e.device place step old
    → out ≡ out_at s e.device place → ((e.step ≡ place) × (e.outputs ≡ out) → ⊥) → Fits v.scenario v.entries e → ⊥
differs v s es spent devices e place step old out view r made other =
    subst (λ w. Fits w.scenario w.entries e → ⊥) view
    (λ fits.
    let number : e.step ≡ place = fits.count ∙ sym r.place_is in
    other (number, fits.outputs ∙ (ap (out_at s e.device) number ∙ sym made)))

-- the device made this entry
pub follows : (v : FleetModel) (s : Scenario) (es new : List Entry) (spent : Bool) (devices : List Holding) (e : Entry)
    (place : ℕ) (step : Step) (old : Holding) (out : List Output)
    → record { scenario = s; entries = es; spent = spent } ≡ v → Reads s es devices e.device place step old
    → out ≡ out_at s e.device place → e.step ≡ place → e.outputs ≡ out → new ≡ es ++ e ∷ []
    → Continues v (record { scenario = s; entries = new; spent = false }) e
follows v s es new spent devices e place step old out view r made number same more =
    let is : e ≡ entry_of s e.worker e.device es =
    is_next s es devices e place step old out r made number same in
    subst (λ w. Continues w (record { scenario = s; entries = new; spent = false }) e) view
    (record {
      fits = subst (Fits s es) (sym is) (enabled_fits s es e.worker e.device r.go);
      entries = more;
      scenario = refl;
      ready = refl;
    })

-- a copy that was made after the device's step shows the state after its entries
pub copy_shows : (s : Scenario) (es new : List Entry) (devices : List Holding) (e : Entry) (place : ℕ) (step : Step)
    (old : Holding) (x : Device) → Reads s es devices e.device place step old → new ≡ es ++ e ∷ []
    → ShowsAfter s e.device (place + 1) x → ShowsAfter s e.device (made_by e.device new) x
copy_shows s es new devices e place step old x r more shows =
    let count : place + 1 ≡ made_by e.device (es ++ e ∷ []) =
    ap (λ k. k + 1) r.place_is ∙ (add-one (made_by e.device es) ∙ sym (made_same e.device es e refl)) in
    subst (λ l. ShowsAfter s e.device (made_by e.device l) x) (sym more)
    (subst (λ k. ShowsAfter s e.device k x) count shows)

-- ---- the list

-- the first entries are a run, and have been added
pub record IsReplayed (s : Scenario) (es : List Entry) (n : ℕ) (v : FleetModel) : Type 0 where
  pub scenario : v.scenario ≡ s
  pub ready : v.spent ≡ false
  pub entries : v.entries ≡ take n es
  pub run : IsRun s (take n es)

at_none : (s : Scenario) (es : List Entry) → IsReplayed s es 0 (record { scenario = s; entries = []; spent = false })
at_none s es = record {
  scenario = refl;
  ready = refl;
  entries = sym (take_none es);
  run =
      subst (IsRun s) (sym (take_none es)) (record { along = tt });
}

pub begins : (s : Scenario) (es : List Entry) (v : FleetModel)
    → v ≡ record { scenario = s; entries = []; spent = false }
    → IsReplayed s es 0 v
begins s es v e = subst (λ w. IsReplayed s es 0 w) (sym e) (at_none s es)

pub next_take : {X : Type 0} (xs : List X) (n : ℕ) (x : X) → n < length xs → x ≡ get_or xs n x
    → take (n + 1) xs ≡ take n xs ++ x ∷ []
next_take xs n x within is = (take_at_read xs n x within).1 ∙ ap (λ y. take n xs ++ y ∷ []) (sym is)

pub replays_on : (s : Scenario) (es : List Entry) (n : ℕ) (v new : FleetModel) (e : Entry) → IsReplayed s es n v
    → n < length es → e ≡ get_or es n e → Replays v new e true
    → IsReplayed s es (n + 1) new
replays_on s es n v new e so_far within is more =
    let fits : Fits s (take n es) e =
    subst (λ l. Fits s l e) so_far.entries (subst (λ t. Fits t v.entries e) so_far.scenario more.fits) in
    let next = next_take es n e within is in
    record {
      scenario = more.scenario ∙ so_far.scenario;
      ready = more.ready;
      entries = more.entries ∙ (ap (λ l. l ++ e ∷ []) so_far.entries ∙ sym next);
      run = subst (IsRun s) (sym next) (run_push s (take n es) e so_far.run fits);
    }

pub breaks : (s : Scenario) (es : List Entry) (n : ℕ) (v new : FleetModel) (e : Entry) → IsReplayed s es n v
    → n < length es
    → e ≡ get_or es n e → Replays v new e false
    → BreaksAt s es n
breaks s es n v new e so_far within is other =
    record {
      within = within;
      before = so_far.run;
      broken = λ run. other (subst (λ t. Fits t v.entries e) (sym so_far.scenario)
          (subst (λ l. Fits s l e) (sym so_far.entries)
          (run_last s (take n es) e (subst (IsRun s) (next_take es n e within is) run))));
    }
