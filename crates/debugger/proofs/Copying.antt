-- The copies of devices along a run.
use Rattle.std.proofs.Common.{◌≡◌, ℕ, ◌+◌, ◌-◌, ◌*◌, ◌/◌, ◌%◌, ◌<◌, ◌≤◌, ◌⊎◌, inl, inr, Bool, List, [], ◌∷◌, ◌++◌}
use Rattle.std.proofs.Common.{length, map, replicate, take, set, get_or, None, Some, slice_get, true, false}
use Rattle.std.proofs.Common.{refl, sym, ap, subst, ◌∙◌, arith, length-append}
use Rattle.std.proofs.lemmas.Bool.{cases_eq}
use Rattle.std.proofs.lemmas.List.{length-set, take_all}
use Rattle.std.proofs.lemmas.Option.{slice_get_read}
use Rattle.lemmas.proofs.Lists.{pushed_cases, set_elsewhere, set_gives}
use Rattle.device_template.specs.Template.{Template}
use Rattle.device_machine.specs.State.{Device, Shows}
use Rattle.scenario_image.specs.declared.step.Step.{Step}
use Rattle.scenario_image.specs.Scenario.{Scenario}
use Rattle.scenario_image.specs.Play.{start, IsRowOf}
use Rattle.trace_file.specs.declared.entry.Entry.{Entry}
use Rattle.fleet_core.specs.Run.{made_by, Fits, IsRun}
use Rattle.fleet_core.specs.Board.{Continues, FleetModel, Replays, ShowsAfter}
use Rattle.fleet_core.proofs.Checked.{IsReplayed, begins, replays_on}
use Rattle.fleet_core.proofs.Posts.{made_same, made_other}
use Rattle.fleet_core.proofs.Taken.{row_below}
use Rattle.debugger.specs.declared.copies.Copies.{Copies}
use Rattle.debugger.specs.Copies.{AreCopiesAlong, HasCopies, AreCopied}
use Rattle.device_entries.proofs.Empties.{empty_at, empty_count}
use Rattle.device_entries.proofs.Placing.{made_before}

-- ---- the copies of one device

pub start_shows : (s : Scenario) (d number : ℕ) (x : Device) → number ≡ 0
    → ((class : Template) (steps : List Step) → IsRowOf s d class steps → Shows x (start class))
    → ShowsAfter s d (64 * number) x
start_shows s d number x none started =
    let first : ShowsAfter s d (64 * 0) x = λ class steps row. started class steps row in
    subst (λ n. ShowsAfter s d (64 * n) x) (sym none) first

pub copy_is : (s : Scenario) (d number : ℕ) (copies : List Device) (kept copy : Device)
    → AreCopiesAlong s d copies → (number ≡ 0 → ⊥) → number ≤ length copies → kept ≡ get_or copies (number - 1) kept
    → copy ≡ kept → ShowsAfter s d (64 * number) copy
copy_is s d number copies kept copy along some enough read same =
    let within : number - 1 < length copies = omega (arith, some, enough) in
    let back : number - 1 + 1 ≡ number = omega (arith, some) in
    subst (ShowsAfter s d (64 * number)) (sym same)
    (subst (λ n. ShowsAfter s d (64 * n) kept) back
    (along.shown (number - 1) kept (slice_get_read copies (length copies) (number - 1) kept refl within read)))

-- before its first step it has none
none_yet : (s : Scenario) (d : ℕ) (copies : List Device) → copies ≡ [] → HasCopies s d 0 copies
none_yet s d copies none = record {
  along = record {
    shown = λ k x h. let e : None ≡ Some x = ap (λ l. slice_get l k) (sym none) ∙ h in absurd cc;
  };
  count = ap length none;
}

-- a step after which it is not copied
no_copy : (s : Scenario) (d step : ℕ) (copies : List Device) → HasCopies s d step copies → (step % 64 ≡ 63 → ⊥)
    → HasCopies s d (step + 1) copies
no_copy s d step copies has other = record { along = has.along; count = omega (arith, has.count, other) }

shown_next : (s : Scenario) (d step k : ℕ) (copies : List Device) (x machine : Device) → HasCopies s d step copies
    → step % 64 ≡ 63 → ShowsAfter s d (step + 1) machine
    → (slice_get copies k ≡ Some x) ⊎ ((k ≡ length copies) × (machine ≡ x)) → ShowsAfter s d (64 * (k + 1)) x
shown_next s d step k copies x machine has whole now (inl h) = has.along.shown k x h
shown_next s d step k copies x machine has whole now (inr h) =
    let same : step + 1 ≡ 64 * (k + 1) = omega (arith, h.0, has.count, whole) in
    subst (ShowsAfter s d (64 * (k + 1))) h.1 (subst (λ n. ShowsAfter s d n machine) same now)

-- one after which it is
one_copy : (s : Scenario) (d step : ℕ) (copies more : List Device) (machine : Device) → HasCopies s d step copies
    → step % 64 ≡ 63 → ShowsAfter s d (step + 1) machine → more ≡ copies ++ machine ∷ []
    → HasCopies s d (step + 1) more
one_copy s d step copies more machine has whole now added =
    let long : length more ≡ length copies + 1 = omega (arith, ap length added, length-append copies (machine ∷ [])) in
    record {
      along = record {
        shown = λ k x h. shown_next s d step k copies x machine has whole now
            (pushed_cases copies machine k x (ap (λ l. slice_get l k) (sym added) ∙ h));
      };
      count = omega (arith, long, has.count, whole);
    }

-- ---- those of all devices

pub none_copied : (s : Scenario) (n : ℕ) (all : List Copies) → map (λ x. x.devices.items) all ≡ replicate n []
    → n ≡ length s.rows → AreCopied s [] all
none_copied s n all are rows = record {
  rows = empty_count (λ x. x.devices.items) n all are ∙ rows;
  each = λ d x at. none_yet s d x.devices.items (empty_at (λ y. y.devices.items) n all d x are at);
}

-- an entry that came next was taken, and these are the copies before it
pub record HasNext (s : Scenario) (before es : List Entry) (e : Entry) (all : List Copies) : Type 0 where
  pub copied : AreCopied s before all
  pub fits : Fits s before e
  pub is : es ≡ before ++ e ∷ []

pub has_next : (old new : FleetModel) (e : Entry) (all : List Copies) (fits : Bool)
    → AreCopied old.scenario old.entries all → Replays old new e fits → fits ≡ true
    → HasNext new.scenario old.entries new.entries e all
has_next old new e all fits copied replays so =
    let more : Continues old new e = subst (Replays old new e) so replays in
    record {
      copied = subst (λ s. AreCopied s old.entries all) (sym more.scenario) copied;
      fits = subst (λ s. Fits s old.entries e) (sym more.scenario) more.fits;
      is = more.entries;
    }

pub next_row : (s : Scenario) (before es : List Entry) (e : Entry) (all : List Copies) → HasNext s before es e all
    → e.device < length all
next_row s before es e all next =
    let row = row_below s e.device e.step next.fits.step next.fits.stands in omega (arith, row, next.copied.rows)

own_made : (s : Scenario) (before es : List Entry) (e : Entry) (all : List Copies) → HasNext s before es e all
    → made_by e.device es ≡ e.step + 1
own_made s before es e all next =
    omega (arith, ap (made_by e.device) next.is, made_same e.device before e refl, next.fits.count)

-- the copies of its device before it
own_before : (s : Scenario) (before es : List Entry) (e : Entry) (all : List Copies) (x : Copies)
    → HasNext s before es e all → slice_get all e.device ≡ Some x → HasCopies s e.device e.step x.devices.items
own_before s before es e all x next at =
    subst (λ n. HasCopies s e.device n x.devices.items) (sym next.fits.count) (next.copied.each e.device x at)

else_after : (s : Scenario) (before es : List Entry) (e : Entry) (all : List Copies) (i : ℕ) (x : Copies)
    → HasNext s before es e all → slice_get all i ≡ Some x → (e.device ≡ i → ⊥)
    → HasCopies s i (made_by i es) x.devices.items
else_after s before es e all i x next at other =
    let same : made_by i es ≡ made_by i before = ap (made_by i) next.is ∙ made_other i before e other in
    subst (λ n. HasCopies s i n x.devices.items) (sym same) (next.copied.each i x at)

same_at : (s : Scenario) (before es : List Entry) (e : Entry) (all : List Copies) (i : ℕ) (x : Copies)
    → HasNext s before es e all → (e.step % 64 ≡ 63 → ⊥) → slice_get all i ≡ Some x
    → (e.device ≡ i) ⊎ (e.device ≡ i → ⊥) → HasCopies s i (made_by i es) x.devices.items
same_at s before es e all i x next not_due at (inl same) =
    let own : slice_get all e.device ≡ Some x = ap (slice_get all) same ∙ at in
    subst (λ j. HasCopies s j (made_by j es) x.devices.items) same
    (subst (λ n. HasCopies s e.device n x.devices.items) (sym (own_made s before es e all next))
    (no_copy s e.device e.step x.devices.items (own_before s before es e all x next own) not_due))
same_at s before es e all i x next not_due at (inr other) = else_after s before es e all i x next at other

-- after which its device is not copied
pub same_copies : (s : Scenario) (before es : List Entry) (e : Entry) (all : List Copies)
    → HasNext s before es e all → (e.step % 64 ≡ 63 → ⊥) → AreCopied s es all
same_copies s before es e all next not_due = record {
  rows = next.copied.rows;
  each = λ i x at. same_at s before es e all i x next not_due at (cases_eq e.device i);
}

more_at : (s : Scenario) (before es : List Entry) (e : Entry) (all : List Copies) (x y : Copies) (machine : Device)
    (i : ℕ) (z : Copies) → HasNext s before es e all → e.step % 64 ≡ 63 → slice_get all e.device ≡ Some x
    → ShowsAfter s e.device (made_by e.device es) machine → y.devices.items ≡ x.devices.items ++ machine ∷ []
    → slice_get (set all e.device y) i ≡ Some z → (e.device ≡ i) ⊎ (e.device ≡ i → ⊥)
    → HasCopies s i (made_by i es) z.devices.items
more_at s before es e all x y machine i z next due own shows added at (inl same) =
    let is : y ≡ z = set_gives all e.device y z (ap (slice_get (set all e.device y)) same ∙ at) in
    let made : made_by e.device es ≡ e.step + 1 = own_made s before es e all next in
    subst (λ j. HasCopies s j (made_by j es) z.devices.items) same
    (subst (λ w. HasCopies s e.device (made_by e.device es) w.devices.items) is
    (subst (λ n. HasCopies s e.device n y.devices.items) (sym made)
    (one_copy s e.device e.step x.devices.items y.devices.items machine
    (own_before s before es e all x next own) due (subst (λ n. ShowsAfter s e.device n machine) made shows) added)))
more_at s before es e all x y machine i z next due own shows added at (inr other) =
    else_after s before es e all i z next (sym (set_elsewhere all e.device i y other) ∙ at) other

-- after which it is
pub more_copies : (s : Scenario) (before es : List Entry) (e : Entry) (all : List Copies) (row : ℕ) (x y : Copies)
    (machine : Device) → HasNext s before es e all → e.step % 64 ≡ 63 → row ≡ e.device → x ≡ get_or all row x
    → ShowsAfter s e.device (made_by e.device es) machine → y.devices.items ≡ x.devices.items ++ machine ∷ []
    → AreCopied s es (set all row y)
more_copies s before es e all row x y machine next due is read shows added =
    let own : slice_get all e.device ≡ Some x =
    slice_get_read all (length all) e.device x refl (next_row s before es e all next)
    (subst (λ j. x ≡ get_or all j x) is read) in
    subst (λ (j : ℕ). AreCopied s es (set all j y)) (sym is)
    (record {
      rows = length-set all e.device y ∙ next.copied.rows;
      each = λ i z at. more_at s before es e all x y machine i z next due own shows added at (cases_eq e.device i);
    })

-- ---- entry by entry

-- the first entries are a run and were taken, and the devices are copied after them
pub record IsCopying (s : Scenario) (es : List Entry) (n : ℕ) (v : FleetModel) (all : List Copies) : Type 0 where
  pub replayed : IsReplayed s es n v
  pub copied : AreCopied v.scenario v.entries all

pub starts_copying : (s : Scenario) (es : List Entry) (v : FleetModel) (all : List Copies)
    → v ≡ record { scenario = s; entries = []; spent = false } → AreCopied s [] all → IsCopying s es 0 v all
starts_copying s es v all is copied = record {
  replayed = begins s es v is;
  copied = subst (λ w. AreCopied w.scenario w.entries all) (sym is) copied;
}

pub copies_on : (s : Scenario) (es : List Entry) (n : ℕ) (v new : FleetModel) (e : Entry) (was all : List Copies)
    → IsCopying s es n v was → n < length es → e ≡ get_or es n e → Replays v new e true
    → AreCopied new.scenario new.entries all → IsCopying s es (n + 1) new all
copies_on s es n v new e was all so_far within is more copied =
    record { replayed = replays_on s es n v new e so_far.replayed within is more; copied = copied }

-- all entries
pub record IsCopied (s : Scenario) (es : List Entry) (all : List Copies) : Type 0 where
  pub run : IsRun s es
  pub copied : AreCopied s es all

pub copied_run : (s : Scenario) (es : List Entry) (n : ℕ) (v : FleetModel) (all : List Copies)
    → IsCopying s es n v all → length es ≤ n → IsCopied s es all
copied_run s es n v all so_far past =
    let whole : take n es ≡ es = take_all n es past in
    record {
      run = subst (IsRun s) whole so_far.replayed.run;
      copied = subst (λ l. AreCopied s l all) (so_far.replayed.entries ∙ whole)
          (subst (λ t. AreCopied t v.entries all) so_far.replayed.scenario so_far.copied);
    }

-- ---- the copies of a debugger

-- those of a device, along all its entries
pub copies_of : (s : Scenario) (es : List Entry) (d row : ℕ) (all : List Copies) (x : Copies) (copies : List Device)
    → AreCopied s es all → d < length s.rows → row ≡ d → x ≡ get_or all row x → copies ≡ x.devices.items
    → HasCopies s d (made_by d es) copies
copies_of s es d row all x copies are within same read is =
    let there : d < length all = omega (arith, within, are.rows) in
    subst (HasCopies s d (made_by d es)) (sym is)
    (are.each d x (slice_get_read all (length all) d x refl there (subst (λ j. x ≡ get_or all j x) same read)))

-- they go as far as to any number of steps that it has made at a place
pub copies_reach : (s : Scenario) (es : List Entry) (d place count : ℕ) (copies : List Device)
    → HasCopies s d (made_by d es) copies → count ≤ made_by d (take place es) → count / 64 ≤ length copies
copies_reach s es d place count copies has less = omega (arith, has.count, made_before es d place, less)
