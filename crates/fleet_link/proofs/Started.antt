-- Devices at second 0.
use Rattle.std.proofs.Common.{◌≡◌, Bool, true, ℕ, ◌+◌, ◌^◌, ◌<◌, ◌≤◌, ◌⊎◌, inl, inr, List, [], ◌∷◌, ◌++◌, length, None, Some, slice_get, false}
use Rattle.std.proofs.Common.{Option, refl, sym, ap, subst, ◌∙◌, arith, length-append}
use Rattle.std.specs.Option.{MatchOption}
use Rattle.lemmas.proofs.Lists.{pushed_cases, each_at}
use Rattle.device_machine.specs.State.{Device, Shows}
use Rattle.device_template.specs.Template.{Template}
use Rattle.scenario_image.specs.declared.step.Step.{Step}
use Rattle.scenario_image.specs.Play.{start, IsRowOf}
use Rattle.scenario_image.specs.Scenario.{Row, Scenario, IsGoodRow, IsValid}
use Rattle.lemmas.proofs.Lists.{item_at}
use Rattle.fleet_link.specs.declared.row.PlayedRow.{PlayedRow}
use Rattle.fleet_link.specs.declared.row.RowState.{RowState}
use Rattle.fleet_link.specs.declared.row.RowState.TheVariants.{Due, Ended, Waits}
use Rattle.fleet_link.specs.declared.recording.Recording.{Recording}
use Rattle.fleet_link.specs.declared.slot.Slot.{Slot}
use Rattle.fleet_link.specs.Playing.{changes_by, happened_of, is_endless, played_steps, row_state, second_by}
use Rattle.fleet_link.specs.Playing.{second_of_row, AreBy, IsAtSecond, IsTimely, IsUnderWay}
use Rattle.fleet_link.specs.Recorded.{IsRecorded}
use Rattle.fleet_link.specs.Serving.{AreRecorded, AreRepeated, HaveShare, IsDue, IsFleet, IsRowServed, IsServed}
use Rattle.fleet_link.specs.Traffic.{Traffic}
use Rattle.fleet_link.proofs.Recordings.{none_recorded_yet}
use Rattle.fleet_link.proofs.Served.{rests}
use Rattle.fleet_link.proofs.Told.{carries_none}

row_of : (s : Scenario) (d : ℕ) → IsValid s → (row : Row) → slice_get s.rows d ≡ Some row → (class : Template)
    × IsRowOf s d class row.steps
row_of s d valid row at =
    let good : IsGoodRow s.classes row = each_at (IsGoodRow s.classes) s.rows d row valid.each at in
    (good.class, record { place = row.class; row = at; stated = good.stated })

-- a row before its first step
pub record IsBegun (own : List Step) (row : PlayedRow) : Type 0 where
  pub steps : row.steps.items ≡ own
  pub passes : row.passes ≡ 0
  pub place : row.place ≡ 0
  pub second : row.second ≡ Some 0
  pub happened : happened_of row ≡ []

begun_second : (own : List Step) (row : PlayedRow) → IsBegun own row → IsAtSecond row
begun_second own row h =
    subst (λ o. MatchOption o (2 ^ 64 ≤ second_of_row row) (λ d. d ≡ second_of_row row)) (sym h.second)
    (sym (ap (second_by 0) h.happened))

turning_some : (repeated : Bool) (own : List Step) → is_endless repeated own ≡ true → 0 < length own
turning_some true [] h = let e : false ≡ true = h in absurd cc
turning_some false [] h = let e : false ≡ true = h in absurd cc
turning_some repeated (step ∷ own) h = omega arith

begun_under_way : (own : List Step) (row : PlayedRow) → IsBegun own row → IsUnderWay own row
begun_under_way own row h =
    record {
      steps = h.steps;
      turns = 0;
      count = omega (arith, ap length h.happened, h.place);
      passes = omega (arith, h.passes);
      within = omega (arith, h.place);
      once = λ e. refl;
      anew = λ e. let some = turning_some row.repeated own e in omega (arith, some, h.place);
      happened = λ k said step r at.
          let e : None ≡ Some step = ap (λ l. slice_get l k) (sym h.happened) ∙ at in absurd cc;
      second = begun_second own row h;
    }

-- a device of a class at its start, with nothing recorded
pub slot_starts : (class : Template) (own : List Step) (slot : Slot) (told : Option Traffic)
    → Shows slot.device (start class)
    → slot.second ≡ 0 → slot.end ≡ None → IsDue slot.device slot.due → IsRecorded slot.recording []
    → IsBegun own slot.row → IsServed class own told slot false told
slot_starts class own slot told shows second end due recorded row =
    rests class own told slot false told (record {
      steps = [];
      failures = 0;
      told = carries_none told;
      clock = second;
      each = tt;
      changed = sym (ap (changes_by 0) row.happened);
      shows = λ e. shows;
      ended = refl;
      recorded = recorded;
    }) end due (begun_under_way own slot.row row) (record {
      next = begun_second own slot.row row;
      timely = subst (λ n. IsTimely n (row_state slot.row)) (sym second) (from_start (row_state slot.row));
    })
  where
    from_start : (state : RowState) → IsTimely 0 state
    from_start (Due d) = omega arith
    from_start (Waits group count) = tt
    from_start Ended = tt

pub slot_served : (s : Scenario) (played : Bool) (d : ℕ) (device : Device) (slot : Slot) (own : PlayedRow)
    (recording : Recording) → IsValid s
    → d < length s.rows
    → ((class : Template) (steps : List Step) → IsRowOf s d class steps → Shows device (start class))
    → slot.device ≡ device → slot.second ≡ 0 → slot.end ≡ None → IsDue device slot.due
    → slot.row ≡ own → ((class : Template) (steps : List Step) → IsRowOf s d class steps
    → own.steps.items ≡ played_steps played steps) → own.passes ≡ 0 → own.place ≡ 0 → own.second ≡ Some 0
    → happened_of own ≡ [] → slot.recording ≡ recording → recording.steps.items ≡ [] → recording.left ≡ recording.share
    → recording.complete ≡ true → (told : Option Traffic) → IsRowServed s played d told slot false told
slot_served s played d device slot own recording valid within shows is second end due kept_row steps passes place first
    none_yet kept none left complete told =
    let found = item_at s.rows d within in
    let row = row_of s d valid found.0 found.1 in
    record {
      class = row.0;
      steps = found.0.steps;
      row = row.1;
      served = slot_starts row.0 (played_steps played found.0.steps) slot told
          (subst (λ x. Shows x (start row.0)) (sym is) (shows row.0 found.0.steps row.1))
          second end (subst (λ x. IsDue x slot.due) (sym is) due)
          (subst (λ r. IsRecorded r []) (sym kept) (none_recorded_yet recording none left complete))
          (subst (IsBegun (played_steps played found.0.steps)) (sym kept_row) (record {
            steps = steps row.0 found.0.steps row.1;
            passes = passes;
            place = place;
            second = first;
            happened = none_yet;
          }));
    }

-- the devices of the first rows
pub record AreFirst (s : Scenario) (played : Bool) (n : ℕ) (slots : List Slot) : Type 0 where
  pub count : length slots ≡ n
  pub each : (told : Option Traffic) (e : ℕ) (slot : Slot) → slice_get slots e ≡ Some slot
      → IsRowServed s played e told slot false told
  pub early : (e : ℕ) (slot : Slot) → slice_get slots e ≡ Some slot → slot.second ≤ 0
  pub first : (e : ℕ) (slot : Slot) → slice_get slots e ≡ Some slot → happened_of slot.row ≡ []

pub none_first : (s : Scenario) (played : Bool) (slots : List Slot) → slots ≡ [] → AreFirst s played 0 slots
none_first s played slots none =
    subst (AreFirst s played 0) (sym none) (record {
      count = refl;
      each = λ told e slot h. absurd (never e slot h);
      early = λ e slot h. absurd (never e slot h);
      first = λ e slot h. absurd (never e slot h);
    })
  where
    never : (k : ℕ) (x : Slot) → slice_get [] k ≡ Some x → ⊥
    never k x h = let e : None ≡ Some x = h in cc

by_place : (P : ℕ → Slot → Type 0) (n e : ℕ) (slots : List Slot) (x y : Slot) → length slots ≡ n → P n y
    → (slice_get slots e ≡ Some x → P e x) → (slice_get slots e ≡ Some x) ⊎ ((e ≡ length slots) × (y ≡ x)) → P e x
by_place P n e slots x y count here before (inl h) = before h
by_place P n e slots x y count here before (inr h) =
    subst (λ k. P k x) (sym (h.0 ∙ count)) (subst (P n) h.1 here)

pub more_first : (s : Scenario) (played : Bool) (n : ℕ) (slots more : List Slot) (y : Slot) → AreFirst s played n slots
    → more ≡ slots ++ y ∷ [] → ((told : Option Traffic) → IsRowServed s played n told y false told) → y.second ≡ 0
    → happened_of y.row ≡ [] → AreFirst s played (n + 1) more
more_first s played n slots more y h is here second place =
    record {
      count = omega (arith, h.count, ap length is, length-append slots (y ∷ []));
      each = λ told e x at. by_place (λ k z. IsRowServed s played k told z false told) n e slots x y h.count (here told)
          (h.each told e x) (pushed_cases slots y e x (ap (λ l. slice_get l e) (sym is) ∙ at));
      early = λ e x at. by_place (λ k z. z.second ≤ 0) n e slots x y h.count (omega (arith, second)) (h.early e x)
          (pushed_cases slots y e x (ap (λ l. slice_get l e) (sym is) ∙ at));
      first = λ e x at. by_place (λ k z. happened_of z.row ≡ []) n e slots x y h.count place (h.first e x)
          (pushed_cases slots y e x (ap (λ l. slice_get l e) (sym is) ∙ at));
    }

pub all_first : (s : Scenario) (played : Bool) (slots : List Slot) (now : ℕ) (told : ℕ → Option Traffic)
    → AreFirst s played (length s.rows) slots
    → now ≡ 0 → IsFleet s played told slots now false told
all_first s played slots now told h zero =
    record {
      count = h.count;
      each = λ e x at. h.each (told e) e x at;
      early = λ e x at. let k : x.second ≤ 0 = h.early e x at in omega arith;
      made = λ e x at. subst (AreBy now 0) (sym (h.first e x at)) tt;
      met = λ e k group count row x at got l need. absurd (omega (arith, l, ap length (h.first e x got)));
    }

pub none_repeated : (slots : List Slot) (repeated : Bool) → slots ≡ [] → AreRepeated slots repeated
none_repeated slots repeated none e slot h =
    let k : None ≡ Some slot = ap (λ l. slice_get l e) (sym none) ∙ h in absurd cc

pub more_repeated : (slots more : List Slot) (y : Slot) (repeated : Bool) → AreRepeated slots repeated
    → more ≡ slots ++ y ∷ [] → y.row.repeated ≡ repeated → AreRepeated more repeated
more_repeated slots more y repeated h is here e x at =
    by_place (λ k z. z.row.repeated ≡ repeated) (length slots) e slots x y refl here (h e x)
    (pushed_cases slots y e x (ap (λ l. slice_get l e) (sym is) ∙ at))

pub none_recorded : (slots : List Slot) → slots ≡ [] → AreRecorded slots
none_recorded slots none e slot h = let k : None ≡ Some slot = ap (λ l. slice_get l e) (sym none) ∙ h in absurd cc

pub more_recorded : (slots more : List Slot) (y : Slot) → AreRecorded slots → more ≡ slots ++ y ∷ []
    → y.recording.complete ≡ true → AreRecorded more
more_recorded slots more y h is here e x at =
    by_place (λ k z. z.recording.complete ≡ true) (length slots) e slots x y refl here (h e x)
    (pushed_cases slots y e x (ap (λ l. slice_get l e) (sym is) ∙ at))

pub none_shares : (slots : List Slot) (share : ℕ) → slots ≡ [] → HaveShare slots share
none_shares slots share none e slot h =
    let k : None ≡ Some slot = ap (λ l. slice_get l e) (sym none) ∙ h in absurd cc

pub more_shares : (slots more : List Slot) (y : Slot) (share : ℕ) → HaveShare slots share → more ≡ slots ++ y ∷ []
    → y.recording.share ≡ share → HaveShare more share
more_shares slots more y share h is here e x at =
    by_place (λ k z. z.recording.share ≡ share) (length slots) e slots x y refl here (h e x)
    (pushed_cases slots y e x (ap (λ l. slice_get l e) (sym is) ∙ at))
