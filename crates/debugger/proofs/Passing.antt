-- The entries that a move passes, and the devices that it finds by them.
use Rattle.std.proofs.Common.{◌≡◌, ℕ, ◌+◌, ◌*◌, ◌^◌, ◌<◌, ◌≤◌, ◌⊎◌, inl, inr, nat_lt, cond, Bool, true, false}
use Rattle.std.proofs.Common.{List, [], ◌∷◌, ◌++◌, length, take, min, max, None, Some, slice_get, slice_index}
use Rattle.std.proofs.Common.{get_or, refl, sym, ap, subst, ◌∙◌, arith}
use Rattle.std.proofs.lemmas.Bool.{cases_eq, cases_lt, lt-ltb, le-ltb}
use Rattle.std.proofs.lemmas.Option.{slice_get_within}
use Rattle.lemmas.proofs.Lists.{pushed_cases, item_pushed, item_before}
use Rattle.device_machine.specs.State.{Device}
use Rattle.scenario_image.specs.Scenario.{Scenario, IsValid}
use Rattle.trace_file.specs.declared.entry.Entry.{Entry}
use Rattle.fleet_core.specs.Run.{made_by, IsRun}
use Rattle.fleet_core.specs.Board.{ShowsAfter}
use Rattle.debugger.specs.declared.moves.Moved.{Moved}
use Rattle.debugger.specs.Moves.{IsMoved, IsAmong, IsReady, IsSettled, AreMoved, steps_between, steps_over}
use Rattle.device_entries.specs.declared.places.Places.{Places}
use Rattle.device_entries.specs.Places.{HasPlaces, ArePlaced}
use Rattle.debugger.specs.Session.{AreAt, AreCounted}
use Rattle.device_entries.proofs.Counting.{entry_at, entry_row}
use Rattle.device_entries.proofs.Placing.{made_order, places_read, count_within}
use Rattle.debugger.proofs.Replaying.{few_between, none_between}
use Rattle.device_entries.proofs.Runs.{made_own, made_else, step_before}
use Rattle.debugger.proofs.Runs.{has_steps}
use Rattle.debugger.proofs.Totals.{total, total_adds, total_few, total_none, total_same}

-- ---- an entry that is passed

-- an entry from a place on
pub record IsPassed (s : Scenario) (es : List Entry) (first i : ℕ) (e : Entry) : Type 0 where
  pub run : IsRun s es
  pub stands : slice_get es i ≡ Some e
  pub low : first ≤ i

pub passed_row : (s : Scenario) (es : List Entry) (first i : ℕ) (e : Entry) → IsPassed s es first i e
    → e.device < length s.rows
passed_row s es first i e passed = entry_row s es i e passed.run passed.stands

pub step_within : (s : Scenario) (es : List Entry) (first i : ℕ) (e : Entry) (indexes : List ℕ)
    → IsPassed s es first i e → HasPlaces es (length es) e.device indexes → e.step ≤ length indexes
step_within s es first i e indexes passed has =
    let within : i < length es = slice_get_within es i e passed.stands in
    count_within es i e.device e.step indexes has (omega (arith, within))
    (step_before s es e.device i e passed.run passed.stands refl)

-- after another one of its device
pub earlier_yes : (s : Scenario) (es : List Entry) (first i : ℕ) (e : Entry) → IsPassed s es first i e
    → made_by e.device (take first es) < e.step → made_by e.device (take first es) < made_by e.device (take i es)
earlier_yes s es first i e passed fewer =
    omega (arith, fewer, step_before s es e.device i e passed.run passed.stands refl)

first_of : (s : Scenario) (es : List Entry) (first i : ℕ) (e : Entry)
    → (made_by e.device (take first es) < e.step → ⊥)
    → (made_by e.device (take first es) < e.step) ⊎ (e.step ≤ made_by e.device (take first es))
    → e.step ≤ made_by e.device (take first es)
first_of s es first i e none (inr more) = more
first_of s es first i e none (inl less) = absurd (none less)

-- or the first one of its device
pub earlier_no : (s : Scenario) (es : List Entry) (first i : ℕ) (e : Entry) → IsPassed s es first i e
    → (made_by e.device (take first es) < e.step → ⊥)
    → made_by e.device (take i es) ≡ made_by e.device (take first es)
earlier_no s es first i e passed none =
    let more = first_of s es first i e none (cases_lt (made_by e.device (take first es)) e.step) in
    let order = made_order es e.device first i passed.low in
    omega (arith, more, order, step_before s es e.device i e passed.run passed.stands refl)

-- ---- the devices that are found

-- each of these is ready, and each device with an entry from the first place to this one is one of them
pub record AreFound (s : Scenario) (es : List Entry) (to first i : ℕ) (moved : List Moved) : Type 0 where
  pub each : (k : ℕ) (m : Moved) → slice_get moved k ≡ Some m → IsReady s (take to es) m
  pub all : (d : ℕ) → made_by d (take first es) < made_by d (take i es) → IsAmong moved d

pub none_found : (s : Scenario) (es : List Entry) (to first : ℕ) (moved : List Moved) → moved ≡ []
    → AreFound s es to first first moved
none_found s es to first moved none = record {
  each = λ k m h. let e : None ≡ Some m = ap (λ l. slice_get l k) (sym none) ∙ h in absurd cc;
  all = λ d less. absurd (omega (arith, less));
}

less_before : (s : Scenario) (es : List Entry) (first i d : ℕ) (e : Entry) → IsPassed s es first i e
    → made_by e.device (take first es) < made_by e.device (take i es)
    → made_by d (take first es) < made_by d (take (i + 1) es) → (e.device ≡ d) ⊎ (e.device ≡ d → ⊥)
    → made_by d (take first es) < made_by d (take i es)
less_before s es first i d e passed before less (inl own) =
    subst (λ j. made_by j (take first es) < made_by j (take i es)) own before
less_before s es first i d e passed before less (inr other) =
    subst (λ k. made_by d (take first es) < k) (made_else es d i e passed.stands other) less

-- an entry that is not the first of its device
pub found_same : (s : Scenario) (es : List Entry) (to first i : ℕ) (e : Entry) (moved : List Moved)
    → AreFound s es to first i moved → IsPassed s es first i e
    → made_by e.device (take first es) < made_by e.device (take i es) → AreFound s es to first (i + 1) moved
found_same s es to first i e moved found passed before = record {
  each = found.each;
  all = λ d less. found.all d (less_before s es first i d e passed before less (cases_eq e.device d));
}

ready_is : (s : Scenario) (es : List Entry) (d count steps : ℕ) (m : Moved) → IsMoved s d count steps m
    → d < length s.rows → count ≡ made_by d es → IsReady s es m
ready_is s es d count steps m is row made = record {
  row = subst (λ j. j < length s.rows) (sym is.device) row;
  made = is.made ∙ made ∙ ap (λ j. made_by j es) (sym is.device);
  shows = subst (λ j. ShowsAfter s j (made_by j es) m.machine) (sym is.device)
      (subst (λ k. ShowsAfter s d k m.machine) made is.shows);
}

each_more : (s : Scenario) (es : List Entry) (moved : List Moved) (y m : Moved) (k : ℕ)
    → ((j : ℕ) (o : Moved) → slice_get moved j ≡ Some o → IsReady s es o) → IsReady s es y
    → (slice_get moved k ≡ Some m) ⊎ ((k ≡ length moved) × (y ≡ m)) → IsReady s es m
each_more s es moved y m k before here (inl h) = before k m h
each_more s es moved y m k before here (inr h) = subst (IsReady s es) h.1 here

among_more : (s : Scenario) (es : List Entry) (to first i d : ℕ) (e : Entry) (moved : List Moved) (y : Moved)
    → AreFound s es to first i moved → slice_get es i ≡ Some e → y.device ≡ e.device
    → made_by d (take first es) < made_by d (take (i + 1) es) → (e.device ≡ d) ⊎ (e.device ≡ d → ⊥)
    → IsAmong (moved ++ y ∷ []) d
among_more s es to first i d e moved y found at is less (inl own) =
    record { index = length moved; one = y; stands = item_pushed moved y; own = is ∙ own }
among_more s es to first i d e moved y found at is less (inr other) =
    let old = found.all d (subst (λ k. made_by d (take first es) < k) (made_else es d i e at other) less) in
    record {
      index = old.index;
      one = old.one;
      stands = item_before moved y old.index old.one old.stands;
      own = old.own;
    }

-- the first one of its device
pub found_more : (s : Scenario) (es : List Entry) (to first i count steps : ℕ) (e : Entry) (moved more : List Moved)
    (y : Moved) → AreFound s es to first i moved → IsPassed s es first i e → IsMoved s e.device count steps y
    → count ≡ made_by e.device (take to es) → more ≡ moved ++ y ∷ [] → AreFound s es to first (i + 1) more
found_more s es to first i count steps e moved more y found passed is made added =
    subst (AreFound s es to first (i + 1)) (sym added) (record {
      each = λ k m h. each_more s (take to es) moved y m k found.each
          (ready_is s (take to es) e.device count steps y is (passed_row s es first i e passed) made)
          (pushed_cases moved y k m h);
      all = λ d less. among_more s es to first i d e moved y found passed.stands is.device less (cases_eq e.device d);
    })

-- ---- between two places

-- the two places are from the one to the other
pub record AreWithin (first last from to : ℕ) : Type 0 where
  pub from_low : first ≤ from
  pub to_low : first ≤ to
  pub from_high : from ≤ last
  pub to_high : to ≤ last

pub within_is : (first last from to : ℕ) → first ≡ min from to → last ≡ max from to → AreWithin first last from to
within_is first last from to low high = record {
  from_low = omega (arith, low);
  to_low = omega (arith, low);
  from_high = omega (arith, high);
  to_high = omega (arith, high);
}

-- a device without an entry from the one to the other has as many before both
same_made : (es : List Entry) (d first last from to : ℕ) → AreWithin first last from to
    → made_by d (take last es) ≤ made_by d (take first es) → made_by d (take from es) ≡ made_by d (take to es)
same_made es d first last from to are none =
    let a = made_order es d first from are.from_low in
    let b = made_order es d first to are.to_low in
    let c = made_order es d from last are.from_high in
    let f = made_order es d to last are.to_high in
    omega (arith, none, a, b, c, f)

rest_of : (s : Scenario) (es : List Entry) (first last from to d : ℕ) (made : List ℕ) (moved : List Moved)
    (x : Device) → AreFound s es to first last moved → AreWithin first last from to
    → slice_index made d ≡ made_by d (take from es) → ShowsAfter s d (slice_index made d) x
    → (made_by d (take first es) < made_by d (take last es)) ⊎ (made_by d (take last es) ≤ made_by d (take first es))
    → IsSettled s (take to es) made d x ⊎ IsAmong moved d
rest_of s es first last from to d made moved x found are count shows (inl some) = inr (found.all d some)
rest_of s es first last from to d made moved x found are count shows (inr none) =
    let same : slice_index made d ≡ made_by d (take to es) =
    count ∙ same_made es d first last from to are none in
    inl (record { count = same; shows = subst (λ k. ShowsAfter s d k x) same shows })

-- all that are passed
pub moved_all : (s : Scenario) (es : List Entry) (first last i from to : ℕ) (made : List ℕ) (devices : List Device)
    (moved : List Moved) → AreFound s es to first i moved → i ≡ last → AreWithin first last from to
    → AreAt s made devices → AreCounted s (take from es) made → length devices ≡ length s.rows
    → AreMoved s (take to es) made devices moved
moved_all s es first last i from to made devices moved found end are at counted count =
    let all : AreFound s es to first last moved = subst (λ j. AreFound s es to first j moved) end found in
    record {
      counts = counted.rows;
      count = count;
      each = all.each;
      rest = λ d x h.
          let within : d < length s.rows = omega (arith, slice_get_within devices d x h, count) in
          rest_of s es first last from to d made moved x all are (counted.is d within) (at.each d x h)
          (cases_lt (made_by d (take first es)) (made_by d (take last es)));
    }

-- ---- the events that they take

-- how many a device takes, if it has an entry from the first place to this one
abbrev pub step_by : Scenario → List Entry → ℕ → ℕ → ℕ → ℕ → ℕ → ℕ
step_by s es from to first i d =
    cond (nat_lt (made_by d (take first es)) (made_by d (take i es)))
    (steps_between s d (made_by d (take from es)) (made_by d (take to es))) 0

-- how many all such devices take
abbrev pub steps_by : Scenario → List Entry → ℕ → ℕ → ℕ → ℕ → ℕ
steps_by s es from to first i = total (step_by s es from to first i) (length s.rows)

step_none : (a b w : ℕ) → b ≤ a → cond (nat_lt a b) w 0 ≡ 0
step_none a b w less = ap (λ t. cond t w 0) (le-ltb a b less)

step_some : (a b w : ℕ) → a < b → cond (nat_lt a b) w 0 ≡ w
step_some a b w less = ap (λ t. cond t w 0) (lt-ltb a b less)

pub steps_none : (s : Scenario) (es : List Entry) (from to first : ℕ) → 0 ≡ steps_by s es from to first first
steps_none s es from to first =
    sym (total_none (step_by s es from to first first) (length s.rows)
    (λ d less. step_none (made_by d (take first es)) (made_by d (take first es))
    (steps_between s d (made_by d (take from es)) (made_by d (take to es))) (omega arith)))

step_else : (s : Scenario) (es : List Entry) (from to first i d : ℕ) (e : Entry) → IsPassed s es first i e
    → (e.device ≡ d → ⊥) → step_by s es from to first (i + 1) d ≡ step_by s es from to first i d
step_else s es from to first i d e passed other =
    ap (λ k. cond (nat_lt (made_by d (take first es)) k)
    (steps_between s d (made_by d (take from es)) (made_by d (take to es))) 0)
    (made_else es d i e passed.stands other)

step_still : (s : Scenario) (es : List Entry) (from to first i d : ℕ) (e : Entry) → IsPassed s es first i e
    → made_by e.device (take first es) < made_by e.device (take i es) → (e.device ≡ d) ⊎ (e.device ≡ d → ⊥)
    → step_by s es from to first i d ≡ step_by s es from to first (i + 1) d
step_still s es from to first i d e passed before (inl own) =
    let less : made_by d (take first es) < made_by d (take i es) =
    subst (λ j. made_by j (take first es) < made_by j (take i es)) own before in
    let next : made_by d (take first es) < made_by d (take (i + 1) es) =
    omega (arith, less, made_own es d i e passed.stands own) in
    let w = steps_between s d (made_by d (take from es)) (made_by d (take to es)) in
    step_some (made_by d (take first es)) (made_by d (take i es)) w less
    ∙ sym (step_some (made_by d (take first es)) (made_by d (take (i + 1) es)) w next)
step_still s es from to first i d e passed before (inr other) =
    sym (step_else s es from to first i d e passed other)

-- an entry that is not the first of its device
pub steps_still : (s : Scenario) (es : List Entry) (from to first i steps : ℕ) (e : Entry) → IsPassed s es first i e
    → made_by e.device (take first es) < made_by e.device (take i es) → steps ≡ steps_by s es from to first i
    → steps ≡ steps_by s es from to first (i + 1)
steps_still s es from to first i steps e passed before is =
    is ∙ total_same (step_by s es from to first i) (step_by s es from to first (i + 1)) (length s.rows)
    (λ d less. step_still s es from to first i d e passed before (cases_eq e.device d))

after_none : (g f w : ℕ) → f ≡ 0 → g ≡ w → g ≡ f + w
after_none g f w none is = omega (arith, none, is)

step_first : (s : Scenario) (es : List Entry) (from to first i d : ℕ) (e : Entry) → IsPassed s es first i e
    → e.device ≡ d → made_by d (take i es) ≡ made_by d (take first es)
    → step_by s es from to first (i + 1) d
    ≡ step_by s es from to first i d + steps_between s d (made_by d (take from es)) (made_by d (take to es))
step_first s es from to first i d e passed own none =
    after_none (step_by s es from to first (i + 1) d) (step_by s es from to first i d)
    (steps_between s d (made_by d (take from es)) (made_by d (take to es)))
    (step_none (made_by d (take first es)) (made_by d (take i es))
    (steps_between s d (made_by d (take from es)) (made_by d (take to es))) (omega (arith, none)))
    (step_some (made_by d (take first es)) (made_by d (take (i + 1) es))
    (steps_between s d (made_by d (take from es)) (made_by d (take to es)))
    (omega (arith, none, made_own es d i e passed.stands own)))

sum_up : (steps own w f g : ℕ) → steps ≡ f → own ≡ w → g ≡ f + w → steps + own ≡ g
sum_up steps own w f g is took adds = omega (arith, is, took, adds)

-- the first one of its device
pub steps_next : (s : Scenario) (es : List Entry) (from to first i steps own a b : ℕ) (e : Entry)
    → IsPassed s es first i e → made_by e.device (take i es) ≡ made_by e.device (take first es)
    → steps ≡ steps_by s es from to first i → own ≡ steps_between s e.device a b
    → a ≡ made_by e.device (take from es) → b ≡ made_by e.device (take to es)
    → steps + own ≡ steps_by s es from to first (i + 1)
steps_next s es from to first i steps own a b e passed none is took from_is to_is =
    sum_up steps own (steps_between s e.device (made_by e.device (take from es)) (made_by e.device (take to es)))
    (steps_by s es from to first i) (steps_by s es from to first (i + 1)) is
    (took ∙ (ap (λ k. steps_between s e.device k b) from_is
    ∙ ap (steps_between s e.device (made_by e.device (take from es))) to_is))
    (total_adds (step_by s es from to first i) (step_by s es from to first (i + 1))
    (steps_between s e.device (made_by e.device (take from es)) (made_by e.device (take to es))) (length s.rows)
    e.device (passed_row s es first i e passed) (step_first s es from to first i e.device e passed refl none)
    (λ d other. step_else s es from to first i d e passed other))

step_all : (s : Scenario) (es : List Entry) (first last from to d : ℕ) → AreWithin first last from to
    → (made_by d (take first es) < made_by d (take last es)) ⊎ (made_by d (take last es) ≤ made_by d (take first es))
    → step_by s es from to first last d ≡ steps_between s d (made_by d (take from es)) (made_by d (take to es))
step_all s es first last from to d are (inl some) =
    step_some (made_by d (take first es)) (made_by d (take last es))
    (steps_between s d (made_by d (take from es)) (made_by d (take to es))) some
step_all s es first last from to d are (inr none) =
    step_none (made_by d (take first es)) (made_by d (take last es))
    (steps_between s d (made_by d (take from es)) (made_by d (take to es))) none
    ∙ sym (none_between s d (made_by d (take from es)) (made_by d (take to es))
    (same_made es d first last from to are none))

-- all that are passed
pub steps_all : (s : Scenario) (es : List Entry) (first last i from to steps : ℕ)
    → steps ≡ steps_by s es from to first i → i ≡ last → AreWithin first last from to
    → steps ≡ steps_over s es from to
steps_all s es first last i from to steps is end are =
    is ∙ (ap (steps_by s es from to first) end
    ∙ total_same (step_by s es from to first last)
    (λ d. steps_between s d (made_by d (take from es)) (made_by d (take to es))) (length s.rows)
    (λ d less. step_all s es first last from to d are
    (cases_lt (made_by d (take first es)) (made_by d (take last es)))))

few_by : (b : Bool) (w : ℕ) → w ≤ 4096 → cond b w 0 ≤ 4096
few_by true w few = few
few_by false w few = omega arith

-- a row has at most 4,096 steps
pub steps_few : (s : Scenario) (es : List Entry) (from to first i : ℕ) → IsValid s → IsRun s es
    → steps_by s es from to first i ≤ 4096 * length s.rows
steps_few s es from to first i valid run =
    total_few (step_by s es from to first i) (length s.rows)
    (λ d less. few_by (nat_lt (made_by d (take first es)) (made_by d (take i es)))
    (steps_between s d (made_by d (take from es)) (made_by d (take to es)))
    (few_between s d (made_by d (take from es)) (made_by d (take to es)) valid (has_steps s es d to run)))

-- ---- what is read for the move of one device

pub passed_is : (s : Scenario) (es : List Entry) (first last i from to : ℕ) (e : Entry) → IsRun s es
    → last ≡ max from to → from ≤ length es → to ≤ length es → first ≤ i → i < last → e ≡ get_or es i e
    → IsPassed s es first i e
passed_is s es first last i from to e run high from_in to_in low less read = record {
  run = run;
  stands = entry_at es i e (omega (arith, high, from_in, to_in, less)) read;
  low = low;
}

pub places_of : (s : Scenario) (es : List Entry) (first i row : ℕ) (e : Entry) (places : List Places) (x : Places)
    (indexes : List ℕ) → IsPassed s es first i e → ArePlaced es (length es) places → length places ≡ length s.rows
    → row ≡ e.device → x ≡ get_or places row x → indexes ≡ x.indexes.items
    → HasPlaces es (length es) e.device indexes
places_of s es first i row e places x indexes passed placed listed same read is =
    places_read es (length es) e.device row places x indexes placed
    (omega (arith, passed_row s es first i e passed, listed)) same read is

-- its count at the place where it is
pub count_of : (s : Scenario) (es : List Entry) (from first i row : ℕ) (e : Entry) (made : List ℕ)
    → IsPassed s es first i e → AreCounted s (take from es) made → row ≡ e.device
    → slice_index made row ≡ made_by e.device (take from es)
count_of s es from first i row e made passed counted same =
    ap (slice_index made) same ∙ counted.is e.device (passed_row s es first i e passed)

-- a place of a row in a list with one for each
pub row_in : {X : Type 0} (s : Scenario) (es : List Entry) (first i row : ℕ) (e : Entry) (xs : List X)
    → IsPassed s es first i e → row ≡ e.device → length xs ≡ length s.rows → row < length xs
row_in s es first i row e xs passed same count =
    omega (arith, passed_row s es first i e passed, same, count)

-- where the entries end
pub at_end : (first last i from to : ℕ) → first ≡ min from to → last ≡ max from to → last ≤ i
    → (first ≤ last → i ≤ last) → i ≡ last
at_end first last i from to low high past within =
    let less : i ≤ last = within (omega (arith, low, high)) in omega (arith, less, past)

pub sum_fits : (sum all rows : ℕ) → sum ≡ all → all ≤ 4096 * rows → rows ≤ 65536 → sum < 2 ^ 64
sum_fits sum all rows is few most = omega (arith, is, few, most)
