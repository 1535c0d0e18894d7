-- The latest step of a device, and the device right before it.
use Rattle.std.proofs.Common.{◌≡◌, ℕ, zero, suc, ◌-◌, ◌/◌, ◌<◌, ◌≤◌, List, length, take, Option, None, Some, slice_get, refl, sym}
use Rattle.std.proofs.Common.{get_or, subst, ◌∙◌, arith}
use Rattle.std.specs.Prelude.{IsSome}
use Rattle.std.proofs.lemmas.Bool.{false≢true}
use Rattle.std.proofs.lemmas.Option.{get_or_from_slice_get, slice_get_read, slice_get_within}
use Rattle.device_machine.specs.State.{Device}
use Rattle.scenario_image.specs.Scenario.{Scenario, IsValid}
use Rattle.trace_file.specs.declared.entry.Entry.{Entry}
use Rattle.fleet_core.specs.Run.{made_by, step_at}
use Rattle.fleet_core.specs.Board.{ShowsAfter}
use Rattle.fleet_core.proofs.Taken.{row_below}
use Rattle.debugger.specs.declared.copies.Copies.{Copies}
use Rattle.debugger.specs.Copies.{HasCopies}
use Rattle.debugger.specs.Moves.{HasSteps}
use Rattle.debugger.specs.Session.{AreCounted, Fields, Session}
use Rattle.debugger.specs.Shown.{ShowsState, before_shown, latest_step, state_before, state_of, step_shown}
use Rattle.debugger.proofs.Copying.{copies_of, copies_reach}
use Rattle.debugger.proofs.Keeping.{IsInside}
use Rattle.debugger.proofs.Rows.{shows_state}
use Rattle.debugger.proofs.Runs.{has_steps}

-- ---- the latest step

-- the count of a device's entries
made_here : (s : Scenario) (es : List Entry) (place d m : ℕ) (made : List ℕ) → AreCounted s (take place es) made
    → slice_get made d ≡ Some m → m ≡ made_by d (take place es)
made_here s es place d m made counted at =
    let within : d < length s.rows = omega (arith, slice_get_within made d m at, counted.rows) in
    sym (get_or_from_slice_get made d m 0 at) ∙ counted.is d within

-- a device has no more entries than its row has steps
pub made_steps : {v : Session} {s : Scenario} {es : List Entry} {f : Fields} {replayed : ℕ} (d m : ℕ)
    → IsInside v s es f replayed → slice_get f.made d ≡ Some m → HasSteps s d m
made_steps {s = s} {es = es} {f = f} d m inside at =
    subst (HasSteps s d) (sym (made_here s es f.place d m f.made inside.kept.counted at))
    (has_steps s es d f.place inside.kept.run)

-- ---- the device before it

some_of : {X : Type 0} (o : Option X) → IsSome o → (x : X) × (o ≡ Some x)
some_of None h = absurd (false≢true h)
some_of (Some x) h = (x, refl)

-- a device that has made a step has a row
record HasMade (s : Scenario) (d k : ℕ) : Type 0 where
  pub before : ℕ
  pub is : k ≡ suc before
  pub row : d < length s.rows

has_made : (s : Scenario) (d k : ℕ) → IsSome (latest_step s d k) → HasMade s d k
has_made s d zero h = absurd (false≢true h)
has_made s d (suc k) h =
    let step = some_of (step_at s d k) h in
    record { before = k; is = refl; row = row_below s d k step.0 step.1 }

made_some : {v : Session} {s : Scenario} {es : List Entry} {f : Fields} {replayed : ℕ} (d : ℕ)
    → IsInside v s es f replayed → IsSome (step_shown v.scenario v.entries v.place d)
    → HasMade s d (made_by d (take f.place es))
made_some {s = s} {es = es} {f = f} d inside some =
    has_made s d (made_by d (take f.place es))
    (subst (λ w. IsSome (step_shown w.scenario w.entries w.place d)) (sym inside.view) some)

-- what was read of a list at the device
read_at : {X : Type 0} (xs : List X) (i d : ℕ) (x : X) → i ≡ d → d < length xs → x ≡ get_or xs i x
    → slice_get xs d ≡ Some x
read_at xs i d x same within read =
    slice_get_read xs (length xs) d x refl within (subst (λ j. x ≡ get_or xs j x) same read)

counted_read : {v : Session} {s : Scenario} {es : List Entry} {f : Fields} {replayed : ℕ} (d i m : ℕ)
    → IsInside v s es f replayed → d < length s.rows → i ≡ d → m ≡ get_or f.made i m
    → m ≡ made_by d (take f.place es)
counted_read {s = s} {es = es} {f = f} d i m inside row same read =
    let within : d < length f.made = omega (arith, row, inside.kept.counted.rows) in
    made_here s es f.place d m f.made inside.kept.counted (read_at f.made i d m same within read)

-- the copies of the device, along all its entries
pub copies_read : {v : Session} {s : Scenario} {es : List Entry} {f : Fields} {replayed : ℕ} (d j : ℕ) (x : Copies)
    (slice : List Device) → IsInside v s es f replayed → IsSome (step_shown v.scenario v.entries v.place d) → j ≡ d
    → x ≡ get_or f.copies j x → slice ≡ x.devices.items → HasCopies s d (made_by d es) slice
copies_read {s = s} {es = es} {f = f} d j x slice inside some here kept is =
    copies_of s es d j f.copies x slice inside.kept.copied (made_some d inside some).row here kept is

-- they go as far as to the step
pub enough_read : {v : Session} {s : Scenario} {es : List Entry} {f : Fields} {replayed : ℕ} (d i m : ℕ)
    (slice : List Device) → IsInside v s es f replayed → IsSome (step_shown v.scenario v.entries v.place d) → i ≡ d
    → m ≡ get_or f.made i m → HasCopies s d (made_by d es) slice → (m - 1) / 64 ≤ length slice
enough_read {s = s} {es = es} {f = f} d i m slice inside some same read has =
    let count = counted_read d i m inside (made_some d inside some).row same read in
    copies_reach s es d f.place (m - 1) slice has (omega (arith, count))

state_at_step : (s : Scenario) (d k j : ℕ) (x : Device) → k ≡ suc j → ShowsState (state_of s d j) x
    → ShowsState (state_before s d k) x
state_at_step s d k j x same h = subst (λ n. ShowsState (state_before s d n) x) (sym same) h

pub before_read : {v : Session} {s : Scenario} {es : List Entry} {f : Fields} {replayed : ℕ} (d i m : ℕ) (x : Device)
    → IsInside v s es f replayed → IsValid s → IsSome (step_shown v.scenario v.entries v.place d) → i ≡ d
    → m ≡ get_or f.made i m → ShowsAfter s d (m - 1) x
    → ShowsState (before_shown v.scenario v.entries v.place d) x
before_read {s = s} {es = es} {f = f} d i m x inside valid some same read shows =
    let has = made_some d inside some in
    let count = counted_read d i m inside has.row same read in
    let step : m - 1 ≡ has.before = omega (arith, count, has.is) in
    subst (λ w. ShowsState (before_shown w.scenario w.entries w.place d) x) inside.view
    (state_at_step s d (made_by d (take f.place es)) has.before x has.is
    (shows_state s d has.before x valid has.row (subst (λ n. ShowsAfter s d n x) step shows)))
