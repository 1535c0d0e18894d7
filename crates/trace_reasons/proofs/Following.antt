-- Devices that make their steps beside the entries of a run.
use Rattle.std.proofs.Common.{◌≡◌, ℕ, ◌+◌, ◌<◌, ◌⊎◌, inl, inr, true, false, List, [], ◌∷◌, ◌++◌, length}
use Rattle.std.proofs.Common.{take, get_or, Option, Some, IsSome, slice_get, slice_set, sym, refl, ap, subst, ◌∙◌}
use Rattle.std.proofs.Common.{arith, add-one}
use Rattle.std.proofs.lemmas.Bool.{cases_eq}
use Rattle.std.proofs.lemmas.List.{length-set}
use Rattle.std.proofs.lemmas.Option.{slice_get_read}
use Rattle.lemmas.proofs.Lists.{take_one_more, set_elsewhere, set_gives}
use Rattle.lemmas.proofs.Tests.{or_second}
use Rattle.device_machine.specs.Reactions.{passes_end}
use Rattle.device_machine.specs.declared.event.Event.TheVariants.{Tick}
use Rattle.device_machine.specs.State.{Device, Machine, Shows}
use Rattle.notification_reasons.specs.declared.reasons.Happening.{Happening}
use Rattle.scenario_image.specs.declared.step.Step.{Step}
use Rattle.scenario_image.specs.Play.{is_step_refused, state_at}
use Rattle.scenario_image.specs.declared.step.Step.TheVariants.{Event}
use Rattle.scenario_image.specs.Scenario.{IsValid, Scenario}
use Rattle.trace_file.specs.declared.entry.Entry.{Entry}
use Rattle.fleet_core.specs.Board.{AreStarted, ShowsAfter}
use Rattle.fleet_core.specs.Run.{Fits, IsRun, made_by, step_at}
use Rattle.fleet_core.proofs.Posts.{made_other, made_same}
use Rattle.fleet_core.proofs.Taken.{row_below, shows_first}
use Rattle.fleet_core.proofs.Valid.{IsStep, step_is}
use Rattle.trace_text.specs.Selection.{is_wanted}
use Rattle.trace_text.proofs.Shown.{follows}
use Rattle.trace_reasons.specs.Beside.{AreBeside}
use Rattle.trace_reasons.specs.Text.{AreReasonLines, AreReasonsAt, AreHappeningsOf}

-- ---- a tick that a device does not refuse

pub tick_goes : (x : Device) (f : Machine) (seconds : ℕ) → is_step_refused x (Event (Tick seconds)) ≡ false → Shows x f
    → passes_end f.kept.clock (Tick seconds) ≡ false
tick_goes x f seconds taken shows =
    ap (λ k. passes_end k.clock (Tick seconds)) (sym shows.kept)
    ∙ or_second x.spent (passes_end x.flat.kept.clock (Tick seconds)) taken

-- ---- an entry of a run

-- before the first entry
pub none_made : (s : Scenario) (wanted : Option ℕ) (devices : List Device) → length devices ≡ length s.rows
    → AreStarted s devices → AreBeside s wanted [] devices
none_made s wanted devices count started =
    record { count = count; each = λ d x is at. shows_first s devices d x started at }

-- an entry, with the devices beside those before it
pub record IsNext (s : Scenario) (wanted : Option ℕ) (es : List Entry) (i : ℕ) (e : Entry)
    (devices : List Device) : Type 0 where
  pub at : slice_get es i ≡ Some e
  pub fits : Fits s (take i es) e
  pub beside : AreBeside s wanted (take i es) devices

pub next_at : (s : Scenario) (wanted : Option ℕ) (es : List Entry) (i : ℕ) (e : Entry) (devices : List Device)
    → IsRun s es → i < length es → e ≡ get_or es i e → AreBeside s wanted (take i es) devices
    → IsNext s wanted es i e devices
next_at s wanted es i e devices run within read beside =
    let at : slice_get es i ≡ Some e = slice_get_read es (length es) i e refl within read in
    record { at = at; fits = follows s es i e run at; beside = beside }

-- its device has a row, and a step there
pub has_row : (s : Scenario) (wanted : Option ℕ) (es : List Entry) (i : ℕ) (e : Entry) (devices : List Device)
    → IsNext s wanted es i e devices → e.device < length devices
has_row s wanted es i e devices next =
    let below = row_below s e.device e.step next.fits.step next.fits.stands in
    omega (arith, below, next.beside.count)

pub has_step : (s : Scenario) (wanted : Option ℕ) (es : List Entry) (i : ℕ) (e : Entry) (devices : List Device)
    → IsNext s wanted es i e devices → IsSome (step_at s e.device e.step)
has_step s wanted es i e devices next = rw next.fits.stands refl

-- the device that is asked for shows the state before it
pub shows_here : (s : Scenario) (wanted : Option ℕ) (es : List Entry) (i : ℕ) (e : Entry) (devices : List Device)
    (d : ℕ) (x : Device) → IsNext s wanted es i e devices → is_wanted wanted e.device ≡ true → d ≡ e.device
    → x ≡ get_or devices d x → ShowsAfter s e.device e.step x
shows_here s wanted es i e devices d x next is own read =
    let here : x ≡ get_or devices e.device x = read ∙ ap (λ j. get_or devices j x) own in
    let at : slice_get devices e.device ≡ Some x =
    slice_get_read devices (length devices) e.device x refl (has_row s wanted es i e devices next) here in
    subst (λ k. ShowsAfter s e.device k x) (sym next.fits.count) (next.beside.each e.device x is at)

-- the reasons of a step, where a device shows the state right before it
pub reasons_at : (s : Scenario) (d k : ℕ) (step : Step) (x : Device) (lines : List ℕ) (happenings : List Happening)
    → IsValid s → step_at s d k ≡ Some step → ShowsAfter s d k x
    → ((f : Machine) → Shows x f → AreReasonLines f step lines)
    → ((f : Machine) → Shows x f → AreHappeningsOf f step happenings)
    → AreReasonsAt s d k lines happenings
reasons_at s d k step x lines happenings valid at shows why sent =
    let is : IsStep s d k step = step_is s d k step valid at in
    record {
      class = is.class;
      steps = is.steps;
      row = is.row;
      step = step;
      stands = is.stands;
      why = why (state_at is.class is.steps k) (shows is.class is.steps is.row);
      sent = sent (state_at is.class is.steps k) (shows is.class is.steps is.row);
    }

-- ---- with one entry more

still : (s : Scenario) (before : List Entry) (e : Entry) (j : ℕ) (x : Device) → (e.device ≡ j → ⊥)
    → ShowsAfter s j (made_by j before) x → ShowsAfter s j (made_by j (before ++ e ∷ [])) x
still s before e j x other shows = subst (λ k. ShowsAfter s j k x) (sym (made_other j before e other)) shows

then_shows : (s : Scenario) (wanted : Option ℕ) (before : List Entry) (e : Entry) (devices : List Device) (y : Device)
    → AreBeside s wanted before devices → e.step ≡ made_by e.device before → ShowsAfter s e.device (e.step + 1) y
    → (j : ℕ) (x : Device) → is_wanted wanted j ≡ true → slice_get (slice_set devices e.device y) j ≡ Some x
    → (e.device ≡ j) ⊎ (e.device ≡ j → ⊥) → ShowsAfter s j (made_by j (before ++ e ∷ [])) x
then_shows s wanted before e devices y beside count shows j x is got (inl own) =
    let same : y ≡ x =
    set_gives devices e.device y x (subst (λ k. slice_get (slice_set devices e.device y) k ≡ Some x) (sym own) got) in
    let more : e.step + 1 ≡ made_by e.device (before ++ e ∷ []) =
    ap (λ k. k + 1) count ∙ add-one (made_by e.device before) ∙ sym (made_same e.device before e refl) in
    subst (λ k. ShowsAfter s k (made_by k (before ++ e ∷ [])) x) own
    (subst (λ k. ShowsAfter s e.device k x) more (subst (ShowsAfter s e.device (e.step + 1)) same shows))
then_shows s wanted before e devices y beside count shows j x is got (inr other) =
    still s before e j x other
    (beside.each j x is (sym (set_elsewhere devices e.device j y other) ∙ got))

-- its device has made its step
pub beside_next : (s : Scenario) (wanted : Option ℕ) (es : List Entry) (i : ℕ) (e : Entry) (devices : List Device)
    (d : ℕ) (y : Device) → IsNext s wanted es i e devices → d ≡ e.device → ShowsAfter s e.device (e.step + 1) y
    → AreBeside s wanted (take (i + 1) es) (slice_set devices d y)
beside_next s wanted es i e devices d y next own shows =
    subst (λ (k : ℕ). AreBeside s wanted (take (i + 1) es) (slice_set devices k y)) (sym own)
    (subst (λ before. AreBeside s wanted before (slice_set devices e.device y)) (sym (take_one_more es i e next.at))
    (record {
      count = length-set devices e.device y ∙ next.beside.count;
      each = λ j x is got. then_shows s wanted (take i es) e devices y next.beside next.fits.count shows j x is got
          (cases_eq e.device j);
    }))

-- its device is not asked for
pub beside_other : (s : Scenario) (wanted : Option ℕ) (es : List Entry) (i : ℕ) (e : Entry) (devices : List Device)
    → IsNext s wanted es i e devices → is_wanted wanted e.device ≡ false
    → AreBeside s wanted (take (i + 1) es) devices
beside_other s wanted es i e devices next not =
    let other : (j : ℕ) → is_wanted wanted j ≡ true → e.device ≡ j → ⊥ = λ j is own.
    let none : is_wanted wanted j ≡ false = subst (λ k. is_wanted wanted k ≡ false) own not in cc in
    subst (λ before. AreBeside s wanted before devices) (sym (take_one_more es i e next.at))
    (record {
      count = next.beside.count;
      each = λ j x is at. still s (take i es) e j x (other j is) (next.beside.each j x is at);
    })
