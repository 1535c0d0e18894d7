-- What the rows of a scenario say at a spot, which is one thing.
use Rattle.std.proofs.Common.{◌≡◌, ℕ, ◌-◌, ◌<◌, ◌≤◌, ◌||◌, List, [], ◌∷◌, ◌++◌, length}
use Rattle.std.proofs.Common.{None, Some, slice_get, sym, ap, subst, ◌∙◌, arith}
use Rattle.std.specs.Prelude.{fold}
use Rattle.std.proofs.lemmas.List.Sums.{fold_push}
use Rattle.std.proofs.lemmas.Option.{same_Some, slice_get_within}
use Rattle.lemmas.proofs.Lists.{item_at}
use Rattle.device_template.specs.Template.{Template}
use Rattle.device_machine.specs.declared.event.Event.{Event}
use Rattle.device_machine.specs.declared.output.Output.{Output}
use Rattle.device_machine.specs.State.{DeviceState, Machine, Device, Shows}
use Rattle.device_machine.specs.Reactions.{outputs_of, flat_after, is_refused, passes_end}
use Rattle.scenario_image.specs.declared.step.Step.{Step}
use Rattle.scenario_image.specs.Scenario.{Row, Scenario, IsValid}
use Rattle.scenario_image.specs.Play.{state_at, device_showing, IsRowOf}
use Rattle.scenario_image.proofs.RowLaws.{row_of}
use Rattle.fleet_core.specs.Run.{steps_in, step_at, out_at}
use Rattle.fleet_core.specs.Board.{ShowsAfter}
use Rattle.case_text.specs.declared.item.Part.{Part}
use Rattle.case_text.specs.declared.item.Part.TheVariants as parts
use Rattle.case_play.specs.Spots.{Spot, IsLast, IsAsked, HasStepped, HasTaken, PutsOut}

-- ---- a row

row_with : ℕ → List Step → Row
row_with place steps = record { class = place; steps = steps }

-- there is one
row_same : (s : Scenario) (d : ℕ) (class other : Template) (steps others : List Step) → IsRowOf s d class steps
    → IsRowOf s d other others → (class ≡ other) × (steps ≡ others)
unfolding row_with
row_same s d class other steps others a b =
    let same : row_with a.place steps ≡ row_with b.place others =
    same_Some (row_with a.place steps) (row_with b.place others) (sym a.row ∙ b.row) in (
      same_Some class other (sym a.stated ∙ (ap (λ (r : Row). slice_get s.classes r.class) same ∙ b.stated)),
      ap (λ (r : Row). r.steps) same,
    )

-- ---- what is asked

last_same : (s : Scenario) (spot : Spot) (a b : ℕ) → IsLast s spot a → IsLast s spot b → a ≡ b
last_same s spot a b first other = omega (arith, first.begun, other.begun)

pub asked_same : (s : Scenario) (spot : Spot) (f g : Machine) → IsAsked s spot f → IsAsked s spot g → f ≡ g
asked_same s spot f g a b =
    let device : a.device ≡ b.device = last_same s spot a.device b.device a.last b.last in
    let row = row_same s b.device a.class b.class a.row b.row
    (subst (λ d. IsRowOf s d a.class a.row) device a.is_row) b.is_row in
    a.state
    ∙ ap (λ c. fold flat_after (state_at c a.row spot.steps) spot.asides) row.0
    ∙ ap (λ r. fold flat_after (state_at b.class r spot.steps) spot.asides) row.1
    ∙ sym b.state

-- before the first device nothing is asked
pub none_asked : (s : Scenario) (spot : Spot) → spot.begun ≡ 0 → (f : Machine) → IsAsked s spot f → ⊥
none_asked s spot none f asked = omega (arith, none, asked.last.begun)

pub last_of : (s : Scenario) (spot : Spot) → spot.begun ≤ length s.rows → 0 < spot.begun
    → IsLast s spot (spot.begun - 1)
last_of s spot within some = record { begun = omega (arith, some); within = omega (arith, some, within) }

-- the device itself, where no event was taken
pub machine_asked : (s : Scenario) (spot : Spot) (x : Device) → IsValid s → spot.begun ≤ length s.rows
    → 0 < spot.begun → ShowsAfter s (spot.begun - 1) spot.steps x → spot.asides ≡ []
    → (f : Machine) × IsAsked s spot f × Shows x f
machine_asked s spot x valid within some shows none =
    let last = last_of s spot within some in
    let found = row_of s (spot.begun - 1) valid last.within in
    let state : Machine = state_at found.class found.steps spot.steps in (
      state,
      record {
        device = spot.begun - 1;
        last = last;
        class = found.class;
        row = found.steps;
        is_row = found.row;
        state = sym (ap (fold flat_after state) none);
      },
      shows found.class found.steps found.row,
    )

-- after one event more
pub asked_next : (s : Scenario) (spot : Spot) (f : Machine) (event : Event) → IsAsked s spot f
    → IsAsked s (record { begun = spot.begun; steps = spot.steps; asides = spot.asides ++ event ∷ [] })
    (flat_after f event)
asked_next s spot f event asked = record {
  device = asked.device;
  last = record { begun = asked.last.begun; within = asked.last.within };
  class = asked.class;
  row = asked.row;
  is_row = asked.is_row;
  state = ap (λ g. flat_after g event) asked.state
      ∙ sym (fold_push flat_after (state_at asked.class asked.row spot.steps) spot.asides event);
}

-- ---- what is put out

stepped_same : (s : Scenario) (spot : Spot) (times : ℕ) (a b : List Output) → HasStepped s spot times a
    → HasStepped s spot times b → a ≡ b
stepped_same s spot times a b first other =
    let device : first.device ≡ other.device = last_same s spot first.device other.device first.last other.last in
    let place : first.place ≡ other.place = omega (arith, first.count, other.count) in
    first.put_out ∙ ap (λ d. out_at s d first.place) device ∙ ap (out_at s other.device) place ∙ sym other.put_out

taken_same : (s : Scenario) (spot : Spot) (event : Event) (a b : List Output) → HasTaken s spot event a
    → HasTaken s spot event b → a ≡ b
taken_same s spot event a b first other =
    first.put_out ∙ ap (λ f. outputs_of f event) (asked_same s spot first.state other.state first.asked other.asked)
    ∙ sym other.put_out

pub puts_same : (s : Scenario) (spot : Spot) (part : Part) (a b : List Output) → PutsOut s spot part a
    → PutsOut s spot part b → a ≡ b
puts_same s spot parts.Start a b first other = first ∙ sym other
puts_same s spot (parts.Device times) a b first other = first.put_out ∙ sym other.put_out
puts_same s spot (parts.Step times) a b first other = stepped_same s spot times a b first other
puts_same s spot parts.Line a b first other = first ∙ sym other
puts_same s spot (parts.Ask must_not question) a b first other = first ∙ sym other
puts_same s spot (parts.Aside event) a b first other = taken_same s spot event a b first other
puts_same s spot (parts.Recorded bytes) a b first other = first ∙ sym other

-- ---- a device that shows a flat state

-- it refuses what each device refuses that shows this state
pub same_refusal : (x : Device) (f : Machine) (event : Event) → Shows x f
    → is_refused x event ≡ is_refused (device_showing f) event
same_refusal x f event shows =
    ap (λ b. b || passes_end x.flat.kept.clock event) shows.ready
    ∙ ap (λ (k : DeviceState). passes_end k.clock event) shows.kept

-- ---- steps that are not there

none_past : {X : Type 0} (xs : List X) (i : ℕ) → slice_get xs i ≡ None → (k : ℕ) (x : X) → i ≤ k
    → slice_get xs k ≡ Some x → ⊥
none_past xs i none k x le at =
    let found = item_at xs i (omega (arith, le, slice_get_within xs k x at)) in
    let e : Some found.0 ≡ None = sym found.1 ∙ none in cc

-- after the end of the row there is no step
pub no_step : (s : Scenario) (d place : ℕ) → step_at s d place ≡ None → (k : ℕ) (step : Step) → place ≤ k
    → step_at s d k ≡ Some step → ⊥
no_step s d place none k step le at = none_past (steps_in (slice_get s.rows d)) place none k step le at
