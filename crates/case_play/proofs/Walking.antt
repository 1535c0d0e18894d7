-- A walk along the items of a case.
use Rattle.std.proofs.Common.{◌≡◌, ℕ, ◌+◌, ◌-◌, ◌<◌, ◌≤◌, ◌↔◌, Bool, true, false, List, [], length, Option}
use Rattle.std.proofs.Common.{None, Some, IsTrue, refl, sym, ap, subst, ◌∙◌, arith}
use Rattle.device_template.specs.Template.{Template}
use Rattle.device_machine.specs.declared.event.Event.{Event}
use Rattle.device_machine.specs.declared.output.Output.{Output}
use Rattle.device_machine.specs.State.{Machine, Device, Shows}
use Rattle.device_machine.specs.Reactions.{outputs_of, flat_after, is_refused}
use Rattle.scenario_image.specs.declared.step.Step.{Step}
use Rattle.scenario_image.specs.Scenario.{Scenario, IsValid}
use Rattle.scenario_image.specs.Play.{start, device_showing, IsRowOf}
use Rattle.fleet_core.specs.Run.{step_at, out_at}
use Rattle.fleet_core.specs.Board.{ShowsAfter}
use Rattle.fleet_core.proofs.Taken.{place_below}
use Rattle.case_play.specs.declared.walk.Walk.{Walk}
use Rattle.case_text.specs.declared.item.Part.{Part}
use Rattle.case_text.specs.declared.item.Part.TheVariants as parts
use Rattle.case_text.specs.declared.question.Question.{Question}
use Rattle.case_play.specs.Spots.{Spot, spot_after, HasBegun, PutsOut}
use Rattle.case_play.specs.Holds.{IsMet, IsAnswered}
use Rattle.case_play.specs.Walks.{IsMachine, IsCopy, IsAt, IsSomewhere, Asks, Takes, IsMadeLast}
use Rattle.case_play.specs.Walks.{Advances, Passes}
use Rattle.case_play.proofs.Rows.{machine_asked, none_asked, asked_next, no_step, asked_same, same_refusal}

-- ---- steps of a row

-- after the first steps further ones were made
pub record HasMade (s : Scenario) (d from n place : ℕ) (last : List Output) (x : Device) : Type 0 where
  pub count : place ≡ from + n
  pub shows : ShowsAfter s d place x
  pub made : 0 < n → IsMadeLast s d place last

pub made_none : (s : Scenario) (d from : ℕ) (last : List Output) (x : Device) → ShowsAfter s d from x
    → HasMade s d from 0 from last x
made_none s d from last x shows =
    record { count = omega arith; shows = shows; made = λ some. absurd (omega (arith, some)) }

pub made_next : (s : Scenario) (d from n place : ℕ) (step : Step) (last out : List Output) (x y : Device)
    → HasMade s d from n place last x → step_at s d place ≡ Some step → out ≡ out_at s d place
    → ShowsAfter s d (place + 1) y → HasMade s d from (n + 1) (place + 1) out y
made_next s d from n place step last out x y before at puts shows = record {
  count = omega (arith, before.count);
  shows = shows;
  made = λ some. record { place = place; count = refl; step = step; stands = at; put_out = puts };
}

pub made_all : (s : Scenario) (d from n times place : ℕ) (last : List Output) (x : Device)
    → HasMade s d from n place last x → n ≡ times → 0 < times → Advances s d (from + times) (Some last) x
made_all s d from n times place last x made all some =
    let same : place ≡ from + times = omega (arith, made.count, all) in (
      subst (λ k. IsMadeLast s d k last) same (made.made (omega (arith, all, some))),
      subst (λ k. ShowsAfter s d k x) same made.shows,
    )

pub made_end : (s : Scenario) (d from n times place : ℕ) (last : List Output) (x y : Device)
    → HasMade s d from n place last x → n < times → step_at s d place ≡ None
    → Advances s d (from + times) None y
made_end s d from n times place last x y made less none =
    λ k step count at. no_step s d place none k step (omega (arith, made.count, less, count)) at

-- ---- an event of a copy

not_refused : (b : Bool) → (b ≡ true → ⊥) → b ≡ false
not_refused true h = absurd (h refl)
not_refused false h = refl

pub takes_it : (x y : Device) (f : Machine) (event : Event) (out : List Output) → Shows x f
    → (is_refused x event ≡ true → ⊥) → out ≡ outputs_of f event → Shows y (flat_after f event)
    → Takes f event (Some out) y
takes_it x y f event out shows taken puts after = (
  not_refused (is_refused (device_showing f) event)
      (λ h. taken (same_refusal x f event shows ∙ h)),
  puts,
  after,
)

pub refuses_it : (x y : Device) (f : Machine) (event : Event) → Shows x f → is_refused x event ≡ true
    → Takes f event None y
refuses_it x y f event shows refused = sym (same_refusal x f event shows) ∙ refused

-- ---- what is asked

pub asks_copy : (s : Scenario) (spot : Spot) (walk : Walk) (x : Device) → IsAt s spot walk → walk.copy ≡ Some x
    → Asks s spot (Some x)
asks_copy s spot walk x at is = subst (IsCopy s spot) is at.copy

pub asks_none : (s : Scenario) (spot : Spot) (walk : Walk) → IsAt s spot walk → walk.machine ≡ None
    → Asks s spot None
asks_none s spot walk at none =
    none_asked s spot (subst (IsMachine s spot.begun spot.steps) none at.machine)

pub asks_machine : (s : Scenario) (spot : Spot) (walk : Walk) (x : Device) → IsValid s → IsAt s spot walk
    → walk.copy ≡ None → walk.machine ≡ Some x → Asks s spot (Some x)
asks_machine s spot walk x valid at copy is =
    let machine = subst (IsMachine s spot.begun spot.steps) is at.machine in
    machine_asked s spot x valid at.within machine.0 machine.1 (subst (IsCopy s spot) copy at.copy)

pub asks_or : (s : Scenario) (spot : Spot) (walk : Walk) (o : Option Device) → IsValid s → IsAt s spot walk
    → walk.copy ≡ None → walk.machine ≡ o → Asks s spot o
asks_or s spot walk None valid at copy is = asks_none s spot walk at is
asks_or s spot walk (Some x) valid at copy is = asks_machine s spot walk x valid at copy is

-- ---- a question

pub met_of : (s : Scenario) (spot : Spot) (part : Part) (must_not : Bool) (question : Question) (x : Device) (r : Bool)
    → part ≡ parts.Ask must_not question → Asks s spot (Some x)
    → ((f : Machine) → Shows x f → IsTrue r ↔ IsMet must_not question f) → IsTrue r ↔ IsAnswered s spot part
met_of s spot part must_not question x r is asks h =
    subst (λ p. IsTrue r ↔ IsAnswered s spot p) (sym is) (
      λ t. (asks.0, asks.1, (h asks.0 asks.2).0 t),
      λ a. (h asks.0 asks.2).1
          (subst (IsMet must_not question) (asked_same s spot a.0 asks.0 a.1 asks.1) a.2),
    )

-- what is asked is the same before an item and after it
answered_same : (s : Scenario) (spot : Spot) (part : Part) → IsAnswered s (spot_after spot part) part
    ↔ IsAnswered s spot part
answered_same s spot parts.Start = (λ h. h, λ h. h)
answered_same s spot (parts.Device times) = (λ h. h, λ h. h)
answered_same s spot (parts.Step times) = (λ h. h, λ h. h)
answered_same s spot parts.Line = (λ h. h, λ h. h)
answered_same s spot (parts.Ask must_not question) = (λ h. h, λ h. h)
answered_same s spot (parts.Aside event) = (λ h. h, λ h. h)
answered_same s spot (parts.Recorded bytes) = (λ h. h, λ h. h)

pub answered_before : (s : Scenario) (spot : Spot) (part : Part) (r : Bool)
    → IsTrue r ↔ IsAnswered s (spot_after spot part) part → IsTrue r ↔ IsAnswered s spot part
answered_before s spot part r h =
    (λ t. (answered_same s spot part).0 (h.0 t), λ a. h.1 ((answered_same s spot part).1 a))

-- ---- an item is passed

pub aside_passes : (s : Scenario) (spot : Spot) (event : Event) (walk : Walk) (x copy y : Device)
    (r : Option (List Output)) → IsAt s spot walk → Asks s spot (Some x) → copy ≡ x
    → ((f : Machine) → Shows copy f → Takes f event r y)
    → Passes s spot (parts.Aside event) r
    (record { begun = walk.begun; steps = walk.steps; machine = walk.machine; copy = Some y })
aside_passes s spot event walk x copy y None at asks same takes = λ outputs h.
    let refused : is_refused (device_showing asks.0) event ≡ true =
    takes asks.0 (subst (λ d. Shows d asks.0) (sym same) asks.2) in
    let state : h.state ≡ asks.0 = asked_same s spot h.state asks.0 h.asked asks.1 in
    let e : false ≡ true = sym h.taken ∙ (ap (λ f. is_refused (device_showing f) event) state ∙ refused) in cc
aside_passes s spot event walk x copy y (Some outputs) at asks same takes =
    let t = takes asks.0 (subst (λ d. Shows d asks.0) (sym same) asks.2) in (
      record { state = asks.0; asked = asks.1; taken = t.0; put_out = t.1 },
      record {
        begun = at.begun;
        within = at.within;
        steps = at.steps;
        machine = at.machine;
        copy = (flat_after asks.0 event, asked_next s spot asks.0 event asks.1, t.2);
      },
    )

pub begins : (s : Scenario) (spot : Spot) (times from rows : ℕ) (walk : Walk) (x : Device) (outputs : List Output)
    → IsAt s spot walk → from ≡ walk.begun → (times ≡ 0 → ⊥) → from + times ≤ rows → rows ≡ length s.rows
    → ((class : Template) (steps : List Step) → IsRowOf s (from + times - 1) class steps → Shows x (start class))
    → outputs ≡ []
    → HasBegun s spot times outputs
    × IsAt s (record { begun = spot.begun + times; steps = 0; asides = [] })
    (record { begun = from + times; steps = 0; machine = Some x; copy = None })
begins s spot times from rows walk x outputs at is some few count shows none =
    let same : from + times ≡ spot.begun + times = omega (arith, is, at.begun) in
    let above : 0 < times = omega (arith, some) in (
      record { some = above; rows = omega (arith, same, few, count); put_out = none },
      record {
        begun = same;
        within = omega (arith, same, few, count);
        steps = refl;
        machine = (
          omega (arith, above),
          λ class steps row. shows class steps (subst (λ n. IsRowOf s (n - 1) class steps) (sym same) row),
        );
        copy = refl;
      },
    )

pub line_passes : (s : Scenario) (spot : Spot) (part : Part) (walk : Walk) (outputs : List Output) → part ≡ parts.Line
    → IsAt s spot walk → outputs ≡ []
    → PutsOut s spot part outputs
    × IsAt s (spot_after spot part)
    (record { begun = walk.begun; steps = walk.steps; machine = walk.machine; copy = None })
line_passes s spot part walk outputs is at none =
    subst (λ p. PutsOut s spot p outputs × IsAt s (spot_after spot p)
    (record { begun = walk.begun; steps = walk.steps; machine = walk.machine; copy = None })) (sym is) (
      none,
      record {
        begun = at.begun;
        within = at.within;
        steps = at.steps;
        machine = at.machine;
        copy = refl;
      },
    )

-- ---- steps are made

pub machine_shows : (s : Scenario) (walk : Walk) (x : Device) → IsSomewhere s walk → walk.machine ≡ Some x
    → ShowsAfter s (walk.begun - 1) walk.steps x
machine_shows s walk x somewhere is =
    let at = somewhere.1 in
    let machine = subst (IsMachine s somewhere.0.begun somewhere.0.steps) is at.machine in
    subst (λ n. ShowsAfter s (n - 1) walk.steps x) (sym at.begun)
    (subst (λ n. ShowsAfter s (somewhere.0.begun - 1) n x) (sym at.steps) machine.1)

pub few_made : (s : Scenario) (d to : ℕ) (made : Option (List Output)) (outputs : List Output) (x : Device) → IsValid s
    → Advances s d to made x → made ≡ Some outputs → to ≤ 4096
few_made s d to made outputs x valid advances is =
    let last = (subst (λ m. Advances s d to m x) is advances).0 in
    omega (arith, place_below s d last.place last.step valid last.stands, last.count)
