-- What came of an item.
use Rattle.std.proofs.Common.{◌≡◌, inl, inr, Bool, List, None, Some, Result, IfOk, refl, sym, subst}
use Rattle.std.proofs.lemmas.Result.{IfOk-weaker}
use Rattle.device_machine.specs.declared.output.Output.{Output}
use Rattle.device_machine.specs.State.{Machine, Device, Shows}
use Rattle.scenario_image.specs.Scenario.{Scenario}
use Rattle.case_text.specs.declared.item.Part.{Part}
use Rattle.case_text.specs.declared.item.Part.TheVariants as parts
use Rattle.case_text.specs.declared.question.Question.{Question}
use Rattle.case_play.specs.declared.came.Came.{Came}
use Rattle.case_play.specs.declared.came.Came.TheVariants as came
use Rattle.case_play.specs.declared.walk.Walk.{Walk}
use Rattle.case_play.specs.Spots.{Spot, spot_after, IsAsked, PutsOut}
use Rattle.case_play.specs.Holds.{IsMet, IsAnswered}
use Rattle.case_play.specs.Came.{CameThere}
use Rattle.case_play.specs.Walks.{IsAt, Asks, CameAsked}
use Rattle.case_play.proofs.Rows.{asked_same}

pub puts_came : (s : Scenario) (spot : Spot) (part : Part) (outputs : List Output) → PutsOut s spot part outputs
    → IsAnswered s spot part → CameThere s spot part (came.Outputs outputs)
puts_came s spot part outputs puts answered = inr (inl (outputs, puts, answered, refl))

pub none_came : (s : Scenario) (spot : Spot) (part : Part)
    → ((outputs : List Output) → PutsOut s spot part outputs → ⊥) → CameThere s spot part came.Nowhere
none_came s spot part none = inl (λ can. none can.outputs can.put_out, refl)

-- the spot of a question is the one after it
pub asked_at : (s : Scenario) (spot : Spot) (part : Part) (must_not : Bool) (question : Question) (walk : Walk)
    → part ≡ parts.Ask must_not question → IsAt s (spot_after spot part) walk → IsAt s spot walk
asked_at s spot part must_not question walk is at = subst (λ p. IsAt s (spot_after spot p) walk) is at

-- no device has begun
pub nobody_came : (s : Scenario) (spot : Spot) (part : Part) (must_not : Bool) (question : Question)
    → part ≡ parts.Ask must_not question → Asks s spot None → CameThere s spot part came.Nowhere
nobody_came s spot part must_not question is asks =
    subst (λ p. CameThere s spot p came.Nowhere) (sym is) (inl (λ can. asks can.asked.0 can.asked.1, refl))

asked_came : (s : Scenario) (spot : Spot) (must_not : Bool) (question : Question) (f : Machine) (outputs : List Output)
    (x : Came) → PutsOut s spot (parts.Ask must_not question) outputs → IsAsked s spot f
    → CameAsked must_not question f outputs x → CameThere s spot (parts.Ask must_not question) x
asked_came s spot must_not question f outputs x puts asked (inl w) =
    inr (inl (outputs, puts, (f, asked, w.0), w.1))
asked_came s spot must_not question f outputs x puts asked (inr w) =
    inr (inr (
      λ answered. w.0
          (subst (IsMet must_not question) (asked_same s spot answered.0 f answered.1 asked) answered.2),
      (f, asked, w.1),
    ))

pub question_came : {E : Type 0} (r : Result Came E) (s : Scenario) (spot : Spot) (part : Part) (must_not : Bool)
    (question : Question) (x : Device) (outputs : List Output) → part ≡ parts.Ask must_not question
    → PutsOut s spot part outputs → Asks s spot (Some x)
    → ((f : Machine) → Shows x f → IfOk r (λ y. CameAsked must_not question f outputs y))
    → IfOk r (λ y. CameThere s spot part y)
question_came r s spot part must_not question x outputs is puts asks h =
    IfOk-weaker r (λ y. CameAsked must_not question asks.0 outputs y) (λ y. CameThere s spot part y)
    (λ y c. subst (λ p. CameThere s spot p y) (sym is)
    (asked_came s spot must_not question asks.0 outputs y (subst (λ p. PutsOut s spot p outputs) is puts) asks.1 c))
    (h asks.0 asks.2)
