-- Answers beside what is output, and the line that is named.
use Rattle.std.proofs.Common.{◌≡◌, ℕ, ◌<◌, ◌≤◌, ◌⊎◌, inl, inr, Bool, true, false, List, length, Option, None, Some}
use Rattle.std.proofs.Common.{Result, Ok, Err, IfOk, slice_get, refl, sym, ap, subst, ◌∙◌, arith}
use Rattle.std.proofs.lemmas.Option.{slice_get_within}
use Rattle.device_machine.specs.declared.output.Output.{Output}
use Rattle.scenario_image.specs.Scenario.{Scenario}
use Rattle.case_text.specs.declared.answer.Answer.{Answer}
use Rattle.case_text.specs.declared.item.Item.{Item}
use Rattle.fleet_core.proofs.Ends.{none_past}
use Rattle.case_play.specs.declared.walk.Walk.{Walk}
use Rattle.case_play.specs.Outputs.{width_before, States, IsSoOr, IsFirstWrong}
use Rattle.case_play.specs.Spots.{Spot, spot_after, PutsOut}
use Rattle.case_play.specs.Holds.{has_right, has_wrong, HoldBy, Hold, IsAnswered, IsWrongIn}
use Rattle.case_play.specs.Holds.{line_or, IsNamed}
use Rattle.case_play.specs.Walks.{IsAt, IsCompared, IsChecked}
use Rattle.case_play.proofs.Rows.{puts_same}

-- ---- answers that are all so, and a first that is not

so_everywhere : (answers : List Answer) (outputs : List Output) (i : ℕ) (o : Option Answer)
    → slice_get answers i ≡ o → i ≤ length answers → States answers outputs
    → IsSoOr o outputs (width_before answers i)
so_everywhere answers outputs i (Some answer) at within states = states.each i answer at
so_everywhere answers outputs i None at within states =
    let past : length answers ≤ i = none_past answers i at in
    let end : i ≡ length answers = omega (arith, within, past) in
    states.all ∙ ap (width_before answers) (sym end)

pub not_both : (answers : List Answer) (outputs : List Output) (i : ℕ) → States answers outputs
    → IsFirstWrong answers outputs i → ⊥
not_both answers outputs i states first =
    first.wrong (so_everywhere answers outputs i (slice_get answers i) refl first.within states)

first_same : (answers : List Answer) (outputs : List Output) (i j : ℕ) → IsFirstWrong answers outputs i
    → IsFirstWrong answers outputs j → i < j → ⊥
first_same answers outputs i j first other less = first.wrong (other.above i less)

-- ---- whether they hold

pub hold_right : (answers : List Answer) (outputs : List Output) → has_wrong answers ≡ false → States answers outputs
    → Hold answers outputs
hold_right answers outputs right states =
    subst (λ b. HoldBy (has_right answers) b answers outputs) (sym right) states

pub hold_states : (answers : List Answer) (outputs : List Output) → has_wrong answers ≡ false → Hold answers outputs
    → States answers outputs
hold_states answers outputs right hold = subst (λ b. HoldBy (has_right answers) b answers outputs) right hold

hold_wrong : (answers : List Answer) (outputs : List Output) → has_wrong answers ≡ true → has_right answers ≡ false
    → (States answers outputs → ⊥) → Hold answers outputs
hold_wrong answers outputs wrong right not_so =
    subst (λ b. HoldBy b (has_wrong answers) answers outputs) (sym right)
    (subst (λ b. HoldBy false b answers outputs) (sym wrong) not_so)

not_mixed : (answers : List Answer) (outputs : List Output) → has_wrong answers ≡ true → has_right answers ≡ true
    → Hold answers outputs → ⊥
not_mixed answers outputs wrong right hold =
    subst (λ b. HoldBy true b answers outputs) wrong
    (subst (λ b. HoldBy b (has_wrong answers) answers outputs) right hold)

not_stated : (answers : List Answer) (outputs : List Output) (right : Bool) → has_right answers ≡ right
    → has_wrong answers ≡ true → States answers outputs → Hold answers outputs → ⊥
not_stated answers outputs true is wrong states hold = not_mixed answers outputs wrong is hold
not_stated answers outputs false is wrong states hold =
    (subst (λ b. HoldBy false b answers outputs) wrong
    (subst (λ b. HoldBy b (has_wrong answers) answers outputs) is hold)) states

none_wrong : (answers : List Answer) (outputs : List Output) → has_wrong answers ≡ true → (other : ℕ)
    → IsWrongIn answers outputs other → ⊥
none_wrong answers outputs wrong other is = let e : true ≡ false = sym wrong ∙ is.right in cc

-- ---- what is compared

pub compared_all : (own : ℕ) (answers : List Answer) (outputs : List Output) → has_wrong answers ≡ false
    → States answers outputs → IsCompared own answers outputs None
compared_all own answers outputs right states = hold_right answers outputs right states

-- answers that must not come, and do not
pub compared_none : (own i : ℕ) (answers : List Answer) (outputs : List Output) → has_wrong answers ≡ true
    → has_right answers ≡ false → IsFirstWrong answers outputs i → IsCompared own answers outputs None
compared_none own i answers outputs wrong right first =
    hold_wrong answers outputs wrong right (λ states. not_both answers outputs i states first)

-- some must come and some must not
pub compared_mixed : (own : ℕ) (answers : List Answer) (outputs : List Output) → has_wrong answers ≡ true
    → has_right answers ≡ true → IsCompared own answers outputs (Some own)
compared_mixed own answers outputs wrong right =
    (not_mixed answers outputs wrong right, inr (none_wrong answers outputs wrong, refl))

-- answers that must not come, and do
pub compared_so : (own : ℕ) (answers : List Answer) (outputs : List Output) → has_wrong answers ≡ true
    → States answers outputs → IsCompared own answers outputs (Some own)
compared_so own answers outputs wrong states = (
  not_stated answers outputs (has_right answers) refl wrong states,
  inr (none_wrong answers outputs wrong, refl),
)

named_at : (own i line : ℕ) (answers : List Answer) (outputs : List Output) (o : Option Answer)
    → slice_get answers i ≡ o → has_wrong answers ≡ false → IsFirstWrong answers outputs i → line ≡ line_or own o
    → IsWrongIn answers outputs line ⊎ (((other : ℕ) → IsWrongIn answers outputs other → ⊥) × (line ≡ own))
named_at own i line answers outputs (Some answer) at right first is =
    inl (record { right = right; place = i; answer = answer; stands = at; first = first; named = is })
named_at own i line answers outputs None at right first is =
    inr (
      λ other wrong.
          let past : length answers ≤ i = none_past answers i at in
          let within : wrong.place < length answers =
          slice_get_within answers wrong.place wrong.answer wrong.stands in
          first_same answers outputs wrong.place i wrong.first first (omega (arith, past, within)),
      is,
    )

-- the first answer that is not so
pub compared_first : (own i line : ℕ) (answers : List Answer) (outputs : List Output) → has_wrong answers ≡ false
    → IsFirstWrong answers outputs i → line ≡ line_or own (slice_get answers i)
    → IsCompared own answers outputs (Some line)
compared_first own i line answers outputs right first is = (
  λ hold. not_both answers outputs i (hold_states answers outputs right hold) first,
  named_at own i line answers outputs (slice_get answers i) refl right first is,
)

-- ---- an item

-- what it outputs it cannot output
pub checked_out : (s : Scenario) (spot : Spot) (item : Item) (walk : Walk)
    → ((outputs : List Output) → PutsOut s spot item.part outputs → ⊥)
    → IsChecked s spot item (Some item.line) walk
checked_out s spot item walk none =
    (λ h. none h.outputs h.put_out, inr (λ other w. none w.outputs w.put_out, refl))

-- its question has another answer
pub checked_question : (s : Scenario) (spot : Spot) (item : Item) (walk : Walk)
    → (IsAnswered s spot item.part → ⊥) → IsChecked s spot item (Some item.line) walk
checked_question s spot item walk not_so = (λ h. not_so h.answered, inr (λ other w. not_so w.answered, refl))

named_of : (s : Scenario) (spot : Spot) (item : Item) (outputs : List Output) (line : ℕ)
    → PutsOut s spot item.part outputs → IsAnswered s spot item.part
    → IsWrongIn item.answers outputs line
    ⊎ (((other : ℕ) → IsWrongIn item.answers outputs other → ⊥) × (line ≡ item.line))
    → IsNamed s spot item line
named_of s spot item outputs line puts answered (inl wrong) =
    inl (record { answered = answered; outputs = outputs; put_out = puts; wrong = wrong })
named_of s spot item outputs line puts answered (inr (none, own)) =
    inr (
      λ other w. none other (subst (λ o. IsWrongIn item.answers o other)
          (puts_same s spot item.part w.outputs outputs w.put_out puts) w.wrong),
      own,
    )

-- its answers are compared
pub checked_answers : (s : Scenario) (spot : Spot) (item : Item) (outputs : List Output) (r : Option ℕ) (walk : Walk)
    → PutsOut s spot item.part outputs → IsAnswered s spot item.part → IsAt s (spot_after spot item.part) walk
    → IsCompared item.line item.answers outputs r → IsChecked s spot item r walk
checked_answers s spot item outputs None walk puts answered at hold =
    (record { outputs = outputs; put_out = puts; hold = hold; answered = answered }, at)
checked_answers s spot item outputs (Some line) walk puts answered at compared = (
  λ h. compared.0 (subst (λ o. Hold item.answers o)
      (puts_same s spot item.part h.outputs outputs h.put_out puts) h.hold),
  named_of s spot item outputs line puts answered compared.1,
)

pub checked_result : {E : Type 0} (s : Scenario) (spot : Spot) (item : Item) (answers : List Answer)
    (outputs : List Output) (r : Result (Option ℕ) E) (walk : Walk) → answers ≡ item.answers
    → PutsOut s spot item.part outputs → IsAnswered s spot item.part → IsAt s (spot_after spot item.part) walk
    → IfOk r (λ o. IsCompared item.line answers outputs o) → IfOk r (λ o. IsChecked s spot item o walk)
checked_result s spot item answers outputs (Ok o) walk same puts answered at compared =
    checked_answers s spot item outputs o walk puts answered at
    (subst (λ a. IsCompared item.line a outputs o) same compared)
checked_result s spot item answers outputs (Err e) walk same puts answered at compared = tt
