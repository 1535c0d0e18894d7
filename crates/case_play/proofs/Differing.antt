-- What the verdict on a case rests on that differs in what is stated of the whole.
use Rattle.std.proofs.Common.{◌≡◌, ℕ, ◌<◌, inr, List, length, get_or, Some, slice_get, sym, ap, subst}
use Rattle.std.proofs.Common.{◌∙◌}
use Rattle.std.proofs.lemmas.Option.{get_or_from_slice_get, slice_get_within}
use Rattle.scenario_image.specs.Scenario.{Scenario}
use Rattle.trace_file.specs.declared.entry.Entry.{Entry}
use Rattle.fleet_core.specs.Run.{IsSerial}
use Rattle.case_text.specs.declared.answer.Answer.{Answer}
use Rattle.case_text.specs.declared.item.Item.{Item}
use Rattle.case_play.specs.declared.answer_place.AnswerPlace.{AnswerPlace}
use Rattle.case_play.specs.declared.came.Came.{Came}
use Rattle.case_play.specs.declared.verdict.Verdict.TheVariants.{Differs}
use Rattle.case_play.specs.Ends.{IsFirstOfAll}
use Rattle.case_play.specs.Came.{CameBelow}
use Rattle.case_play.specs.Cases.{AllHold, IsVerdictIn}

-- what is read at a place is what stands there
read_there : {X : Type 0} (xs : List X) (i : ℕ) (x y : X) → slice_get xs i ≡ Some x → y ≡ get_or xs i y → y ≡ x
read_there xs i x y stands read = read ∙ get_or_from_slice_get xs i x y stands

-- the answer's place is within the answers that are read
pub answer_within : (s : Scenario) (es : List Entry) (items : List Item) (place : AnswerPlace) (item : Item)
    (answers : List Answer) → IsFirstOfAll s es items place → item ≡ get_or items place.item item
    → answers ≡ item.answers → place.answer < length answers
answer_within s es items place item answers first read below =
    let same_item : item ≡ first.item = read_there items place.item first.item item first.stands read in
    let same_list : answers ≡ first.item.answers = below ∙ ap (λ (i : Item). i.answers) same_item in
    slice_get_within answers place.answer first.first.answer
    (ap (λ l. slice_get l place.answer) same_list ∙ first.first.stands)

pub end_differs : (s : Scenario) (es : List Entry) (items : List Item) (place : AnswerPlace) (item : Item)
    (answers : List Answer) (answer : Answer) (came : Came) → AllHold s items → IsSerial s es
    → IsFirstOfAll s es items place → item ≡ get_or items place.item item → answers ≡ item.answers
    → answer ≡ get_or answers place.answer answer → CameBelow s es item.part answer.stated came
    → IsVerdictIn s items (Differs answer.line came)
end_differs s es items place item answers answer came hold serial first read below read_answer instead =
    let same_item : item ≡ first.item = read_there items place.item first.item item first.stands read in
    let same_list : answers ≡ first.item.answers = below ∙ ap (λ (i : Item). i.answers) same_item in
    let same_answer : answer ≡ first.first.answer =
    read_there answers place.answer first.first.answer answer
    (ap (λ l. slice_get l place.answer) same_list ∙ first.first.stands) read_answer in
    inr (record {
      items_hold = hold;
      run = es;
      serial = serial;
      place = place;
      first = first;
      named = ap (λ (a : Answer). a.line) same_answer;
      instead =
          subst (λ (i : Item). CameBelow s es i.part first.first.answer.stated came) same_item
          (subst (λ (a : Answer). CameBelow s es item.part a.stated came) same_answer instead);
    })
