-- The first answers are so of the outputs.
use Rattle.std.proofs.Common.{◌≡◌, ℕ, ◌+◌, ◌<◌, ◌≤◌, List, [], ◌∷◌, length, Option, None, Some, slice_get, refl, sym}
use Rattle.std.proofs.Common.{ap, subst, ◌∙◌, arith, below_more, Bool, Result, IfOk, IsTrue, ◌↔◌}
use Rattle.std.proofs.lemmas.List.Sums.{sum_by_more}
use Rattle.std.proofs.lemmas.Option.{slice_get_within, slice_get_past, get_or_from_slice_get}
use Rattle.device_requests.specs.declared.answer.Act.{Act as Deed}
use Rattle.device_machine.specs.declared.output.Output.{Output}
use Rattle.case_text.specs.declared.digit.Digit.{Digit}
use Rattle.case_text.specs.declared.answer.Answer.{Answer}
use Rattle.case_text.specs.declared.stated.OutputStated.{OutputStated}
use Rattle.case_text.specs.declared.stated.OutputStated.TheVariants.{Nothing, Send, Code, Notification, Act, More}
use Rattle.case_text.specs.declared.stated.Stated.{Stated}
use Rattle.case_text.specs.declared.stated.Stated.TheVariants as states
use Rattle.case_play.specs.Outputs.{IsMessage, IsNotification, StatesSend, StatesThis, output_width, width}
use Rattle.case_play.specs.Outputs.{width_before, IsOutputSo, IsSo, States}
use Rattle.case_play.specs.Outputs.{IsSoOr, IsSoAt, IsFirstWrong}

this_there : (stated : OutputStated) (outputs : List Output) (before : ℕ) (o : Option Output)
    → slice_get outputs before ≡ o → StatesThis stated o → before + 1 ≤ length outputs
this_there stated outputs before None at is = absurd is
this_there stated outputs before (Some output) at is = omega (arith, slice_get_within outputs before output at)

-- the outputs that an answer is about are there, if it is so
output_within : (stated : OutputStated) (outputs : List Output) (before : ℕ) → before ≤ length outputs
    → IsOutputSo stated outputs before → before + output_width stated ≤ length outputs
output_within Nothing outputs before within so = omega (arith, within)
output_within (Send server digits) outputs before within so =
    this_there (Send server digits) outputs before (slice_get outputs before) refl so
output_within (Code code text) outputs before within so =
    this_there (Code code text) outputs before (slice_get outputs before) refl so
output_within (Notification number text) outputs before within so =
    this_there (Notification number text) outputs before (slice_get outputs before) refl so
output_within (Act act) outputs before within so =
    this_there (Act act) outputs before (slice_get outputs before) refl so
output_within (More count) outputs before within so = so

pub so_within : (stated : Stated) (outputs : List Output) (before : ℕ) → before ≤ length outputs
    → IsSo stated outputs before → before + width stated ≤ length outputs
so_within (states.Output stated) outputs before within so = output_within stated outputs before within so
so_within (states.End stated) outputs before within so = omega (arith, within)
so_within (states.Verdict stated) outputs before within so = omega (arith, within)
so_within (states.Written stated) outputs before within so = omega (arith, within)

-- the answers before this one are so, and are about as many outputs
pub record AreSo (answers : List Answer) (outputs : List Output) (i before : ℕ) : Type 0 where
  pub before_is : before ≡ width_before answers i
  pub within : before ≤ length outputs
  pub above : (k : ℕ) → k < i → IsSoAt answers outputs k

none_before : (answers : List Answer) → 0 ≡ width_before answers 0
none_before [] = refl
none_before (a ∷ answers) = refl

pub so_first : (answers : List Answer) (outputs : List Output) → AreSo answers outputs 0 0
so_first answers outputs = record {
  before_is = none_before answers;
  within = omega arith;
  above = λ k less. absurd (omega (arith, less));
}

-- what is so of an answer is so at its place
pub so_at : (answers : List Answer) (outputs : List Output) (i before : ℕ) (answer : Answer)
    → slice_get answers i ≡ Some answer → before ≡ width_before answers i → IsSo answer.stated outputs before
    → IsSoAt answers outputs i
so_at answers outputs i before answer at before_is so =
    subst (λ o. IsSoOr o outputs (width_before answers i)) (sym at)
    (subst (λ n. IsSo answer.stated outputs n) before_is so)

pub so_from : (answers : List Answer) (outputs : List Output) (i before : ℕ) (answer : Answer)
    → slice_get answers i ≡ Some answer → before ≡ width_before answers i → IsSoAt answers outputs i
    → IsSo answer.stated outputs before
so_from answers outputs i before answer at before_is so =
    subst (λ n. IsSo answer.stated outputs n) (sym before_is)
    (subst (λ o. IsSoOr o outputs (width_before answers i)) at so)

pub so_next : (answers : List Answer) (outputs : List Output) (i before after : ℕ) (answer : Answer)
    → AreSo answers outputs i before → slice_get answers i ≡ Some answer → IsSo answer.stated outputs before
    → after ≡ before + width answer.stated → AreSo answers outputs (i + 1) after
so_next answers outputs i before after answer are at so is = record {
  before_is = is ∙ ap (λ n. n + width answer.stated) are.before_is
      ∙ ap (λ a. width_before answers i + width a.stated) (sym (get_or_from_slice_get answers i answer answer at))
      ∙ sym (sum_by_more (λ a. width a.stated) answers i answer (slice_get_within answers i answer at));
  within = subst (λ n. n ≤ length outputs) (sym is) (so_within answer.stated outputs before are.within so);
  above = below_more (IsSoAt answers outputs) i are.above
      (so_at answers outputs i before answer at are.before_is so);
}

pub first_wrong : (answers : List Answer) (outputs : List Output) (i before : ℕ) (answer : Answer)
    → AreSo answers outputs i before → slice_get answers i ≡ Some answer → (IsSo answer.stated outputs before → ⊥)
    → IsFirstWrong answers outputs i
first_wrong answers outputs i before answer are at wrong = record {
  within = omega (arith, slice_get_within answers i answer at);
  above = are.above;
  wrong = λ so. wrong (so_from answers outputs i before answer at are.before_is so);
}

-- an output is left
pub left_over : (answers : List Answer) (outputs : List Output) (i before : ℕ) → AreSo answers outputs i before
    → i ≡ length answers → before < length outputs → IsFirstWrong answers outputs (length answers)
left_over answers outputs i before are end less = record {
  within = omega arith;
  above = λ k small. are.above k (omega (arith, small, end));
  wrong = λ so.
      let all : length outputs ≡ width_before answers (length answers) =
      subst (λ o. IsSoOr o outputs (width_before answers (length answers)))
      (slice_get_past answers (length answers) (omega arith)) so in
      omega (arith, all, are.before_is, ap (width_before answers) end, less);
}

-- none is left
pub all_so : (answers : List Answer) (outputs : List Output) (i before : ℕ) → AreSo answers outputs i before
    → i ≡ length answers → length outputs ≤ before → States answers outputs
all_so answers outputs i before are end more = record {
  each = λ k answer at. so_from answers outputs k (width_before answers k) answer at refl
      (are.above k (omega (arith, slice_get_within answers k answer at, end)));
  all = let same = ap (width_before answers) end in
      omega (arith, are.within, are.before_is, same, more);
}

-- ---- what is known of the variant of an answer

pub code_sent : {E : Type 0} (r : Result Bool E) (stated : OutputStated) (code : ℕ) (text o : Option (List ℕ)) (to : ℕ)
    (bytes : List ℕ)
    → stated ≡ Code code text → o ≡ text → IfOk r (λ b. IsTrue b ↔ IsMessage code o bytes)
    → IfOk r (λ b. IsTrue b ↔ StatesSend stated to bytes)
code_sent r stated code text o to bytes is same h =
    subst (λ s. IfOk r (λ b. IsTrue b ↔ StatesSend s to bytes)) (sym is)
    (subst (λ t. IfOk r (λ b. IsTrue b ↔ IsMessage code t bytes)) same h)

pub notification_sent : {E : Type 0} (r : Result Bool E) (stated : OutputStated) (number : ℕ) (text : List ℕ) (to : ℕ)
    (bytes : List ℕ)
    → stated ≡ Notification number text → IfOk r (λ b. IsTrue b ↔ IsNotification number text bytes)
    → IfOk r (λ b. IsTrue b ↔ StatesSend stated to bytes)
notification_sent r stated number text to bytes is h =
    subst (λ s. IfOk r (λ b. IsTrue b ↔ StatesSend s to bytes)) (sym is) h

pub send_so : {E : Type 0} (r : Result Bool E) (stated : OutputStated) (server : ℕ) (digits : List Digit)
    (outputs : List Output) (before : ℕ)
    → stated ≡ Send server digits → IfOk r (λ b. IsTrue b ↔ StatesThis stated (slice_get outputs before))
    → IfOk r (λ b. IsTrue b ↔ IsOutputSo stated outputs before)
send_so r stated server digits outputs before is =
    subst (λ s. IfOk r (λ b. IsTrue b ↔ StatesThis s (slice_get outputs before))
    → IfOk r (λ b. IsTrue b ↔ IsOutputSo s outputs before)) (sym is) (λ h. h)

pub code_so : {E : Type 0} (r : Result Bool E) (stated : OutputStated) (code : ℕ) (text : Option (List ℕ))
    (outputs : List Output) (before : ℕ)
    → stated ≡ Code code text → IfOk r (λ b. IsTrue b ↔ StatesThis stated (slice_get outputs before))
    → IfOk r (λ b. IsTrue b ↔ IsOutputSo stated outputs before)
code_so r stated code text outputs before is =
    subst (λ s. IfOk r (λ b. IsTrue b ↔ StatesThis s (slice_get outputs before))
    → IfOk r (λ b. IsTrue b ↔ IsOutputSo s outputs before)) (sym is) (λ h. h)

pub notification_so : {E : Type 0} (r : Result Bool E) (stated : OutputStated) (number : ℕ) (text : List ℕ)
    (outputs : List Output) (before : ℕ)
    → stated ≡ Notification number text → IfOk r (λ b. IsTrue b ↔ StatesThis stated (slice_get outputs before))
    → IfOk r (λ b. IsTrue b ↔ IsOutputSo stated outputs before)
notification_so r stated number text outputs before is =
    subst (λ s. IfOk r (λ b. IsTrue b ↔ StatesThis s (slice_get outputs before))
    → IfOk r (λ b. IsTrue b ↔ IsOutputSo s outputs before)) (sym is) (λ h. h)

pub act_so : {E : Type 0} (r : Result Bool E) (stated : OutputStated) (act : Deed) (outputs : List Output) (before : ℕ)
    → stated ≡ Act act → IfOk r (λ b. IsTrue b ↔ StatesThis stated (slice_get outputs before))
    → IfOk r (λ b. IsTrue b ↔ IsOutputSo stated outputs before)
act_so r stated act outputs before is =
    subst (λ s. IfOk r (λ b. IsTrue b ↔ StatesThis s (slice_get outputs before))
    → IfOk r (λ b. IsTrue b ↔ IsOutputSo s outputs before)) (sym is) (λ h. h)

pub output_so : {E : Type 0} (r : Result Bool E) (stated : Stated) (part : OutputStated) (outputs : List Output)
    (before : ℕ) → stated ≡ states.Output part → IfOk r (λ b. IsTrue b ↔ IsOutputSo part outputs before)
    → IfOk r (λ b. IsTrue b ↔ IsSo stated outputs before)
output_so r stated part outputs before is h =
    subst (λ s. IfOk r (λ b. IsTrue b ↔ IsSo s outputs before)) (sym is) h
