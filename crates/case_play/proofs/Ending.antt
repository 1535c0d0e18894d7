-- What is known of the variant of an answer about a whole scenario or a recorded trace.
use Rattle.std.proofs.Common.{◌≡◌, ◌↔◌, Bool, IsTrue, List, Result, IfOk, inl, inr, sym, subst, ◌⊎◌}
use Rattle.scenario_image.specs.Scenario.{Scenario}
use Rattle.trace_file.specs.declared.entry.Entry.{Entry}
use Rattle.case_text.specs.declared.digit.Digit.{Digit}
use Rattle.case_text.specs.declared.answer.Answer.{Answer}
use Rattle.case_text.specs.declared.stated.EndStated.{EndStated}
use Rattle.case_text.specs.declared.stated.OutputStated.{OutputStated}
use Rattle.case_text.specs.declared.stated.Stated.{Stated}
use Rattle.case_text.specs.declared.stated.Stated.TheVariants.{Output, End, Verdict, Written}
use Rattle.case_text.specs.declared.stated.VerdictStated.{VerdictStated}
use Rattle.case_text.specs.declared.stated.WrittenStated.{WrittenStated}
use Rattle.case_text.specs.declared.stated.WrittenStated.TheVariants.{Image, Trace}
use Rattle.case_play.specs.Ends.{EndsSo, IsEnd, IsImageOf, IsOfEntries, IsOfVerdict, IsTraceOf, IsWrittenSo}

pub image_so : {E : Type 0} (r : Result Bool E) (s : Scenario) (es : List Entry) (answers : List Answer)
    (stated : WrittenStated) (digits d : List Digit) → stated ≡ Image digits → d ≡ digits
    → IfOk r (λ b. IsTrue b ↔ IsImageOf s d) → IfOk r (λ b. IsTrue b ↔ IsWrittenSo s es answers stated)
image_so r s es answers stated digits d is same h =
    subst (λ x. IfOk r (λ b. IsTrue b ↔ IsWrittenSo s es answers x)) (sym is)
    (subst (λ x. IfOk r (λ b. IsTrue b ↔ IsImageOf s x)) same h)

pub trace_so : {E : Type 0} (r : Result Bool E) (s : Scenario) (es : List Entry) (answers : List Answer)
    (stated : WrittenStated) (digits d : List Digit) → stated ≡ Trace digits → d ≡ digits
    → IfOk r (λ b. IsTrue b ↔ IsTraceOf es d) → IfOk r (λ b. IsTrue b ↔ IsWrittenSo s es answers stated)
trace_so r s es answers stated digits d is same h =
    subst (λ x. IfOk r (λ b. IsTrue b ↔ IsWrittenSo s es answers x)) (sym is)
    (subst (λ x. IfOk r (λ b. IsTrue b ↔ IsTraceOf es x)) same h)

pub end_so : {E : Type 0} (r : Result Bool E) (s : Scenario) (es : List Entry) (answers : List Answer)
    (stated : Stated) (part : EndStated) → stated ≡ End part → IfOk r (λ b. IsTrue b ↔ EndsSo s es part)
    → IfOk r (λ b. IsTrue b ↔ IsEnd s es answers stated)
end_so r s es answers stated part is h =
    subst (λ x. IfOk r (λ b. IsTrue b ↔ IsEnd s es answers x)) (sym is) h

pub written_so : {E : Type 0} (r : Result Bool E) (s : Scenario) (es : List Entry) (answers : List Answer)
    (stated : Stated) (part : WrittenStated) → stated ≡ Written part
    → IfOk r (λ b. IsTrue b ↔ IsWrittenSo s es answers part) → IfOk r (λ b. IsTrue b ↔ IsEnd s es answers stated)
written_so r s es answers stated part is h =
    subst (λ x. IfOk r (λ b. IsTrue b ↔ IsEnd s es answers x)) (sym is) h

pub verdict_so : {E : Type 0} (r : Result Bool E) (s : Scenario) (es : List Entry) (answers : List Answer)
    (stated : Stated) (part : VerdictStated) → stated ≡ Verdict part → IfOk r (λ b. IsTrue b ↔ IsOfVerdict s es part)
    → IfOk r (λ b. IsTrue b ↔ IsOfEntries s es answers stated)
verdict_so r s es answers stated part is h =
    subst (λ x. IfOk r (λ b. IsTrue b ↔ IsOfEntries s es answers x)) (sym is) h

-- an answer that is not a verdict
pub other_so : {E : Type 0} (r : Result Bool E) (s : Scenario) (es : List Entry) (answers : List Answer)
    (stated : Stated)
    → ((x : OutputStated) × (stated ≡ Output x))
    ⊎ (((x : EndStated) × (stated ≡ End x)) ⊎ ((x : WrittenStated) × (stated ≡ Written x)))
    → IfOk r (λ b. IsTrue b ↔ IsEnd s es answers stated) → IfOk r (λ b. IsTrue b ↔ IsOfEntries s es answers stated)
other_so r s es answers stated (inl is) =
    subst (λ x. IfOk r (λ b. IsTrue b ↔ IsEnd s es answers x) → IfOk r (λ b. IsTrue b ↔ IsOfEntries s es answers x))
    (sym is.1) (λ h. h)
other_so r s es answers stated (inr (inl is)) =
    subst (λ x. IfOk r (λ b. IsTrue b ↔ IsEnd s es answers x) → IfOk r (λ b. IsTrue b ↔ IsOfEntries s es answers x))
    (sym is.1) (λ h. h)
other_so r s es answers stated (inr (inr is)) =
    subst (λ x. IfOk r (λ b. IsTrue b ↔ IsEnd s es answers x) → IfOk r (λ b. IsTrue b ↔ IsOfEntries s es answers x))
    (sym is.1) (λ h. h)
