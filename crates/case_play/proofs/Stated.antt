-- What is known of the variant of an answer.
use Rattle.std.proofs.Common.{◌≡◌, ◌↔◌, ℕ, Bool, IsTrue, List, Result, IfOk, sym, subst}
use Rattle.scenario_image.specs.Scenario.{Scenario}
use Rattle.trace_file.specs.declared.entry.Entry.{Entry}
use Rattle.case_text.specs.declared.digit.Digit.{Digit}
use Rattle.case_text.specs.declared.file_answer.FileAnswer.{FileAnswer}
use Rattle.case_text.specs.declared.file_case.FileKind.{FileKind}
use Rattle.case_text.specs.declared.file_stated.FileStated.{FileStated}
use Rattle.case_text.specs.declared.file_stated.FileStated.TheVariants.{FaultOrOk, Image, Trace}
use Rattle.case_play.specs.Ends.{IsImageOf, IsTraceOf}
use Rattle.case_play.specs.Answers.{StatesScenario, StatesEntries}
use Rattle.case_play.specs.Written.{AreKept, IsKept}

pub scenario_kept : {E : Type 0} (r : Result Bool E) (kind : FileKind) (file : List ℕ) (stated : FileStated)
    (below : List FileAnswer) (s : Scenario) → stated ≡ FaultOrOk → IfOk r (λ b. IsTrue b ↔ IsKept kind file s)
    → IfOk r (λ b. IsTrue b ↔ StatesScenario kind file stated below s)
scenario_kept r kind file stated below s is h =
    subst (λ x. IfOk r (λ b. IsTrue b ↔ StatesScenario kind file x below s)) (sym is) h

pub entries_kept : {E : Type 0} (r : Result Bool E) (file : List ℕ) (stated : FileStated) (below : List FileAnswer)
    (es : List Entry) → stated ≡ FaultOrOk → IfOk r (λ b. IsTrue b ↔ AreKept file es)
    → IfOk r (λ b. IsTrue b ↔ StatesEntries file stated below es)
entries_kept r file stated below es is h =
    subst (λ x. IfOk r (λ b. IsTrue b ↔ StatesEntries file x below es)) (sym is) h

pub image_stated : {E : Type 0} (r : Result Bool E) (kind : FileKind) (file : List ℕ) (stated : FileStated)
    (below : List FileAnswer) (s : Scenario) (digits d : List Digit) → stated ≡ Image digits → d ≡ digits
    → IfOk r (λ b. IsTrue b ↔ IsImageOf s d)
    → IfOk r (λ b. IsTrue b ↔ StatesScenario kind file stated below s)
image_stated r kind file stated below s digits d is same h =
    subst (λ x. IfOk r (λ b. IsTrue b ↔ StatesScenario kind file x below s)) (sym is)
    (subst (λ x. IfOk r (λ b. IsTrue b ↔ IsImageOf s x)) same h)

pub trace_stated : {E : Type 0} (r : Result Bool E) (file : List ℕ) (stated : FileStated) (below : List FileAnswer)
    (es : List Entry) (digits d : List Digit) → stated ≡ Trace digits → d ≡ digits
    → IfOk r (λ b. IsTrue b ↔ IsTraceOf es d)
    → IfOk r (λ b. IsTrue b ↔ StatesEntries file stated below es)
trace_stated r file stated below es digits d is same h =
    subst (λ x. IfOk r (λ b. IsTrue b ↔ StatesEntries file x below es)) (sym is)
    (subst (λ x. IfOk r (λ b. IsTrue b ↔ IsTraceOf es x)) same h)
