-- The files of a trial, as far as they were looked at.
use Rattle.std.proofs.Common.{◌≡◌, ℕ, ◌<◌, ◌↔◌, Bool, true, false, IsTrue, List, Option, None, Some, Result, IfOk, refl}
use Rattle.std.proofs.Common.{sym, subst, ◌∙◌}
use Rattle.case_text.specs.declared.file_answer.FileAnswer.{FileAnswer}
use Rattle.case_text.specs.declared.file_case.FileCase.{FileCase}
use Rattle.case_text.specs.declared.file_case.FileKind.{FileKind}
use Rattle.case_text.specs.declared.file_stated.FileStated.{FileStated}
use Rattle.case_text.specs.declared.trial.Made.{Made}
use Rattle.case_play.specs.declared.finding.Finding.{Finding}
use Rattle.case_play.specs.Answers.{StatesFinding}
use Rattle.case_play.specs.Files.{file_at}
use Rattle.case_play.specs.Trials.{IsRightOf}
use Rattle.case_play.specs.Trying.{IsOneFinding, IsTriedIn, IsTriedBy, IsTriedAt}

-- ---- one file

pub right_of : (kind : FileKind) (file : List ℕ) (stated : FileStated) (below : List FileAnswer) (finding : Finding)
    (b : Bool) → IsOneFinding kind file finding → IsTrue b ↔ StatesFinding kind file stated below finding
    → b ≡ true → IsRightOf kind file stated below
right_of kind file stated below finding b one states is = (finding, one.is, states.0 is)

pub wrong_of : (kind : FileKind) (file : List ℕ) (stated : FileStated) (below : List FileAnswer) (finding : Finding)
    (b : Bool) → IsOneFinding kind file finding → IsTrue b ↔ StatesFinding kind file stated below finding
    → b ≡ false → IsTriedIn kind file stated below (Some finding)
wrong_of kind file stated below finding b one states is = (
  λ right.
      let e : true ≡ false =
      sym (states.1 (subst (StatesFinding kind file stated below) (one.only right.0 right.1) right.2)) ∙ is in
      cc,
  one.is,
)

-- ---- a file by its number

-- what was made of the bytes of a case
stands_as : (case : FileCase) (made : Made) (n : ℕ) (bytes : List ℕ) (o p : Option (List ℕ)) → bytes ≡ case.bytes
    → o ≡ file_at made bytes n → o ≡ p → file_at made case.bytes n ≡ p
stands_as case made n bytes o p same is at = sym (subst (λ b. o ≡ file_at made b n) same is) ∙ at

pub tried_none : (case : FileCase) (made : Made) (stated : FileStated) (below : List FileAnswer) (n : ℕ)
    (bytes : List ℕ) (o : Option (List ℕ)) → bytes ≡ case.bytes → o ≡ file_at made bytes n → o ≡ None
    → IsTriedAt case made stated below n None
tried_none case made stated below n bytes o same is none =
    subst (λ p. IsTriedBy case.kind p stated below None) (sym (stands_as case made n bytes o None same is none)) refl

pub tried_some : {E : Type 0} (r : Result (Option Finding) E) (case : FileCase) (made : Made) (stated : FileStated)
    (below : List FileAnswer) (n : ℕ) (bytes : List ℕ) (o : Option (List ℕ)) (file seen : List ℕ)
    → bytes ≡ case.bytes → o ≡ file_at made bytes n → o ≡ Some file → seen ≡ file
    → IfOk r (λ x. IsTriedIn case.kind seen stated below x) → IfOk r (λ x. IsTriedAt case made stated below n x)
tried_some r case made stated below n bytes o file seen same is some view h =
    subst (λ p. IfOk r (λ x. IsTriedBy case.kind p stated below x))
    (sym (stands_as case made n bytes o (Some file) same is some))
    (subst (λ f. IfOk r (λ x. IsTriedIn case.kind f stated below x)) view h)

-- ---- the files before a number

-- an answer is right of each of them
pub record AreRightBefore (case : FileCase) (made : Made) (stated : FileStated) (below : List FileAnswer) (n : ℕ)
    : Type 0 where
  pub each : (k : ℕ) → k < n → (file : List ℕ) → file_at made case.bytes k ≡ Some file
      → IsRightOf case.kind file stated below

-- there is none of them
pub record AreNoneBefore (case : FileCase) (made : Made) (n : ℕ) : Type 0 where
  pub each : (k : ℕ) → k < n → file_at made case.bytes k ≡ None
