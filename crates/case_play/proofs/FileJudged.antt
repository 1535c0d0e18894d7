-- When an answer of a trial holds.
use Rattle.std.proofs.Common.{◌≡◌, ℕ, ◌+◌, true, false, List, None, Some, drop, inl, inr}
use Rattle.std.proofs.Common.{refl, sym, subst, ◌∙◌}
use Rattle.std.proofs.lemmas.Option.{none-some}
use Rattle.case_text.specs.declared.file_answer.FileAnswer.{FileAnswer}
use Rattle.case_text.specs.declared.file_case.FileCase.{FileCase}
use Rattle.case_text.specs.declared.trial.Made.{Made}
use Rattle.case_text.specs.declared.trial.Trial.{Trial}
use Rattle.case_play.specs.declared.came.Came.{Came}
use Rattle.case_play.specs.declared.came.Came.TheVariants.{Nowhere}
use Rattle.case_play.specs.declared.finding.Finding.{Finding}
use Rattle.case_play.specs.Answers.{is_line}
use Rattle.case_play.specs.Arrivals.{FindingCame}
use Rattle.case_play.specs.Findings.{IsFinding}
use Rattle.case_play.specs.Trials.{IsRightOfEach, TurnedBy, HoldsOfFiles, UnlessLine, FileAnswerHolds, HasNoFile}
use Rattle.case_play.specs.Trials.{IsInFirstWrong, IsTelling}
use Rattle.case_play.specs.Trying.{IsFirstFile, IsAnswerJudged}
use Rattle.case_play.specs.Verdicts.{TrialHolds}

-- ---- a line of a text

pub line_holds : (case : FileCase) (made : Made) (answer : FileAnswer) (below : List FileAnswer)
    → is_line answer.stated ≡ true → IsAnswerJudged case made answer below None
line_holds case made answer below line =
    subst (λ b. UnlessLine b (HoldsOfFiles case made answer below)) (sym line) tt

-- another answer
holds_of : (case : FileCase) (made : Made) (answer : FileAnswer) (below : List FileAnswer)
    → is_line answer.stated ≡ false → HoldsOfFiles case made answer below → FileAnswerHolds case made answer below
holds_of case made answer below other holds =
    subst (λ b. UnlessLine b (HoldsOfFiles case made answer below)) (sym other) holds

of_holds : (case : FileCase) (made : Made) (answer : FileAnswer) (below : List FileAnswer)
    → is_line answer.stated ≡ false → FileAnswerHolds case made answer below → HoldsOfFiles case made answer below
of_holds case made answer below other holds =
    subst (λ b. UnlessLine b (HoldsOfFiles case made answer below)) other holds

-- ---- where it is right of each file

pub nowhere : (case : FileCase) (made : Made) (answer : FileAnswer) (below : List FileAnswer)
    → is_line answer.stated ≡ false → HasNoFile case made → IsAnswerJudged case made answer below (Some Nowhere)
nowhere case made answer below other none = (
  λ holds. let h = of_holds case made answer below other holds in none-some h.file (sym (none h.number) ∙ h.stands),
  inl (none, refl),
)

pub right_holds : (case : FileCase) (made : Made) (answer : FileAnswer) (below : List FileAnswer) (file : List ℕ)
    → is_line answer.stated ≡ false → answer.must_not ≡ false → IsFirstFile case made file
    → IsRightOfEach case made answer.stated below → IsAnswerJudged case made answer below None
right_holds case made answer below file other must first right =
    holds_of case made answer below other (record {
      number = first.number;
      file = file;
      stands = first.stands;
      right = subst (λ b. TurnedBy b (IsRightOfEach case made answer.stated below)) (sym must) right;
    })

pub right_differs : (case : FileCase) (made : Made) (answer : FileAnswer) (below : List FileAnswer)
    (file found : List ℕ) (finding : Finding) (came : Came) → is_line answer.stated ≡ false → answer.must_not ≡ true
    → IsFirstFile case made file → found ≡ file → IsFinding case.kind found finding
    → FindingCame answer.stated finding came → IsRightOfEach case made answer.stated below
    → IsAnswerJudged case made answer below (Some came)
right_differs case made answer below file found finding came other must first same is arrived right = (
  λ holds. subst (λ b. TurnedBy b (IsRightOfEach case made answer.stated below)) must
      (of_holds case made answer below other holds).right right,
  inr (
    finding,
    subst (λ b. IsTelling b case made answer.stated below finding) (sym must) (
      right,
      record {
        number = first.number;
        file = file;
        stands = first.stands;
        before = first.before;
        found = subst (λ f. IsFinding case.kind f finding) same is;
      },
    ),
    arrived,
  ),
)

-- ---- where it is not

pub wrong_holds : (case : FileCase) (made : Made) (answer : FileAnswer) (below : List FileAnswer) (finding : Finding)
    → is_line answer.stated ≡ false → answer.must_not ≡ true
    → IsInFirstWrong case made answer.stated below finding → IsAnswerJudged case made answer below None
wrong_holds case made answer below finding other must wrong =
    holds_of case made answer below other (record {
      number = wrong.number;
      file = wrong.file;
      stands = wrong.stands;
      right = subst (λ b. TurnedBy b (IsRightOfEach case made answer.stated below)) (sym must)
          (λ right. wrong.wrong (right wrong.number wrong.file wrong.stands));
    })

pub wrong_differs : (case : FileCase) (made : Made) (answer : FileAnswer) (below : List FileAnswer)
    (finding : Finding) (came : Came) → is_line answer.stated ≡ false → answer.must_not ≡ false
    → IsInFirstWrong case made answer.stated below finding → FindingCame answer.stated finding came
    → IsAnswerJudged case made answer below (Some came)
wrong_differs case made answer below finding came other must wrong arrived = (
  λ holds. let right = subst (λ b. TurnedBy b (IsRightOfEach case made answer.stated below)) must
      (of_holds case made answer below other holds).right in
      wrong.wrong (right wrong.number wrong.file wrong.stands),
  inr (
    finding,
    subst (λ b. IsTelling b case made answer.stated below finding) (sym must) wrong,
    arrived,
  ),
)

-- ---- one after another

-- the answer of this number of a trial holds
abbrev pub AnswerAt : FileCase → Trial → ℕ → FileAnswer → Type 0
AnswerAt case trial k answer = FileAnswerHolds case trial.made answer (drop (k + 1) trial.answers)

-- so do those of a trial, whatever its number
abbrev pub TrialAt : FileCase → ℕ → Trial → Type 0
TrialAt case k trial = TrialHolds case trial
