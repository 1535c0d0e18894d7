-- A case of a file, of the lines below its title.
use Rattle.std.specs.Prelude.{ℕ, Bool, true, false, List, [], ◌∷◌}
use Rattle.std.specs.List.{list_any}
use Rattle.case_text.specs.declared.file_answer.FileAnswer.{FileAnswer}
use Rattle.case_text.specs.declared.file_case.FileCase.{FileCase}
use Rattle.case_text.specs.declared.file_case.FileKind.{FileKind}
use Rattle.case_text.specs.declared.file_case.FileKind.TheVariants as files
use Rattle.case_text.specs.declared.line.FileLine.TheVariants as in_file
use Rattle.case_text.specs.declared.line.Line.{Line}
use Rattle.case_text.specs.declared.line.Line.TheVariants as is
use Rattle.case_text.specs.declared.numbered.Numbered.{Numbered}
use Rattle.case_text.specs.declared.trial.Made.TheVariants as file_made
use Rattle.case_text.specs.declared.trial.Trial.{Trial}
use Rattle.case_text.specs.Added.{whole_lines}

-- lines of which one gives a file
abbrev pub is_given : Line → Bool
is_given (is.File (in_file.Gives k b)) = true
is_given l = false

abbrev pub gives_file : List Numbered → Bool
gives_file xs = list_any (λ x. is_given x.line) xs

-- the first line that gives a file: its number, what the file is, and its bytes
abbrev pub given_by : Line → ℕ → ℕ × FileKind × List ℕ → ℕ × FileKind × List ℕ
given_by (is.File (in_file.Gives k b)) n others = (n, k, b)
given_by l n others = others

abbrev pub given_in : List Numbered → ℕ × FileKind × List ℕ
given_in [] = (0, files.Text, [])
given_in (x ∷ xs) = given_by x.line x.number (given_in xs)

-- the answers that stand above the next line that makes other files
abbrev pub file_answers_by : Line → ℕ → List FileAnswer → List FileAnswer
file_answers_by (is.File (in_file.Answer m s)) n others = record { line = n; must_not = m; stated = s } ∷ others
file_answers_by (is.File (in_file.Makes m)) n others = []
file_answers_by l n others = others

abbrev pub file_answers_at : List Numbered → List FileAnswer
file_answers_at [] = []
file_answers_at (x ∷ xs) = file_answers_by x.line x.number (file_answers_at xs)

-- each line that makes other files, with the answers that stand between it and the next one
abbrev pub trials_by : Line → ℕ → List FileAnswer → List Trial → List Trial
trials_by (is.File (in_file.Makes m)) n answers others = record { line = n; made = m; answers = answers } ∷ others
trials_by l n answers others = others

abbrev pub trials_of : List Numbered → List Trial
trials_of [] = []
trials_of (x ∷ xs) = trials_by x.line x.number (file_answers_at xs) (trials_of xs)

-- the file itself, which is given in this line, and those that are made of it
abbrev pub all_trials : ℕ → List Numbered → List Trial
all_trials n xs = record { line = n; made = file_made.Itself; answers = file_answers_at xs } ∷ trials_of xs

abbrev pub file_by : List ℕ → ℕ → ℕ × FileKind × List ℕ → List Numbered → FileCase
file_by title n given xs = record {
  title = title;
  line = n;
  kind = given.1;
  bytes = given.2;
  trials = all_trials given.0 xs;
}

abbrev pub file_of : List ℕ → ℕ → List Numbered → FileCase
file_of title n xs = file_by title n (given_in (whole_lines xs)) (whole_lines xs)
