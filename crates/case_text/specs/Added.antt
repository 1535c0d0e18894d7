-- What lines add to the line above them: `+ BYTES`, `| LINE`.
use Rattle.std.specs.Prelude.{ℕ, Bool, true, false, List, [], ◌∷◌, ◌++◌, if◌then◌else◌}
use Rattle.case_text.specs.declared.digit.Digit.{Digit}
use Rattle.case_text.specs.declared.file_stated.FileStated.{FileStated}
use Rattle.case_text.specs.declared.file_stated.FileStated.TheVariants as file_states
use Rattle.case_text.specs.declared.item.Part.{Part}
use Rattle.case_text.specs.declared.item.Part.TheVariants as part
use Rattle.case_text.specs.declared.line.FileLine.{FileLine}
use Rattle.case_text.specs.declared.line.FileLine.TheVariants as in_file
use Rattle.case_text.specs.declared.line.Line.{Line}
use Rattle.case_text.specs.declared.line.Line.TheVariants as is
use Rattle.case_text.specs.declared.numbered.Numbered.{Numbered}
use Rattle.case_text.specs.declared.trial.Made.{Made}
use Rattle.case_text.specs.declared.trial.Made.TheVariants as file_made

-- a remark, or a line that adds to the one above
abbrev pub is_added : Line → Bool
is_added is.Remark = true
is_added (is.More b) = true
is_added (is.MoreDigits d) = true
is_added l = false

abbrev pub bytes_in : Line → List ℕ
bytes_in (is.More b) = b
bytes_in l = []

abbrev pub digits_in : Line → List Digit
digits_in (is.MoreDigits d) = d
digits_in l = []

-- the bytes and the digits that the first of these lines add to the line above them
abbrev pub more_at : List Numbered → List ℕ
more_at [] = []
more_at (x ∷ xs) = if is_added x.line then bytes_in x.line ++ more_at xs else []

abbrev pub digits_at : List Numbered → List Digit
digits_at [] = []
digits_at (x ∷ xs) = if is_added x.line then digits_in x.line ++ digits_at xs else []

-- a line with further bytes and digits, where it gives or states some
abbrev pub whole_part : Part → List ℕ → Part
whole_part (part.Recorded b) more = part.Recorded (b ++ more)
whole_part p more = p

abbrev pub whole_made : Made → List ℕ → Made
whole_made (file_made.And b) more = file_made.And (b ++ more)
whole_made m more = m

abbrev pub whole_stated : FileStated → List Digit → FileStated
whole_stated (file_states.Image d) digits = file_states.Image (d ++ digits)
whole_stated (file_states.Trace d) digits = file_states.Trace (d ++ digits)
whole_stated s digits = s

abbrev pub whole_in_file : FileLine → List ℕ → List Digit → FileLine
whole_in_file (in_file.Gives k b) more digits = in_file.Gives k (b ++ more)
whole_in_file (in_file.Makes m) more digits = in_file.Makes (whole_made m more)
whole_in_file (in_file.Answer m s) more digits = in_file.Answer m (whole_stated s digits)

abbrev pub whole_line : Line → List ℕ → List Digit → Line
whole_line (is.Part p t n) more digits = is.Part (whole_part p more) t n
whole_line (is.File l) more digits = is.File (whole_in_file l more digits)
whole_line l more digits = l

-- the lines that add to no other one, each with what is added to it
abbrev pub whole_lines : List Numbered → List Numbered
whole_lines [] = []
whole_lines (x ∷ xs) =
    if is_added x.line then whole_lines xs
    else (record { number = x.number; line = whole_line x.line (more_at xs) (digits_at xs) } ∷ whole_lines xs)

-- a line, and the lines that add to no other one after it, each with what is added to it
abbrev pub lines_from : Numbered → List Numbered → List Numbered
lines_from x xs =
    record { number = x.number; line = whole_line x.line (more_at xs) (digits_at xs) } ∷ whole_lines xs
