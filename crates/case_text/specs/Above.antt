-- What stands above a line of a case, which decides how the line is read: what the case is, by its first line with
-- words, and what `+ BYTES` adds to.
use Rattle.case_text.specs.declared.above.Above.{Above}
use Rattle.case_text.specs.declared.above.Adding.{Adding}
use Rattle.case_text.specs.declared.above.Adding.TheVariants as adds_to
use Rattle.case_text.specs.declared.above.CaseKind.{CaseKind}
use Rattle.case_text.specs.declared.above.CaseKind.TheVariants as kinds
use Rattle.case_text.specs.declared.file_stated.FileStated.TheVariants as files
use Rattle.case_text.specs.declared.item.Part.TheVariants as part
use Rattle.case_text.specs.declared.line.FileLine.TheVariants as in_file
use Rattle.case_text.specs.declared.line.Line.{Line}
use Rattle.case_text.specs.declared.line.Line.TheVariants as is
use Rattle.case_text.specs.declared.trial.Made.TheVariants as file_made

-- above the first line
abbrev pub above_none : Above
above_none = record { kind = kinds.Open; adding = adds_to.Nothing }

-- an answer may be the first line of a case, whose text is then empty
abbrev pub kind_after_answer : CaseKind → CaseKind
kind_after_answer kinds.Open = kinds.Scenario
kind_after_answer k = k

-- what a case is after a line of it
abbrev pub kind_after : CaseKind → Line → CaseKind
kind_after k (is.Title t) = kinds.Open
kind_after k (is.Answer m s) = kind_after_answer k
kind_after k (is.Part (part.Recorded b) t n) = kinds.Recorded
kind_after k (is.Part p t n) = kinds.Scenario
kind_after k (is.File (in_file.Gives f b)) = kinds.File f
kind_after k l = k

-- what a line may be added to, where its words are bytes: to what gives or states bytes, also further down
abbrev pub adding_after : Adding → Line → Adding
adding_after a is.Remark = a
adding_after a (is.More b) = a
adding_after a (is.MoreDigits d) = a
adding_after a (is.Part (part.Recorded b) t n) = adds_to.Bytes
adding_after a (is.File (in_file.Gives f b)) = adds_to.Bytes
adding_after a (is.File (in_file.Makes (file_made.And b))) = adds_to.Bytes
adding_after a (is.File (in_file.Answer m (files.Image d))) = adds_to.Digits
adding_after a (is.File (in_file.Answer m (files.Trace d))) = adds_to.Digits
adding_after a l = adds_to.Nothing

-- what stands above the line that follows a line
abbrev pub after : Above → Line → Above
after a l = record { kind = kind_after a.kind l; adding = adding_after a.adding l }
