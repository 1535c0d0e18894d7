-- What a line of a case of a file is. Bytes by their codes: 10 is LF.
use Rattle.std.specs.Prelude.{ℕ, Bool, true, false, List, [], ◌∷◌, ◌++◌, Result, Ok, Err, codes, if◌then◌else◌}
use Rattle.std.specs.Str.{bytes_eq}
use Rattle.scenario_words.specs.declared.cause.Cause.{Cause}
use Rattle.scenario_words.specs.Reading.{◌>>=◌, word_by}
use Rattle.scenario_words.specs.Words.{words}
use Rattle.scenario_statements.specs.Grammar.{check_of_name, only_number}
use Rattle.case_text.specs.declared.above.Adding.{Adding}
use Rattle.case_text.specs.declared.above.Adding.TheVariants as adds_to
use Rattle.case_text.specs.declared.fault.Why.{Why}
use Rattle.case_text.specs.declared.fault.Why.TheVariants as why
use Rattle.case_text.specs.declared.file_case.FileKind.{FileKind}
use Rattle.case_text.specs.declared.file_case.FileKind.TheVariants as files
use Rattle.case_text.specs.declared.file_stated.FileStated.TheVariants as states
use Rattle.case_text.specs.declared.line.FileLine.TheVariants as in_file
use Rattle.case_text.specs.declared.line.Line.{Line}
use Rattle.case_text.specs.declared.line.Line.TheVariants as is
use Rattle.case_text.specs.declared.trial.Made.{Made}
use Rattle.case_text.specs.declared.trial.Made.TheVariants as file_made
use Rattle.case_text.specs.BytesWords.{all_digits, bytes_at, bytes_of}
use Rattle.case_text.specs.FileStating.{file_stated_of}
use Rattle.case_text.specs.Marks.{begins, behind, line_or_refusal, of_text, text_from}

-- ---- the file

abbrev pub gives : FileKind → List ℕ → Line
gives k bytes = is.File (in_file.Gives k bytes)

-- image BYTES, trace BYTES, by what stands behind the name
abbrev pub given_of : FileKind → List ℕ → Result Line Why
given_of k line = line_or_refusal why.NotBytes (gives k) (bytes_of (words line))

-- text, and no further word
abbrev pub text_file_of : List (List ℕ) → Result Line Why
text_file_of [] = Ok (gives files.Text [])
text_file_of (w ∷ ws) = Err why.NoSuchLine

-- ---- files that are made of it

abbrev pub makes : Made → Line
makes m = is.File (in_file.Makes m)

-- with BYTES at N
abbrev pub with_of : List (List ℕ) → Result Made Cause
with_of ws = do
  b ← bytes_at ws
  a ← word_by (check_of_name (codes "at")) b.1
  n ← only_number 0 18446744073709551615 a.1
  Ok (file_made.With b.0 n)

-- and LINE in a text, and BYTES in another file
abbrev pub and_of : FileKind → List ℕ → Result Line Why
and_of files.Text line = of_text (λ t. makes (file_made.And t)) (text_from line)
and_of k line = line_or_refusal why.NotBytes (λ b. makes (file_made.And b)) (bytes_of (words line))

-- each front, each change
abbrev pub each_of : List (List ℕ) → Result Line Why
each_of (w ∷ []) =
    if bytes_eq w (codes "front") then Ok (makes file_made.EachFront)
    else (if bytes_eq w (codes "change") then Ok (makes file_made.EachChange) else Err why.NoSuchLine)
each_of _ = Err why.NoSuchLine

abbrev pub making_of : FileKind → List ℕ → Result Line Why
making_of k line =
    if begins (codes "with ") line then line_or_refusal why.NotBytes makes
    (with_of (words (behind (codes "with ") line)))
    else (if begins (codes "and ") line then and_of k (behind (codes "and ") line)
    else (if begins (codes "each ") line then each_of (words (behind (codes "each ") line)) else Err why.NoSuchLine))

-- ---- what is added to the line above

-- + BYTES
abbrev pub more_of : Adding → List ℕ → Result Line Why
more_of adds_to.Nothing line = Err why.AddsToNothing
more_of adds_to.Bytes line = line_or_refusal why.NotBytes is.More (bytes_of (words line))
more_of adds_to.Digits line = line_or_refusal why.NotBytes is.MoreDigits (all_digits (words line))

-- | LINE, which only a text has
abbrev pub text_more_of : FileKind → Adding → List ℕ → Result Line Why
text_more_of files.Text adds_to.Bytes line = of_text (λ t. is.More (t ++ 10 ∷ [])) (text_from line)
text_more_of files.Text a line = Err why.AddsToNothing
text_more_of k a line = Err why.NoSuchLine

abbrev pub adding_of : FileKind → Adding → List ℕ → Result Line Why
adding_of k a line =
    if begins (codes "+ ") line then more_of a (behind (codes "+ ") line)
    else (if bytes_eq line (codes "|") then text_more_of k a []
    else (if begins (codes "| ") line then text_more_of k a (behind (codes "| ") line) else making_of k line))

-- ---- answers

abbrev pub file_answer_of : Bool → List ℕ → Result Line Why
file_answer_of must_not line =
    line_or_refusal why.NotAnAnswer (λ s. is.File (in_file.Answer must_not s)) (file_stated_of (words line))

abbrev pub file_text_line_of : List ℕ → Result Line Why
file_text_line_of line = of_text (λ t. is.File (in_file.Answer false (states.TextLine t))) (text_from line)

-- a line with words that begins no case, in a case of a file of this kind
abbrev pub file_line_of : FileKind → Adding → List ℕ → Result Line Why
file_line_of k a line =
    if begins (codes "=> ") line then file_answer_of false (behind (codes "=> ") line)
    else (if begins (codes "=/> ") line then file_answer_of true (behind (codes "=/> ") line)
    else (if bytes_eq line (codes "=|") then file_text_line_of []
    else (if begins (codes "=| ") line then file_text_line_of (behind (codes "=| ") line) else adding_of k a line)))
