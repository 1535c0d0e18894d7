-- What a line of a file of expectations is.
use Rattle.std.specs.Prelude.{ℕ, List, [], ◌∷◌, Result, Ok, Err, codes, if◌then◌else◌}
use Rattle.scenario_words.specs.declared.cause.Cause.{Cause}
use Rattle.scenario_words.specs.Words.{words}
use Rattle.case_text.specs.declared.fault.Why.{Why}
use Rattle.case_text.specs.declared.fault.Why.TheVariants as why
use Rattle.case_text.specs.declared.line.Line.TheVariants as of_case
use Rattle.case_text.specs.declared.line.Line.{Line as CaseLine}
use Rattle.case_text.specs.Above.{above_none}
use Rattle.case_text.specs.AnyLine.{line_of as case_line_of}
use Rattle.case_text.specs.Marks.{begins, behind}
use Rattle.expectations.specs.declared.expectation.Expected.{Expected}
use Rattle.expectations.specs.declared.line.Line.{Line}
use Rattle.expectations.specs.declared.line.Line.TheVariants as is
use Rattle.expectations.specs.ExpectationWords.{expected_at}

-- an expectation that was read, or why it could not be
abbrev pub expectation_by : Result Expected Cause → Result Line Why
expectation_by (Ok e) = Ok (is.Expected e)
expectation_by (Err cause) = Err (why.NotAnExpectation cause)

-- a title, as a file of cases has it
abbrev pub title_line : Result CaseLine Why → Result Line Why
title_line (Ok (of_case.Title t)) = Ok (is.Title t)
title_line (Ok l) = Err why.NoSuchLine
title_line (Err e) = Err e

-- a line with words
abbrev pub worded_of : List ℕ → Result Line Why
worded_of line =
    if begins (codes "<= ") line then expectation_by (expected_at (words (behind (codes "<= ") line)))
    else (if begins (codes "case") line then title_line (case_line_of above_none line) else Err why.NoSuchLine)

abbrev pub line_by : List (List ℕ) → List ℕ → Result Line Why
line_by [] line = Ok is.Remark
line_by (w ∷ ws) line = worded_of line

-- one without words is a remark
abbrev pub line_of : List ℕ → Result Line Why
line_of line = line_by (words line) line
