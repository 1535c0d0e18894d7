-- What a line is by what stands above it. Bytes by their codes: 32 is a space.
use Rattle.std.specs.Prelude.{ℕ, ◌==◌, List, [], ◌∷◌, Result, Ok, Err, codes, if◌then◌else◌}
use Rattle.std.specs.List.{list_all}
use Rattle.std.specs.Str.{bytes_eq}
use Rattle.scenario_words.specs.Words.{words}
use Rattle.case_text.specs.declared.above.Above.{Above}
use Rattle.case_text.specs.declared.above.Adding.{Adding}
use Rattle.case_text.specs.declared.above.Adding.TheVariants as adds_to
use Rattle.case_text.specs.declared.above.CaseKind.{CaseKind}
use Rattle.case_text.specs.declared.above.CaseKind.TheVariants as kinds
use Rattle.case_text.specs.declared.fault.Why.{Why}
use Rattle.case_text.specs.declared.fault.Why.TheVariants as why
use Rattle.case_text.specs.declared.file_case.FileKind.TheVariants as files
use Rattle.case_text.specs.declared.line.Line.{Line}
use Rattle.case_text.specs.declared.line.Line.TheVariants as is
use Rattle.case_text.specs.FileLines.{file_line_of, given_of, more_of, text_file_of}
use Rattle.case_text.specs.Lines.{marked_of}
use Rattle.case_text.specs.Marks.{begins, behind, is_headed, of_text, text_from}

-- a title, which is not spaces alone
abbrev pub title_of : List ℕ → Result Line Why
title_of title = if list_all (λ b. b == 32) title then Err why.NoTitle else of_text is.Title (text_from title)

-- the first line with words of a case: it gives a file, or it is a line of a case of a scenario
abbrev pub opening_of : List ℕ → List ℕ → Result Line Why
opening_of w line =
    if is_headed (codes "image") w line then given_of files.Image (behind (codes "image") line)
    else (if is_headed (codes "trace") w line then given_of files.Trace (behind (codes "trace") line)
    else (if is_headed (codes "text") w line then text_file_of (words (behind (codes "text") line))
    else (if is_headed (codes "entries") w line then Err why.NoSuchLine else marked_of kinds.Scenario w line)))

-- a line of a case of a scenario, in which `+ BYTES` adds only to a recorded trace
abbrev pub scenario_line_of : CaseKind → Adding → List ℕ → List ℕ → Result Line Why
scenario_line_of k adds_to.Nothing w line = marked_of k w line
scenario_line_of k a w line =
    if begins (codes "+ ") line then more_of a (behind (codes "+ ") line) else marked_of k w line

-- a line with words that begins no case
abbrev pub line_in : CaseKind → Adding → List ℕ → List ℕ → Result Line Why
line_in kinds.Open a w line = opening_of w line
line_in (kinds.File k) a w line = file_line_of k a line
line_in k a w line = scenario_line_of k a w line

-- a line with words, by its first word
abbrev pub worded_of : Above → List ℕ → List ℕ → Result Line Why
worded_of a w line =
    if bytes_eq line (codes "case") then Err why.NoTitle
    else (if begins (codes "case ") line then title_of (behind (codes "case ") line)
    else line_in a.kind a.adding w line)

abbrev pub line_by : Above → List (List ℕ) → List ℕ → Result Line Why
line_by a [] line = Ok is.Remark
line_by a (w ∷ ws) line = worded_of a w line

-- what a line is; one without words is a remark
abbrev pub line_of : Above → List ℕ → Result Line Why
line_of a line = line_by a (words line) line
