-- Lines that are read and grouped one after another.
use Rattle.std.proofs.Common.{◌≡◌, ℕ, suc, List, [], ◌∷◌, ◌++◌, length, Option, None, Some, Result, Ok, Err, refl, sym}
use Rattle.std.proofs.Common.{◌+◌, ap, ◌∙◌, append_assoc}
use Rattle.case_text.specs.declared.fault.CaseFault.{CaseFault}
use Rattle.case_text.specs.declared.fault.Why.{Why}
use Rattle.scenario_words.specs.Words.{lines}
use Rattle.expectations.specs.declared.expectation.Expectation.{Expectation}
use Rattle.expectations.specs.declared.expectation.ExpectedCase.{ExpectedCase}
use Rattle.expectations.specs.declared.grouping.OpenCase.{OpenCase}
use Rattle.expectations.specs.declared.line.Line.{Line}
use Rattle.expectations.specs.declared.line.Numbered.{Numbered}
use Rattle.expectations.specs.ExpectedCases.{line_before_others, numbered_lines, onto_line}
use Rattle.expectations.specs.ExpectedLines.{line_of}

-- a case whose lines are being grouped, with more lines
abbrev pub with_more : Option OpenCase → List Expectation → List ExpectedCase
with_more None more = []
with_more (Some c) more = record { title = c.title; line = c.line; lines = c.lines.items ++ more } ∷ []

-- a line by its number
abbrev pub numbered_line : ℕ → Line → Numbered
numbered_line n l = record { number = n; line = l }

-- one more than the bytes that are left, and nothing after the last line
abbrev pub bytes_left : Option (List ℕ) → ℕ
bytes_left None = 0
bytes_left (Some bytes) = suc (length bytes)

-- the lines that were read, before those that are left
abbrev pub ahead : List Numbered → Result (List Numbered) CaseFault → Result (List Numbered) CaseFault
ahead xs (Ok ys) = Ok (xs ++ ys)
ahead xs (Err f) = Err f

-- one line more
ahead_more : (xs : List Numbered) (n : ℕ) (l : Line) (r : Result (List Numbered) CaseFault)
    → ahead xs (onto_line (numbered_line n l) r) ≡ ahead (xs ++ numbered_line n l ∷ []) r
ahead_more xs n l (Ok ys) = ap Ok (sym (append_assoc xs (numbered_line n l ∷ []) ys))
ahead_more xs n l (Err f) = refl

-- a line is read
pub goes_on : (text first : List ℕ) (more : List (List ℕ)) (n : ℕ) (all : List Numbered) (l : Line)
    (total : Result (List Numbered) CaseFault) → lines text ≡ first ∷ more → line_of first ≡ Ok l
    → ahead all (numbered_lines (lines text) n) ≡ total
    → ahead (all ++ numbered_line (n + 1) l ∷ []) (numbered_lines more (n + 1)) ≡ total
goes_on text first more n all l total cut read so_far =
    sym (ahead_more all (n + 1) l (numbered_lines more (n + 1)))
    ∙ sym (ap (λ ls. ahead all (numbered_lines ls n)) cut
    ∙ ap (λ r. ahead all (line_before_others (n + 1) r (numbered_lines more (n + 1)))) read)
    ∙ so_far

-- a line cannot be read
pub stops : (text first : List ℕ) (more : List (List ℕ)) (n : ℕ) (all : List Numbered) (w : Why)
    (total : Result (List Numbered) CaseFault) → lines text ≡ first ∷ more → line_of first ≡ Err w
    → ahead all (numbered_lines (lines text) n) ≡ total → total ≡ Err (record { line = n + 1; why = w })
stops text first more n all w total cut refused so_far =
    sym so_far ∙ (ap (λ ls. ahead all (numbered_lines ls n)) cut
    ∙ ap (λ r. ahead all (line_before_others (n + 1) r (numbered_lines more (n + 1)))) refused)

pub ruleset line_by_line = (goes_on, stops)
