-- The cases of a file of expectations: its lines are cut at the titles.
use Rattle.std.specs.Prelude.{ℕ, ◌+◌, Bool, List, [], ◌∷◌, ◌++◌, Option, None, Some, Result, Ok, Err, if◌then◌else◌}
use Rattle.std.specs.List.{list_any}
use Rattle.std.specs.Str.{bytes_eq}
use Rattle.scenario_words.specs.Words.{lines}
use Rattle.case_text.specs.declared.fault.CaseFault.{CaseFault}
use Rattle.case_text.specs.declared.fault.Why.{Why}
use Rattle.case_text.specs.declared.fault.Why.TheVariants as why
use Rattle.expectations.specs.declared.expectation.Expectation.{Expectation}
use Rattle.expectations.specs.declared.expectation.ExpectedCase.{ExpectedCase}
use Rattle.expectations.specs.declared.line.Line.{Line}
use Rattle.expectations.specs.declared.line.Line.TheVariants as is
use Rattle.expectations.specs.declared.line.Numbered.{Numbered}
use Rattle.expectations.specs.ExpectedLines.{line_of}

-- ---- lines

-- a line, by its number, before others, or the first that cannot be read
abbrev pub onto_line : Numbered → Result (List Numbered) CaseFault → Result (List Numbered) CaseFault
onto_line x (Ok xs) = Ok (x ∷ xs)
onto_line x (Err f) = Err f

abbrev pub line_before_others : ℕ → Result Line Why → Result (List Numbered) CaseFault
    → Result (List Numbered) CaseFault
line_before_others n (Ok l) others = onto_line (record { number = n; line = l }) others
line_before_others n (Err e) others = Err (record { line = n; why = e })

-- what lines are, of which n stand before them
abbrev pub numbered_lines : List (List ℕ) → ℕ → Result (List Numbered) CaseFault
numbered_lines [] n = Ok []
numbered_lines (l ∷ ls) n = line_before_others (n + 1) (line_of l) (numbered_lines ls (n + 1))

-- ---- cases

-- the expectations above the next title
abbrev pub expectations_by : Line → ℕ → List Expectation → List Expectation
expectations_by (is.Title t) n others = []
expectations_by (is.Expected e) n others = record { line = n; expected = e } ∷ others
expectations_by is.Remark n others = others

abbrev pub expectations_at : List Numbered → List Expectation
expectations_at [] = []
expectations_at (x ∷ xs) = expectations_by x.line x.number (expectations_at xs)

-- a case for each title
abbrev pub cases_by : Line → ℕ → List Expectation → List ExpectedCase → List ExpectedCase
cases_by (is.Title t) n below cases = record { title = t; line = n; lines = below } ∷ cases
cases_by l n below cases = cases

abbrev pub cases_of : List Numbered → List ExpectedCase
cases_of [] = []
cases_of (x ∷ xs) = cases_by x.line x.number (expectations_at xs) (cases_of xs)

-- ---- what is refused

-- nothing but remarks stands before the first case, and there is one
abbrev pub begun_by : Line → ℕ → Result (Unit {0}) CaseFault → Result (Unit {0}) CaseFault
begun_by is.Remark n more = more
begun_by (is.Title t) n more = Ok tt
begun_by (is.Expected e) n more = Err (record { line = n; why = why.BeforeFirstCase })

abbrev pub check_of_start : List Numbered → Result (Unit {0}) CaseFault
check_of_start [] = Err (record { line = 1; why = why.NoCase })
check_of_start (x ∷ xs) = begun_by x.line x.number (check_of_start xs)

abbrev pub has_title : List ℕ → List ExpectedCase → Bool
has_title title cases = list_any (λ c. bytes_eq c.title title) cases

-- a case without a line `<=`
abbrev pub empty_fault : ℕ → List Expectation → Option CaseFault
empty_fault n [] = Some (record { line = n; why = why.NoAnswer })
empty_fault n (e ∷ es) = None

-- why a case is refused, below those above it
abbrev pub fault_of : List ExpectedCase → ExpectedCase → Option CaseFault
fault_of above c =
    if has_title c.title above then Some (record { line = c.line; why = why.SameTitle }) else empty_fault c.line c.lines

abbrev pub unless : Option CaseFault → Result (Unit {0}) CaseFault → Result (Unit {0}) CaseFault
unless (Some f) more = Err f
unless None more = more

-- the first case that is refused, if any
abbrev pub check_of_cases : List ExpectedCase → List ExpectedCase → Result (Unit {0}) CaseFault
check_of_cases above [] = Ok tt
check_of_cases above (c ∷ cs) = unless (fault_of above c) (check_of_cases (above ++ c ∷ []) cs)

-- ---- a file

-- the cases of lines, or the first fault: a line that cannot be read, then what stands before the first case, then what
-- is refused in a case
abbrev pub if_checked : Result (Unit {0}) CaseFault → List ExpectedCase → Result (List ExpectedCase) CaseFault
if_checked (Ok u) cs = Ok cs
if_checked (Err f) cs = Err f

abbrev pub if_begun : Result (Unit {0}) CaseFault → List ExpectedCase → Result (List ExpectedCase) CaseFault
if_begun (Ok u) cs = if_checked (check_of_cases [] cs) cs
if_begun (Err f) cs = Err f

abbrev pub cases_from : Result (List Numbered) CaseFault → Result (List ExpectedCase) CaseFault
cases_from (Ok ls) = if_begun (check_of_start ls) (cases_of ls)
cases_from (Err f) = Err f

-- the cases of a file
abbrev pub expected_cases_in : List ℕ → Result (List ExpectedCase) CaseFault
expected_cases_in text = cases_from (numbered_lines (lines text) 0)
