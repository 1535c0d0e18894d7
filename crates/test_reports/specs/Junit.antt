-- Reports of cases in the common dialect of JUnit XML.
use Rattle.std.specs.Prelude.{ℕ, ◌+◌, ◌==◌, ◌&&◌, Bool, List, [], ◌∷◌, ◌++◌, Option, None, Some, codes, filter}
use Rattle.std.specs.Prelude.{is_some, length}
use Rattle.std.specs.Fmt.{decimal}
use Rattle.std.specs.List.{flat_map}
use Rattle.scenario_words.specs.Words.{ended_line}
use Rattle.test_reports.specs.Escaping.{escaped_text}
use Rattle.test_reports.specs.Report.{difference, line_words, title_of}
use Rattle.test_reports.specs.declared.case_file.CaseFile.{CaseFile}
use Rattle.test_reports.specs.declared.case_report.CaseReport.{CaseReport}
use Rattle.test_reports.specs.declared.case_report.Difference.{Difference}
use Rattle.test_reports.specs.declared.escaping.Escape.TheVariants.{Attribute, Element}
use Rattle.test_reports.specs.declared.junit.Failure.{Failure}

-- ` NAME="VALUE"`
unfoldable pub attribute : List ℕ → List ℕ → List ℕ
attribute name value = codes " " ++ name ++ codes "=\"" ++ value ++ codes "\""

-- the same, whose value is this text
unfoldable pub text_attribute : List ℕ → List ℕ → List ℕ
text_attribute name text = attribute name (escaped_text Attribute text)

-- a failure, whose message says in short what the text does
unfoldable pub failure_line : List ℕ → List ℕ → List ℕ
failure_line message text =
    ended_line (codes "<failure" ++ text_attribute (codes "message") message ++ codes ">" ++ escaped_text Element text
    ++ codes "</failure>")

-- what is said of a failure
pub record FailureTexts : Type 0 where
  pub message : List ℕ
  pub text : List ℕ

-- the texts that a failure refers to
abbrev pub texts_of : Failure → FailureTexts
texts_of f = record { message = f.message.now; text = f.text.now }

-- the end of a test case that has this failure
unfoldable pub failure : List ℕ → List ℕ → List ℕ
failure message text = ended_line (codes ">") ++ failure_line message text ++ ended_line (codes "</testcase>")

-- the end of a test case, with its failure if it has one
abbrev pub ending : Option FailureTexts → List ℕ
ending None = ended_line (codes "/>")
ending (Some f) = failure f.message f.text

-- a test case, with its file, its title and its failure if it has one
unfoldable pub testcase : List ℕ → List ℕ → Option FailureTexts → List ℕ
testcase path title failed =
    codes "<testcase" ++ text_attribute (codes "classname") path ++ text_attribute (codes "name") title
    ++ ending failed

-- the head of a test suite of this path, with how many cases it has, and how many of them fail; and its end
unfoldable pub suite_head : List ℕ → ℕ → ℕ → List ℕ
suite_head path tests failures =
    ended_line (codes "<testsuite" ++ text_attribute (codes "name") path
    ++ attribute (codes "tests") (decimal tests) ++ attribute (codes "failures") (decimal failures) ++ codes ">")

abbrev pub suite_end : List ℕ
suite_end = ended_line (codes "</testsuite>")

-- the head of the whole report, and its end
abbrev pub report_head : List ℕ
report_head = ended_line (codes "<?xml version=\"1.0\" encoding=\"UTF-8\"?>") ++ ended_line (codes "<testsuites>")

abbrev pub report_end : List ℕ
report_end = ended_line (codes "</testsuites>")

-- ---- the report

-- a test case, with its file and its title
abbrev pub passing_testcase : CaseReport → List ℕ
passing_testcase case = testcase case.path.now (title_of case) None

-- one that differs is a failure: in its text stands what the report prints of it
abbrev pub failing_testcase : Bool → CaseReport → Difference → List ℕ
failing_testcase several case d =
    testcase case.path.now (title_of case)
    (Some (record { message = line_words d.line d.instead; text = difference several case }))

abbrev pub testcase_by : Bool → CaseReport → Option Difference → List ℕ
testcase_by several case None = passing_testcase case
testcase_by several case (Some d) = failing_testcase several case d

abbrev pub case_testcase : Bool → CaseReport → List ℕ
case_testcase several case = testcase_by several case case.difference

-- a case of the file with this number; and one that differs
abbrev pub is_of_file : ℕ → CaseReport → Bool
is_of_file number case = case.file == number

abbrev pub fails_in_file : ℕ → CaseReport → Bool
fails_in_file number case = is_of_file number case && is_some case.difference

-- the cases of a file
unfoldable pub suite_cases : Bool → ℕ → List CaseReport → List ℕ
suite_cases several number all = flat_map (case_testcase several) (filter (is_of_file number) all)

-- the test suite of a file, by its number and its path
unfoldable pub suite : Bool → ℕ → List ℕ → List CaseReport → List ℕ
suite several number path all =
    suite_head path (length (filter (is_of_file number) all)) (length (filter (fails_in_file number) all))
    ++ suite_cases several number all ++ suite_end

-- a test suite for each file, which have the numbers from this one on
abbrev pub suites : {C : Type 0} → Bool → ℕ → List (CaseFile C) → List CaseReport → List ℕ
suites several number [] all = []
suites several number (file ∷ files) all =
    suite several number file.path.now all ++ suites several (number + 1) files all

abbrev pub junit_text : {C : Type 0} → Bool → List (CaseFile C) → List CaseReport → List ℕ
junit_text several files all = report_head ++ suites several 0 files all ++ report_end
