-- The cases of a file: its lines are cut at the titles; an answer belongs to the line above it that states none.
use Rattle.std.specs.Prelude.{◌≡◌, ◌≢◌, ℕ, ◌+◌, ◌-◌, List, [], ◌∷◌, ◌++◌, replicate, Result, Ok, Err}
use Rattle.std.specs.Prelude.{if◌then◌else◌}
use Rattle.std.specs.List.{flat_map}
use Rattle.scenario_words.specs.Words.{lines}
use Rattle.case_text.specs.declared.above.Above.{Above}
use Rattle.case_text.specs.declared.answer.Answer.{Answer}
use Rattle.case_text.specs.declared.body.Body.{Body}
use Rattle.case_text.specs.declared.case.Case.{Case}
use Rattle.case_text.specs.declared.case.Case.TheVariants as of
use Rattle.case_text.specs.declared.fault.CaseFault.{CaseFault}
use Rattle.case_text.specs.declared.fault.Why.{Why}
use Rattle.case_text.specs.declared.fault.Why.TheVariants as why
use Rattle.case_text.specs.declared.item.Item.{Item}
use Rattle.case_text.specs.declared.item.Part.TheVariants as part
use Rattle.case_text.specs.declared.line.Line.{Line}
use Rattle.case_text.specs.declared.line.Line.TheVariants as is
use Rattle.case_text.specs.declared.numbered.Numbered.{Numbered}
use Rattle.case_text.specs.declared.scenario_case.ScenarioCase.{ScenarioCase}
use Rattle.case_text.specs.Above.{above_none, after}
use Rattle.case_text.specs.Added.{whole_lines}
use Rattle.case_text.specs.AnyLine.{line_of}
use Rattle.case_text.specs.Checks.{check_of_cases, check_of_start}
use Rattle.case_text.specs.FileCases.{file_of, gives_file}

-- ---- the lines

-- a line, by its number, before others, or the first that cannot be read; what stands above the others
abbrev pub onto_line : Numbered → Result (List Numbered) CaseFault → Result (List Numbered) CaseFault
onto_line x (Ok xs) = Ok (x ∷ xs)
onto_line x (Err f) = Err f

abbrev pub line_before_others : ℕ → Above → Result Line Why → (Above → Result (List Numbered) CaseFault)
    → Result (List Numbered) CaseFault
line_before_others n a (Ok l) others = onto_line (record { number = n; line = l }) (others (after a l))
line_before_others n a (Err e) others = Err (record { line = n; why = e })

-- what lines are, of which n stand before them, and this above them
abbrev pub numbered_lines : List (List ℕ) → ℕ → Above → Result (List Numbered) CaseFault
numbered_lines [] n a = Ok []
numbered_lines (l ∷ ls) n a = line_before_others (n + 1) a (line_of a l) (numbered_lines ls (n + 1))

-- ---- cases of scenarios

-- the lines up to the next title
abbrev pub body_by : Line → Numbered → List Numbered → List Numbered
body_by (is.Title t) x xs = []
body_by l x xs = x ∷ xs

abbrev pub body_of : List Numbered → List Numbered
body_of [] = []
body_of (x ∷ xs) = body_by x.line x (body_of xs)

-- the answers that stand above the next line that states none; no line is a title, and remarks do not count
abbrev pub answers_by : Line → ℕ → List Answer → List Answer
answers_by (is.Answer m s) n others = record { line = n; must_not = m; stated = s } ∷ others
answers_by (is.Part p t k) n others = []
answers_by l n others = others

abbrev pub answers_at : List Numbered → List Answer
answers_at [] = []
answers_at (x ∷ xs) = answers_by x.line x.number (answers_at xs)

-- each line that states no answer, with the answers that stand between it and the next one
abbrev pub items_by : Line → ℕ → List Answer → List Item → List Item
items_by (is.Part p t k) n answers others = record { line = n; part = p; answers = answers } ∷ others
items_by l n answers others = others

abbrev pub items_of : List Numbered → List Item
items_of [] = []
items_of (x ∷ xs) = items_by x.line x.number (answers_at xs) (items_of xs)

-- the start of a case, whose title stands in this line, and the items below it
abbrev pub all_items : ℕ → List Numbered → List Item
all_items n xs = record { line = n; part = part.Start; answers = answers_at xs } ∷ items_of xs

-- what a line adds to the scenario's text, and how many lines that are
abbrev pub text_by : Line → List ℕ
text_by (is.Part p t n) = t
text_by (is.Title t) = []
text_by l = 10 ∷ []

abbrev pub count_by : Line → ℕ
count_by (is.Part p t n) = n
count_by (is.Title t) = 0
count_by l = 1

abbrev pub text_of : List Numbered → List ℕ
text_of xs = flat_map (λ x. text_by x.line) xs

-- the numbers of the text's lines, counted below the title in this line
abbrev pub numbers_of : ℕ → List Numbered → List ℕ
numbers_of title xs = flat_map (λ x. replicate (count_by x.line) (x.number - title)) xs

abbrev pub scenario_of : List ℕ → ℕ → List Numbered → ScenarioCase
scenario_of title n xs = record {
  title = title;
  line = n;
  text = text_of xs;
  numbers = numbers_of n xs;
  items = all_items n (whole_lines xs);
}

-- ---- all cases

-- a case of its title, the title's line and the lines below it
unfoldable pub case_of : List ℕ → ℕ → List Numbered → Case
case_of title n xs =
    if gives_file xs then of.File (file_of title n xs) else of.Scenario (scenario_of title n xs)

abbrev pub case_by : Body → Case
case_by b = case_of b.title b.line b.lines.items

-- a case for each title
abbrev pub cases_by : Line → ℕ → List Numbered → List Case → List Case
cases_by (is.Title t) n xs cs = case_of t n xs ∷ cs
cases_by l n xs cs = cs

abbrev pub cases_of : List Numbered → List Case
cases_of [] = []
cases_of (x ∷ xs) = cases_by x.line x.number (body_of xs) (cases_of xs)

-- ---- the cases of a file

-- the cases of lines, or the first fault: what stands before the first case, then what is refused in a case
abbrev pub if_checked : Result (Unit {0}) CaseFault → List Case → Result (List Case) CaseFault
if_checked (Ok u) cs = Ok cs
if_checked (Err f) cs = Err f

abbrev pub if_begun : Result (Unit {0}) CaseFault → List Case → Result (List Case) CaseFault
if_begun (Ok u) cs = if_checked (check_of_cases [] cs) cs
if_begun (Err f) cs = Err f

abbrev pub cases_from : Result (List Numbered) CaseFault → Result (List Case) CaseFault
cases_from (Ok ls) = if_begun (check_of_start ls) (cases_of ls)
cases_from (Err f) = Err f

-- the cases of a file
abbrev pub cases_in : List ℕ → Result (List Case) CaseFault
cases_in text = cases_from (numbered_lines (lines text) 0 above_none)

-- what a function answered is what there is, seen through the view, unless memory ran out
abbrev pub Finds : {X Y : Type 0} → (X → Y) → Result X CaseFault → Result Y CaseFault → Type 0
Finds view (Ok x) found = found ≡ Ok (view x)
Finds view (Err f) found = f.why ≢ why.Memory → found ≡ Err f
