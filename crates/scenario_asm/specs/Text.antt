-- What a text denotes: the statements of its lines, one after another.
use Rattle.std.specs.Prelude.{◌≡◌, ℕ, ◌+◌, List, [], ◌∷◌, ◌++◌, length, Option, None, Some, Result, Ok, Err}
use Rattle.std.specs.Prelude.{if◌then◌else◌}
use Rattle.scenario_image.specs.Scenario.{Scenario}
use Rattle.scenario_words.specs.declared.cause.Cause.{Cause}
use Rattle.scenario_words.specs.declared.cause.Cause.TheVariants.{Missing}
use Rattle.scenario_words.specs.Words.{lines, words}
use Rattle.scenario_words.specs.Reading.{◌>>=◌}
use Rattle.scenario_statements.specs.declared.statement.Statement.{Statement}
use Rattle.scenario_statements.specs.Grammar.{statement_of}
use Rattle.scenario_asm.specs.Draft.{Draft, closed_scenario, nothing}
use Rattle.scenario_asm.specs.Effect.{effect}
use Rattle.scenario_asm.specs.declared.fault.AsmFault.{AsmFault}

-- a line that says nothing adds nothing
abbrev pub effect_of : Option Statement → Draft → Result Draft Cause
effect_of None d = Ok d
effect_of (Some s) d = effect s d

-- a line: its words are read, then its statement has its effect
abbrev pub line_after : List ℕ → Draft → Result Draft Cause
line_after line d = statement_of (words line) >>= (λ s. effect_of s d)

abbrev pub at_line : ℕ → Result Draft Cause → Result Draft AsmFault
at_line n (Ok d) = Ok d
at_line n (Err cause) = Err (record { line = n; cause = cause })

abbrev pub then_lines : (Draft → Result Draft AsmFault) → Result Draft AsmFault → Result Draft AsmFault
then_lines more (Ok d) = more d
then_lines more (Err fault) = Err fault

-- lines, of which n stand before them, or the first that is refused, counted from 1
abbrev pub lines_after : List (List ℕ) → ℕ → Draft → Result Draft AsmFault
lines_after [] n d = Ok d
lines_after (line ∷ more) n d = then_lines (lines_after more (n + 1)) (at_line (n + 1) (line_after line d))

-- what was stated in all; where nothing was, line 1 has to
abbrev pub whole_scenario : Draft → Result Scenario AsmFault
whole_scenario d = if d.begun then Ok (closed_scenario d) else Err (record { line = 1; cause = Missing })

abbrev pub whole_of : Result Draft AsmFault → Result Scenario AsmFault
whole_of (Ok d) = whole_scenario d
whole_of (Err fault) = Err fault

-- the scenario of a text, or its first fault
abbrev pub scenario_of_text : List ℕ → Result Scenario AsmFault
scenario_of_text text = whole_of (lines_after (lines text) 0 nothing)

-- a line of the text, by its number: those before it are taken
pub record IsReached (text : List ℕ) (line : ℕ) : Type 0 where
  pub before : List (List ℕ)
  pub here : List ℕ
  pub behind : List (List ℕ)
  pub cut : lines text ≡ before ++ here ∷ behind
  pub count : line ≡ length before + 1
  pub draft : Draft
  pub taken : lines_after before 0 nothing ≡ Ok draft
