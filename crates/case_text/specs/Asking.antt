-- What a line asks a device, by the words after its `?`, from the left. Each fault is the first one.
use Rattle.std.specs.Prelude.{ℕ, Bool, List, Option, None, Some, Result, Ok, Err, codes, if◌then◌else◌}
use Rattle.std.specs.Str.{bytes_eq}
use Rattle.lwm2m_values.specs.declared.value.Value.{Value}
use Rattle.scenario_words.specs.declared.cause.Cause.{Cause}
use Rattle.scenario_words.specs.Reading.{◌>>=◌, first_of, word_by, check_of_end}
use Rattle.scenario_words.specs.PathWord.{path_of}
use Rattle.scenario_words.specs.ValueWords.{name_fault, value_at}
use Rattle.scenario_statements.specs.Grammar.{one_of, only_number}
use Rattle.case_text.specs.declared.question.Question.{Question}
use Rattle.case_text.specs.declared.question.Question.TheVariants as asks

-- whether the answer must not come: =/> or =>
abbrev pub arrow_of : List ℕ → Result Bool Cause
arrow_of w = one_of (codes "=/>") (codes "=>") w

-- KIND VALUE, and no further word
abbrev pub only_value : List (List ℕ) → Result Value Cause
only_value ws = do
  v ← value_at ws
  e ← check_of_end v.1
  Ok v.0

-- a value, or none
abbrev pub value_or_none : List (List ℕ) → Result (Option Value) Cause
value_or_none ws =
    first_of ws >>= (λ w. if bytes_eq w.0 (codes "none") then (check_of_end w.1 >>= (λ e. Ok None))
    else (only_value ws >>= (λ v. Ok (Some v))))

-- a second, or none
abbrev pub second_or_none : List (List ℕ) → Result (Option ℕ) Cause
second_or_none ws =
    first_of ws >>= (λ w. if bytes_eq w.0 (codes "none") then (check_of_end w.1 >>= (λ e. Ok None))
    else (only_number 0 18446744073709551615 ws >>= (λ n. Ok (Some n))))

-- value PATH => KIND VALUE, value PATH => none
abbrev pub value_asked : List (List ℕ) → Result (Bool × Question) Cause
value_asked ws = do
  p ← word_by path_of ws
  a ← word_by arrow_of p.1
  v ← value_or_none a.1
  Ok (a.0, asks.Value p.0 v)

-- clock => N, observations => N
abbrev pub number_asked : List (List ℕ) → Result (Bool × ℕ) Cause
number_asked ws = do
  a ← word_by arrow_of ws
  n ← only_number 0 18446744073709551615 a.1
  Ok (a.0, n)

-- due => N, due => none
abbrev pub due_asked : List (List ℕ) → Result (Bool × Question) Cause
due_asked ws = do
  a ← word_by arrow_of ws
  n ← second_or_none a.1
  Ok (a.0, asks.Due n)

-- what is asked, by its first word and those after it, and whether the answer must not come
abbrev pub question_by : List ℕ → List (List ℕ) → Result (Bool × Question) Cause
question_by w ws =
    if bytes_eq w (codes "value") then value_asked ws
    else (if bytes_eq w (codes "clock") then (number_asked ws >>= (λ a. Ok (a.0, asks.Clock a.1)))
    else (if bytes_eq w (codes "observations") then (number_asked ws >>= (λ a. Ok (a.0, asks.Observations a.1)))
    else (if bytes_eq w (codes "due") then due_asked ws else Err (name_fault w))))

-- what is asked
abbrev pub question_of : List (List ℕ) → Result (Bool × Question) Cause
question_of ws = do
  w ← first_of ws
  question_by w.0 w.1
