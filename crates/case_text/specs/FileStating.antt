-- What a line states of a file, and of a recorded trace, by the words after its `=>`, from the left. Each fault is the
-- first one. Bytes by their codes: 32 is a space.
use Rattle.std.specs.Prelude.{ℕ, List, ◌∷◌, ◌++◌, Some, Result, Ok, Err, codes, if◌then◌else◌}
use Rattle.std.specs.List.{flat_map}
use Rattle.std.specs.Str.{bytes_eq}
use Rattle.scenario_words.specs.declared.cause.Cause.{Cause}
use Rattle.scenario_words.specs.Number.{number_of}
use Rattle.scenario_words.specs.Quoted.{utf8_or_token}
use Rattle.scenario_words.specs.Reading.{◌>>=◌, first_of, word_by, check_of_end}
use Rattle.scenario_words.specs.ValueWords.{name_fault}
use Rattle.scenario_statements.specs.Grammar.{check_of_name, only_number}
use Rattle.case_text.specs.declared.file_stated.FileStated.{FileStated}
use Rattle.case_text.specs.declared.file_stated.FileStated.TheVariants as states
use Rattle.case_text.specs.declared.stated.Stated.{Stated}
use Rattle.case_text.specs.declared.stated.Stated.TheVariants.{End, Verdict}
use Rattle.case_text.specs.declared.stated.EndStated.TheVariants.{Done}
use Rattle.case_text.specs.declared.stated.VerdictStated.TheVariants as verdict
use Rattle.case_text.specs.BytesWords.{all_digits}
use Rattle.case_text.specs.Stating.{fault, only_name, stalled}

abbrev pub any_number : List ℕ → Result ℕ Cause
any_number w = number_of 0 18446744073709551615 w

-- a word and those after it, with a space before each of these
abbrev pub phrase : List ℕ → List (List ℕ) → List ℕ
phrase w ws = w ++ flat_map (λ v. 32 ∷ v) ws

-- the words of a fault, which are text
abbrev pub fault_words : List (List ℕ) → Result (List ℕ) Cause
fault_words ws = first_of ws >>= (λ w. utf8_or_token (Some (phrase w.0 w.1)))

-- ---- of a file

-- ok C classes D devices S steps, where C and the word behind it were read
abbrev pub ok_scenario : ℕ → List (List ℕ) → Result FileStated Cause
ok_scenario classes ws = do
  d ← word_by any_number ws
  a ← word_by (check_of_name (codes "devices")) d.1
  s ← word_by any_number a.1
  b ← only_name (codes "steps") s.1
  Ok (states.Ok classes d.0 s.0)

-- ok C classes .., ok E entries, where the number was read
abbrev pub ok_by : ℕ → List ℕ → List (List ℕ) → Result FileStated Cause
ok_by n w ws =
    if bytes_eq w (codes "classes") then ok_scenario n ws
    else (if bytes_eq w (codes "entries") then (check_of_end ws >>= (λ e. Ok (states.OkEntries n)))
    else Err (name_fault w))

abbrev pub ok_at : List (List ℕ) → Result FileStated Cause
ok_at ws = do
  n ← word_by any_number ws
  w ← first_of n.1
  ok_by n.0 w.0 w.1

-- fault WORDS, fault or ok
abbrev pub file_fault_by : List ℕ → FileStated
file_fault_by t = if bytes_eq t (codes "or ok") then states.FaultOrOk else states.Fault t

-- what is stated, by its first word and those after it
abbrev pub file_stated_by : List ℕ → List (List ℕ) → Result FileStated Cause
file_stated_by w ws =
    if bytes_eq w (codes "ok") then ok_at ws
    else (if bytes_eq w (codes "fault") then (fault_words ws >>= (λ t. Ok (file_fault_by t)))
    else (if bytes_eq w (codes "image") then (all_digits ws >>= (λ d. Ok (states.Image d)))
    else (if bytes_eq w (codes "trace") then (all_digits ws >>= (λ d. Ok (states.Trace d)))
    else (if bytes_eq w (codes "text") then (check_of_end ws >>= (λ e. Ok states.Text))
    else (if bytes_eq w (codes "entries") then (check_of_end ws >>= (λ e. Ok states.Entries))
    else Err (name_fault w))))))

-- what is stated
abbrev pub file_stated_of : List (List ℕ) → Result FileStated Cause
file_stated_of ws = first_of ws >>= (λ w. file_stated_by w.0 w.1)

-- ---- of a recorded trace

-- not a run at N
abbrev pub not_a_run : List (List ℕ) → Result Stated Cause
not_a_run ws = do
  a ← word_by (check_of_name (codes "a")) ws
  r ← word_by (check_of_name (codes "run")) a.1
  p ← word_by (check_of_name (codes "at")) r.1
  n ← only_number 0 18446744073709551615 p.1
  Ok (Verdict (verdict.NotARun n))

-- fault line N CAUSE of the text, fault WORDS of the trace file
abbrev pub recorded_fault : List (List ℕ) → Result Stated Cause
recorded_fault ws = do
  w ← first_of ws
  if bytes_eq w.0 (codes "line") then fault ws else (fault_words ws >>= (λ t. Ok (Verdict (verdict.Fault t))))

-- what is stated, by its first word and those after it
abbrev pub recorded_stated_by : List ℕ → List (List ℕ) → Result Stated Cause
recorded_stated_by w ws =
    if bytes_eq w (codes "run") then (check_of_end ws >>= (λ e. Ok (Verdict verdict.Run)))
    else (if bytes_eq w (codes "not") then not_a_run ws
    else (if bytes_eq w (codes "fault") then recorded_fault ws
    else (if bytes_eq w (codes "done") then
    (only_number 0 18446744073709551615 ws >>= (λ n. Ok (End (Done n))))
    else (if bytes_eq w (codes "stalled") then stalled ws else Err (name_fault w)))))

-- what is stated
abbrev pub recorded_stated_of : List (List ℕ) → Result Stated Cause
recorded_stated_of ws = first_of ws >>= (λ w. recorded_stated_by w.0 w.1)
