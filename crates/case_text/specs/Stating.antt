-- What a line states, by the words after its `=>`, from the left. Each fault is the first one.
use Rattle.std.specs.Prelude.{ℕ, ◌+◌, ◌*◌, ◌-◌, ◌==◌, nat_lt, ◌&&◌, Bool, false, List, [], ◌∷◌, Option, None, Some}
use Rattle.std.specs.Prelude.{Result, Ok, Err, codes, if◌then◌else◌}
use Rattle.std.specs.Char.{is_ascii_digit}
use Rattle.std.specs.Str.{bytes_eq}
use Rattle.device_requests.specs.declared.answer.Act.{Act}
use Rattle.device_requests.specs.declared.answer.Act.TheVariants as act
use Rattle.scenario_words.specs.declared.cause.Cause.{Cause}
use Rattle.scenario_words.specs.declared.cause.Cause.TheVariants.{Missing, Token, UnknownWord, Range, Duplicate, Limit}
use Rattle.scenario_words.specs.Reading.{◌>>=◌, first_of, word_by, check_of_end}
use Rattle.scenario_words.specs.Number.{number_of}
use Rattle.scenario_words.specs.Quoted.{text_of}
use Rattle.scenario_words.specs.ValueWords.{name_fault}
use Rattle.scenario_statements.specs.Grammar.{check_of_name, only_number}
use Rattle.case_text.specs.declared.digit.Digit.{Digit}
use Rattle.case_text.specs.declared.stated.Stated.{Stated}
use Rattle.case_text.specs.declared.stated.Stated.TheVariants as states
use Rattle.case_text.specs.declared.stated.OutputStated.TheVariants as output
use Rattle.case_text.specs.declared.stated.EndStated.TheVariants as end
use Rattle.case_text.specs.declared.stated.WrittenStated.TheVariants as written
use Rattle.case_text.specs.Digits.{digits_of}

-- this name, and no further word
abbrev pub only_name : List ℕ → List (List ℕ) → Result (Unit {0}) Cause
only_name name ws = word_by (check_of_name name) ws >>= (λ n. check_of_end n.1)

-- digits, and no further word
abbrev pub only_digits : List (List ℕ) → Result (List Digit) Cause
only_digits ws = do
  d ← word_by digits_of ws
  e ← check_of_end d.1
  Ok d.0

-- a text in quotes, and no further word
abbrev pub only_text : List (List ℕ) → Result (List ℕ) Cause
only_text ws = do
  t ← word_by text_of ws
  e ← check_of_end t.1
  Ok t.0

-- the same, or no word
abbrev pub text_or_none : List (List ℕ) → Result (Option (List ℕ)) Cause
text_or_none [] = Ok None
text_or_none (w ∷ ws) = only_text (w ∷ ws) >>= (λ t. Ok (Some t))

-- a code in one byte, of its class and its detail (RFC 7252 section 3)
abbrev pub code_from : ℕ → ℕ → Result ℕ Cause
code_from class detail = if nat_lt class 8 && nat_lt detail 32 then Ok (class * 32 + detail) else Err Range

-- the code of a word: C.DD
abbrev pub code_of : List ℕ → Result ℕ Cause
code_of (c ∷ dot ∷ h ∷ l ∷ []) =
    if (dot == 46) && (is_ascii_digit c && (is_ascii_digit h && is_ascii_digit l))
    then code_from (c - 48) ((h - 48) * 10 + (l - 48)) else Err Token
code_of _ = Err Token

-- send S HEX
abbrev pub send : List (List ℕ) → Result Stated Cause
send ws = do
  s ← word_by (number_of 1 65534) ws
  d ← only_digits s.1
  Ok (states.Output (output.Send s.0 d))

-- code C.DD "TEXT"
abbrev pub code : List (List ℕ) → Result Stated Cause
code ws = do
  c ← word_by code_of ws
  t ← text_or_none c.1
  Ok (states.Output (output.Code c.0 t))

-- notification N "TEXT"
abbrev pub notification : List (List ℕ) → Result Stated Cause
notification ws = do
  n ← word_by (number_of 0 16777215) ws
  t ← only_text n.1
  Ok (states.Output (output.Notification n.0 t))

-- what a device does, by its name
abbrev pub act_by : List ℕ → List (List ℕ) → Result Act Cause
act_by w ws =
    if bytes_eq w (codes "reboot") then (check_of_end ws >>= (λ e. Ok act.Reboot))
    else (if bytes_eq w (codes "factory") then (only_name (codes "reset") ws >>= (λ e. Ok act.FactoryReset))
    else (if bytes_eq w (codes "reg") then (only_name (codes "update") ws >>= (λ e. Ok act.RegUpdate))
    else (if bytes_eq w (codes "disable") then (check_of_end ws >>= (λ e. Ok act.Disable))
    else (if bytes_eq w (codes "missed") then (check_of_end ws >>= (λ e. Ok act.Missed)) else Err (name_fault w)))))

-- act NAME
abbrev pub act_at : List (List ℕ) → Result Stated Cause
act_at ws = do
  w ← first_of ws
  a ← act_by w.0 w.1
  Ok (states.Output (output.Act a))

-- N more
abbrev pub more : List (List ℕ) → Result Stated Cause
more ws = do
  n ← word_by (number_of 1 100000) ws
  e ← only_name (codes "more") n.1
  Ok (states.Output (output.More n.0))

-- the numbers of devices
abbrev pub devices_of : List (List ℕ) → Result (List ℕ) Cause
devices_of [] = Ok []
devices_of (w ∷ ws) = do
  n ← number_of 0 65535 w
  ns ← devices_of ws
  Ok (n ∷ ns)

-- one number of a device or more
abbrev pub some_devices : List (List ℕ) → Result (List ℕ) Cause
some_devices ws = first_of ws >>= (λ w. devices_of ws)

-- stalled E waiting D ..
abbrev pub stalled : List (List ℕ) → Result Stated Cause
stalled ws = do
  n ← word_by (number_of 0 18446744073709551615) ws
  w ← word_by (check_of_name (codes "waiting")) n.1
  ds ← some_devices w.1
  Ok (states.End (end.Stalled n.0 ds))

-- why a text is refused, as it is printed
abbrev pub cause_by : List ℕ → List (List ℕ) → Result Cause Cause
cause_by w ws =
    if bytes_eq w (codes "missing") then (check_of_end ws >>= (λ e. Ok Missing))
    else (if bytes_eq w (codes "token") then (check_of_end ws >>= (λ e. Ok Token))
    else (if bytes_eq w (codes "unknown") then (only_name (codes "word") ws >>= (λ e. Ok UnknownWord))
    else (if bytes_eq w (codes "range") then (check_of_end ws >>= (λ e. Ok Range))
    else (if bytes_eq w (codes "duplicate") then (check_of_end ws >>= (λ e. Ok Duplicate))
    else (if bytes_eq w (codes "limit") then (check_of_end ws >>= (λ e. Ok Limit)) else Err (name_fault w))))))

-- fault line N CAUSE
abbrev pub fault : List (List ℕ) → Result Stated Cause
fault ws = do
  l ← word_by (check_of_name (codes "line")) ws
  n ← word_by (number_of 1 18446744073709551615) l.1
  w ← first_of n.1
  c ← cause_by w.0 w.1
  Ok (states.End (end.Fault n.0 c))

-- what is stated of a scenario as a whole, by its first word and those after it
abbrev pub whole_by : List ℕ → List (List ℕ) → Result Stated Cause
whole_by w ws =
    if bytes_eq w (codes "done") then (only_number 0 18446744073709551615 ws >>= (λ n. Ok (states.End (end.Done n))))
    else (if bytes_eq w (codes "stalled") then stalled ws
    else (if bytes_eq w (codes "image") then (only_digits ws >>= (λ d. Ok (states.Written (written.Image d))))
    else (if bytes_eq w (codes "trace") then (only_digits ws >>= (λ d. Ok (states.Written (written.Trace d))))
    else (if bytes_eq w (codes "text") then (check_of_end ws >>= (λ e. Ok (states.Written written.Text)))
    else (if bytes_eq w (codes "fault") then fault ws else Err (name_fault w))))))

-- what is stated, by its first word and those after it
abbrev pub stated_by : List ℕ → List (List ℕ) → Result Stated Cause
stated_by w ws =
    if bytes_eq w (codes "nothing") then (check_of_end ws >>= (λ e. Ok (states.Output output.Nothing)))
    else (if bytes_eq w (codes "send") then send ws
    else (if bytes_eq w (codes "code") then code ws
    else (if bytes_eq w (codes "notification") then notification ws
    else (if bytes_eq w (codes "act") then act_at ws else whole_by w ws))))

-- a word that begins with a decimal digit
abbrev pub is_count : List ℕ → Bool
is_count [] = false
is_count (b ∷ bs) = is_ascii_digit b

-- what is stated
abbrev pub stated_of : List (List ℕ) → Result Stated Cause
stated_of ws = first_of ws >>= (λ w. if is_count w.0 then more ws else stated_by w.0 w.1)
