-- How the words of a line are read as a debug command, from the left, as clauses of private functions name it. No
-- promise rests on it: what is promised stands in Saying.
use Rattle.std.specs.Prelude.{ℕ, ◌+◌, ◌*◌, Bool, true, false, List, [], ◌∷◌, Option, None, Some, Result, Ok, Err}
use Rattle.std.specs.Prelude.{codes, if◌then◌else◌}
use Rattle.std.specs.Str.{bytes_eq}
use Rattle.hex.specs.Hex.{hex_digit_value}
use Rattle.object_defs.specs.declared.path.Path.{Path}
use Rattle.scenario_words.specs.declared.cause.Cause.{Cause}
use Rattle.scenario_words.specs.declared.cause.Cause.TheVariants.{Token, UnknownWord}
use Rattle.scenario_words.specs.Reading.{◌>>=◌, first_of, word_by, check_of_end}
use Rattle.scenario_words.specs.Number.{number_of}
use Rattle.scenario_words.specs.PathWord.{path_of}
use Rattle.debug_answers.specs.declared.command.Command.{Command}
use Rattle.debug_answers.specs.declared.command.Command.TheVariants as command
use Rattle.debug_answers.specs.declared.command.Point.{Point}
use Rattle.debug_answers.specs.declared.command.Point.TheVariants as point

-- this command, and no further word
abbrev pub command_alone : Command → List (List ℕ) → Result Command Cause
command_alone c ws = do
  e ← check_of_end ws
  Ok c

-- one number, and no further word
abbrev pub only_number : ℕ → List (List ℕ) → Result ℕ Cause
only_number high ws = do
  n ← word_by (number_of 0 high) ws
  e ← check_of_end n.1
  Ok n.0

-- a device and a path, and no further word
abbrev pub device_and_path : List (List ℕ) → Result (ℕ × Path) Cause
device_and_path ws = do
  d ← word_by (number_of 0 65535) ws
  p ← word_by path_of d.1
  e ← check_of_end p.1
  Ok (d.0, p.0)

-- the byte of two hex digits
abbrev pub byte_by : Option ℕ → Option ℕ → Result ℕ Cause
byte_by None low = Err Token
byte_by (Some high) None = Err Token
byte_by (Some high) (Some low) = Ok (high * 16 + low)

abbrev pub byte_of : List ℕ → Result ℕ Cause
byte_of [] = Err Token
byte_of (h ∷ []) = Err Token
byte_of (h ∷ l ∷ []) = byte_by (hex_digit_value h) (hex_digit_value l)
byte_of (h ∷ l ∷ x ∷ more) = Err Token

-- D K
abbrev pub step_point : List (List ℕ) → Result Point Cause
step_point ws = do
  d ← word_by (number_of 0 65535) ws
  k ← word_by (number_of 0 4294967295) d.1
  e ← check_of_end k.1
  Ok (point.Step d.0 k.0)

-- D C
abbrev pub code_point : List (List ℕ) → Result Point Cause
code_point ws = do
  d ← word_by (number_of 0 65535) ws
  c ← word_by byte_of d.1
  e ← check_of_end c.1
  Ok (point.Code d.0 c.0)

-- the point of a breakpoint, by its first word and those after it
abbrev pub point_by : List ℕ → List (List ℕ) → Result Point Cause
point_by w ws =
    if bytes_eq w (codes "at") then (only_number 18446744073709551615 ws >>= (λ n. Ok (point.At n)))
    else (if bytes_eq w (codes "step") then step_point ws
    else (if bytes_eq w (codes "changed") then (device_and_path ws >>= (λ x. Ok (point.Changed x.0 x.1)))
    else (if bytes_eq w (codes "code") then code_point ws
    else (if bytes_eq w (codes "notified") then
    (only_number 65535 ws >>= (λ d. Ok (point.Notified d))) else Err UnknownWord))))

-- a breakpoint, by the words after `break`
abbrev pub break_point : List (List ℕ) → Result Command Cause
break_point ws = do
  w ← first_of ws
  p ← point_by w.0 w.1
  Ok (command.Break p)

-- a command about breakpoints or a device
abbrev pub about_device : List ℕ → List (List ℕ) → Result Command Cause
about_device w ws =
    if bytes_eq w (codes "break") then break_point ws
    else (if bytes_eq w (codes "clear") then (only_number 255 ws >>= (λ n. Ok (command.Clear n)))
    else (if bytes_eq w (codes "value") then (device_and_path ws >>= (λ x. Ok (command.Value x.0 x.1)))
    else (if bytes_eq w (codes "obs") then (only_number 65535 ws >>= (λ d. Ok (command.Observations d)))
    else (if bytes_eq w (codes "out") then (only_number 65535 ws >>= (λ d. Ok (command.Outputs d)))
    else (if bytes_eq w (codes "why") then
    (only_number 65535 ws >>= (λ d. Ok (command.Why d))) else Err UnknownWord)))))

-- a command, by its first word and those after it
abbrev pub command_by : List ℕ → List (List ℕ) → Result Command Cause
command_by w ws =
    if bytes_eq w (codes "at") then command_alone command.At ws
    else (if bytes_eq w (codes "forward") then (only_number 18446744073709551615 ws >>= (λ n. Ok (command.Forward n)))
    else (if bytes_eq w (codes "back") then (only_number 18446744073709551615 ws >>= (λ n. Ok (command.Back n)))
    else (if bytes_eq w (codes "resume") then command_alone command.Resume ws
    else (if bytes_eq w (codes "quit") then command_alone command.Quit ws else about_device w ws))))

-- the command of a line's words
abbrev pub command_of : List (List ℕ) → Result Command Cause
command_of ws = do
  w ← first_of ws
  command_by w.0 w.1

abbrev pub is_last : List (List ℕ) → Bool
is_last [] = true
is_last (w ∷ ws) = false

-- whether the words are `help` alone
abbrev pub is_help : List (List ℕ) → Bool
is_help [] = false
is_help (w ∷ ws) = if bytes_eq w (codes "help") then is_last ws else false
