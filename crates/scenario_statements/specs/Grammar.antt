-- What the words of a line say: a keyword, and the words that stand after it, from the left. Each fault is the first
-- one.
use Rattle.std.specs.Prelude.{ℕ, Bool, true, false, List, [], ◌∷◌, Option, None, Some, Result, Ok, Err, codes}
use Rattle.std.specs.Prelude.{if◌then◌else◌}
use Rattle.std.specs.Str.{bytes_eq}
use Rattle.object_defs.specs.declared.definition.Ops.{Ops}
use Rattle.object_defs.specs.declared.definition.Ops.TheVariants.{R, W, RW, E}
use Rattle.scenario_words.specs.declared.cause.Cause.{Cause}
use Rattle.scenario_words.specs.Reading.{◌>>=◌, word_by, check_of_end}
use Rattle.scenario_words.specs.Number.{number_of}
use Rattle.scenario_words.specs.HexWord.{bytes_of}
use Rattle.scenario_words.specs.PathWord.{path_of}
use Rattle.scenario_words.specs.ValueWords.{name_fault, kind_named, value_at}
use Rattle.scenario_mnemonics.specs.declared.verb.Keyword.{Keyword}
use Rattle.scenario_mnemonics.specs.MnemonicWords.{keyword_named, mnemonic_at}
use Rattle.scenario_statements.specs.declared.statement.Statement.{Statement}
use Rattle.scenario_statements.specs.declared.statement.Statement.TheVariants as says

-- the operations that a word names
abbrev pub ops_named : List ℕ → Result Ops Cause
ops_named w =
    if bytes_eq w (codes "r") then Ok R
    else (if bytes_eq w (codes "w") then Ok W
    else (if bytes_eq w (codes "rw") then Ok RW
    else (if bytes_eq w (codes "e") then Ok E else Err (name_fault w))))

-- whether a word is the first of two names, of which it has to be one
abbrev pub one_of : List ℕ → List ℕ → List ℕ → Result Bool Cause
one_of first second w =
    if bytes_eq w first then Ok true else (if bytes_eq w second then Ok false else Err (name_fault w))

-- this name and no other
abbrev pub check_of_name : List ℕ → List ℕ → Result (Unit {0}) Cause
check_of_name name w = if bytes_eq w name then Ok tt else Err (name_fault w)

-- one number from low to high, and no word after it
abbrev pub only_number : ℕ → ℕ → List (List ℕ) → Result ℕ Cause
only_number low high ws = do
  n ← word_by (number_of low high) ws
  e ← check_of_end n.1
  Ok n.0

-- notify con T
abbrev pub notify : List (List ℕ) → Result Statement Cause
notify ws = do
  c ← word_by (check_of_name (codes "con")) ws
  n ← only_number 2 3 c.1
  Ok (says.Notify n)

-- def R r|w|rw|e single|multiple optional|mandatory KIND
abbrev pub definition : List (List ℕ) → Result Statement Cause
definition ws = do
  id ← word_by (number_of 0 65535) ws
  ops ← word_by ops_named id.1
  multiple ← word_by (one_of (codes "multiple") (codes "single")) ops.1
  mandatory ← word_by (one_of (codes "mandatory") (codes "optional")) multiple.1
  kind ← word_by kind_named mandatory.1
  e ← check_of_end kind.1
  Ok (says.Def (record { id = id.0; ops = ops.0; multiple = multiple.0; mandatory = mandatory.0; kind = kind.0 }))

-- instance O I
abbrev pub instance : List (List ℕ) → Result Statement Cause
instance ws = do
  o ← word_by (number_of 0 65535) ws
  i ← word_by (number_of 0 65534) o.1
  e ← check_of_end i.1
  Ok (says.Instance (record { object = o.0; instance = i.0 }))

-- value PATH KIND VALUE
abbrev pub value : List (List ℕ) → Result Statement Cause
value ws = do
  p ← word_by path_of ws
  v ← value_at p.1
  e ← check_of_end v.1
  Ok (says.Value p.0 v.0)

-- recv S HEX
abbrev pub recv : List (List ℕ) → Result Statement Cause
recv ws = do
  s ← word_by (number_of 1 65534) ws
  b ← word_by bytes_of s.1
  e ← check_of_end b.1
  Ok (says.Recv s.0 b.0)

-- put PATH KIND VALUE
abbrev pub put : List (List ℕ) → Result Statement Cause
put ws = do
  p ← word_by path_of ws
  v ← value_at p.1
  e ← check_of_end v.1
  Ok (says.Put p.0 v.0)

-- need G N
abbrev pub need : List (List ℕ) → Result Statement Cause
need ws = do
  g ← word_by (number_of 0 255) ws
  n ← word_by (number_of 1 1000000) g.1
  e ← check_of_end n.1
  Ok (says.Need g.0 n.0)

-- what a line says whose keyword is a mnemonic's
abbrev pub request : Option Keyword → List ℕ → List (List ℕ) → Result Statement Cause
request None w ws = Err (name_fault w)
request (Some keyword) w ws = mnemonic_at keyword ws >>= (λ m. Ok (says.Request m.0 m.1))

-- what a line about a device says, by its keyword and the words after it
abbrev pub of_device : List ℕ → List (List ℕ) → Result Statement Cause
of_device w ws =
    if bytes_eq w (codes "device") then (only_number 0 65535 ws >>= (λ n. Ok (says.Device n)))
    else (if bytes_eq w (codes "recv") then recv ws
    else (if bytes_eq w (codes "tick") then (only_number 1 86400 ws >>= (λ n. Ok (says.Tick n)))
    else (if bytes_eq w (codes "put") then put ws
    else (if bytes_eq w (codes "firmware") then (only_number 0 9 ws >>= (λ n. Ok (says.Firmware n)))
    else (if bytes_eq w (codes "post") then (only_number 0 255 ws >>= (λ n. Ok (says.Post n)))
    else (if bytes_eq w (codes "need") then need ws else request (keyword_named w) w ws))))))

-- what a line says, by its keyword and the words after it
abbrev pub statement_by : List ℕ → List (List ℕ) → Result Statement Cause
statement_by w ws =
    if bytes_eq w (codes "scenario") then (only_number 1 1 ws >>= (λ n. Ok says.Scenario))
    else (if bytes_eq w (codes "class") then (check_of_end ws >>= (λ e. Ok says.Class))
    else (if bytes_eq w (codes "notify") then notify ws
    else (if bytes_eq w (codes "account") then (only_number 1 65534 ws >>= (λ n. Ok (says.Account n)))
    else (if bytes_eq w (codes "object") then (only_number 10241 32768 ws >>= (λ n. Ok (says.Object n)))
    else (if bytes_eq w (codes "def") then definition ws
    else (if bytes_eq w (codes "instance") then instance ws
    else (if bytes_eq w (codes "value") then value ws else of_device w ws)))))))

-- what a statement was read as, where one was
abbrev pub some : Result Statement Cause → Result (Option Statement) Cause
some (Ok s) = Ok (Some s)
some (Err e) = Err e

-- the statement of a line's words; a line without words says nothing
abbrev pub statement_of : List (List ℕ) → Result (Option Statement) Cause
statement_of [] = Ok None
statement_of (w ∷ ws) = some (statement_by w ws)
