-- The words by which a statement is written, and which statements have such words.
use Rattle.std.specs.Prelude.{ℕ, ◌<◌, ◌≤◌, List, [], ◌∷◌, codes, if◌then◌else◌}
use Rattle.std.specs.List.{join_with_byte}
use Rattle.std.specs.Fmt.{decimal}
use Rattle.std.specs.Int.Digits.{AllBelowBase}
use Rattle.lwm2m_values.specs.Value.{kind_of}
use Rattle.lwm2m_values.specs.declared.value.Value.{Value}
use Rattle.object_defs.specs.declared.definition.Ops.{Ops}
use Rattle.object_defs.specs.declared.definition.Ops.TheVariants.{R, W, RW, E}
use Rattle.object_defs.specs.declared.path.Path.{Path}
use Rattle.scenario_words.specs.HexWord.{hex_word}
use Rattle.scenario_words.specs.PathWord.{IsPath}
use Rattle.object_defs.specs.Path.{path_text}
use Rattle.scenario_words.specs.ValueWords.{IsValue, kind_word, value_word}
use Rattle.scenario_mnemonics.specs.Messages.{IsGood}
use Rattle.scenario_mnemonics.specs.MnemonicWords.{words_of_mnemonic as mnemonic_words}
use Rattle.scenario_statements.specs.declared.statement.Statement.{Statement}
use Rattle.scenario_statements.specs.declared.statement.Statement.TheVariants as says

-- the name of operations
abbrev pub ops_word : Ops → List ℕ
ops_word R = codes "r"
ops_word W = codes "w"
ops_word RW = codes "rw"
ops_word E = codes "e"

-- a keyword, a path and a value
abbrev pub value_words : List ℕ → Path → Value → List (List ℕ)
value_words keyword p v = keyword ∷ path_text p ∷ kind_word (kind_of v) ∷ value_word v ∷ []

-- the words of a statement
abbrev pub words_of_statement : Statement → List (List ℕ)
words_of_statement says.Scenario = codes "scenario" ∷ codes "1" ∷ []
words_of_statement says.Class = codes "class" ∷ []
words_of_statement (says.Notify n) = codes "notify" ∷ codes "con" ∷ decimal n ∷ []
words_of_statement (says.Account s) = codes "account" ∷ decimal s ∷ []
words_of_statement (says.Object o) = codes "object" ∷ decimal o ∷ []
words_of_statement (says.Def d) =
    codes "def" ∷ decimal d.id ∷ ops_word d.ops ∷ (if d.multiple then codes "multiple" else codes "single")
    ∷ (if d.mandatory then codes "mandatory" else codes "optional") ∷ kind_word d.kind ∷ []
words_of_statement (says.Instance p) = codes "instance" ∷ decimal p.object ∷ decimal p.instance ∷ []
words_of_statement (says.Value p v) = value_words (codes "value") p v
words_of_statement (says.Device c) = codes "device" ∷ decimal c ∷ []
words_of_statement (says.Recv s b) = codes "recv" ∷ decimal s ∷ hex_word b ∷ []
words_of_statement (says.Request s m) = mnemonic_words s m
words_of_statement (says.Tick n) = codes "tick" ∷ decimal n ∷ []
words_of_statement (says.Put p v) = value_words (codes "put") p v
words_of_statement (says.Firmware n) = codes "firmware" ∷ decimal n ∷ []
words_of_statement (says.Post g) = codes "post" ∷ decimal g ∷ []
words_of_statement (says.Need g n) = codes "need" ∷ decimal g ∷ decimal n ∷ []

-- a statement as its line has it
abbrev pub line_of : Statement → List ℕ
line_of s = join_with_byte 32 (words_of_statement s)

-- a number from low to high
abbrev pub IsWithin : ℕ → ℕ → ℕ → Type 0
IsWithin low high n = (low ≤ n) × (n ≤ high)

-- a statement whose numbers are in the ranges of their words, its path and its value in those of theirs, and whose
-- mnemonic is a good one
abbrev pub IsSayable : Statement → Type 0
IsSayable says.Scenario = Unit {0}
IsSayable says.Class = Unit {0}
IsSayable (says.Notify n) = IsWithin 2 3 n
IsSayable (says.Account s) = IsWithin 1 65534 s
IsSayable (says.Object o) = IsWithin 10241 32768 o
IsSayable (says.Def d) = d.id < 65536
IsSayable (says.Instance p) = (p.object < 65536) × (p.instance ≤ 65534)
IsSayable (says.Value p v) = IsPath p × IsValue v
IsSayable (says.Device c) = c < 65536
IsSayable (says.Recv s b) = IsWithin 1 65534 s × AllBelowBase 256 b
IsSayable (says.Request s m) = IsWithin 1 65534 s × IsGood m
IsSayable (says.Tick n) = IsWithin 1 86400 n
IsSayable (says.Put p v) = IsPath p × IsValue v
IsSayable (says.Firmware n) = n ≤ 9
IsSayable (says.Post g) = g < 256
IsSayable (says.Need g n) = (g < 256) × IsWithin 1 1000000 n
