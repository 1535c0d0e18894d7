-- Which words of a line of scenario text say which statement, by the grammar of the text. Numbers, paths and integers
-- have one spelling each; bytes may be in either case of hex, and a text may be escaped.
use Rattle.std.specs.Prelude.{◌≡◌, ◌≢◌, ◌↔◌, ◌<◌, ◌≤◌, ℕ, Bool, true, false, List, [], ◌∷◌, length, Some, Ok}
use Rattle.std.specs.Prelude.{FitsSigned, codes}
use Rattle.std.specs.List.{AllByRecursion}
use Rattle.std.specs.Int.{w64}
use Rattle.std.specs.Fmt.{decimal, signed_decimal}
use Rattle.lwm2m_values.specs.declared.value.Value.{Value}
use Rattle.lwm2m_values.specs.declared.value.Value.TheVariants as value
use Rattle.lwm2m_values.specs.Value.{kind_of}
use Rattle.object_defs.specs.declared.path.Path.{Path}
use Rattle.object_defs.specs.Path.{path_text}
use Rattle.scenario_words.specs.HexWord.{IsHex}
use Rattle.scenario_words.specs.Quoted.{IsQuoted}
use Rattle.scenario_words.specs.PathWord.{IsPath, link_word}
use Rattle.scenario_words.specs.ValueWords.{kind_word}
use Rattle.scenario_mnemonics.specs.declared.action.Action.{Action}
use Rattle.scenario_mnemonics.specs.declared.action.Action.TheVariants as act
use Rattle.scenario_mnemonics.specs.declared.mnemonic.Mnemonic.{Mnemonic}
use Rattle.scenario_mnemonics.specs.declared.mnemonic.Mnemonic.TheVariants as mnemonic
use Rattle.scenario_mnemonics.specs.MnemonicWords.{format_word, keyword_of, keyword_word, type_word}
use Rattle.scenario_statements.specs.declared.statement.Statement.{Statement}
use Rattle.scenario_statements.specs.declared.statement.Statement.TheVariants as says
use Rattle.scenario_statements.specs.Grammar.{statement_of}
use Rattle.scenario_statements.specs.Spelling.{IsWithin, ops_word}

-- this word, after that of its kind, says a value
abbrev pub IsValueWord : Value → List ℕ → Type 0
IsValueWord (value.Text t) w = IsQuoted w t
IsValueWord (value.Whole z) w = (w ≡ signed_decimal z) × FitsSigned w64 z
IsValueWord (value.Flag true) w = w ≡ codes "1"
IsValueWord (value.Flag false) w = w ≡ codes "0"
IsValueWord (value.Opaque b) w = IsHex w b
IsValueWord (value.Moment z) w = (w ≡ signed_decimal z) × FitsSigned w64 z
IsValueWord (value.Link o i) w = (w ≡ link_word o i) × (o < 65536) × (i < 65536)

-- these are a keyword, a path, a kind and a value of it
abbrev pub AreValueWords : List ℕ → Path → Value → List (List ℕ) → Type 0
AreValueWords keyword p v ws =
    (w : List ℕ) × (ws ≡ keyword ∷ path_text p ∷ kind_word (kind_of v) ∷ w ∷ []) × IsPath p × IsValueWord v w

abbrev pub multiple_word : Bool → List ℕ
multiple_word true = codes "multiple"
multiple_word false = codes "single"

abbrev pub mandatory_word : Bool → List ℕ
mandatory_word true = codes "mandatory"
mandatory_word false = codes "optional"

-- a query: 1 to 255 bytes from 21 to 7E, of which the first is neither `#` nor a quote
abbrev pub IsQueryWord : List ℕ → Type 0
IsQueryWord [] = ⊥
IsQueryWord (b ∷ bs) =
    (b ≢ 35) × (b ≢ 34) × (length (b ∷ bs) ≤ 255) × AllByRecursion (IsWithin 33 126) (b ∷ bs)

-- the words after the path of a request: a format, bytes, both, one query or more, or none
abbrev pub AreDetails : Action → List (List ℕ) → Type 0
AreDetails (act.Read f) ws = ws ≡ format_word f ∷ []
AreDetails (act.Observe f) ws = ws ≡ format_word f ∷ []
AreDetails (act.Cancel f) ws = ws ≡ format_word f ∷ []
AreDetails act.Discover ws = ws ≡ []
AreDetails act.Delete ws = ws ≡ []
AreDetails (act.Write f b) ws = (w : List ℕ) × (ws ≡ format_word f ∷ w ∷ []) × IsHex w b
AreDetails (act.Update f b) ws = (w : List ℕ) × (ws ≡ format_word f ∷ w ∷ []) × IsHex w b
AreDetails (act.Create f b) ws = (w : List ℕ) × (ws ≡ format_word f ∷ w ∷ []) × IsHex w b
AreDetails (act.Attr qs) ws = (ws ≡ qs) × (qs ≢ []) × AllByRecursion IsQueryWord qs
AreDetails (act.Exec b) ws = (w : List ℕ) × (ws ≡ w ∷ []) × IsHex w b

-- the words after a keyword say a mnemonic that a server sends: type, message ID, token and path of a request, and its
-- details; or the message ID of a Reset
abbrev pub AreAsked : ℕ → Mnemonic → List (List ℕ) → Type 0
AreAsked server (mnemonic.Request r) ws =
    (w : List ℕ) × (others : List (List ℕ))
    × (ws ≡ decimal server ∷ type_word r.kind ∷ decimal r.mid ∷ w ∷ path_text r.path ∷ others)
    × IsWithin 1 65534 server × IsWithin 0 65535 r.mid × IsHex w r.token × (length r.token ≤ 8) × IsPath r.path
    × AreDetails r.action others
AreAsked server (mnemonic.Reset mid) ws =
    (ws ≡ decimal server ∷ decimal mid ∷ []) × IsWithin 1 65534 server × IsWithin 0 65535 mid

-- these words say this mnemonic: its keyword, and those
abbrev pub IsAsked : ℕ → Mnemonic → List (List ℕ) → Type 0
IsAsked server m ws =
    (others : List (List ℕ)) × (ws ≡ keyword_word (keyword_of m) ∷ others) × AreAsked server m others

-- these words say this statement, and none is left over
abbrev pub IsSaidBy : Statement → List (List ℕ) → Type 0
IsSaidBy says.Scenario ws = ws ≡ codes "scenario" ∷ codes "1" ∷ []
IsSaidBy says.Class ws = ws ≡ codes "class" ∷ []
IsSaidBy (says.Notify n) ws = (ws ≡ codes "notify" ∷ codes "con" ∷ decimal n ∷ []) × IsWithin 2 3 n
IsSaidBy (says.Account s) ws = (ws ≡ codes "account" ∷ decimal s ∷ []) × IsWithin 1 65534 s
IsSaidBy (says.Object o) ws = (ws ≡ codes "object" ∷ decimal o ∷ []) × IsWithin 10241 32768 o
IsSaidBy (says.Def d) ws =
    (ws ≡ codes "def" ∷ decimal d.id ∷ ops_word d.ops ∷ multiple_word d.multiple ∷ mandatory_word d.mandatory
    ∷ kind_word d.kind ∷ []) × (d.id ≤ 65535)
IsSaidBy (says.Instance p) ws =
    (ws ≡ codes "instance" ∷ decimal p.object ∷ decimal p.instance ∷ []) × (p.object ≤ 65535) × (p.instance ≤ 65534)
IsSaidBy (says.Value p v) ws = AreValueWords (codes "value") p v ws
IsSaidBy (says.Device c) ws = (ws ≡ codes "device" ∷ decimal c ∷ []) × (c ≤ 65535)
IsSaidBy (says.Recv s b) ws =
    (w : List ℕ) × (ws ≡ codes "recv" ∷ decimal s ∷ w ∷ []) × IsWithin 1 65534 s × IsHex w b
IsSaidBy (says.Request s m) ws = IsAsked s m ws
IsSaidBy (says.Tick n) ws = (ws ≡ codes "tick" ∷ decimal n ∷ []) × IsWithin 1 86400 n
IsSaidBy (says.Put p v) ws = AreValueWords (codes "put") p v ws
IsSaidBy (says.Firmware n) ws = (ws ≡ codes "firmware" ∷ decimal n ∷ []) × (n ≤ 9)
IsSaidBy (says.Post g) ws = (ws ≡ codes "post" ∷ decimal g ∷ []) × (g ≤ 255)
IsSaidBy (says.Need g n) ws = (ws ≡ codes "need" ∷ decimal g ∷ decimal n ∷ []) × (g ≤ 255) × IsWithin 1 1000000 n

abbrev pub StatementsAreSaid : Type 0
StatementsAreSaid =
    (ws : List (List ℕ)) (s : Statement) → (statement_of ws ≡ Ok (Some s)) ↔ IsSaidBy s ws
