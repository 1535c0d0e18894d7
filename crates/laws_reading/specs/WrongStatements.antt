-- Why the words of a line of scenario text are refused: the first that is wrong in its place, from the left; else a
-- word is missing, or there is one too many.
use Rattle.std.specs.Prelude.{◌≡◌, ◌↔◌, ◌⊎◌, ℕ, ◌≤◌, Bool, List, [], ◌∷◌, length, Err, codes}
use Rattle.std.specs.List.{AllByRecursion}
use Rattle.std.specs.Fmt.{decimal}
use Rattle.lwm2m_values.specs.Value.{kind_of}
use Rattle.lwm2m_values.specs.declared.kind.ValueKind.{ValueKind}
use Rattle.lwm2m_values.specs.declared.kind.ValueKind.TheVariants as kind
use Rattle.lwm2m_values.specs.declared.value.Value.{Value}
use Rattle.object_defs.specs.declared.definition.Ops.{Ops}
use Rattle.object_defs.specs.declared.path.Path.{Path}
use Rattle.object_defs.specs.Path.{path_text}
use Rattle.scenario_words.specs.declared.cause.Cause.{Cause}
use Rattle.scenario_words.specs.declared.cause.Cause.TheVariants.{Missing, Range, Token, UnknownWord}
use Rattle.scenario_words.specs.HexWord.{IsHex}
use Rattle.scenario_words.specs.PathWord.{IsPath}
use Rattle.scenario_words.specs.Quoted.{IsQuoted}
use Rattle.scenario_words.specs.ValueWords.{kind_word}
use Rattle.scenario_mnemonics.specs.declared.verb.Keyword.{Keyword}
use Rattle.scenario_mnemonics.specs.declared.verb.Keyword.TheVariants as keyword
use Rattle.scenario_mnemonics.specs.declared.verb.Verb.{Verb}
use Rattle.scenario_mnemonics.specs.declared.verb.Verb.TheVariants as verb
use Rattle.scenario_mnemonics.specs.declared.request_type.RequestType.{RequestType}
use Rattle.scenario_mnemonics.specs.declared.format.Format.{Format}
use Rattle.scenario_mnemonics.specs.MnemonicWords.{format_word, keyword_word, type_word}
use Rattle.scenario_statements.specs.Grammar.{statement_of}
use Rattle.scenario_statements.specs.Spelling.{IsWithin, ops_word}
use Rattle.laws_reading.specs.Statements.{IsQueryWord, IsValueWord, mandatory_word, multiple_word}
use Rattle.laws_reading.specs.WrongWords.{IsFormed, IsNumber, IsPair, IsSlashed, IsWrong}

-- ---- the places of a line

-- what stands in a place: a number from low to high, one name or one of some, a path, bytes, a token, or a value of a
-- kind
pub data Place : Type 0 where
  number : ℕ → ℕ → Place
  con_name : Place
  operations : Place
  multiple : Place
  mandatory : Place
  kind_name : Place
  type_name : Place
  format_name : Place
  path : Place
  bytes : Place
  token : Place
  value : ValueKind → Place

-- the words that are allowed there
abbrev pub IsRight : Place → List ℕ → Type 0
IsRight (number low high) w = (n : ℕ) × IsWithin low high n × (w ≡ decimal n)
IsRight con_name w = w ≡ codes "con"
IsRight operations w = (ops : Ops) × (w ≡ ops_word ops)
IsRight multiple w = (b : Bool) × (w ≡ multiple_word b)
IsRight mandatory w = (b : Bool) × (w ≡ mandatory_word b)
IsRight kind_name w = (k : ValueKind) × (w ≡ kind_word k)
IsRight type_name w = (t : RequestType) × (w ≡ type_word t)
IsRight format_name w = (f : Format) × (w ≡ format_word f)
IsRight path w = (p : Path) × IsPath p × (w ≡ path_text p)
IsRight bytes w = (bs : List ℕ) × IsHex w bs
IsRight token w = (bs : List ℕ) × IsHex w bs × (length bs ≤ 8)
IsRight (value k) w = (v : Value) × (kind_of v ≡ k) × IsValueWord v w

-- the form of a value's word
abbrev pub HasValueForm : ValueKind → List ℕ → Type 0
HasValueForm kind.Text w = (t : List ℕ) × IsQuoted w t
HasValueForm kind.Whole w = IsNumber w
HasValueForm kind.Flag w = IsNumber w
HasValueForm kind.Opaque w = (bs : List ℕ) × IsHex w bs
HasValueForm kind.Moment w = IsNumber w
HasValueForm kind.Link w = IsPair w

-- the form of the words there
abbrev pub HasForm : Place → List ℕ → Type 0
HasForm (number low high) w = IsNumber w
HasForm con_name w = IsFormed w
HasForm operations w = IsFormed w
HasForm multiple w = IsFormed w
HasForm mandatory w = IsFormed w
HasForm kind_name w = IsFormed w
HasForm type_name w = IsFormed w
HasForm format_name w = IsFormed w
HasForm path w = IsSlashed w
HasForm bytes w = IsRight bytes w
HasForm token w = IsRight token w
HasForm (value k) w = HasValueForm k w

-- why a word of that form is refused
abbrev pub refusal_at : Place → Cause
refusal_at con_name = UnknownWord
refusal_at operations = UnknownWord
refusal_at multiple = UnknownWord
refusal_at mandatory = UnknownWord
refusal_at kind_name = UnknownWord
refusal_at type_name = UnknownWord
refusal_at format_name = UnknownWord
refusal_at place = Range

abbrev pub IsWrongAt : Place → List ℕ → Cause → Type 0
IsWrongAt place w cause = IsWrong (HasForm place w) (IsRight place w) (refusal_at place) cause

-- no word may stand there
abbrev pub IsTooMany : List (List ℕ) → Cause → Type 0
IsTooMany [] cause = ⊥
IsTooMany (w ∷ ws) cause = cause ≡ Token

-- the first wrong word where these places have to be filled, or else what is wrong with the words after them
abbrev pub AreWrong : List Place → (List (List ℕ) → Cause → Type 0) → List (List ℕ) → Cause → Type 0
AreWrong [] after ws cause = after ws cause
AreWrong (p ∷ ps) after [] cause = cause ≡ Missing
AreWrong (p ∷ ps) after (w ∷ ws) cause = IsWrongAt p w cause ⊎ (IsRight p w × AreWrong ps after ws cause)

-- the same of a kind, and a value of it
abbrev pub AreWrongAsValue : List (List ℕ) → Cause → Type 0
AreWrongAsValue [] cause = cause ≡ Missing
AreWrongAsValue (w ∷ ws) cause =
    IsWrongAt kind_name w cause ⊎ ((k : ValueKind) × (w ≡ kind_word k) × AreWrong (value k ∷ []) IsTooMany ws cause)

-- and of queries, one or more
abbrev pub AreWrongAsQueries : List (List ℕ) → Cause → Type 0
AreWrongAsQueries [] cause = cause ≡ Missing
AreWrongAsQueries (w ∷ ws) cause = (AllByRecursion IsQueryWord (w ∷ ws) → ⊥) × (cause ≡ Token)

-- ---- mnemonics

-- what is wrong with the words after the path of a request
abbrev pub AreWrongAsDetails : Verb → List (List ℕ) → Cause → Type 0
AreWrongAsDetails verb.Read = AreWrong (format_name ∷ []) IsTooMany
AreWrongAsDetails verb.Observe = AreWrong (format_name ∷ []) IsTooMany
AreWrongAsDetails verb.Cancel = AreWrong (format_name ∷ []) IsTooMany
AreWrongAsDetails verb.Discover = IsTooMany
AreWrongAsDetails verb.Delete = IsTooMany
AreWrongAsDetails verb.Write = AreWrong (format_name ∷ bytes ∷ []) IsTooMany
AreWrongAsDetails verb.Update = AreWrong (format_name ∷ bytes ∷ []) IsTooMany
AreWrongAsDetails verb.Create = AreWrong (format_name ∷ bytes ∷ []) IsTooMany
AreWrongAsDetails verb.Attr = AreWrongAsQueries
AreWrongAsDetails verb.Exec = AreWrong (bytes ∷ []) IsTooMany

-- and with those after the keyword of a mnemonic: its server, and the message ID of a Reset; or type, message ID, token
-- and path of a request, and its details
abbrev pub AreWrongAfter : Keyword → List (List ℕ) → Cause → Type 0
AreWrongAfter keyword.Reset = AreWrong (number 1 65534 ∷ number 0 65535 ∷ []) IsTooMany
AreWrongAfter (keyword.Request v) =
    AreWrong (number 1 65534 ∷ type_name ∷ number 0 65535 ∷ token ∷ path ∷ []) (AreWrongAsDetails v)

-- ---- lines

-- the first words of lines of which the number of words is fixed
pub data Leading : Type 0 where
  scenario : Leading
  class : Leading
  notify : Leading
  account : Leading
  object : Leading
  def : Leading
  instance : Leading
  device : Leading
  recv : Leading
  tick : Leading
  firmware : Leading
  post : Leading
  need : Leading

abbrev pub leading_word : Leading → List ℕ
leading_word scenario = codes "scenario"
leading_word class = codes "class"
leading_word notify = codes "notify"
leading_word account = codes "account"
leading_word object = codes "object"
leading_word def = codes "def"
leading_word instance = codes "instance"
leading_word device = codes "device"
leading_word recv = codes "recv"
leading_word tick = codes "tick"
leading_word firmware = codes "firmware"
leading_word post = codes "post"
leading_word need = codes "need"

abbrev pub places_after : Leading → List Place
places_after scenario = number 1 1 ∷ []
places_after class = []
places_after notify = con_name ∷ number 2 3 ∷ []
places_after account = number 1 65534 ∷ []
places_after object = number 10241 32768 ∷ []
places_after def = number 0 65535 ∷ operations ∷ multiple ∷ mandatory ∷ kind_name ∷ []
places_after instance = number 0 65535 ∷ number 0 65534 ∷ []
places_after device = number 0 65535 ∷ []
places_after recv = number 1 65534 ∷ bytes ∷ []
places_after tick = number 1 86400 ∷ []
places_after firmware = number 0 9 ∷ []
places_after post = number 0 255 ∷ []
places_after need = number 0 255 ∷ number 1 1000000 ∷ []

-- the first words of lines: these, those before a path and a value, and those of mnemonics
abbrev pub IsKeyword : List ℕ → Type 0
IsKeyword w =
    ((l : Leading) × (w ≡ leading_word l)) ⊎ ((w ≡ codes "value") ⊎ ((w ≡ codes "put")
    ⊎ ((k : Keyword) × (w ≡ keyword_word k))))

-- a line is refused for this cause: by its first word, or by those after it
pub data IsRefused (w : List ℕ) (ws : List (List ℕ)) (cause : Cause) : Type 0 where
  after_leading : (l : Leading) → w ≡ leading_word l → AreWrong (places_after l) IsTooMany ws cause
      → IsRefused w ws cause
  after_value : (w ≡ codes "value") ⊎ (w ≡ codes "put") → AreWrong (path ∷ []) AreWrongAsValue ws cause
      → IsRefused w ws cause
  after_mnemonic : (k : Keyword) → w ≡ keyword_word k → AreWrongAfter k ws cause → IsRefused w ws cause
  no_keyword : (IsKeyword w → ⊥) → IsWrong (IsFormed w) (IsKeyword w) UnknownWord cause → IsRefused w ws cause

abbrev pub WrongStatementsAreSaid : Type 0
WrongStatementsAreSaid =
    (w : List ℕ) (ws : List (List ℕ)) (cause : Cause)
    → (statement_of (w ∷ ws) ≡ Err cause) ↔ IsRefused w ws cause
