-- Why a word of scenario text is wrong in its place: it does not have the form of a word there, or it does, and is none
-- of the words that are allowed.
use Rattle.std.specs.Prelude.{◌≡◌, ◌≢◌, ◌↔◌, ◌⊎◌, ℕ, ◌<◌, ◌^◌, ℤ, Bool, List, [], ◌∷◌, ◌++◌, length, Err}
use Rattle.std.specs.Prelude.{FitsSigned, codes}
use Rattle.std.specs.Int.{w64}
use Rattle.std.specs.Fmt.{decimal, signed_decimal}
use Rattle.std.specs.List.{AllByRecursion, flat_map}
use Rattle.lwm2m_values.specs.declared.kind.ValueKind.{ValueKind}
use Rattle.object_defs.specs.declared.definition.Ops.{Ops}
use Rattle.object_defs.specs.declared.path.Path.{Path}
use Rattle.object_defs.specs.Path.{path_text}
use Rattle.scenario_words.specs.declared.cause.Cause.{Cause}
use Rattle.scenario_words.specs.declared.cause.Cause.TheVariants.{Range, Token, UnknownWord}
use Rattle.scenario_words.specs.HexWord.{IsHex, bytes_of}
use Rattle.scenario_words.specs.Number.{integer_of, number_of}
use Rattle.scenario_words.specs.PathWord.{IsPath, link_of, link_word, path_of}
use Rattle.scenario_words.specs.Quoted.{IsQuoted, text_of}
use Rattle.scenario_words.specs.ValueWords.{kind_named, kind_word}
use Rattle.scenario_statements.specs.Grammar.{check_of_name, one_of, ops_named}
use Rattle.scenario_statements.specs.Spelling.{IsWithin, ops_word}
use Rattle.laws_reading.specs.Statements.{mandatory_word, multiple_word}

-- ---- the forms of words

-- digits, with a zero in front only where it is the only one
abbrev pub IsNatural : List ℕ → Type 0
IsNatural [] = ⊥
IsNatural (d ∷ ds) = AllByRecursion (IsWithin 48 57) (d ∷ ds) × (d ≡ 48 → ds ≡ [])

-- such digits, or a minus sign and such digits other than 0
abbrev pub IsNumber : List ℕ → Type 0
IsNumber w = IsNatural w ⊎ ((ds : List ℕ) × (w ≡ 45 ∷ ds) × IsNatural ds × (ds ≢ codes "0"))

-- one to four numbers, each with a slash before it
abbrev pub IsSlashed : List ℕ → Type 0
IsSlashed w =
    (ns : List (List ℕ)) × (w ≡ flat_map (λ n. 47 ∷ n) ns) × AllByRecursion IsNumber ns × IsWithin 1 4 (length ns)

-- two numbers with a colon between them
abbrev pub IsPair : List ℕ → Type 0
IsPair w = (a : List ℕ) × (b : List ℕ) × (w ≡ a ++ 58 ∷ b) × IsNumber a × IsNumber b

-- bytes 21 to 7E that do not begin with a quote
abbrev pub IsGraphic : List ℕ → Type 0
IsGraphic [] = Unit {0}
IsGraphic (b ∷ bs) = (b ≢ 34) × AllByRecursion (IsWithin 33 126) (b ∷ bs)

-- a text in quotes, or such bytes
abbrev pub IsFormed : List ℕ → Type 0
IsFormed w = ((t : List ℕ) × IsQuoted w t) ⊎ IsGraphic w

-- ---- what is wrong

-- a word that does not have this form is refused as Token; one that has it and is not allowed, for the other cause
abbrev pub IsWrong : Type 0 → Type 0 → Cause → Cause → Type 0
IsWrong form allowed other cause = ((form → ⊥) × (cause ≡ Token)) ⊎ (form × (allowed → ⊥) × (cause ≡ other))

-- where one of some names has to stand
abbrev pub IsWrongName : Type 0 → List ℕ → Cause → Type 0
IsWrongName named w cause = IsWrong (IsFormed w) named UnknownWord cause

abbrev pub OperationsAreNamed : Type 0
OperationsAreNamed =
    (w : List ℕ) (cause : Cause)
    → (ops_named w ≡ Err cause) ↔ IsWrongName ((ops : Ops) × (w ≡ ops_word ops)) w cause

abbrev pub MultipleIsNamed : Type 0
MultipleIsNamed =
    (w : List ℕ) (cause : Cause)
    → (one_of (codes "multiple") (codes "single") w ≡ Err cause)
    ↔ IsWrongName ((b : Bool) × (w ≡ multiple_word b)) w cause

abbrev pub MandatoryIsNamed : Type 0
MandatoryIsNamed =
    (w : List ℕ) (cause : Cause)
    → (one_of (codes "mandatory") (codes "optional") w ≡ Err cause)
    ↔ IsWrongName ((b : Bool) × (w ≡ mandatory_word b)) w cause

-- where one name alone may stand
abbrev pub ConIsNamed : Type 0
ConIsNamed =
    (w : List ℕ) (cause : Cause) → (check_of_name (codes "con") w ≡ Err cause) ↔ IsWrongName (w ≡ codes "con") w cause

abbrev pub KindsAreNamed : Type 0
KindsAreNamed =
    (w : List ℕ) (cause : Cause)
    → (kind_named w ≡ Err cause) ↔ IsWrongName ((k : ValueKind) × (w ≡ kind_word k)) w cause

-- a number from low to high
abbrev pub NumbersAreWithin : Type 0
NumbersAreWithin =
    (low high : ℕ) (w : List ℕ) (cause : Cause) → high < 2 ^ 64
    → (number_of low high w ≡ Err cause)
    ↔ IsWrong (IsNumber w) ((n : ℕ) × IsWithin low high n × (w ≡ decimal n)) Range cause

-- an integer of 64 bits
abbrev pub IntegersFit : Type 0
IntegersFit =
    (w : List ℕ) (cause : Cause)
    → (integer_of w ≡ Err cause)
    ↔ IsWrong (IsNumber w) ((z : ℤ) × FitsSigned w64 z × (w ≡ signed_decimal z)) Range cause

-- a path, of numbers of 16 bits
abbrev pub PathsAreSlashed : Type 0
PathsAreSlashed =
    (w : List ℕ) (cause : Cause)
    → (path_of w ≡ Err cause) ↔ IsWrong (IsSlashed w) ((p : Path) × IsPath p × (w ≡ path_text p)) Range cause

-- a link, of two numbers of 16 bits
abbrev pub LinksArePairs : Type 0
LinksArePairs =
    (w : List ℕ) (cause : Cause)
    → (link_of w ≡ Err cause)
    ↔ IsWrong (IsPair w) ((o : ℕ) × (i : ℕ) × (o < 65536) × (i < 65536) × (w ≡ link_word o i)) Range cause

-- of bytes in hex and of a text in quotes the form is all
abbrev pub BytesAreHex : Type 0
BytesAreHex =
    (w : List ℕ) (cause : Cause)
    → (bytes_of w ≡ Err cause) ↔ ((((bs : List ℕ) × IsHex w bs) → ⊥) × (cause ≡ Token))

abbrev pub TextsAreQuoted : Type 0
TextsAreQuoted =
    (w : List ℕ) (cause : Cause)
    → (text_of w ≡ Err cause) ↔ ((((t : List ℕ) × IsQuoted w t) → ⊥) × (cause ≡ Token))
