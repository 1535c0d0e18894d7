-- The words of a mnemonic, read from the left and written.
use Rattle.std.specs.Prelude.{ℕ, nat_le, List, [], ◌∷◌, length, map, find, Option, Result, Ok, Err, codes}
use Rattle.std.specs.Prelude.{if◌then◌else◌, ok_or}
use Rattle.std.specs.Str.{bytes_eq}
use Rattle.std.specs.List.{flat_map}
use Rattle.std.specs.Fmt.{decimal}
use Rattle.scenario_words.specs.declared.cause.Cause.{Cause}
use Rattle.scenario_words.specs.declared.cause.Cause.TheVariants.{Missing, Token}
use Rattle.scenario_words.specs.Reading.{◌>>=◌, word_by, check_of_end}
use Rattle.scenario_words.specs.Number.{number_of}
use Rattle.scenario_words.specs.HexWord.{bytes_of, hex_word}
use Rattle.scenario_words.specs.PathWord.{path_of}
use Rattle.object_defs.specs.Path.{path_text}
use Rattle.scenario_words.specs.ValueWords.{name_fault}
use Rattle.scenario_mnemonics.specs.declared.request_type.RequestType.{RequestType}
use Rattle.scenario_mnemonics.specs.declared.request_type.RequestType.TheVariants.{Con, Non}
use Rattle.scenario_mnemonics.specs.declared.format.Format.{Format}
use Rattle.scenario_mnemonics.specs.declared.format.Format.TheVariants as format
use Rattle.scenario_mnemonics.specs.declared.verb.Verb.{Verb}
use Rattle.scenario_mnemonics.specs.declared.verb.Verb.TheVariants as verb
use Rattle.scenario_mnemonics.specs.declared.verb.Keyword.{Keyword}
use Rattle.scenario_mnemonics.specs.declared.verb.Keyword.TheVariants as keyword
use Rattle.scenario_mnemonics.specs.declared.action.Action.{Action}
use Rattle.scenario_mnemonics.specs.declared.action.Action.TheVariants as act
use Rattle.scenario_mnemonics.specs.declared.mnemonic.Mnemonic.{Mnemonic}
use Rattle.scenario_mnemonics.specs.declared.mnemonic.Mnemonic.TheVariants as mnemonic
use Rattle.scenario_mnemonics.specs.declared.head.Head.{Head}
use Rattle.scenario_mnemonics.specs.Messages.{fields_of}
use Rattle.scenario_mnemonics.specs.Queries.{are_queries}

-- the name of what is asked for
abbrev pub verb_word : Verb → List ℕ
verb_word verb.Read = codes "read"
verb_word verb.Observe = codes "observe"
verb_word verb.Cancel = codes "cancel"
verb_word verb.Discover = codes "discover"
verb_word verb.Delete = codes "delete"
verb_word verb.Write = codes "write"
verb_word verb.Update = codes "update"
verb_word verb.Create = codes "create"
verb_word verb.Attr = codes "attr"
verb_word verb.Exec = codes "exec"

abbrev pub keyword_word : Keyword → List ℕ
keyword_word (keyword.Request v) = verb_word v
keyword_word keyword.Reset = codes "reset"

abbrev pub keywords : List Keyword
keywords = keyword.Reset ∷ map (λ v. keyword.Request v) (verb.Read ∷ verb.Observe ∷ verb.Cancel ∷ verb.Discover
    ∷ verb.Delete ∷ verb.Write ∷ verb.Update ∷ verb.Create ∷ verb.Attr ∷ verb.Exec ∷ [])

-- the keyword that a word is
abbrev pub keyword_named : List ℕ → Option Keyword
keyword_named w = find (λ k. bytes_eq w (keyword_word k)) keywords

abbrev pub keyword_of : Mnemonic → Keyword
keyword_of (mnemonic.Request r) = keyword.Request (fields_of r.action).verb
keyword_of (mnemonic.Reset mid) = keyword.Reset

abbrev pub type_word : RequestType → List ℕ
type_word Con = codes "con"
type_word Non = codes "non"

-- the type that a word names
abbrev pub type_of : List ℕ → Result RequestType Cause
type_of w = ok_or (find (λ k. bytes_eq w (type_word k)) (Con ∷ Non ∷ [])) (name_fault w)

abbrev pub format_word : Format → List ℕ
format_word format.Any = codes "any"
format_word format.Text = codes "text"
format_word format.Opaque = codes "opaque"
format_word format.Tlv = codes "tlv"

abbrev pub formats : List Format
formats = format.Any ∷ format.Text ∷ format.Opaque ∷ format.Tlv ∷ []

-- the format that a word names
abbrev pub format_of : List ℕ → Result Format Cause
format_of w = ok_or (find (λ f. bytes_eq w (format_word f)) formats) (name_fault w)

-- the last word, read by this reader of a word
abbrev pub last_by : {A : Type 0} → (List ℕ → Result A Cause) → List (List ℕ) → Result A Cause
last_by read ws = word_by read ws >>= (λ x. check_of_end x.1 >>= (λ e. Ok x.0))

-- at most 8 bytes
abbrev pub short_token : List ℕ → Result (List ℕ) Cause
short_token bs = if nat_le (length bs) 8 then Ok bs else Err Token

-- a token in hex, and the words after it
abbrev pub token_at : List (List ℕ) → Result (List ℕ × List (List ℕ)) Cause
token_at ws = word_by bytes_of ws >>= (λ b. short_token b.0 >>= (λ t. Ok (t, b.1)))

-- what stands first in each request: its server, type, message ID, token and path
abbrev pub head_at : List (List ℕ) → Result (Head × List (List ℕ)) Cause
head_at ws = do
  s ← word_by (number_of 1 65534) ws
  k ← word_by type_of s.1
  m ← word_by (number_of 0 65535) k.1
  t ← token_at m.1
  p ← word_by path_of t.1
  Ok (record { server = s.0; kind = k.0; mid = m.0; token = t.0; path = p.0 }, p.1)

-- a format, bytes in hex and no more
abbrev pub content_at : List (List ℕ) → Result (Format × List ℕ) Cause
content_at ws = word_by format_of ws >>= (λ f. last_by bytes_of f.1 >>= (λ b. Ok (f.0, b)))

abbrev pub formed_queries : List (List ℕ) → Result (List (List ℕ)) Cause
formed_queries qs = if are_queries qs then Ok qs else Err Token

-- one query or more
abbrev pub queries_at : List (List ℕ) → Result (List (List ℕ)) Cause
queries_at [] = Err Missing
queries_at (w ∷ ws) = formed_queries (w ∷ ws)

-- what stands after the path
abbrev pub action_at : Verb → List (List ℕ) → Result Action Cause
action_at verb.Read ws = last_by format_of ws >>= (λ f. Ok (act.Read f))
action_at verb.Observe ws = last_by format_of ws >>= (λ f. Ok (act.Observe f))
action_at verb.Cancel ws = last_by format_of ws >>= (λ f. Ok (act.Cancel f))
action_at verb.Discover ws = check_of_end ws >>= (λ e. Ok act.Discover)
action_at verb.Delete ws = check_of_end ws >>= (λ e. Ok act.Delete)
action_at verb.Write ws = content_at ws >>= (λ c. Ok (act.Write c.0 c.1))
action_at verb.Update ws = content_at ws >>= (λ c. Ok (act.Update c.0 c.1))
action_at verb.Create ws = content_at ws >>= (λ c. Ok (act.Create c.0 c.1))
action_at verb.Attr ws = queries_at ws >>= (λ qs. Ok (act.Attr qs))
action_at verb.Exec ws = last_by bytes_of ws >>= (λ b. Ok (act.Exec b))

-- the server of a head, and its request
abbrev pub server_and_request : Head → Action → ℕ × Mnemonic
server_and_request h a =
    (h.server, mnemonic.Request (record { kind = h.kind; mid = h.mid; token = h.token; path = h.path; action = a }))

-- the words after a keyword: a server, and the mnemonic that it sends
abbrev pub mnemonic_at : Keyword → List (List ℕ) → Result (ℕ × Mnemonic) Cause
mnemonic_at (keyword.Request v) ws = head_at ws >>= (λ h. action_at v h.1 >>= (λ a. Ok (server_and_request h.0 a)))
mnemonic_at keyword.Reset ws = do
  s ← word_by (number_of 1 65534) ws
  m ← word_by (number_of 0 65535) s.1
  e ← check_of_end m.1
  Ok (s.0, mnemonic.Reset m.0)

-- the words after the path, as they are written
abbrev pub details : Action → List (List ℕ)
details (act.Read f) = format_word f ∷ []
details (act.Observe f) = format_word f ∷ []
details (act.Cancel f) = format_word f ∷ []
details act.Discover = []
details act.Delete = []
details (act.Write f b) = format_word f ∷ hex_word b ∷ []
details (act.Update f b) = format_word f ∷ hex_word b ∷ []
details (act.Create f b) = format_word f ∷ hex_word b ∷ []
details (act.Attr qs) = qs
details (act.Exec b) = hex_word b ∷ []

-- the words after the keyword, as they are written
abbrev pub behind_keyword : ℕ → Mnemonic → List (List ℕ)
behind_keyword server (mnemonic.Request r) =
    decimal server ∷ type_word r.kind ∷ decimal r.mid ∷ hex_word r.token ∷ path_text r.path ∷ details r.action
behind_keyword server (mnemonic.Reset mid) = decimal server ∷ decimal mid ∷ []

-- the words of a mnemonic that a server sends, as they are written
abbrev pub words_of_mnemonic : ℕ → Mnemonic → List (List ℕ)
words_of_mnemonic server m = keyword_word (keyword_of m) ∷ behind_keyword server m

-- words with a space before each
abbrev pub spaced_words : List (List ℕ) → List ℕ
spaced_words ws = flat_map (λ w. 32 ∷ w) ws
