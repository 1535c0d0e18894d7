-- The words of an expectation, read from the left.
use Rattle.std.specs.Prelude.{ℕ, Bool, true, List, [], ◌∷◌, Option, None, Some, Result, Ok, Err, codes}
use Rattle.std.specs.Prelude.{if◌then◌else◌, ok_or}
use Rattle.std.specs.Str.{bytes_eq}
use Rattle.scenario_words.specs.declared.cause.Cause.{Cause}
use Rattle.scenario_words.specs.declared.cause.Cause.TheVariants.{Missing, Token}
use Rattle.scenario_words.specs.Reading.{◌>>=◌, first_of, word_by}
use Rattle.scenario_words.specs.HexWord.{bytes_of}
use Rattle.scenario_words.specs.Number.{number_of}
use Rattle.scenario_words.specs.PathWord.{path_of}
use Rattle.scenario_words.specs.ValueWords.{name_fault}
use Rattle.scenario_mnemonics.specs.declared.verb.Keyword.{Keyword}
use Rattle.scenario_mnemonics.specs.declared.verb.Keyword.TheVariants as keyword
use Rattle.scenario_mnemonics.specs.declared.verb.Verb.{Verb}
use Rattle.scenario_mnemonics.specs.declared.verb.Verb.TheVariants as verb
use Rattle.scenario_mnemonics.specs.MnemonicWords.{format_of, formed_queries, keyword_named, last_by}
use Rattle.expectations.specs.declared.expectation.Expected.{Expected}
use Rattle.expectations.specs.declared.expectation.Expected.TheVariants as expected
use Rattle.expectations.specs.declared.what.Details.{Details}
use Rattle.expectations.specs.declared.what.What.{What}
use Rattle.expectations.specs.declared.what.What.TheVariants as what

-- ---- details

-- no detail stands there: it is the end, or `within`
abbrev pub is_over : List (List ℕ) → Bool
is_over [] = true
is_over (w ∷ ws) = bytes_eq w (codes "within")

-- the first word as a detail, which may be left out, and the words after it
abbrev pub detail_by : {A : Type 0} → (List ℕ → Result A Cause) → List (List ℕ)
    → Result (Option A × List (List ℕ)) Cause
detail_by read ws = if is_over ws then Ok (None, ws) else word_by read ws >>= (λ x. Ok (Some x.0, x.1))

-- the words up to the end, or to `within`; and those from there on
abbrev pub before_within : List (List ℕ) → List (List ℕ)
before_within [] = []
before_within (w ∷ ws) = if bytes_eq w (codes "within") then [] else w ∷ before_within ws

abbrev pub from_within : List (List ℕ) → List (List ℕ)
from_within [] = []
from_within (w ∷ ws) = if bytes_eq w (codes "within") then w ∷ ws else from_within ws

-- queries, which may be left out
abbrev pub queries_of : List (List ℕ) → Result (Option (List (List ℕ))) Cause
queries_of [] = Ok None
queries_of (q ∷ qs) = formed_queries (q ∷ qs) >>= (λ found. Ok (Some found))

-- what is said of a request when nothing is
abbrev pub no_details : Details
no_details = record { format = None; payload = None; queries = None }

-- FORMAT
abbrev pub format_at : List (List ℕ) → Result (Details × List (List ℕ)) Cause
format_at ws = detail_by format_of ws >>= (λ f. Ok (record no_details { format = f.0 }, f.1))

-- HEX
abbrev pub payload_at : List (List ℕ) → Result (Details × List (List ℕ)) Cause
payload_at ws = detail_by bytes_of ws >>= (λ b. Ok (record no_details { payload = b.0 }, b.1))

-- FORMAT [HEX]
abbrev pub content_at : List (List ℕ) → Result (Details × List (List ℕ)) Cause
content_at ws =
    detail_by format_of ws
    >>= (λ f. detail_by bytes_of f.1 >>= (λ b. Ok (record no_details { format = f.0; payload = b.0 }, b.1)))

-- QUERY ..
abbrev pub queries_at : List (List ℕ) → Result (Details × List (List ℕ)) Cause
queries_at ws =
    queries_of (before_within ws) >>= (λ qs. Ok (record no_details { queries = qs }, from_within ws))

-- what stands after the path, by the verb
abbrev pub details_at : Verb → List (List ℕ) → Result (Details × List (List ℕ)) Cause
details_at verb.Read ws = format_at ws
details_at verb.Observe ws = format_at ws
details_at verb.Cancel ws = format_at ws
details_at verb.Discover ws = Ok (no_details, ws)
details_at verb.Delete ws = Ok (no_details, ws)
details_at verb.Write ws = content_at ws
details_at verb.Update ws = content_at ws
details_at verb.Create ws = content_at ws
details_at verb.Attr ws = queries_at ws
details_at verb.Exec ws = payload_at ws

-- ---- what is sent

-- PATH [DETAILS]
abbrev pub request_at : Verb → List (List ℕ) → Result (What × List (List ℕ)) Cause
request_at v ws = do
  p ← word_by path_of ws
  d ← details_at v p.1
  Ok (what.Request (record { verb = v; path = p.0; details = d.0 }), d.1)

abbrev pub what_by : Option Keyword → List ℕ → List (List ℕ) → Result (What × List (List ℕ)) Cause
what_by (Some keyword.Reset) w ws = Ok (what.Reset, ws)
what_by (Some (keyword.Request v)) w ws = request_at v ws
what_by None w ws = Err (name_fault w)

-- `ack`, `reset`, or a verb and what stands after it
abbrev pub what_named : List ℕ → List (List ℕ) → Result (What × List (List ℕ)) Cause
what_named w ws = if bytes_eq w (codes "ack") then Ok (what.Ack, ws) else what_by (keyword_named w) w ws

abbrev pub what_at : List (List ℕ) → Result (What × List (List ℕ)) Cause
what_at ws = first_of ws >>= (λ w. what_named w.0 w.1)

-- ---- the whole line

-- `within N`, which may be left out, and no more
abbrev pub within_at : List (List ℕ) → Result (Option ℕ) Cause
within_at [] = Ok None
within_at (w ∷ ws) =
    if bytes_eq w (codes "within") then last_by (number_of 1 4294967295) ws >>= (λ n. Ok (Some n)) else Err Token

-- S WHAT [within N]
abbrev pub message_at : List (List ℕ) → Result Expected Cause
message_at ws = do
  s ← word_by (number_of 1 65534) ws
  w ← what_at s.1
  n ← within_at w.1
  Ok (expected.Message s.0 w.0 n)

-- `within N` behind `none`, which may not be left out
abbrev pub silence_at : List (List ℕ) → Result Expected Cause
silence_at ws = within_at ws >>= (λ n. ok_or n Missing >>= (λ seconds. Ok (expected.Silence seconds)))

-- the words behind `<=`, by the first of them
abbrev pub expected_by : List ℕ → List (List ℕ) → List (List ℕ) → Result Expected Cause
expected_by w behind ws = if bytes_eq w (codes "none") then silence_at behind else message_at ws

abbrev pub expected_at : List (List ℕ) → Result Expected Cause
expected_at ws = first_of ws >>= (λ w. expected_by w.0 w.1 ws)
