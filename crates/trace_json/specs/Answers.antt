-- The objects of what is answered beside a trace: how a run ended, what a device outputs, whether cases hold.
use Rattle.std.specs.Prelude.{ℕ, Bool, true, false, List, [], ◌∷◌, ◌++◌, codes, map, Option, None, Some, option_map}
use Rattle.std.specs.String.{string_bytes}
use Rattle.device_machine.specs.declared.output.Output.{Output}
use Rattle.serde_json.specs.Data.{Data, boolean, string}
use Rattle.trace_json.specs.declared.cases.CaseDifference.{CaseDifference}
use Rattle.trace_json.specs.Json.{Field, list_json, number_json, object_json}
use Rattle.trace_json.specs.Notes.{if_there}
use Rattle.trace_json.specs.Steps.{outputs_json}

-- ---- a run

-- a run of this many entries that is done
unfoldable pub done_json : ℕ → Data
done_json count = object_json ((codes "end", string (codes "done")) ∷ (codes "entries", number_json count) ∷ [])

-- one that stalled, after which these devices are not at the end of their rows
unfoldable pub stalled_json : ℕ → List ℕ → Data
stalled_json count waiting =
    object_json
    ((codes "end", string (codes "stalled")) ∷ (codes "entries", number_json count)
    ∷ (codes "waiting", list_json (map number_json waiting)) ∷ [])

-- how a run ended, after which these devices are not at the end of their rows
abbrev pub end_json : ℕ → List ℕ → Data
end_json count [] = done_json count
end_json count (d ∷ ds) = stalled_json count (d ∷ ds)

-- ---- a device

-- what a device outputs for one datagram
unfoldable pub one_json : List Output → Data
one_json outputs = object_json ((codes "version", number_json 1) ∷ (codes "outputs", outputs_json outputs) ∷ [])

-- ---- cases

-- what a case states that does not hold
pub record StatedDifference : Type 0 where
  -- the line of its file
  pub line : Option ℕ
  -- what stands there
  pub stated : List ℕ
  -- what came, the words of each answer
  pub came : List (List ℕ)

abbrev pub texts_json : List (List ℕ) → Data
texts_json texts = list_json (map string texts)

abbrev pub differing_fields : Option StatedDifference → List Field
differing_fields None = []
differing_fields (Some d) =
    if_there (codes "line") (option_map number_json d.line)
    ++ ((codes "stated", string d.stated) ∷ (codes "came", texts_json d.came) ∷ [])

-- it holds if nothing differs
abbrev pub holds_if : Option StatedDifference → Bool
holds_if None = true
holds_if (Some d) = false

-- a case of this title and file, and what differs, if something does
unfoldable pub case_json : List ℕ → List ℕ → Option StatedDifference → Data
case_json title file difference =
    object_json
    ((codes "title", string title) ∷ (codes "file", string file) ∷ (codes "holds", boolean (holds_if difference))
    ∷ differing_fields difference)

-- how many cases there are, and how many of them differ
unfoldable pub counts_json : ℕ → ℕ → Data
counts_json cases differ =
    object_json ((codes "cases", number_json cases) ∷ (codes "differ", number_json differ) ∷ [])

-- the texts that a difference refers to
abbrev pub differing_of : CaseDifference → StatedDifference
differing_of d = record { line = d.line; stated = d.stated.now; came = map (λ w. string_bytes w) d.came.now }
