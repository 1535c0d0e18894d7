-- The objects of what is answered where there is no trace: a verdict, a fault.
use Rattle.std.specs.Prelude.{ℕ, List, [], ◌∷◌, ◌++◌, codes, Option, None, Some, option_map}
use Rattle.fleet_core.specs.declared.verdict.Verdict.{Verdict}
use Rattle.fleet_core.specs.declared.verdict.Verdict.TheVariants.{Run, NotRun}
use Rattle.serde_json.specs.Data.{Data, string}
use Rattle.trace_json.specs.declared.notes.FaultParts.{FaultParts}
use Rattle.trace_json.specs.Json.{Field, number_json, object_json}

-- what a list of entries is: a run, or none from the entry of this number on
unfoldable pub verdict_json : Verdict → Data
verdict_json Run = object_json ((codes "verdict", string (codes "run")) ∷ [])
verdict_json (NotRun place) =
    object_json ((codes "verdict", string (codes "not a run")) ∷ (codes "entry", number_json place) ∷ [])

-- a member that is left out where there is no value
abbrev pub if_there : List ℕ → Option Data → List Field
if_there key None = []
if_there key (Some d) = (key, d) ∷ []

-- what a fault has beside its name: the line of a text, the place in bytes, the cause, the word, the file
abbrev pub fault_fields : FaultParts → List Field
fault_fields fault =
    if_there (codes "line") (option_map number_json fault.line)
    ++ (if_there (codes "place") (option_map number_json fault.place)
    ++ (if_there (codes "cause") (option_map (λ x. string x.now) fault.cause)
    ++ (if_there (codes "word") (option_map (λ x. string x.now) fault.word)
    ++ if_there (codes "file") (option_map (λ x. string x.now) fault.file))))

-- a fault: its name, and what it has
unfoldable pub fault_json : FaultParts → Data
fault_json fault = object_json ((codes "fault", string fault.name.now) ∷ fault_fields fault)
