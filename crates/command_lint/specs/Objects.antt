-- Findings as objects in JSON.
use Rattle.std.specs.Prelude.{ℕ, List, [], ◌∷◌, ◌++◌, codes}
use Rattle.json.specs.Token.{Token}
use Rattle.serde_json.specs.Data.{Data, string}
use Rattle.trace_json.specs.Json.{number_json, object_json}
use Rattle.trace_json.specs.Writing.{member_tokens}
use Rattle.server_lint.specs.declared.rule.Rule.{Rule}
use Rattle.server_lint.specs.History.{Transmission}
use Rattle.server_lint.specs.Names.{rule_name, section_of, standard_of}

-- a rule that a datagram of a device breaks, with what is said of it; the server is that which sent or received it
unfoldable pub finding_json : ℕ → Rule → Transmission → List ℕ → Data
finding_json device rule t words =
    object_json
    ((codes "device", number_json device) ∷ (codes "step", number_json t.step) ∷ (codes "second", number_json t.second)
    ∷ (codes "server", number_json t.server) ∷ (codes "rule", string (rule_name rule))
    ∷ (codes "section", string (section_of rule)) ∷ (codes "standard", string (standard_of rule))
    ∷ (codes "words", string words) ∷ [])

-- the tokens of a rule: its name, its section, and the standard that has it
abbrev pub rule_tokens : Rule → List Token
rule_tokens rule =
    member_tokens (codes "rule") (string (rule_name rule))
    ++ (member_tokens (codes "section") (string (section_of rule))
    ++ member_tokens (codes "standard") (string (standard_of rule)))

-- how many findings there are
unfoldable pub count_json : ℕ → Data
count_json count = object_json ((codes "findings", number_json count) ∷ [])
