-- The object of an entry with the reasons of its step, in words: why the device answers a datagram that arrives like
-- that, why it sends each datagram that it sends by itself, and which observations end without one.
use Rattle.std.specs.Prelude.{ℕ, List, [], ◌∷◌, ◌++◌, codes, map, Option, None, Some, option_map}
use Rattle.std.specs.String.{string_bytes}
use Rattle.device_machine.specs.declared.output.Output.{Output}
use Rattle.device_machine.specs.declared.output.Output.TheVariants.{Send, Act}
use Rattle.scenario_image.specs.Scenario.{Scenario}
use Rattle.trace_file.specs.declared.entry.Entry.{Entry}
use Rattle.serde_json.specs.Data.{Data, string}
use Rattle.trace_json.specs.declared.reasons.SilentEnd.{SilentEnd}
use Rattle.trace_json.specs.declared.reasons.StepReasons.{StepReasons}
use Rattle.trace_json.specs.Entries.{step_fields}
use Rattle.trace_json.specs.Json.{Field, list_json, number_json, object_json}
use Rattle.trace_json.specs.Notes.{if_there}
use Rattle.trace_json.specs.Steps.{datagram_fields, kind_json, output_json}

-- an observation that ends without a datagram: what was observed, in which second it ends, and why
pub record SaidEnd : Type 0 where
  pub path : List ℕ
  pub second : ℕ
  pub why : List ℕ

-- what is said of a step
pub record SaidReasons : Type 0 where
  -- the number of the rule that decides the answer to a datagram, if one does
  pub rule : Option ℕ
  -- why the device answers the datagram like that, if one arrives
  pub why : Option (List ℕ)
  -- why each datagram is sent, in their order, as far as there are reasons
  pub sent : List (List ℕ)
  -- the observations that end without a datagram, in their order
  pub ended : List SaidEnd

-- what a device outputs, and why, if a reason is there
unfoldable pub reasoned_output_json : Output → Option (List ℕ) → Data
reasoned_output_json (Send server bytes) why =
    kind_json (codes "send") (datagram_fields server bytes ++ if_there (codes "why") (option_map string why))
reasoned_output_json (Act act) why = output_json (Act act)

-- outputs in their order, each with the reason at its place, if there is one
abbrev pub reasoned_outputs : List Output → List (List ℕ) → List Data
reasoned_outputs [] whys = []
reasoned_outputs (x ∷ xs) [] = reasoned_output_json x None ∷ reasoned_outputs xs []
reasoned_outputs (x ∷ xs) (why ∷ whys) = reasoned_output_json x (Some why) ∷ reasoned_outputs xs whys

abbrev pub reasoned_outputs_json : List Output → List (List ℕ) → Data
reasoned_outputs_json outputs whys = list_json (reasoned_outputs outputs whys)

unfoldable pub silent_end_json : SaidEnd → Data
silent_end_json e =
    object_json
    ((codes "path", string e.path) ∷ (codes "second", number_json e.second) ∷ (codes "why", string e.why) ∷ [])

abbrev pub silent_ends_json : List SaidEnd → Data
silent_ends_json ends = list_json (map silent_end_json ends)

-- a member that is left out where there is none
abbrev pub ended_fields : List SaidEnd → List Field
ended_fields [] = []
ended_fields (e ∷ es) = (codes "ended", silent_ends_json (e ∷ es)) ∷ []

-- the object of an entry: rule and reason stand between what happens and what the device outputs, the reason of a
-- datagram in its object, and ends after them
unfoldable pub reasoned_json : Scenario → ℕ → Entry → SaidReasons → Data
reasoned_json s number e said =
    object_json
    (step_fields s number e ++ (if_there (codes "rule") (option_map number_json said.rule)
    ++ (if_there (codes "why") (option_map string said.why)
    ++ ((codes "outputs", reasoned_outputs_json e.outputs said.sent) ∷ ended_fields said.ended))))

-- nothing is said
abbrev pub no_reasons : SaidReasons
no_reasons = record { rule = None; why = None; sent = []; ended = [] }

-- what the parts of a line say
abbrev pub said_end : SilentEnd → SaidEnd
said_end e = record { path = string_bytes e.path; second = e.second; why = string_bytes e.why }

abbrev pub said_of : StepReasons → SaidReasons
said_of r = record {
  rule = r.rule;
  why = option_map (λ x. x.now) r.why;
  sent = map (λ w. string_bytes w) r.sent.now;
  ended = map said_end r.ended.now;
}
