-- The objects of a trace: what begins it, and one for each entry.
use Rattle.std.specs.Prelude.{ℕ, List, [], ◌∷◌, ◌++◌, codes, length, map}
use Rattle.scenario_image.specs.Scenario.{Scenario}
use Rattle.trace_file.specs.declared.entry.Entry.{Entry}
use Rattle.fleet_core.specs.Run.{step_at}
use Rattle.trace_text.specs.declared.selection.Selection.{Selection}
use Rattle.trace_text.specs.Lines.{step_words}
use Rattle.trace_text.specs.Seconds.{second_at}
use Rattle.trace_text.specs.Selection.{numbered_entries, selected_entries}
use Rattle.serde_json.specs.Data.{Data, string}
use Rattle.trace_json.specs.Json.{Field, number_json, object_json}
use Rattle.trace_json.specs.Steps.{event_json, outputs_json}

-- what begins a trace of this many devices and entries
unfoldable pub head_json : ℕ → ℕ → Data
head_json devices entries =
    object_json
    ((codes "version", number_json 1) ∷ (codes "kind", string (codes "trace"))
    ∷ (codes "devices", number_json devices) ∷ (codes "entries", number_json entries) ∷ [])

-- the step of the entry of this number: who made which step of which device, the device's second before the step, the
-- step in words and as an object
abbrev pub step_fields : Scenario → ℕ → Entry → List Field
step_fields s number e =
    (codes "entry", number_json number) ∷ (codes "worker", number_json e.worker)
    ∷ (codes "device", number_json e.device) ∷ (codes "step", number_json e.step)
    ∷ (codes "second", number_json (second_at s e.device e.step))
    ∷ (codes "statement", string (step_words (step_at s e.device e.step)))
    ∷ (codes "event", event_json (step_at s e.device e.step)) ∷ []

-- the entry: its step, and what the device output
unfoldable pub entry_json : Scenario → ℕ → Entry → Data
entry_json s number e = object_json (step_fields s number e ++ ((codes "outputs", outputs_json e.outputs) ∷ []))

-- the objects of those of the entries that are selected, in their order; the first entry has this number
abbrev pub selected_json : Scenario → Selection → ℕ → List Entry → List Data
selected_json s sel number es = map (λ p. entry_json s p.0 p.1) (selected_entries sel (numbered_entries number es))

-- what begins a trace, with the counts of the whole trace, and the objects of the selected entries
abbrev pub trace_json : Scenario → Selection → List Entry → List Data
trace_json s sel es = head_json (length s.rows) (length es) ∷ selected_json s sel 0 es
