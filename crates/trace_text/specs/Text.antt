-- A trace as text.
use Rattle.std.specs.Prelude.{◌≡◌, ℕ, ◌+◌, List, [], ◌∷◌, ◌++◌}
use Rattle.scenario_image.specs.Scenario.{Scenario}
use Rattle.trace_file.specs.declared.entry.Entry.{Entry}
use Rattle.fleet_core.specs.Run.{step_at}
use Rattle.trace_text.specs.Seconds.{second_at}
use Rattle.trace_text.specs.Lines.{all_output_lines, arrival_lines, entry_line, step_words}

-- the entry of this number: its line, what arrives in its step, and what the device outputs
abbrev pub entry_text : Scenario → ℕ → Entry → List ℕ
entry_text s number e =
    entry_line number e (second_at s e.device e.step) (step_words (step_at s e.device e.step))
    ++ (arrival_lines (step_at s e.device e.step) ++ all_output_lines e.outputs)

-- entries in their order, the first of this number
abbrev pub entries_text : Scenario → ℕ → List Entry → List ℕ
entries_text s number [] = []
entries_text s number (e ∷ es) = entry_text s number e ++ entries_text s (number + 1) es

-- all entries of a trace
abbrev pub trace_text : Scenario → List Entry → List ℕ
trace_text s es = entries_text s 0 es

-- a text has this part
abbrev pub HasPart : List ℕ → List ℕ → Type 0
HasPart text part = (before : List ℕ) × (after : List ℕ) × (text ≡ before ++ (part ++ after))
