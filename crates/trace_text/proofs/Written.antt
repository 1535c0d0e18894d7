-- The text of an entry, from its parts as they are written.
use Rattle.std.proofs.Common.{◌≡◌, ℕ, List, ◌++◌, Option, append_assoc, ap, subst, ◌∙◌}
use Rattle.scenario_image.specs.declared.step.Step.{Step}
use Rattle.scenario_image.specs.Scenario.{Scenario}
use Rattle.scenario_words.specs.Words.{ended_line}
use Rattle.trace_file.specs.declared.entry.Entry.{Entry}
use Rattle.fleet_core.specs.Run.{step_at}
use Rattle.trace_text.specs.Lines.{all_output_lines, arrival_lines, entry_line, entry_start, step_words}
use Rattle.trace_text.specs.Seconds.{second_at}
use Rattle.trace_text.specs.Text.{entry_text}

started : (number second : ℕ) (e : Entry) (words : List ℕ)
    → entry_start number e second ++ ended_line words ≡ entry_line number e second words
started number second e words = simp append_assoc

regroup : (old start words line arrival outputs : List ℕ) → start ++ words ≡ line
    → ((old ++ start) ++ (words ++ arrival)) ++ outputs ≡ old ++ (line ++ (arrival ++ outputs))
regroup old start words line arrival outputs same =
    subst (λ l. ((old ++ start) ++ (words ++ arrival)) ++ outputs ≡ old ++ (l ++ (arrival ++ outputs))) same
    (simp append_assoc)

-- the text of an entry whose step and second are these
abbrev text_with : ℕ → Entry → ℕ → Option Step → List ℕ
text_with number e second step =
    entry_line number e second (step_words step) ++ (arrival_lines step ++ all_output_lines e.outputs)

joined : (number second : ℕ) (e : Entry) (step : Option Step) (old one two new : List ℕ)
    → one ≡ old ++ entry_start number e second
    → two ≡ one ++ (ended_line (step_words step) ++ arrival_lines step) → new ≡ two ++ all_output_lines e.outputs
    → new ≡ old ++ text_with number e second step
joined number second e step old one two new first next last =
    last
    ∙ ap (λ t. t ++ all_output_lines e.outputs)
    (next ∙ ap (λ t. t ++ (ended_line (step_words step) ++ arrival_lines step)) first)
    ∙ regroup old (entry_start number e second) (ended_line (step_words step))
    (entry_line number e second (step_words step)) (arrival_lines step) (all_output_lines e.outputs)
    (started number second e (step_words step))

-- what was written is the text of the entry
pub written : (s : Scenario) (number second : ℕ) (e : Entry) (step : Option Step) (old one two new : List ℕ)
    → second ≡ second_at s e.device e.step → step ≡ step_at s e.device e.step
    → one ≡ old ++ entry_start number e second
    → two ≡ one ++ (ended_line (step_words step) ++ arrival_lines step) → new ≡ two ++ all_output_lines e.outputs
    → new ≡ old ++ entry_text s number e
written s number second e step old one two new second_is step_is first next last =
    joined number second e step old one two new first next last
    ∙ ap (λ k. old ++ text_with number e k step) second_is
    ∙ ap (λ o. old ++ text_with number e (second_at s e.device e.step) o) step_is
