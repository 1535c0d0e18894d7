use Rattle.std.proofs.Common.{◌≡◌, ℕ, List, [], ◌++◌, ap, ◌∙◌}
use Rattle.std.specs.String.{string_bytes}
use Rattle.device_machine.specs.declared.output.Output.{Output}
use Rattle.scenario_image.specs.Scenario.{Scenario}
use Rattle.trace_file.specs.declared.entry.Entry.{Entry}
use Rattle.trace_text.specs.Text.{entry_text}
use Rattle.trace_reasons.specs.Text.{outputs_with}
use Rattle.trace_reasons.proofs.Cutting.{put_together, silent}
use Rattle.trace_reasons.proofs.lines.entry_with.Goals as goal

-- the text of the entry without outputs
head_is : (s : Scenario) (number : ℕ) (e : Entry) (head : List ℕ) (none : List Output)
    → head ≡ entry_text s number (record { worker = e.worker; device = e.device; step = e.step; outputs = none })
    → none ≡ [] → head ≡ entry_text s number (silent e)
head_is s number e head none is h =
    is ∙ ap (λ o. entry_text s number (record { worker = e.worker; device = e.device; step = e.step; outputs = o })) h

pub returns-clause-text : goal.returns-clause-text
returns-clause-text c =
    put_together c.args.transcript.now c.args.number c.args.entry.now (string_bytes c.in_ok-text.text) c.args.lines.now
    (string_bytes c.push_str.new.self) (string_bytes c.put_outputs_with.new.out) c.args.happenings.now
    (head_is c.args.transcript.now c.args.number c.args.entry.now (string_bytes c.in_ok-text.text) c.from_vec.result
    c.in_ok-text.ensures.text (c.from_vec.ensures ∙ c.new.ensures.items))
    c.in_ok-push_str.ensures.bytes
    (c.in_ok-put_outputs_with.ensures
    ∙ ap (λ xs. string_bytes c.push_str.new.self ++ outputs_with xs c.args.happenings.now) c.as_slice.ensures)
