use Rattle.std.proofs.Common.{◌∙◌}
use Rattle.trace_json.proofs.Gathered.{are_lines}
use Rattle.trace_json.proofs.trace.selected_lines.Goals as goal

pub returns-clause-lines : goal.returns-clause-lines
returns-clause-lines c =
    are_lines _ _ (c.text_of.ensures ∙ c.in_ok-bytes.ensures.text) c.in_ok-bytes.ensures.read_again
