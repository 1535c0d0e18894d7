use Rattle.std.proofs.Common.{◌∙◌}
use Rattle.trace_json.proofs.Written.{written}
use Rattle.trace_json.proofs.lines.put_reasoned_line.Goals as goal

pub returns-clause-line : goal.returns-clause-line
returns-clause-line c =
    written _ _ _ _ _ _ (c.in_ok-put_reasoned.ensures.before ∙ c.new-writer.ensures.before)
    c.new-writer.ensures.tokens c.in_ok-put_reasoned.ensures.adds c.in_ok-bytes.ensures.line
