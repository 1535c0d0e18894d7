use Rattle.std.proofs.Common.{◌∙◌}
use Rattle.trace_json.proofs.Written.{written}
use Rattle.trace_json.proofs.ends.run_end_line.Goals as goal

pub returns-clause-line : goal.returns-clause-line
returns-clause-line c =
    c.text_of.ensures
    ∙ written _ _ _ _ _ _ (c.in_ok-put_end.ensures.before ∙ c.new-writer.ensures.before ∙ c.new.ensures.items)
    c.new-writer.ensures.tokens c.in_ok-put_end.ensures.adds c.in_ok-bytes.ensures.line
