use Rattle.std.proofs.Common.{◌∙◌}
use Rattle.trace_json.proofs.Written.{written}
use Rattle.test_reports.proofs.objects.case_object.Goals as goal

pub returns-clause-line : goal.returns-clause-line
returns-clause-line c =
    c.text_of.ensures
    ∙ written _ _ _ _ _ _ (c.in_ok-put_case.ensures.before ∙ c.new-writer.ensures.before ∙ c.new.ensures.items)
    c.new-writer.ensures.tokens c.in_ok-put_case.ensures.adds c.in_ok-bytes.ensures.line
