-- One option more: its change is the first of those that were left, or its fault is that of all.
use Rattle.std.proofs.Common.{sym, ap, ◌∙◌}
use Rattle.device_requests.specs.WriteAttributes.{changes_or_none}
use Rattle.device_requests.proofs.Queries.{begun_at, read_at, refused_at}
use Rattle.device_requests.proofs.write_attributes.changes_at.Goals as goal

pub returns-in_default-clause-read : goal.returns-in_default-clause-read
returns-in_default-clause-read c =
    sym (ap changes_or_none (sym c.loop-option.invariant.0)
    ∙ refused_at c.loop-option.changes c.args.level c.args.options.now c.loop-option.option-index c.option-item.result
    c.loop-option-test.true c.option-item.is
    (sym c.in_ok-more.ensures.read ∙ c.in_default.is))

pub loop-option-preserved : goal.loop-option-preserved
loop-option-preserved c = (
  read_at c.loop-option.changes c.in-Some.more c.args.level c.args.options.now c.loop-option.option-index
      c.option-item.result c.loop-option-test.true c.option-item.is
      (sym c.in_ok-more.ensures.read ∙ c.in-Some.is)
      ∙ c.loop-option.invariant.0,
  begun_at c.loop-option.changes c.in-Some.more c.args.level c.args.options.now c.loop-option.option-index
      c.option-item.result c.loop-option-test.true c.option-item.is c.loop-option.invariant.1
      (sym c.in_ok-more.ensures.read ∙ c.in-Some.is),
)
