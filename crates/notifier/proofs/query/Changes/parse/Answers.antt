use Rattle.std.proofs.Common.{◌≡◌, ◌≢◌, Err, map, [], ◌∙◌, inr, sym}
use Rattle.notifier.specs.declared.fault.QueryFault.TheVariants.{Memory}
use Rattle.notifier.specs.Query.{changes_of}
use Rattle.notifier.proofs.Answers.{handed, same_fault}
use Rattle.notifier.proofs.QueryLaws.{first_read, first_spelled, one_read, one_refused}
use Rattle.notifier.proofs.query.Changes.parse.Goals as goal

pub returns-in_err-add_query-clause-fault : goal.returns-in_err-add_query-clause-fault
returns-in_err-add_query-clause-fault c =
    handed c.from_residual.result (λ e. e ≢ Memory
    → changes_of [] c.args.level (map (λ q. q.now) c.args.queries.now) ≡ Err e) c.in_err-add_query.field-0.0
    c.from_residual.ensures.1
    (λ other. sym c.loop-query.invariant.0 ∙ one_refused (λ q. q.now) c.loop-query.changes c.args.level
    c.args.queries.now c.loop-query.query-index _ c.in_err-add_query.field-0.0 c.loop-query-test.true
    (c.in_err-add_query.ensures.fault other))

pub returns-in_err-add_query-clause-may_lack_memory : goal.returns-in_err-add_query-clause-may_lack_memory
returns-in_err-add_query-clause-may_lack_memory c =
    λ grew.
    first_spelled (λ q. q.now) c.args.level c.args.queries.now c.loop-query.query-index _ c.loop-query.changes
    c.loop-query-test.true c.loop-query.invariant.1
    (c.add_query.ensures.may_lack_memory (same_fault c.from_residual.result c.add_query.result
    c.in_err-add_query.field-0.0 Memory
    c.from_residual.ensures.1 c.in_err-add_query.was grew))

pub loop-query-preserved : goal.loop-query-preserved
loop-query-preserved c = (
  one_read (λ q. q.now) c.loop-query.changes c.add_query.new.self c.args.level c.args.queries.now
      c.loop-query.query-index _ c.loop-query-test.true c.in_ok-add_query.ensures.ok
      ∙ c.loop-query.invariant.0,
  inr (first_read (λ q. q.now) c.args.level c.args.queries.now c.loop-query.query-index _ c.loop-query.changes
      c.add_query.new.self c.loop-query-test.true c.loop-query.invariant.1 c.in_ok-add_query.ensures.ok),
)
