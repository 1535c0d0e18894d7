use Rattle.std.proofs.Common.{◌≡◌, ◌≢◌, Err, map, [], ◌∷◌, ◌∙◌, IsOk, ap, inr, subst, sym}
use Rattle.notifier.specs.declared.fault.QueryFault.TheVariants.{Memory}
use Rattle.notifier.specs.Query.{changes_of, reading_of}
use Rattle.notifier.proofs.Answers.{handed, same_fault}
use Rattle.notifier.proofs.QueryLaws.{first_read, first_spelled, one_read, one_refused}
use Rattle.notifier.proofs.query.parse_query.Goals as goal

pub returns-in_err-add_query-clause-fault : goal.returns-in_err-add_query-clause-fault
returns-in_err-add_query-clause-fault c =
    handed c.from_residual.result (λ e. e ≢ Memory
    → changes_of [] c.args.level (map (λ q. q.items) c.args.queries.now) ≡ Err e) c.in_err-add_query.field-0.0
    c.from_residual.ensures.1
    (λ other. sym c.loop-query.invariant.0 ∙ one_refused (λ q. q.items) c.loop-query.read c.args.level
    c.args.queries.now c.loop-query.query-index c.query-item.result c.in_err-add_query.field-0.0 c.loop-query-test.true
    (ap (λ t. changes_of c.loop-query.read c.args.level (t ∷ []))
    (sym (c.as_slice.ensures.value ∙ ap (λ q. q.items) c.query-item.is))
    ∙ c.in_err-add_query.ensures.fault other))

pub returns-in_err-add_query-clause-may_lack_memory : goal.returns-in_err-add_query-clause-may_lack_memory
returns-in_err-add_query-clause-may_lack_memory c =
    λ grew.
    first_spelled (λ q. q.items) c.args.level c.args.queries.now c.loop-query.query-index c.query-item.result
    c.loop-query.read c.loop-query-test.true c.loop-query.invariant.1
    (subst (λ t. IsOk (reading_of c.loop-query.read c.args.level t))
    (c.as_slice.ensures.value ∙ ap (λ q. q.items) c.query-item.is)
    (c.add_query.ensures.may_lack_memory (same_fault c.from_residual.result c.add_query.result
    c.in_err-add_query.field-0.0 Memory
    c.from_residual.ensures.1 c.in_err-add_query.was grew)))

pub loop-query-preserved : goal.loop-query-preserved
loop-query-preserved c =
    let read = ap (λ t. changes_of c.loop-query.read c.args.level (t ∷ []))
    (sym (c.as_slice.ensures.value ∙ ap (λ q. q.items) c.query-item.is)) ∙ c.in_ok-add_query.ensures.ok
    in (
      one_read (λ q. q.items) c.loop-query.read c.add_query.new.self c.args.level c.args.queries.now
          c.loop-query.query-index c.query-item.result c.loop-query-test.true read
          ∙ c.loop-query.invariant.0,
      inr (first_read (λ q. q.items) c.args.level c.args.queries.now c.loop-query.query-index c.query-item.result
          c.loop-query.read c.add_query.new.self c.loop-query-test.true c.loop-query.invariant.1 read),
    )
