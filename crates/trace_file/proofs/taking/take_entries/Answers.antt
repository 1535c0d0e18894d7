use Rattle.std.proofs.Common.{◌+◌, [], ◌∷◌, refl, ap, ◌∙◌, arith}
use Rattle.std.proofs.lemmas.List.{length-append}
use Rattle.std.proofs.lemmas.Result.{err_from_is_err_and}
use Rattle.byte_layout.specs.Layout.{each}
use Rattle.byte_layout.proofs.Loop.{starts, goes_on, ends, is_done}
use Rattle.trace_file.specs.Layout.{entry}
use Rattle.trace_file.proofs.taking.take_entries.Goals as goal

pub loop-init : goal.loop-init
loop-init g c =
    let none = c.requires.none in
    rw none (starts (λ before. entry) c.args.count c.args.bytes.now, refl, c.requires.ready, refl)

pub take-requires-clause-room : goal.take-requires-clause-room
take-requires-clause-room g c = omega (arith, c.loop.invariant.1, c.loop-test.true)

pub take-requires-clause-ready : goal.take-requires-clause-ready
take-requires-clause-ready g c = c.loop.invariant.2

pub loop-preserved : goal.loop-preserved
loop-preserved g c =
    let had = g.T.TakesEntries.taken c.loop.taker in
    let one = c.in_ok-entry.entry in
    rw c.in_ok-take.ensures.taken (
      goes_on (λ before. entry) had c.args.count c.loop.counter c.loop.rest.now one c.in_ok-entry.after.now
          ((each (λ before. entry) c.args.count []).read c.args.bytes.now) had refl
          c.loop-test.true c.in_ok-entry.ensures c.loop.invariant.0,
      length-append had (one ∷ []) ∙ ap (λ n. n + 1) c.loop.invariant.1,
      c.in_ok-take.ensures.ready,
      c.in_ok-take.ensures.kept ∙ c.loop.invariant.3,
    )

pub returns-in_err-entry-clause-read : goal.returns-in_err-entry-clause-read
returns-in_err-entry-clause-read g c =
    let had = g.T.TakesEntries.taken c.loop.taker in
    let p = err_from_is_err_and c.from_residual.result c.from_residual.ensures.1 in
    rw (p.1, p.2) (ends (λ before. entry) c.in_err-entry.field-0.0 had c.args.count c.loop.counter c.loop.rest.now
    ((each (λ before. entry) c.args.count []).read c.args.bytes.now) had refl c.loop-test.true
    c.in_err-entry.ensures c.loop.invariant.0)

pub returns-clause-read : goal.returns-clause-read
returns-clause-read g c =
    is_done (λ before. entry) (g.T.TakesEntries.taken c.loop.taker) c.args.count c.loop.counter c.loop.rest.now
    ((each (λ before. entry) c.args.count []).read c.args.bytes.now) c.loop-test.false c.loop.invariant.0
