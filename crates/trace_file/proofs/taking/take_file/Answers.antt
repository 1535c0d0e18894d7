use Rattle.std.proofs.Common.{length, arith}
use Rattle.byte_layout.proofs.Whole.{whole_taken, found_sound, failed_only, failed_fault, failed_refused}
use Rattle.trace_file.specs.Layout.{trace_file}
use Rattle.trace_file.proofs.Exact.{trace_file_exact}
use Rattle.trace_file.proofs.Fronts.{front_fails, front_broke, front_whole}
use Rattle.trace_file.proofs.taking.take_file.Goals as goal

pub returns-in-Err-clause-only : goal.returns-in-Err-clause-only
returns-in-Err-clause-only g c = λ es h.
    rw c.fault_at.ensures (failed_only trace_file trace_file_exact c.args.bytes.now
    (length c.args.bytes.now) c.in-Err.error es (front_fails _ _ c.in-Err.ensures.read) h)

pub returns-in-Err-clause-fault : goal.returns-in-Err-clause-fault
returns-in-Err-clause-fault g c =
    rw c.fault_at.ensures (failed_fault trace_file trace_file_exact c.args.bytes.now
    (λ i. omega (arith, c.type_inv.bytes i)) c.in-Err.error (front_fails _ _ c.in-Err.ensures.read))

pub returns-in-Err-clause-refused : goal.returns-in-Err-clause-refused
returns-in-Err-clause-refused g c = λ f h.
    rw c.fault_at.ensures (failed_refused trace_file trace_file_exact c.args.bytes.now c.in-Err.error f
    (front_fails _ _ c.in-Err.ensures.read) h)

pub returns-in-Err-clause-front : goal.returns-in-Err-clause-front
returns-in-Err-clause-front g c = λ b h.
    let e = front_broke c.args.bytes.now (length c.args.bytes.now) c.in-Err.error b c.in-Err.ensures.no_memory
    c.in-Err.ensures.read h in
    let f = c.fault_at.ensures in
    cc

pub returns-in-Ok-clause-found : goal.returns-in-Ok-clause-found
returns-in-Ok-clause-found g c =
    whole_taken trace_file trace_file_exact c.args.bytes.now (λ i. omega (arith, c.type_inv.bytes i))
    (g.T.TakesEntries.taken c.take_whole.new.taker) c.in-Ok.ensures.read

pub returns-in-Ok-clause-refused : goal.returns-in-Ok-clause-refused
returns-in-Ok-clause-refused g c = λ f h.
    found_sound trace_file trace_file_exact c.args.bytes.now (g.T.TakesEntries.taken c.take_whole.new.taker) f
    c.in-Ok.ensures.read h

pub returns-in-Ok-clause-front : goal.returns-in-Ok-clause-front
returns-in-Ok-clause-front g c = λ b h. absurd (front_whole c.args.bytes.now _ _ b c.in_default.ensures.read h)

pub returns-in-Err-take_whole-clause-only : goal.returns-in-Err-take_whole-clause-only
returns-in-Err-take_whole-clause-only g c = λ es h.
    rw c.fault_at-in-Err-take_whole.ensures (failed_only trace_file trace_file_exact c.args.bytes.now
    (length c.args.bytes.now) c.in-Err-take_whole.error es c.in-Err-take_whole.ensures.read h)

pub returns-in-Err-take_whole-clause-fault : goal.returns-in-Err-take_whole-clause-fault
returns-in-Err-take_whole-clause-fault g c =
    rw c.fault_at-in-Err-take_whole.ensures (failed_fault trace_file trace_file_exact c.args.bytes.now
    (λ i. omega (arith, c.type_inv.bytes i)) c.in-Err-take_whole.error c.in-Err-take_whole.ensures.read)

pub returns-in-Err-take_whole-clause-refused : goal.returns-in-Err-take_whole-clause-refused
returns-in-Err-take_whole-clause-refused g c = λ f h.
    rw c.fault_at-in-Err-take_whole.ensures (failed_refused trace_file trace_file_exact c.args.bytes.now
    c.in-Err-take_whole.error f c.in-Err-take_whole.ensures.read h)

pub returns-in-Err-take_whole-clause-front : goal.returns-in-Err-take_whole-clause-front
returns-in-Err-take_whole-clause-front g c = λ b h.
    absurd (front_whole c.args.bytes.now _ _ b c.in_default.ensures.read h)
