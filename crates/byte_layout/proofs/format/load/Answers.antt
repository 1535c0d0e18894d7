use Rattle.std.proofs.Common.{length, arith}
use Rattle.byte_layout.proofs.Whole.{whole_taken, found_only, found_sound, failed_only, failed_fault, failed_refused}
use Rattle.byte_layout.proofs.format.load.Goals as goal

pub returns-in-Ok-clause-found : goal.returns-in-Ok-clause-found
returns-in-Ok-clause-found g c =
    whole_taken g.F.Format.layout c.requires c.args.bytes.now (λ i. omega (arith, c.type_inv.bytes i))
    (g.F.Format.view c.in-Ok.value) c.in-Ok.ensures

pub returns-in-Ok-clause-only : goal.returns-in-Ok-clause-only
returns-in-Ok-clause-only g c =
    λ a h. found_only g.F.Format.layout c.requires c.args.bytes.now (g.F.Format.view c.in-Ok.value) a c.in-Ok.ensures h

pub returns-in-Ok-clause-refused : goal.returns-in-Ok-clause-refused
returns-in-Ok-clause-refused g c =
    λ f h. found_sound g.F.Format.layout c.requires c.args.bytes.now (g.F.Format.view c.in-Ok.value) f c.in-Ok.ensures h

pub returns-in-Err-clause-only : goal.returns-in-Err-clause-only
returns-in-Err-clause-only g c =
    λ a h. rw c.fault_at.ensures (failed_only g.F.Format.layout c.requires c.args.bytes.now
    (length c.args.bytes.now) c.in-Err.error a c.in-Err.ensures h)

pub returns-in-Err-clause-fault : goal.returns-in-Err-clause-fault
returns-in-Err-clause-fault g c =
    rw c.fault_at.ensures (failed_fault g.F.Format.layout c.requires c.args.bytes.now
    (λ i. omega (arith, c.type_inv.bytes i)) c.in-Err.error c.in-Err.ensures)

pub returns-in-Err-clause-refused : goal.returns-in-Err-clause-refused
returns-in-Err-clause-refused g c =
    λ f h. rw c.fault_at.ensures (failed_refused g.F.Format.layout c.requires c.args.bytes.now c.in-Err.error f
    c.in-Err.ensures h)
