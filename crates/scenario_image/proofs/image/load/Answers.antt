use Rattle.std.proofs.Common.{length, arith, subst, sym, ◌∙◌}
use Rattle.byte_layout.proofs.Whole.{failed_only, failed_fault, failed_refused}
use Rattle.scenario_image.specs.Image.{image, IsImage}
use Rattle.scenario_image.proofs.Fronts.{front_fails, front_broke, front_whole}
use Rattle.scenario_image.proofs.Imaged.{image_exact}
use Rattle.scenario_image.proofs.NoClass.{none_found, none_only, none_sound, none_fails, none_stands}
use Rattle.scenario_image.proofs.image.load.Goals as goal

pub load-requires : goal.load-requires
load-requires c = image_exact

pub returns-in-Err-clause-only : goal.returns-in-Err-clause-only
returns-in-Err-clause-only c = λ s h.
    rw c.fault_at.ensures (failed_only image image_exact c.args.bytes.now (length c.args.bytes.now) c.in-Err.error
    (h.0, s) (front_fails _ _ c.in-Err.ensures.read) h.1)

pub returns-in-Err-clause-fault : goal.returns-in-Err-clause-fault
returns-in-Err-clause-fault c =
    rw c.fault_at.ensures (failed_fault image image_exact c.args.bytes.now
    (λ i. omega (arith, c.type_inv.bytes i)) c.in-Err.error (front_fails _ _ c.in-Err.ensures.read))

pub returns-in-Err-clause-refused : goal.returns-in-Err-clause-refused
returns-in-Err-clause-refused c = λ f h.
    rw c.fault_at.ensures (failed_refused image image_exact c.args.bytes.now c.in-Err.error f
    (front_fails _ _ c.in-Err.ensures.read) h)

pub returns-in-Err-clause-front : goal.returns-in-Err-clause-front
returns-in-Err-clause-front c = λ b h.
    let e = front_broke c.args.bytes.now (length c.args.bytes.now) c.in-Err.error b c.in-Err.ensures.no_memory
    c.in-Err.ensures.read h in
    let f = c.fault_at.ensures in
    cc

pub returns-in-Ok-load_all-clause-front : goal.returns-in-Ok-load_all-clause-front
returns-in-Ok-load_all-clause-front c = λ b h. absurd (front_whole c.args.bytes.now _ _ b c.in-Ok.ensures.read h)

pub returns-in-Err-load_all-clause-front : goal.returns-in-Err-load_all-clause-front
returns-in-Err-load_all-clause-front c = λ b h. absurd (front_whole c.args.bytes.now _ _ b c.in-Ok.ensures.read h)

pub returns-then-is_no_class-clause-found : goal.returns-then-is_no_class-clause-found
returns-then-is_no_class-clause-found c =
    let is = c.is_no_class.ensures.found c.if-is_no_class.true in
    subst (IsImage c.args.bytes.now) (sym c.empty.ensures)
    (none_found _ _ _ (λ i. omega (arith, c.type_inv.bytes i)) c.in-Ok.ensures.read is.0 is.1)

pub returns-then-is_no_class-clause-only : goal.returns-then-is_no_class-clause-only
returns-then-is_no_class-clause-only c = λ s h.
    let is = c.is_no_class.ensures.found c.if-is_no_class.true in
    c.empty.ensures ∙ none_only _ _ _ s c.in-Ok.ensures.read is.0 is.1 h

pub returns-then-is_no_class-clause-refused : goal.returns-then-is_no_class-clause-refused
returns-then-is_no_class-clause-refused c = λ f h.
    let is = c.is_no_class.ensures.found c.if-is_no_class.true in
    none_sound _ _ _ f c.in-Ok.ensures.read is.0 is.1 h

pub returns-then-is_no_class-clause-front : goal.returns-then-is_no_class-clause-front
returns-then-is_no_class-clause-front c = λ b h. absurd (front_whole c.args.bytes.now _ _ b c.in-Ok.ensures.read h)

pub returns-in-Err-clause-empty : goal.returns-in-Err-clause-empty
returns-in-Err-clause-empty c = λ k.
    absurd (none_fails _ c.in-Err.error c.in-Err.ensures.no_memory c.in-Err.ensures.read k)

pub returns-in-Err-load_all-clause-empty : goal.returns-in-Err-load_all-clause-empty
returns-in-Err-load_all-clause-empty c = λ k.
    let s = none_stands _ _ _ c.in-Ok.ensures.read k in
    absurd (cc (c.is_no_class.ensures.only s.0 s.1, c.if-is_no_class.false))
