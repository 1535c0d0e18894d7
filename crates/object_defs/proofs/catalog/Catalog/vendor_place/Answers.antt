use Rattle.std.proofs.Common.{◌≡◌, cond, eqb, None, subst}
use Rattle.std.specs.Option.{IfNone, IfSome}
use Rattle.std.specs.List.{slice_get}
use Rattle.object_defs.specs.Catalog.{object_of}
use Rattle.object_defs.proofs.Inserting.{placed}
use Rattle.object_defs.proofs.catalog.Catalog.vendor_place.Goals as goal

pub returns-then-is_vendor-clause-none : goal.returns-then-is_vendor-clause-none
returns-then-is_vendor-clause-none c =
    subst (λ b. IfNone c.place_of.result (cond b (object_of c.args.self.now c.args.id) None ≡ None))
    c.if-is_vendor.ensures (placed (λ o. eqb o.id c.args.id) c.args.self.now c.place_of.result c.place_of.ensures).0

pub returns-then-is_vendor-clause-object : goal.returns-then-is_vendor-clause-object
returns-then-is_vendor-clause-object c =
    subst (λ b. IfSome c.place_of.result (λ i. slice_get c.args.self.now i
    ≡ cond b (object_of c.args.self.now c.args.id) None)) c.if-is_vendor.ensures
    (placed (λ o. eqb o.id c.args.id) c.args.self.now c.place_of.result c.place_of.ensures).1
