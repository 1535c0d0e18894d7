-- The order of the keys of attributes is total, and keys that compare alike are one.
use Rattle.std.proofs.Common.{ℕ, Option, refl, ap}
use Rattle.std.specs.Cmp.{IsTotalOrder}
use Rattle.std.specs.Option.{option_cmp}
use Rattle.std.specs.Ordering.{nat_cmp}
use Rattle.std.proofs.lemmas.Map.Lookups.{CmpEqualImpliesEq, exact_pairs, exact_unsigned}
use Rattle.object_defs.proofs.PathOrder.{exact_options}
use Rattle.notifier.specs.declared.attribute.Name.{Name}
use Rattle.notifier.specs.declared.attribute.Name.TheVariants.{Pmin, Pmax, Gt, Lt, St}
use Rattle.notifier.specs.contracts.attribute.AttributeKeyOrd.TheImpl.Laws.{total-law}
use Rattle.notifier.specs.Attributes.{key_cmp, name_cmp}

pub key_total : IsTotalOrder key_cmp
key_total = total-law

pub name_exact : CmpEqualImpliesEq name_cmp
name_exact Pmin Pmin h = refl
name_exact Pmin Pmax h = cc
name_exact Pmin Gt h = cc
name_exact Pmin Lt h = cc
name_exact Pmin St h = cc
name_exact Pmax Pmin h = cc
name_exact Pmax Pmax h = refl
name_exact Pmax Gt h = cc
name_exact Pmax Lt h = cc
name_exact Pmax St h = cc
name_exact Gt Pmin h = cc
name_exact Gt Pmax h = cc
name_exact Gt Gt h = refl
name_exact Gt Lt h = cc
name_exact Gt St h = cc
name_exact Lt Pmin h = cc
name_exact Lt Pmax h = cc
name_exact Lt Gt h = cc
name_exact Lt Lt h = refl
name_exact Lt St h = cc
name_exact St Pmin h = cc
name_exact St Pmax h = cc
name_exact St Gt h = cc
name_exact St Lt h = cc
name_exact St St h = refl

pub key_exact : CmpEqualImpliesEq key_cmp
key_exact a b h =
    ap (λ (t : ℕ × (ℕ × (Option ℕ × (Option ℕ × (Option ℕ × Name))))). record {
      server = t.0;
      object = t.1.0;
      instance = t.1.1.0;
      resource = t.1.1.1.0;
      part = t.1.1.1.1.0;
      name =
          t.1.1.1.1.1;
    })
    (exact_pairs nat_cmp _ exact_unsigned (exact_pairs nat_cmp _ exact_unsigned
    (exact_pairs (option_cmp nat_cmp) _ (exact_options nat_cmp exact_unsigned)
    (exact_pairs (option_cmp nat_cmp) _ (exact_options nat_cmp exact_unsigned)
    (exact_pairs (option_cmp nat_cmp) name_cmp (exact_options nat_cmp exact_unsigned) name_exact))))
    (a.server, (a.object, (a.instance, (a.resource, (a.part, a.name)))))
    (b.server, (b.object, (b.instance, (b.resource, (b.part, b.name))))) h)
