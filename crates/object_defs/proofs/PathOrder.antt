-- The orders of paths are total, and paths that compare alike are one.
use Rattle.std.proofs.Common.{ℕ, Option, None, Some, refl, ap, Ordering}
use Rattle.std.specs.Option.{option_cmp}
use Rattle.std.specs.Ordering.{nat_cmp}
use Rattle.std.specs.Cmp.{IsTotalOrder, nat_cmp_total}
use Rattle.std.specs.Cmp.Lexicographic.{options_total}
use Rattle.std.proofs.lemmas.Cmp.{on_total, then_total}
use Rattle.std.proofs.lemmas.Map.Lookups.{CmpEqualImpliesEq, exact_pairs, exact_unsigned}
use Rattle.object_defs.specs.Path.{path_cmp, instance_cmp}

pub path_total : IsTotalOrder path_cmp
path_total =
    then_total (on_total (λ p. p.object) nat_cmp_total) (then_total (on_total (λ p. p.instance) nat_cmp_total)
    (then_total (on_total (λ p. p.resource) nat_cmp_total) (on_total (λ p. p.part) (options_total nat_cmp_total))))

pub instance_total : IsTotalOrder instance_cmp
instance_total = then_total (on_total (λ p. p.object) nat_cmp_total) (on_total (λ p. p.instance) nat_cmp_total)

pub exact_options : {K : Type 0} (R : K → K → Ordering) → CmpEqualImpliesEq R → CmpEqualImpliesEq (option_cmp R)
exact_options R exact None None h = refl
exact_options R exact None (Some y) h = cc
exact_options R exact (Some x) None h = cc
exact_options R exact (Some x) (Some y) h = ap Some (exact x y h)

pub path_exact : CmpEqualImpliesEq path_cmp
path_exact a b h =
    ap (λ (t : ℕ × (ℕ × (ℕ × Option ℕ))). record { object = t.0; instance = t.1.0; resource = t.1.1.0; part = t.1.1.1 })
    (exact_pairs nat_cmp _ exact_unsigned (exact_pairs nat_cmp _ exact_unsigned
    (exact_pairs nat_cmp (option_cmp nat_cmp) exact_unsigned (exact_options nat_cmp exact_unsigned)))
    (a.object, (a.instance, (a.resource, a.part))) (b.object, (b.instance, (b.resource, b.part))) h)

pub instance_exact : CmpEqualImpliesEq instance_cmp
instance_exact a b h =
    ap (λ (p : ℕ × ℕ). record { object = p.0; instance = p.1 })
    (exact_pairs nat_cmp nat_cmp exact_unsigned exact_unsigned (a.object, a.instance) (b.object, b.instance) h)
