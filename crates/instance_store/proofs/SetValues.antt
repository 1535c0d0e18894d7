-- What a store holds after a value was set.
use Rattle.std.proofs.Common.{◌≡◌, ◌≢◌, true, false, cond, Some, refl, ap, ◌∙◌}
use Rattle.std.specs.Ordering.{eq_by_cmp}
use Rattle.std.specs.FinMap as map
use Rattle.lemmas.proofs.Orders.{is_equal}
use Rattle.lwm2m_values.specs.declared.value.Value.{Value}
use Rattle.object_defs.specs.Path.{path_cmp}
use Rattle.object_defs.specs.declared.path.FullPath.{FullPath}
use Rattle.object_defs.proofs.PathOrder.{path_total, path_exact}
use Rattle.instance_store.specs.Stored.{Stored, value_at, with_value}

pub value_after : (s : Stored) (p q : FullPath) (v : Value)
    → value_at (with_value s p v) q ≡ cond (eq_by_cmp path_cmp q p) (Some v) (value_at s q)
value_after s p q v = map.get-insert path_total s.values p v q

pub value_elsewhere : (s : Stored) (p q : FullPath) (v : Value) → q ≢ p
    → value_at (with_value s p v) q ≡ value_at s q
value_elsewhere s p q v other =
    elim (eq_by_cmp path_cmp q p) as (λ b. eq_by_cmp path_cmp q p ≡ b → value_at (with_value s p v) q ≡ value_at s q) [
      | true ↦ λ h. absurd (other (path_exact q p (is_equal _ h)))
      | false ↦ λ h. value_after s p q v ∙ ap (λ b. cond b (Some v) (value_at s q)) h
    ] refl
