-- Stores in which one value, or two, have been set differ at their full paths alone.
use Rattle.std.proofs.Common.{[], ◌∷◌, refl, ◌∙◌}
use Rattle.std.specs.FinMap as finite
use Rattle.lwm2m_values.specs.declared.value.Value.{Value}
use Rattle.object_defs.specs.declared.path.FullPath.{FullPath}
use Rattle.instance_store.specs.Stored.{Stored, with_value}
use Rattle.instance_store.proofs.SetValues.{value_elsewhere}
use Rattle.device_notifications.specs.Reach.{DifferAt}

pub differ_at_one : (s : Stored) (p : FullPath) (v : Value) → DifferAt (p ∷ []) s (with_value s p v)
differ_at_one s p v = record { instances = refl; others = λ q other. value_elsewhere s p q v other.0 }

pub differ_at_two : (s : Stored) (p r : FullPath) (v w : Value)
    → DifferAt (p ∷ r ∷ []) s (with_value (with_value s p v) r w)
differ_at_two s p r v w = record {
  instances = refl;
  others = λ q other. value_elsewhere (with_value s p v) r q w other.1.0 ∙ value_elsewhere s p q v other.0;
}
