-- A value has its own kind.
use Rattle.std.proofs.Common.{◌≡◌, true, refl}
use Rattle.lwm2m_values.specs.Value.{kind_of}
use Rattle.lwm2m_values.specs.declared.value.Value.{Value}
use Rattle.lwm2m_values.specs.declared.value.Value.TheVariants.{Text, Whole, Flag, Opaque, Moment, Link}
use Rattle.device_template.specs.Values.{has_kind}

pub own_kind : (v : Value) → has_kind v (kind_of v) ≡ true
own_kind (Text x) = refl
own_kind (Whole x) = refl
own_kind (Flag x) = refl
own_kind (Opaque x) = refl
own_kind (Moment x) = refl
own_kind (Link x y) = refl
