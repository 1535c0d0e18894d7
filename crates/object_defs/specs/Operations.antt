-- What the operations of a resource allow (OMA LwM2M 1.1 Core).
use Rattle.std.specs.Prelude.{Bool, true, false}
use Rattle.object_defs.specs.declared.definition.Ops.{Ops}
use Rattle.object_defs.specs.declared.definition.Ops.TheVariants.{R, W, RW, E}

abbrev pub can_read : Ops → Bool
can_read R = true
can_read W = false
can_read RW = true
can_read E = false

abbrev pub can_write : Ops → Bool
can_write R = false
can_write W = true
can_write RW = true
can_write E = false

abbrev pub can_execute : Ops → Bool
can_execute R = false
can_execute W = false
can_execute RW = false
can_execute E = true
