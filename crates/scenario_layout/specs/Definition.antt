-- Definitions of resources as bytes, in this profile's formats.
use Rattle.std.specs.Prelude.{ℕ, ◌+◌, ◌==◌, ◌&&◌, ◌||◌, Bool, true, List, nat_lt, if◌then◌else◌}
use Rattle.std.specs.List.{list_all}
use Rattle.std.specs.Int.{w8, w16}
use Rattle.byte_layout.specs.declared.fault.Break.TheVariants.{BadField}
use Rattle.byte_layout.specs.Layout.{Layout, number, layout_with_test, at_most, split, last, list_with_count}
use Rattle.lwm2m_values.specs.declared.kind.ValueKind.{ValueKind}
use Rattle.object_defs.specs.declared.definition.Ops.{Ops}
use Rattle.object_defs.specs.declared.definition.Ops.TheVariants.{R, W, RW, E}
use Rattle.object_defs.specs.declared.definition.ResourceDef.{ResourceDef}
use Rattle.scenario_layout.specs.Value.{kind_number, kind}

-- the number of the operations that a resource has
abbrev pub ops_number : Ops → ℕ
ops_number R = 1
ops_number W = 2
ops_number RW = 3
ops_number E = 4

-- the operations of a number from 1 to 4
abbrev pub ops_numbered : ℕ → Ops
ops_numbered n = if n == 1 then R else (if n == 2 then W else (if n == 3 then RW else E))

unfoldable pub ops : Layout Ops
ops = last ops_number ops_numbered (layout_with_test BadField (λ n. nat_lt 0 n && nat_lt n 5) (number w8))

-- 1 for a multiple resource, 2 more for a mandatory one
abbrev pub flags_of : Bool → Bool → ℕ
flags_of multiple mandatory = (if multiple then 1 else 0) + (if mandatory then 2 else 0)

-- flags are below 4, and an executable resource is not multiple
abbrev pub flags_fit : Ops → ℕ → Bool
flags_fit E n = n == 0 || n == 2
flags_fit _ n = nat_lt n 4

-- an executable resource has the kind Text
abbrev pub kind_fits : Ops → ValueKind → Bool
kind_fits E k = kind_number k == 0
kind_fits _ k = true

abbrev pub definition : ℕ → Ops → ℕ → ValueKind → ResourceDef
definition n o flags k =
    record { id = n; ops = o; multiple = flags == 1 || flags == 3; mandatory = nat_lt 1 flags; kind = k }

-- what stands after the number of a resource: operations, flags, kind
abbrev pub behind_id : ℕ → Layout ResourceDef
behind_id n = split (λ r. r.ops) ops (λ o. split (λ r. flags_of r.multiple r.mandatory)
    (layout_with_test BadField (flags_fit o) (number w8))
    (λ flags. last (λ r. r.kind) (definition n o flags) (layout_with_test BadField (kind_fits o) kind)))

-- a definition, whose number is above those of the definitions before it
unfoldable pub resource : List ResourceDef → Layout ResourceDef
resource before =
    split (λ r. r.id) (layout_with_test BadField (λ n. list_all (λ r. nat_lt r.id n) before) (number w16)) behind_id

-- at most 64 definitions, their numbers ascending
unfoldable pub resources : Layout (List ResourceDef)
resources = list_with_count (at_most 64 (number w8)) resource
