-- How records are put together and taken apart, as clauses of private functions name it. No promise rests on it.
use Rattle.std.specs.Prelude.{ℕ, ◌==◌, Option, None, Some, Result, Ok, Err, if◌then◌else◌}
use Rattle.lwm2m_values.specs.Tree.{Tree, Trees, instance, multi, part, single, none, more}
use Rattle.lwm2m_payloads.specs.declared.fault.PayloadFault.{PayloadFault}
use Rattle.lwm2m_payloads.specs.declared.given.Assignment.{Assignment}
use Rattle.lwm2m_payloads.specs.declared.given.Given.{Given}

-- a record after others
abbrev pub with_last : Trees → Tree → Trees
with_last none t = more t none
with_last (more s nodes) t = more s (with_last nodes t)

-- a part after a record: in it, where it is the Multiple Resource of this number, else in one of its own
abbrev pub part_after : ℕ → Tree → Tree → Trees
part_after r p (multi q parts) =
    if r == q then more (multi q (with_last parts p)) none else more (multi q parts) (more (multi r (more p none)) none)
part_after r p (instance i inner) = more (instance i inner) (more (multi r (more p none)) none)
part_after r p (part n bytes) = more (part n bytes) (more (multi r (more p none)) none)
part_after r p (single q bytes) = more (single q bytes) (more (multi r (more p none)) none)

-- a part after records
abbrev pub part_behind : ℕ → Tree → Trees → Trees
part_behind r p none = more (multi r (more p none)) none
part_behind r p (more t none) = part_after r p t
part_behind r p (more t (more u nodes)) = more t (part_behind r p (more u nodes))

-- the record that stands alone
abbrev pub sole : Trees → Option Tree
sole none = None
sole (more t none) = Some t
sole (more t (more u nodes)) = None

-- what is given, as an assignment to the resource of this number
abbrev pub assigned_to : ℕ → Result Given PayloadFault → Result Assignment PayloadFault
assigned_to n (Ok g) = Ok (record { resource = n; given = g })
assigned_to n (Err e) = Err e
