-- Paths to values and to instances: their order, and their codes, by which a finite map has them as keys.
use Rattle.std.specs.Prelude.{ℕ, List, ◌∷◌, ◌++◌, Option, None, Some, refl}
use Rattle.std.specs.Fmt.{decimal}
use Rattle.std.specs.declared.cmp.Ordering.{Ordering}
use Rattle.std.specs.Ordering.{nat_cmp, ordering_then}
use Rattle.std.specs.Option.{option_cmp}
use Rattle.std.specs.Coded.{Coded, code_by, coded×, coded_ℕ, coded_option}
use Rattle.object_defs.specs.declared.path.Path.{Path}
use Rattle.object_defs.specs.declared.path.Path.TheVariants.{Object, Instance, Resource, Part}
use Rattle.object_defs.specs.declared.path.FullPath.{FullPath}
use Rattle.object_defs.specs.declared.path.InstancePath.{InstancePath}
use Rattle.object_defs.specs.declared.path.ResourcePath.{ResourcePath}

-- the path to the single value of a resource, and to one of its parts
abbrev pub single_of : ResourcePath → FullPath
single_of p = record { object = p.object; instance = p.instance; resource = p.resource; part = None }

abbrev pub part_of : ResourcePath → ℕ → FullPath
part_of p n = record { object = p.object; instance = p.instance; resource = p.resource; part = Some n }

-- the path to one value that a path of three or four numbers is
abbrev pub full_path : Path → Option FullPath
full_path (Object _) = None
full_path (Instance _ _) = None
full_path (Resource o i r) = Some (record { object = o; instance = i; resource = r; part = None })
full_path (Part o i r p) = Some (record { object = o; instance = i; resource = r; part = Some p })

-- the path of a resource, or of one of its parts
abbrev pub path_with : ℕ → ℕ → ℕ → Option ℕ → Path
path_with o i r None = Resource o i r
path_with o i r (Some n) = Part o i r n

abbrev pub path_to : FullPath → Path
path_to p = path_with p.object p.instance p.resource p.part

-- the object that a path begins with
abbrev pub object_in : Path → ℕ
object_in (Object o) = o
object_in (Instance o i) = o
object_in (Resource o i r) = o
object_in (Part o i r p) = o

-- a path as it is written, such as `/3/0/9`: 47 is `/`
abbrev pub path_text : Path → List ℕ
path_text (Object o) = 47 ∷ decimal o
path_text (Instance o i) = 47 ∷ (decimal o ++ 47 ∷ decimal i)
path_text (Resource o i r) = 47 ∷ (decimal o ++ 47 ∷ (decimal i ++ 47 ∷ decimal r))
path_text (Part o i r p) = 47 ∷ (decimal o ++ 47 ∷ (decimal i ++ 47 ∷ (decimal r ++ 47 ∷ decimal p)))

-- by object, instance and resource, then the single value before the parts by their number
abbrev pub path_cmp : FullPath → FullPath → Ordering
path_cmp a b =
    ordering_then (nat_cmp a.object b.object) (ordering_then (nat_cmp a.instance b.instance)
    (ordering_then (nat_cmp a.resource b.resource) (option_cmp nat_cmp a.part b.part)))

abbrev pub path_code : Coded FullPath
path_code =
    code_by (ℕ × (ℕ × (ℕ × Option ℕ))) (coded× coded_ℕ (coded× coded_ℕ (coded× coded_ℕ (coded_option coded_ℕ))))
    (λ p. (p.object, (p.instance, (p.resource, p.part))))
    (λ t. record { object = t.0; instance = t.1.0; resource = t.1.1.0; part = t.1.1.1 }) (λ _. refl)

-- by object, then by instance
abbrev pub instance_cmp : InstancePath → InstancePath → Ordering
instance_cmp a b = ordering_then (nat_cmp a.object b.object) (nat_cmp a.instance b.instance)

abbrev pub instance_code : Coded InstancePath
instance_code =
    code_by (ℕ × ℕ) (coded× coded_ℕ coded_ℕ) (λ p. (p.object, p.instance))
    (λ t. record { object = t.0; instance = t.1 }) (λ _. refl)
