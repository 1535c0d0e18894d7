-- What a Discover answers: its rules and its links (OMA LwM2M 1.1 Core; RFC 6690). Which links it shows is this
-- profile's.
use Rattle.std.specs.Prelude.{ℕ, ◌==◌, ◌/◌, ◌%◌, ℤ, unsigned_abs, Bool, true, false, ◌&&◌, List, [], ◌∷◌, ◌++◌, map}
use Rattle.std.specs.Prelude.{length, Option, None, Some, codes, if◌then◌else◌}
use Rattle.std.specs.List.{filter, flat_map}
use Rattle.std.specs.Fmt.{decimal, signed_decimal}
use Rattle.std.specs.Int.{is_negative}
use Rattle.notifier.specs.declared.attribute.Name.{Name}
use Rattle.notifier.specs.declared.attribute.Name.TheVariants.{Pmin, Pmax, Gt, Lt, St}
use Rattle.notifier.specs.declared.attribute.Name.TheVariants as name
use Rattle.notifier.specs.Attributes.{Numbers, assigned_number, effective}
use Rattle.object_defs.specs.Catalog.{definition_of}
use Rattle.object_defs.specs.declared.definition.ObjectDef.{ObjectDef}
use Rattle.object_defs.specs.declared.definition.ResourceDef.{ResourceDef}
use Rattle.object_defs.specs.declared.path.Path.{Path}
use Rattle.object_defs.specs.declared.path.Path.TheVariants.{Object, Instance, Resource, Part}
use Rattle.instance_store.specs.Stored.{Stored, instances_of, parts_of}
use Rattle.device_requests.specs.Client.{Client}
use Rattle.device_requests.specs.Targets.{exists, is_multiple, resource_place, resources_defined}
use Rattle.object_defs.specs.Path.{path_text}

-- those of these resources of an instance that exist
abbrev pub existing_resources : List ObjectDef → Stored → ℕ → ℕ → List ResourceDef → List Path
existing_resources catalog stored o i definitions =
    filter (exists catalog stored) (map (λ d. Resource o i d.id) definitions)

-- the resources of an instance that exist, in the catalog's order
abbrev pub resources_below : List ObjectDef → Stored → ℕ → ℕ → List Path
resources_below catalog stored o i = existing_resources catalog stored o i (resources_defined catalog o)

-- an instance, followed by its resources
abbrev pub instance_paths : List ObjectDef → Stored → ℕ → ℕ → List Path
instance_paths catalog stored o i = Instance o i ∷ resources_below catalog stored o i

-- what lies below a path, by number; parts have no links
abbrev pub paths_below : List ObjectDef → Stored → Path → List Path
paths_below catalog stored (Object o) = flat_map (instance_paths catalog stored o) (instances_of stored o)
paths_below catalog stored (Instance o i) = resources_below catalog stored o i
paths_below catalog stored (Resource o i r) = []
paths_below catalog stored (Part o i r n) = []

-- the paths that a Discover shows
abbrev pub linked_paths : List ObjectDef → Stored → Path → List Path
linked_paths catalog stored path = path ∷ paths_below catalog stored path

-- how many parts a multiple resource holds
abbrev pub dimension : List ObjectDef → Stored → Path → ℕ
dimension catalog stored (Object o) = 0
dimension catalog stored (Instance o i) = 0
dimension catalog stored (Resource o i r) =
    if is_multiple (definition_of catalog o r) then length (parts_of stored (resource_place o i r)) else 0
dimension catalog stored (Part o i r n) = 0

abbrev pub dimension_text : ℕ → List ℕ
dimension_text n = if n == 0 then [] else codes ";dim=" ++ decimal n

-- the name of an attribute as it is written
abbrev pub name_text : Name → List ℕ
name_text Pmin = codes "pmin"
name_text Pmax = codes "pmax"
name_text Gt = codes "gt"
name_text Lt = codes "lt"
name_text St = codes "st"

-- the digits of thousandths below 1,000 after a point, with no needless zero
abbrev pub fraction_text : ℕ → List ℕ
fraction_text f =
    if f == 0 then []
    else if f % 100 == 0 then 46 ∷ decimal (f / 100)
    else if f % 10 == 0 then 46 ∷ decimal (f / 100) ++ decimal (f / 10 % 10)
    else 46 ∷ decimal (f / 100) ++ (decimal (f / 10 % 10) ++ decimal (f % 10))

abbrev pub unsigned_text : ℕ → List ℕ
unsigned_text n = decimal (n / 1000) ++ fraction_text (n % 1000)

-- a number of thousandths, as `-0.5` or `50`
abbrev pub thousandths_text : ℤ → List ℕ
thousandths_text z = if is_negative z then 45 ∷ unsigned_text (unsigned_abs z) else unsigned_text (unsigned_abs z)

-- the periods are seconds, the others thousandths
abbrev pub is_period : Name → Bool
is_period Pmin = true
is_period Pmax = true
is_period Gt = false
is_period Lt = false
is_period St = false

abbrev pub number_text : Name → ℤ → List ℕ
number_text n z = if is_period n then signed_decimal z else thousandths_text z

-- an attribute as `;name=number`
abbrev pub attribute_text : Name → Option ℤ → List ℕ
attribute_text n None = []
attribute_text n (Some z) = 59 ∷ name_text n ++ 61 ∷ number_text n z

-- on a Discover of a resource the periods that it inherits are shown too
abbrev pub inherits_at : Path → Bool
inherits_at (Object _) = false
inherits_at (Instance _ _) = false
inherits_at (Resource _ _ _) = true
inherits_at (Part _ _ _ _) = false

-- the number of an attribute of a server that a link shows: that of its path itself, or the one that has effect there
abbrev pub shown_number : Numbers → ℕ → Bool → Path → Name → Option ℤ
shown_number m server inherits path n =
    if inherits && is_period n then effective m server path n else assigned_number m server path n

abbrev pub shown_attribute : Numbers → ℕ → Bool → Path → Name → List ℕ
shown_attribute m server inherits path n = attribute_text n (shown_number m server inherits path n)

-- the attributes of a server that a link shows, in the order of the names
abbrev pub attributes_text : Numbers → ℕ → Bool → Path → List ℕ
attributes_text m server inherits path =
    shown_attribute m server inherits path name.Pmin
    ++ (shown_attribute m server inherits path name.Pmax
    ++ (shown_attribute m server inherits path name.Gt
    ++ (shown_attribute m server inherits path name.Lt
    ++ shown_attribute m server inherits path name.St)))

-- what stands after a link's target: `;dim=N` for a multiple resource that is held, and the server's attributes
abbrev pub link_parameters : Client → ℕ → Bool → Path → List ℕ
link_parameters client server inherits path =
    dimension_text (dimension client.catalog client.store path)
    ++ attributes_text client.attributes server inherits path

-- a link: its target in angle brackets, and what stands after it
abbrev pub link : Client → ℕ → Bool → Path → List ℕ
link client server inherits path = 60 ∷ path_text path ++ 62 ∷ link_parameters client server inherits path

abbrev pub more_links : Client → ℕ → List Path → List ℕ
more_links client server paths = flat_map (λ p. 44 ∷ link client server false p) paths

-- links joined by commas, the first of them that of the target
abbrev pub links_text : Client → ℕ → List Path → List ℕ
links_text client server [] = []
links_text client server (p ∷ ps) = link client server (inherits_at p) p ++ more_links client server ps

-- the links of a path and of what lies below it
abbrev pub discover_payload : Client → ℕ → Path → List ℕ
discover_payload client server path = links_text client server (linked_paths client.catalog client.store path)
