-- What stands after the path of a link (OMA LwM2M 1.1 Core, Discover and attributes; which of them links show is this
-- profile's).
use Rattle.std.specs.Prelude.{◌≡◌, ◌≢◌, ◌↔◌, ◌⊎◌, ℕ, ◌==◌, ℤ, Bool, true, false, List, [], ◌∷◌, map, length, None}
use Rattle.std.specs.Prelude.{Some, codes}
use Rattle.std.specs.Fmt.{decimal}
use Rattle.std.specs.List.{IsDistinct}
use Rattle.lwm2m_values.specs.declared.value.Value.{Value}
use Rattle.object_defs.specs.Catalog.{definition_of}
use Rattle.object_defs.specs.Path.{part_of}
use Rattle.object_defs.specs.declared.definition.ResourceDef.{ResourceDef}
use Rattle.object_defs.specs.declared.path.Path.{Path}
use Rattle.object_defs.specs.declared.path.Path.TheVariants.{Object, Instance, Resource}
use Rattle.object_defs.specs.declared.path.ResourcePath.{ResourcePath}
use Rattle.instance_store.specs.Stored.{Stored, value_at}
use Rattle.notifier.specs.declared.attribute.Name.{Name}
use Rattle.notifier.specs.declared.attribute.Name.TheVariants.{Pmin, Pmax}
use Rattle.notifier.specs.Attributes.{assigned_number}
use Rattle.device_requests.specs.Client.{Client}
use Rattle.device_requests.specs.Discover.{inherits_at, name_text, number_text}
use Rattle.device_requests.specs.Laws.{IsAmong}
use Rattle.device_requests.specs.Targets.{resource_place}
use Rattle.laws_discover.specs.Links.{link_to}

-- a name and a value
abbrev pub Parameter : Type 0
Parameter = List ℕ × List ℕ

-- a resource holds the parts of these numbers and no others, and each number stands once
pub record HoldsNumbers (stored : Stored) (p : ResourcePath) (ns : List ℕ) : Type 0 where
  pub once : IsDistinct ◌==◌ ns
  pub each : (n : ℕ) → IsAmong n ns ↔ ((v : Value) × (value_at stored (part_of p n) ≡ Some v))

-- what the link of a path shows to a server: how many parts a multiple resource holds, if it holds one, and each
-- attribute that this server set at the path itself
pub data IsShownOn (client : Client) (server : ℕ) : Path → Parameter → Type 0 where
  its_dimension : (o i r : ℕ) (d : ResourceDef) (ns : List ℕ) → definition_of client.catalog o r ≡ Some d
      → d.multiple ≡ true → HoldsNumbers client.store (resource_place o i r) ns → ns ≢ []
      → IsShownOn client server (Resource o i r) (codes "dim", decimal (length ns))
  its_attribute : (path : Path) (n : Name) (z : ℤ) → assigned_number client.attributes server path n ≡ Some z
      → IsShownOn client server path (name_text n, number_text n z)

-- pmin and pmax
abbrev pub IsInherited : Name → Type 0
IsInherited n = (n ≡ Pmin) ⊎ (n ≡ Pmax)

-- the link of a resource that is the target of the Discover shows besides pmin and pmax of its instance, where it has
-- none itself, and of its object, where neither has one
pub data IsShownFirst (client : Client) (server : ℕ) : Path → Parameter → Type 0 where
  its_own : (path : Path) (x : Parameter) → IsShownOn client server path x → IsShownFirst client server path x
  of_instance : (o i r : ℕ) (n : Name) (z : ℤ) → IsInherited n
      → assigned_number client.attributes server (Resource o i r) n ≡ None
      → assigned_number client.attributes server (Instance o i) n ≡ Some z
      → IsShownFirst client server (Resource o i r) (name_text n, number_text n z)
  of_object : (o i r : ℕ) (n : Name) (z : ℤ) → IsInherited n
      → assigned_number client.attributes server (Resource o i r) n ≡ None
      → assigned_number client.attributes server (Instance o i) n ≡ None
      → assigned_number client.attributes server (Object o) n ≡ Some z
      → IsShownFirst client server (Resource o i r) (name_text n, number_text n z)

abbrev pub FirstLinkShows : Type 0
FirstLinkShows =
    (client : Client) (server : ℕ) (path : Path) (x : Parameter)
    → IsAmong x (link_to client server (inherits_at path) path).parameters ↔ IsShownFirst client server path x

abbrev pub OtherLinksShow : Type 0
OtherLinksShow =
    (client : Client) (server : ℕ) (path : Path) (x : Parameter)
    → IsAmong x (link_to client server false path).parameters ↔ IsShownOn client server path x

-- some of a list, in its order, each once at most
pub data AreSomeOf : List (List ℕ) → List (List ℕ) → Type 0 where
  end : AreSomeOf [] []
  left_out : (x : List ℕ) (xs ys : List (List ℕ)) → AreSomeOf xs ys → AreSomeOf xs (x ∷ ys)
  taken : (x : List ℕ) (xs ys : List (List ℕ)) → AreSomeOf xs ys → AreSomeOf (x ∷ xs) (x ∷ ys)

-- the parameters of a link stand in this order, and each once
abbrev pub ParametersInOrder : Type 0
ParametersInOrder =
    (client : Client) (server : ℕ) (inherits : Bool) (path : Path)
    → AreSomeOf (map (λ x. x.0) (link_to client server inherits path).parameters)
    (codes "dim" ∷ codes "pmin" ∷ codes "pmax" ∷ codes "gt" ∷ codes "lt" ∷ codes "st" ∷ [])
