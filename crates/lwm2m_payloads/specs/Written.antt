-- What stands at each full path of an instance after a Write (OMA LwM2M 1.1 Core, Write: Replace and Partial Update).
use Rattle.std.specs.Prelude.{◌≡◌, ℕ, ◌==◌, false, ◌&&◌, Bool, List, [], ◌∷◌, Option, None, Some, find, option_map}
use Rattle.std.specs.Prelude.{Ok, if◌then◌else◌}
use Rattle.std.specs.List.{list_any}
use Rattle.std.specs.Option.{option_or}
use Rattle.lwm2m_values.specs.declared.value.Value.{Value}
use Rattle.object_defs.specs.declared.definition.ResourceDef.{ResourceDef}
use Rattle.object_defs.specs.declared.path.FullPath.{FullPath}
use Rattle.object_defs.specs.declared.path.InstancePath.{InstancePath}
use Rattle.object_defs.specs.declared.path.ResourcePath.{ResourcePath}
use Rattle.instance_store.specs.Stored.{Stored, value_at, instance_path, resource_path, lies_in}
use Rattle.lwm2m_payloads.specs.declared.format.Format.{Format}
use Rattle.lwm2m_payloads.specs.declared.given.Assignment.{Assignment}
use Rattle.lwm2m_payloads.specs.declared.given.Creation.{Creation}
use Rattle.lwm2m_payloads.specs.declared.given.Given.{Given}
use Rattle.lwm2m_payloads.specs.declared.given.Given.TheVariants.{Single, Parts}
use Rattle.lwm2m_payloads.specs.declared.given.Mode.{Mode}
use Rattle.lwm2m_payloads.specs.declared.given.Mode.TheVariants.{Replace, Update}
use Rattle.lwm2m_payloads.specs.Changes.{is_kept, is_lost, with_given, instance_written}
use Rattle.lwm2m_payloads.specs.Given.{resource_given, part_given, instance_given, creation_given}
use Rattle.lwm2m_payloads.specs.PartList.{PartList}

-- the value given to the part of this number, and without a number the single value
abbrev pub part_value : PartList → Option ℕ → Option Value
part_value parts None = None
part_value parts (Some n) = option_map (λ e. e.1) (find (λ e. e.0 == n) parts)

abbrev pub value_given : Given → Option ℕ → Option Value
value_given (Single value) None = Some value
value_given (Single value) (Some n) = None
value_given (Parts parts) number = part_value parts number

-- what is left of a resource's value where none is given in its place: Replace leaves no part that is not given
abbrev pub left_of : Mode → Given → Option Value → Option Value
left_of mode (Single value) before = before
left_of Replace (Parts parts) before = None
left_of Update (Parts parts) before = before

-- a value after a change of its resource
abbrev pub value_with : Mode → Given → Option ℕ → Option Value → Option Value
value_with mode given number before = option_or (value_given given number) (left_of mode given before)

-- Replace takes an optional writable resource away where it is not named
abbrev pub is_taken_away : List ResourceDef → List Assignment → ℕ → Bool
is_taken_away resources given r = list_any (λ d. d.id == r && is_lost given d) resources

abbrev pub value_if_unnamed : Mode → List ResourceDef → List Assignment → ℕ → Option Value → Option Value
value_if_unnamed Replace resources given r before = if is_taken_away resources given r then None else before
value_if_unnamed Update resources given r before = before

-- a value after a Write of its instance, by what its resource is given
abbrev pub value_by : Mode → List ResourceDef → Option Assignment → Option ℕ → Option Value → Option Value
value_by mode resources None number before = before
value_by mode resources (Some a) number before =
    if is_kept resources a then value_with mode a.given number before else before

abbrev pub value_behind : Mode → List ResourceDef → List Assignment → FullPath → Option Value → Option Value
value_behind mode resources given q before =
    value_by mode resources (find (λ a. a.resource == q.resource) given) q.part
    (value_if_unnamed mode resources given q.resource before)

-- each part is given once
abbrev pub PartsOnce : PartList → Type 0
PartsOnce [] = Unit {0}
PartsOnce (e ∷ parts) = (list_any (λ p. p.0 == e.0) parts ≡ false) × PartsOnce parts

abbrev pub GivenOnce : Given → Type 0
GivenOnce (Single value) = Unit {0}
GivenOnce (Parts parts) = PartsOnce parts

-- each resource is given once, and each of its parts
abbrev pub EachOnce : List Assignment → Type 0
EachOnce [] = Unit {0}
EachOnce (a ∷ given) = (list_any (λ b. b.resource == a.resource) given ≡ false) × GivenOnce a.given × EachOnce given

-- a Write of an instance changes the values of that instance as said above, and no others
abbrev pub WritesValues : Type 0
WritesValues =
    (mode : Mode) (resources : List ResourceDef) (stored : Stored) (place : InstancePath) (given : List Assignment)
    (q : FullPath) → EachOnce given
    → value_at (instance_written mode resources stored place given) q
    ≡ (if lies_in (instance_path place) q then value_behind mode resources given q (value_at stored q)
    else value_at stored q)

-- a Write of a resource changes its values as said above, and no others
abbrev pub WritesResource : Type 0
WritesResource =
    (mode : Mode) (given : Given) (stored : Stored) (p : ResourcePath) (q : FullPath) → GivenOnce given
    → (value_at (with_given mode stored p given) q
    ≡ (if lies_in (resource_path p) q then value_with mode given q.part (value_at stored q) else value_at stored q))
    × ((with_given mode stored p given).instances ≡ stored.instances)

-- and no instance is added or removed
abbrev pub KeepsInstances : Type 0
KeepsInstances =
    (mode : Mode) (resources : List ResourceDef) (stored : Stored) (place : InstancePath) (given : List Assignment)
    → (instance_written mode resources stored place given).instances ≡ stored.instances

-- what payloads give, they give once
abbrev pub PayloadsGiveOnce : Type 0
PayloadsGiveOnce =
    ((d : ResourceDef) (format : Format) (payload : List ℕ) (given : Given)
    → resource_given d format payload ≡ Ok given → GivenOnce given)
    × ((d : ResourceDef) (n : ℕ) (format : Format) (payload : List ℕ) (given : Given)
    → part_given d n format payload ≡ Ok given → GivenOnce given)
    × ((resources : List ResourceDef) (i : ℕ) (payload : List ℕ) (given : List Assignment)
    → instance_given resources i payload ≡ Ok given → EachOnce given)
    × ((resources : List ResourceDef) (payload : List ℕ) (creation : Creation)
    → creation_given resources payload ≡ Ok creation → EachOnce creation.assigned)
