-- What a class of devices refuses, and why (objects and their resources after OMA LwM2M 1.1 Core; how many of each, and
-- where a class may say a value, is this profile's). Objects are named by their numbers: 0 Security, 3 Device,
-- 5 Firmware Update, of which 1, 3 and 5 are Package URI, State and Update Result.
use Rattle.std.specs.Prelude.{◌≡◌, ◌≢◌, ◌↔◌, ◌⊎◌, ⊤, ℕ, ◌<◌, ◌≤◌, true, false, length, Option, None, Some, IsSome}
use Rattle.std.specs.List.{Contains}
use Rattle.lwm2m_values.specs.Value.{kind_of}
use Rattle.lwm2m_values.specs.declared.kind.ValueKind.TheVariants as kind
use Rattle.lwm2m_values.specs.declared.value.Value.{Value}
use Rattle.lwm2m_values.specs.declared.value.Value.TheVariants.{Text, Whole, Flag, Opaque, Moment, Link}
use Rattle.object_defs.specs.Catalog.{object_of, resource_in}
use Rattle.object_defs.specs.Path.{full_path}
use Rattle.object_defs.specs.declared.definition.ObjectDef.{ObjectDef}
use Rattle.object_defs.specs.declared.definition.Ops.TheVariants.{R, RW, E}
use Rattle.object_defs.specs.declared.definition.ResourceDef.{ResourceDef}
use Rattle.object_defs.specs.declared.path.FullPath.{FullPath}
use Rattle.object_defs.specs.declared.path.InstancePath.{InstancePath}
use Rattle.object_defs.specs.declared.path.Path.TheVariants.{Object, Instance, Resource, Part}
use Rattle.instance_store.specs.Stored.{has_instance, instances_of, parts_of, value_at, value_count}
use Rattle.device_template.specs.Template.{Template, account_fault, definition_fault, instance_fault, notify_fault}
use Rattle.device_template.specs.Template.{object_fault, value_fault, value_fault_at}
use Rattle.device_template.specs.declared.fault.TemplateFault.{TemplateFault}
use Rattle.device_template.specs.declared.fault.TemplateFault.TheVariants.{Range, Missing, Duplicate, Full}

-- what is added has to fit, to stand in what is there, to be new, and to have room: the first of these four that does
-- not hold is why it is refused
pub record RefusedInOrder (fits stands new has_room : Type 0) (fault : Option TemplateFault) : Type 0 where
  pub range : ¬ fits → fault ≡ Some Range
  pub missing : fits → ¬ stands → fault ≡ Some Missing
  pub duplicate : fits → stands → ¬ new → fault ≡ Some Duplicate
  pub full : fits → stands → new → ¬ has_room → fault ≡ Some Full
  pub taken : fits → stands → new → has_room → fault ≡ None

-- ---- accounts, and how a class notifies

-- a server has a number from 1 to 65534; a class has at most 4 accounts
abbrev pub AccountsAreRefused : Type 0
AccountsAreRefused =
    (class : Template) (server : ℕ)
    → RefusedInOrder ((1 ≤ server) × (server ≤ 65534)) ⊤ (¬ (Contains class.accounts server))
    (length class.accounts < 4) (account_fault class server)

-- 0 seconds stands for Non-confirmable; Confirmable notifications wait 2 or 3 seconds at first
abbrev pub TimeoutsAreRefused : Type 0
TimeoutsAreRefused =
    (seconds : ℕ) → RefusedInOrder ((seconds ≡ 0) ⊎ ((seconds ≡ 2) ⊎ (seconds ≡ 3))) ⊤ ⊤ ⊤ (notify_fault seconds)

-- ---- objects and resources of the class's own

-- the numbers of vendors' objects
abbrev pub IsVendors : ℕ → Type 0
IsVendors id = (10241 ≤ id) × (id ≤ 32768)

-- there are at most 16 objects, of which five are the base objects
abbrev pub ObjectsAreRefused : Type 0
ObjectsAreRefused =
    (class : Template) (id : ℕ)
    → RefusedInOrder (IsVendors id) ⊤ (object_of class.catalog id ≡ None) (length class.catalog < 16)
    (object_fault class id)

-- an object of the class's own
abbrev pub IsOwn : Template → ℕ → ObjectDef → Type 0
IsOwn class id o = IsVendors id × (object_of class.catalog id ≡ Some o)

-- an executable resource is single, and has the kind Text
abbrev pub IsSound : ResourceDef → Type 0
IsSound d = d.ops ≡ E → (d.multiple ≡ false) × (d.kind ≡ kind.Text)

-- a resource is of an object of the class's own, which has at most 64
abbrev pub ResourcesAreRefused : Type 0
ResourcesAreRefused =
    (class : Template) (object : ℕ) (d : ResourceDef)
    → RefusedInOrder (((o : ObjectDef) × IsOwn class object o) × IsSound d) ⊤
    ((o : ObjectDef) → IsOwn class object o → resource_in o.resources d.id ≡ None)
    ((o : ObjectDef) → IsOwn class object o → length o.resources < 64) (definition_fault class object d)

-- ---- instances

-- Security has none; numbers go up to 65534; Device and Firmware Update have number 0 alone
pub record MayBe (place : InstancePath) : Type 0 where
  pub not_security : place.object ≢ 0
  pub number : place.instance ≤ 65534
  pub one_device : place.object ≡ 3 → place.instance ≡ 0
  pub one_firmware : place.object ≡ 5 → place.instance ≡ 0

-- an instance is of an object that is there, which has at most 64
abbrev pub InstancesAreRefused : Type 0
InstancesAreRefused =
    (class : Template) (place : InstancePath)
    → RefusedInOrder (MayBe place) (IsSome (object_of class.catalog place.object))
    (has_instance class.store place ≡ false) (length (instances_of class.store place.object) < 64)
    (instance_fault class place)

-- ---- values

-- a Text has at most 255 bytes, an Opaque 1,024
abbrev pub IsShortEnough : Value → Type 0
IsShortEnough (Text text) = length text ≤ 255
IsShortEnough (Whole z) = ⊤
IsShortEnough (Flag b) = ⊤
IsShortEnough (Opaque bytes) = length bytes ≤ 1024
IsShortEnough (Moment z) = ⊤
IsShortEnough (Link o i) = ⊤

-- the resource can be read and is of the value's kind; it has parts where the path names one
pub record SuitsResource (d : ResourceDef) (p : FullPath) (value : Value) : Type 0 where
  pub readable : (d.ops ≡ R) ⊎ (d.ops ≡ RW)
  pub kind : d.kind ≡ kind_of value
  pub part : (d.multiple ≡ true) ↔ IsSome p.part

-- the device itself sets Package URI, State and Update Result
abbrev pub IsSetByDevice : FullPath → Type 0
IsSetByDevice p =
    (p.object ≡ 5) × (p.instance ≡ 0) × ((p.resource ≡ 1) ⊎ ((p.resource ≡ 3) ⊎ (p.resource ≡ 5)))

-- the object has the resource, which suits the path and the value, and which the device does not set
abbrev pub SuitsObject : ObjectDef → FullPath → Value → Type 0
SuitsObject o p value =
    ((d : ResourceDef) × (resource_in o.resources p.resource ≡ Some d) × SuitsResource d p value) × ¬ (IsSetByDevice p)

-- of an object that is not there nothing is asked before that
abbrev pub SuitsPath : Template → FullPath → Value → Type 0
SuitsPath class p value = (o : ObjectDef) → object_of class.catalog p.object ≡ Some o → SuitsObject o p value

-- a value stands in an instance that is there; a class has at most 65,535 values, a resource at most 32 parts
abbrev pub ValuesAreRefused : Type 0
ValuesAreRefused =
    (class : Template) (p : FullPath) (value : Value)
    → RefusedInOrder (IsShortEnough value × SuitsPath class p value)
    (IsSome (object_of class.catalog p.object)
    × (has_instance class.store (record { object = p.object; instance = p.instance }) ≡ true))
    (value_at class.store p ≡ None)
    ((value_count class.store < 65535)
    × (IsSome p.part
    → length (parts_of class.store (record { object = p.object; instance = p.instance; resource = p.resource })) < 32))
    (value_fault_at class p value)

-- the path of a value has three or four numbers, and these are they
pub record IsRefusedByPath (class : Template) (value : Value) : Type 0 where
  pub object : (o : ℕ) → value_fault class (full_path (Object o)) value ≡ Some Range
  pub instance : (o i : ℕ) → value_fault class (full_path (Instance o i)) value ≡ Some Range
  pub resource : (o i r : ℕ)
      → value_fault class (full_path (Resource o i r)) value
      ≡ value_fault_at class (record { object = o; instance = i; resource = r; part = None }) value
  pub part : (o i r n : ℕ)
      → value_fault class (full_path (Part o i r n)) value
      ≡ value_fault_at class (record { object = o; instance = i; resource = r; part = Some n }) value

abbrev pub PathsAreRefused : Type 0
PathsAreRefused = (class : Template) (value : Value) → IsRefusedByPath class value
