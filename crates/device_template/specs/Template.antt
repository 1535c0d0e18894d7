-- What a template holds, what it refuses, and the store that a device starts with.
use Rattle.std.specs.Prelude.{ℕ, ◌==◌, nat_le, Bool, false, not, ◌&&◌, ◌||◌, List, [], ◌∷◌, length, pos, Option, None}
use Rattle.std.specs.Prelude.{Some, is_some, option_map, if◌then◌else◌}
use Rattle.std.specs.List.{list_any}
use Rattle.lwm2m_values.specs.declared.value.Value.{Value}
use Rattle.lwm2m_values.specs.declared.value.Value.TheVariants.{Text, Whole, Flag, Opaque, Moment, Link}
use Rattle.lwm2m_values.specs.declared.kind.ValueKind.{ValueKind}
use Rattle.lwm2m_values.specs.declared.kind.ValueKind.TheVariants as kind
use Rattle.object_defs.specs.Base.{base}
use Rattle.object_defs.specs.Catalog.{object_of, definition_of}
use Rattle.object_defs.specs.Numbers.{security_object, device_object, firmware_update_object}
use Rattle.object_defs.specs.Numbers.{package_uri, update_state, update_result}
use Rattle.object_defs.specs.Vendor.{resource_fault, vendor_fault, with_inserted}
use Rattle.object_defs.specs.declared.definition.ResourceDef.{ResourceDef}
use Rattle.object_defs.specs.declared.fault.CatalogFault.{CatalogFault}
use Rattle.object_defs.specs.declared.fault.CatalogFault.TheVariants as catalog_faults
use Rattle.object_defs.specs.declared.definition.ObjectDef.{ObjectDef}
use Rattle.object_defs.specs.declared.path.FullPath.{FullPath}
use Rattle.object_defs.specs.declared.path.InstancePath.{InstancePath}
use Rattle.instance_store.specs.Stored.{Stored, empty, value_at, value_count, has_instance, instances_of, with_value}
use Rattle.device_template.specs.declared.fault.TemplateFault.{TemplateFault}
use Rattle.device_template.specs.declared.fault.TemplateFault.TheVariants.{Range, Missing, Duplicate, Full, Memory}
use Rattle.object_defs.specs.Lines.{first_line}
use Rattle.device_template.specs.Values.{fits, has_place, has_all_parts}

-- what a template holds
pub record Template : Type 0 where
  pub accounts : List ℕ
  pub catalog : List ObjectDef
  pub store : Stored
  -- how long a device waits for the Ack of a Confirmable notification before it sends it again for the first time, in
  -- seconds; 0 where its notifications are Non-confirmable
  pub notify : ℕ

-- no account, no instance and no value; the base objects; Non-confirmable notifications
abbrev pub empty_class : Template
empty_class = record { accounts = []; catalog = base; store = empty; notify = 0 }

-- with one account more, in ascending order
abbrev pub with_account : Template → ℕ → Template
with_account class server = record class { accounts = with_inserted (λ a. a) server class.accounts }

abbrev pub with_catalog : Template → List ObjectDef → Template
with_catalog class catalog = record class { catalog = catalog }

abbrev pub with_store : Template → Stored → Template
with_store class stored = record class { store = stored }

abbrev pub with_notify : Template → ℕ → Template
with_notify class seconds = record class { notify = seconds }

-- Non-confirmable, or Confirmable with a first timeout of 2 or 3 seconds: an ACK_TIMEOUT of 2 seconds times an
-- ACK_RANDOM_FACTOR of 1 or 1.5 (RFC 7252 section 4.8)
abbrev pub is_notify : ℕ → Bool
is_notify seconds = seconds == 0 || (seconds == 2 || seconds == 3)

-- why devices cannot notify by CONs with this first timeout; 0 stands for NONs
abbrev pub notify_fault : ℕ → Option TemplateFault
notify_fault seconds = first_line ((not (is_notify seconds), Range) ∷ [])

-- how many accounts a class may have
abbrev pub most_accounts : ℕ
most_accounts = 4

-- an account is one of 1 to 65534, is not there yet, and there is room for it
abbrev pub account_fault : Template → ℕ → Option TemplateFault
account_fault class server =
    first_line (
    (not (nat_le 1 server && nat_le server 65534), Range)
    ∷ (list_any (λ account. account == server) class.accounts, Duplicate)
    ∷ (nat_le most_accounts (length class.accounts), Full)
    ∷ []
    )

-- what the catalog refuses, as the class refuses it
abbrev pub fault_of : CatalogFault → TemplateFault
fault_of catalog_faults.IdRange = Range
fault_of catalog_faults.Duplicate = Duplicate
fault_of catalog_faults.TooMany = Full
fault_of catalog_faults.Memory = Memory

-- the class's own objects are a catalog's vendor objects, of which there may be 11
abbrev pub object_fault : Template → ℕ → Option TemplateFault
object_fault class id = option_map fault_of (vendor_fault class.catalog id)

-- a resource is one of an object of the class's own
abbrev pub definition_fault : Template → ℕ → ResourceDef → Option TemplateFault
definition_fault class object definition = option_map fault_of (resource_fault class.catalog object definition)

-- instances have the numbers 0 to 65534; Device and Firmware Update have instance 0 alone, Security has none
abbrev pub may_stand : InstancePath → Bool
may_stand place =
    not (place.object == security_object) && (nat_le place.instance 65534
    && (not (place.object == device_object || place.object == firmware_update_object) || place.instance == 0))

-- an instance is of an object that is there, is not there yet, and one of 64 at most
abbrev pub instance_fault : Template → InstancePath → Option TemplateFault
instance_fault class place =
    first_line (
    (not (may_stand place), Range)
    ∷ (not (is_some (object_of class.catalog place.object)), Missing)
    ∷ (has_instance class.store place, Duplicate)
    ∷ (nat_le 64 (length (instances_of class.store place.object)), Full)
    ∷ []
    )

-- a value fits, its object and instance are there, it is new, and there is room: a class has at most 65,535 values
abbrev pub value_fault_at : Template → FullPath → Value → Option TemplateFault
value_fault_at class p value =
    first_line (
    (not (fits class.catalog p value), Range)
    ∷ (not (has_place class.catalog class.store p), Missing)
    ∷ (is_some (value_at class.store p), Duplicate)
    ∷ (nat_le 65535 (value_count class.store), Full)
    ∷ (has_all_parts class.store p, Full)
    ∷ []
    )

-- the value of a kind that is empty, zero or false
abbrev pub plain : ValueKind → Value
plain kind.Text = Text []
plain kind.Whole = Whole (pos 0)
plain kind.Flag = Flag false
plain kind.Opaque = Opaque []
plain kind.Moment = Moment (pos 0)
plain kind.Link = Link 0 0

-- the kind of a resource, where the class does not refuse a plain value of that kind at the path
abbrev pub kind_taken_by : Template → FullPath → Option ResourceDef → Option ValueKind
kind_taken_by class p None = None
kind_taken_by class p (Some d) = if is_some (value_fault_at class p (plain d.kind)) then None else Some d.kind

-- the kind of the values that may be added at a path, where any may
abbrev pub kind_taken : Template → FullPath → Option ValueKind
kind_taken class p = kind_taken_by class p (definition_of class.catalog p.object p.resource)

-- a value has a path of three or four numbers
abbrev pub value_fault : Template → Option FullPath → Value → Option TemplateFault
value_fault class None value = Some Range
value_fault class (Some p) value = value_fault_at class p value

-- a resource of the firmware instance
abbrev pub firmware_path : ℕ → FullPath
firmware_path resource = record { object = firmware_update_object; instance = 0; resource = resource; part = None }

-- at its start a device with Firmware Update has an empty Package URI, State Idle and no Update Result
abbrev pub with_idle_firmware : Stored → Stored
with_idle_firmware stored =
    if has_instance stored (record { object = firmware_update_object; instance = 0 })
    then with_value
    (with_value (with_value stored (firmware_path package_uri) (Text [])) (firmware_path update_state) (Whole (pos 0)))
    (firmware_path update_result) (Whole (pos 0))
    else stored
