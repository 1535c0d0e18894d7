-- The base objects and their resources, from OMA LwM2M 1.1 Core. Which resources are mandatory is this profile's.
use Rattle.std.specs.Prelude.{ℕ, Bool, true, false, List, [], ◌∷◌}
use Rattle.lwm2m_values.specs.declared.kind.ValueKind.{ValueKind}
use Rattle.lwm2m_values.specs.declared.kind.ValueKind.TheVariants.{Text, Whole, Flag, Opaque, Moment, Link}
use Rattle.object_defs.specs.declared.definition.Ops.{Ops}
use Rattle.object_defs.specs.declared.definition.Ops.TheVariants.{R, W, RW, E}
use Rattle.object_defs.specs.declared.definition.ResourceDef.{ResourceDef}
use Rattle.object_defs.specs.declared.definition.ObjectDef.{ObjectDef}
use Rattle.object_defs.specs.Numbers.{security_object, server_object, access_control_object, device_object}
use Rattle.object_defs.specs.Numbers.{firmware_update_object}

abbrev pub single : Bool
single = false

abbrev pub multiple : Bool
multiple = true

abbrev pub optional : Bool
optional = false

abbrev pub mandatory : Bool
mandatory = true

-- a row of the table
abbrev pub row : ℕ → Ops → Bool → Bool → ValueKind → ResourceDef
row id ops count need kind = record { id = id; ops = ops; multiple = count; mandatory = need; kind = kind }

abbrev pub server : List ResourceDef
server =
    row 0 R single mandatory Whole  -- Short Server ID
    ∷ row 1 RW single mandatory Whole  -- Lifetime
    ∷ row 2 RW single optional Whole  -- Default Minimum Period
    ∷ row 3 RW single optional Whole  -- Default Maximum Period
    ∷ row 4 E single optional Text  -- Disable
    ∷ row 5 RW single optional Whole  -- Disable Timeout
    ∷ row 6 RW single mandatory Flag  -- Notification Storing When Disabled or Offline
    ∷ row 7 RW single mandatory Text  -- Binding
    ∷ row 8 E single mandatory Text  -- Registration Update Trigger
    ∷ []

abbrev pub access_control : List ResourceDef
access_control =
    row 0 R single mandatory Whole  -- Object ID
    ∷ row 1 R single mandatory Whole  -- Object Instance ID
    ∷ row 2 RW multiple optional Whole  -- ACL
    ∷ row 3 RW single mandatory Whole  -- Access Control Owner
    ∷ []

abbrev pub device : List ResourceDef
device =
    row 0 R single optional Text  -- Manufacturer
    ∷ row 1 R single optional Text  -- Model Number
    ∷ row 2 R single optional Text  -- Serial Number
    ∷ row 3 R single optional Text  -- Firmware Version
    ∷ row 4 E single mandatory Text  -- Reboot
    ∷ row 5 E single optional Text  -- Factory Reset
    ∷ row 6 R multiple optional Whole  -- Available Power Sources
    ∷ row 7 R multiple optional Whole  -- Power Source Voltage
    ∷ row 8 R multiple optional Whole  -- Power Source Current
    ∷ row 9 R single optional Whole  -- Battery Level
    ∷ row 10 R single optional Whole  -- Memory Free
    ∷ row 11 R multiple mandatory Whole  -- Error Code
    ∷ row 12 E single optional Text  -- Reset Error Code
    ∷ row 13 RW single optional Moment  -- Current Time
    ∷ row 14 RW single optional Text  -- UTC Offset
    ∷ row 15 RW single optional Text  -- Timezone
    ∷ row 16 R single mandatory Text  -- Supported Binding and Modes
    ∷ row 17 R single optional Text  -- Device Type
    ∷ row 18 R single optional Text  -- Hardware Version
    ∷ row 19 R single optional Text  -- Software Version
    ∷ row 20 R single optional Whole  -- Battery Status
    ∷ row 21 R single optional Whole  -- Memory Total
    ∷ row 22 R multiple optional Link  -- ExtDevInfo
    ∷ []

abbrev pub firmware_update : List ResourceDef
firmware_update =
    row 0 W single mandatory Opaque  -- Package
    ∷ row 1 RW single mandatory Text  -- Package URI
    ∷ row 2 E single mandatory Text  -- Update
    ∷ row 3 R single mandatory Whole  -- State
    ∷ row 5 R single mandatory Whole  -- Update Result
    ∷ row 6 R single optional Text  -- PkgName
    ∷ row 7 R single optional Text  -- PkgVersion
    ∷ row 8 R multiple optional Whole  -- Firmware Update Protocol Support
    ∷ row 9 R single mandatory Whole  -- Firmware Update Delivery Method
    ∷ []

-- no resource of Security is reached
abbrev pub base : List ObjectDef
base =
    record { id = security_object; resources = [] }
    ∷ record { id = server_object; resources = server }
    ∷ record { id = access_control_object; resources = access_control }
    ∷ record { id = device_object; resources = device }
    ∷ record { id = firmware_update_object; resources = firmware_update }
    ∷ []
