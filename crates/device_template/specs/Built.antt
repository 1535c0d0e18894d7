-- Which classes there are: those that accepted additions make, one after another, from the empty one.
use Rattle.std.specs.Prelude.{◌≡◌, ℕ, ◌<◌, None, IfSome}
use Rattle.lwm2m_values.specs.declared.value.Value.{Value}
use Rattle.lwm2m_values.specs.Value.{IsGood}
use Rattle.object_defs.specs.Vendor.{with_object, with_resource}
use Rattle.object_defs.specs.declared.definition.ResourceDef.{ResourceDef}
use Rattle.object_defs.specs.declared.path.FullPath.{FullPath}
use Rattle.object_defs.specs.declared.path.InstancePath.{InstancePath}
use Rattle.instance_store.specs.Stored.{with_instance, with_value}
use Rattle.device_template.specs.Template.{Template, empty_class, with_account, with_catalog, with_notify, with_store}
use Rattle.device_template.specs.Template.{account_fault, object_fault, definition_fault, instance_fault}
use Rattle.device_template.specs.Template.{notify_fault, value_fault_at}

-- each number of the path is one of 16 bits
abbrev pub IsShort : FullPath → Type 0
IsShort p = (p.object < 65536) × (p.instance < 65536) × (p.resource < 65536) × IfSome p.part (λ n. n < 65536)

-- a class that is made of the empty one by additions that it does not refuse
pub data IsBuilt : Template → Type 0 where
  nothing : IsBuilt empty_class
  -- each addition is one that the class before it does not refuse; its numbers are of 16 bits, and its value is a good
  -- one
  account : {class : Template} (server : ℕ) → IsBuilt class → account_fault class server ≡ None
      → IsBuilt (with_account class server)
  object : {class : Template} (id : ℕ) → IsBuilt class → object_fault class id ≡ None
      → IsBuilt (with_catalog class (with_object class.catalog id))
  resource : {class : Template} (object : ℕ) (definition : ResourceDef) → definition.id < 65536 → IsBuilt class
      → definition_fault class object definition ≡ None
      → IsBuilt (with_catalog class (with_resource class.catalog object definition))
  instance : {class : Template} (place : InstancePath) → place.object < 65536 → IsBuilt class
      → instance_fault class place ≡ None
      → IsBuilt (with_store class (with_instance class.store place))
  value : {class : Template} (p : FullPath) (value : Value) → IsShort p → IsGood value → IsBuilt class
      → value_fault_at class p value ≡ None
      → IsBuilt (with_store class (with_value class.store p value))
  -- how its devices notify is one of the three ways
  notify : {class : Template} (seconds : ℕ) → IsBuilt class → notify_fault seconds ≡ None
      → IsBuilt (with_notify class seconds)
